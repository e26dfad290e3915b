-- A packet: EF 01, address (4), identifier (1), length (2), content, sum (2); its limits, its parts, and the builder.
use Rattle.std.specs.Prelude.{Bool, ◌&&◌, ◌||◌, cond, List, [], ◌∷◌, ◌++◌, ℕ, zero, suc, ◌+◌, ◌-◌, ◌%◌, eqb, leb, length}
use Rattle.protocol.specs.Numbers.{first_mark, second_mark, head_bytes, frame_bytes, command_packet, data_packet, acknowledge_packet, last_packet, shortest, longest, longest_other, four_bytes, bad_room, bad_content}
use Rattle.protocol.specs.Bytes.{two, byte_at, word_at, part, total, lay}
use Rattle.protocol.specs.Tests.{verdict}

-- Length counts content and sum.
abbrev pub length_of : List ℕ → ℕ
length_of content = length content + 2

-- The sum is identifier, both length bytes and every content byte added, modulo 65536.
unfoldable pub sum_of : ℕ → List ℕ → ℕ
sum_of identifier content = (identifier + total (two (length_of content)) + total content) % 65536

unfoldable pub packet : List ℕ → ℕ → List ℕ → List ℕ
packet address identifier content =
    first_mark ∷ (second_mark ∷ (address ++ (identifier ∷ (two (length_of content) ++ (content ++ two (sum_of identifier content))))))

-- ---- limits

unfoldable pub is_identifier : ℕ → Bool
is_identifier i = eqb i command_packet || eqb i data_packet || eqb i acknowledge_packet || eqb i last_packet

-- a data packet, the last one too
abbrev pub is_data : ℕ → Bool
is_data i = eqb i data_packet || eqb i last_packet

-- the largest length field of an identifier's packets: 258 for identifiers 2 and 8; 1 and 7 keep 256 (request [3])
unfoldable pub limit : ℕ → ℕ
limit i = cond (is_data i) longest longest_other

-- an identifier and a length field that a packet can have
unfoldable pub accepts : ℕ → ℕ → Bool
accepts i n = is_identifier i && leb shortest n && leb n (limit i)

-- ---- the parts of a packet that starts at p in the run s; n is its length field

abbrev pub address_at : List ℕ → ℕ → List ℕ
address_at s p = part (p + 2) four_bytes s

abbrev pub identifier_at : List ℕ → ℕ → ℕ
identifier_at s p = byte_at s (p + 6)

abbrev pub length_at : List ℕ → ℕ → ℕ
length_at s p = word_at s (p + 7)

abbrev pub content_at : List ℕ → ℕ → ℕ → List ℕ
content_at s p n = part (p + head_bytes) (n - 2) s

-- the place behind the packet
abbrev pub end_at : ℕ → ℕ → ℕ
end_at p n = p + head_bytes + n

-- its last two bytes are its sum
abbrev pub right_at : List ℕ → ℕ → ℕ → Bool
right_at s p n = eqb (word_at s (p + 7 + n)) (sum_of (identifier_at s p) (content_at s p n))

-- ---- the builder

-- what the builder returns and leaves: the refusal or 0, the packet's length, and the room
pub record Made : Type 0 where
  pub refusal : ℕ
  pub length : ℕ
  pub room : List ℕ

-- refusal 4: identifier not 1, 2, 7, 8, or content not 1 to 256 bytes for 2 and 8, 1 to 254 for 1 and 7; then 2: room below content + 11
unfoldable pub build_refusal : ℕ → List ℕ → List ℕ → ℕ
build_refusal i c room = verdict ((accepts i (length_of c), bad_content) ∷ (leb (length c + frame_bytes) (length room), bad_room) ∷ [])

unfoldable pub build_as : List ℕ → List ℕ → ℕ → Made
build_as p room zero = record { refusal = 0; length = length p; room = lay 0 p room }
build_as p room (suc k) = record { refusal = suc k; length = 0; room = room }

unfoldable pub build_of : List ℕ → ℕ → List ℕ → List ℕ → Made
build_of address i c room = build_as (packet address i c) room (build_refusal i c room)
