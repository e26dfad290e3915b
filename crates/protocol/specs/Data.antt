-- Replies: the acknowledge, and a buffer's bytes in data packets of one size.
use Rattle.std.specs.Prelude.{cond, List, [], ◌∷◌, ℕ, zero, suc, ◌/◌, eqb, take, drop}
use Rattle.protocol.specs.Numbers.{page_bytes, acknowledge_packet, data_packet, last_packet}
use Rattle.protocol.specs.Bytes.{joined}
use Rattle.protocol.specs.Packet.{packet}

-- identifier 7, our address, the code, then the listed bytes
unfoldable pub acknowledge : List ℕ → ℕ → List ℕ → List ℕ
acknowledge address code bytes = packet address acknowledge_packet (code ∷ bytes)

-- k packets of n bytes each, the last with identifier 8, the others 2
unfoldable pub packets : List ℕ → ℕ → ℕ → List ℕ → List (List ℕ)
packets address zero n s = []
packets address (suc k) n s = packet address (cond (eqb k 0) last_packet data_packet) (take n s) ∷ packets address k n (drop n s)

-- 512 bytes in data packets of one size
unfoldable pub data_packets : List ℕ → ℕ → List ℕ → List ℕ
data_packets address size s = joined (packets address (page_bytes / size) size s)
