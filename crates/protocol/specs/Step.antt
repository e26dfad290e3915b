-- A call on a legal reader: steps 5 to 7 of document 01, and the line switch.
use Rattle.std.specs.Prelude.{Bool, true, false, ◌&&◌, cond, List, [], ℕ, zero, suc, ◌+◌, eqb, ltb, length}
use Rattle.protocol.specs.declared.Found.{Found}
use Rattle.protocol.specs.declared.Found.TheVariants.{Noise, Unfinished, Unfit, Whole}
use Rattle.protocol.specs.Numbers.{page_bytes, command_packet, acknowledge_packet, last_packet, bad_packet, transfer_failed, unknown_command, password_first}
use Rattle.protocol.specs.Bytes.{same, lay, follow}
use Rattle.protocol.specs.Tests.{verdict}
use Rattle.protocol.specs.Packet.{address_at, identifier_at, content_at, right_at}
use Rattle.protocol.specs.Finder.{find_of, used_of}
use Rattle.protocol.specs.Reader.{Transfer, closed, opened, unfit, Plain, Buffer, Guarded, Reader, size_of, locked, buffer_of, emptied, with_mark, with_transfer, with_buffer, contents, reader}
use Rattle.protocol.specs.Commands.{Command, free, barred, Order, damaged, unknown, misfit, command, order_of, search_for}
use Rattle.protocol.specs.Data.{acknowledge}
use Rattle.protocol.specs.Search.{Chip}
use Rattle.protocol.specs.Table.{Row, rule, apply, FreeRow, free_rule, public_of}

-- ---- hearing: what a run says to the reader of an address

pub data Heard : Type 0 where
  -- no whole packet, another's address, or identifier 7
  nothing : Heard
  -- identifier 1
  order : Order → Heard
  -- identifier 2 or 8 (the last?), is its sum right?, and its content
  piece : Bool → Bool → List ℕ → Heard

unfoldable pub hear_as : ℕ → Bool → List ℕ → Heard
hear_as identifier right content =
    cond (eqb identifier command_packet) (order (order_of right content))
    (cond (eqb identifier acknowledge_packet) nothing (piece (eqb identifier last_packet) right content))

unfoldable pub hear_at : List ℕ → List ℕ → Found → Heard
hear_at address s (Noise n) = nothing
hear_at address s (Unfinished p) = nothing
hear_at address s (Unfit p) = nothing
hear_at address s (Whole p n) = cond (same (address_at s p) address) (hear_as (identifier_at s p) (right_at s p n) (content_at s p n)) nothing

unfoldable pub hear : List ℕ → List ℕ → Heard
hear address s = hear_at address s (find_of s)

-- it is a Search: a buffer, a start and a count
pub data IsSearch : Heard → Type 0 where
  a_search : (b start count : ℕ) → IsSearch (order (command (barred (search_for b start count))))

-- ---- answering

-- the reply (none is silence), and the reader after it
pub record Said : Type 0 where
  pub reply : List ℕ
  pub after : Reader

unfoldable pub silence : Reader → Said
silence r = record { reply = []; after = r }

-- a code alone; nothing changes
unfoldable pub says : Reader → ℕ → Said
says r code = record { reply = acknowledge r.plain.address code []; after = r }

-- a row whose tests gave a code: 00h is carried out, with the row's own code and the address that the reader then has; any other changes nothing
unfoldable pub carry_as : Reader → Row → ℕ → Said
carry_as r w zero =
    let t = apply w.effect r in
    record { reply = follow (acknowledge t.plain.address w.code w.bytes) w.behind; after = t }
carry_as r w (suc k) = says r (suc k)

unfoldable pub carry : Reader → Row → Said
carry r w = carry_as r w (verdict w.tests)

-- a row that the lock lets pass
unfoldable pub carry_free : Reader → FreeRow → Said
carry_free r w = record { reply = acknowledge w.plain.address w.code w.bytes; after = reader w.plain r.guarded }

unfoldable pub obey : Chip → Reader → Command → Said
obey χ r (free c) = carry_free r (free_rule (public_of r) c)
obey χ r (barred c) = cond (locked r.plain) (says r password_first) (carry r (rule χ r c))

-- sum wrong 01h; unknown code 19h; wrong length 01h; then the lock and the row
unfoldable pub heed : Chip → Reader → Order → Said
heed χ r damaged = says r bad_packet
heed χ r unknown = says r unknown_command
heed χ r misfit = says r bad_packet
heed χ r (command c) = obey χ r c

-- an open transfer ended: its buffer is zeroed
unfoldable pub ended : Reader → Transfer → Reader
ended r closed = r
ended r (opened w k) = reader (with_transfer closed r.plain) (with_buffer w emptied r.guarded)
ended r (unfit b k m) = r

unfoldable pub rested : Reader → Reader
rested r = ended r r.plain.transfer

-- the sum right and the content exactly one size long; the total got stays below 512 or, with the last, becomes 512
unfoldable pub fits : Plain → ℕ → Bool → Bool → List ℕ → Bool
fits p got last right content =
    let z = size_of p.size in
    right && eqb (length content) z && cond last (eqb (got + z) page_bytes) (ltb (got + z) page_bytes)

-- a buffer with these bytes at a place, and this mark
abbrev pub laid_in : ℕ → List ℕ → Bool → Buffer → Buffer
laid_in at content mark b = record { bytes = lay at content b.bytes; filled = mark; origin = b.origin }

-- the bytes go in at the place reached; the last sets the filled mark and closes; what does not fit is 0Eh
unfoldable pub take_as : Reader → Bool → ℕ → List ℕ → Bool → Bool → Said
take_as r w got content false last = says (ended r (opened w got)) transfer_failed
take_as r w got content true false =
    let b = buffer_of w r.guarded in
    silence (reader (with_transfer (opened w (got + size_of r.plain.size)) r.plain) (with_buffer w (laid_in got content b.filled b) r.guarded))
take_as r w got content true true =
    silence (reader (with_transfer closed r.plain) (with_buffer w (laid_in got content true (buffer_of w r.guarded)) r.guarded))

unfoldable pub take_in : Reader → Bool → Bool → List ℕ → Transfer → Said
take_in r last right content closed = silence r
take_in r last right content (opened w got) = take_as r w got content (fits r.plain got last right content) last
take_in r last right content (unfit b k m) = silence r

-- 5. nothing for us: silent, nothing changes; 6. identifier 1 ends an open transfer, then the order; 7. identifier 2 or 8
unfoldable pub answer : Chip → Reader → Heard → Said
answer χ r nothing = silence r
answer χ r (order o) = heed χ (rested r) o
answer χ r (piece last right content) = take_in r last right content r.plain.transfer

-- the bytes used, the reply, and the reader after it
pub record Outcome : Type 0 where
  pub used : ℕ
  pub reply : List ℕ
  pub after : Reader

unfoldable pub step_of : Chip → Reader → List ℕ → Outcome
step_of χ r s =
    let a = answer χ r (hear r.plain.address s) in
    record { used = used_of (find_of s); reply = a.reply; after = a.after }

-- ---- the line switch: verified mark, filled marks and status bit 1 cleared, transfer closed, both buffers zeroed, their origins none

unfoldable pub wiped : Guarded → Guarded
wiped g = contents g.templates g.index g.notepad emptied emptied false

unfoldable pub switched : Reader → Reader
switched r = reader (with_transfer closed (with_mark false r.plain)) (wiped r.guarded)
