-- From the code's records and lent memory to the reader and the outcomes of the definitions. Different records give different readers.
use Rattle.std.specs.Prelude.{Bool, false, ◌&&◌, cond, List, [], ℕ, eqb, ltb, Result, Ok, Err}
use Rattle.protocol.specs.declared.Settings.{Settings}
use Rattle.protocol.specs.declared.Answered.{Answered}
use Rattle.protocol.specs.declared.Lengths.{Lengths}
use Rattle.protocol.specs.declared.refusals.Refusal.{Refusal}
use Rattle.protocol.specs.declared.Line.{Line}
use Rattle.protocol.specs.declared.Taken.{Taken}
use Rattle.protocol.specs.Numbers.{no_page}
use Rattle.protocol.specs.Codes.{refusal_number}
use Rattle.protocol.specs.Packet.{Made}
use Rattle.protocol.specs.BringOver.{Brought}
use Rattle.protocol.specs.Reader.{Marks, Transfer, closed, opened, unfit, Plain, Origin, no_origin, from_page, Buffer, Reader, settings, fresh, contents, reader}
use Rattle.protocol.specs.Search.{Chip}
use Rattle.protocol.specs.Table.{is_buffer, second}
use Rattle.protocol.specs.Call.{Lent, Ended}
use Rattle.protocol.specs.Receiver.{line, Handed}
use Rattle.protocol.specs.Receiver as receivers

-- ---- marks: 0 is clear and 1 is set; any other byte is a setting that is not legal

unfoldable pub fit_mark : ℕ → Bool
fit_mark m = ltb m 2

unfoldable pub fit_marks : Marks → Bool
fit_marks m = fit_mark m.verified && fit_mark m.filled1 && fit_mark m.filled2 && fit_mark m.found

abbrev pub is_set : ℕ → Bool
is_set m = eqb m 1

abbrev pub mark_of : Bool → ℕ
mark_of on = cond on 1 0

abbrev pub marks_of : Settings → Marks
marks_of s = record { verified = s.verified; filled1 = s.filled1; filled2 = s.filled2; found = s.found }

-- the transfer of a record's two numbers: buffer 1 or 2 and the bytes got so far, or none, which is 0 and 0; other numbers, and any beside a mark that is not
-- fit, are kept as they lie, and refusal 3 finds them
unfoldable pub transfer_of : Marks → ℕ → ℕ → Transfer
transfer_of m b k = cond (fit_marks m && is_buffer b) (opened (second b) k) (cond (fit_marks m && eqb b 0 && eqb k 0) closed (unfit b k m))

-- ---- a reader

abbrev pub plain_of : Settings → Plain
plain_of s =
    settings s.password s.address s.level s.size s.baud s.sensor (is_set s.verified) (transfer_of (marks_of s) s.transfer s.got)

-- the origin of a settings' number: FFFFh is none
unfoldable pub origin_of : ℕ → Origin
origin_of n = cond (eqb n no_page) no_origin (from_page n)

-- bytes, filled mark, and the origin's number
abbrev pub buffer : List ℕ → Bool → ℕ → Buffer
buffer b f o = record { bytes = b; filled = f; origin = origin_of o }

-- settings, templates, index, notepad, both buffers
abbrev pub reader_of : Settings → List ℕ → List ℕ → List ℕ → List ℕ → List ℕ → Reader
reader_of s t i n b c =
    reader (plain_of s) (contents t i n (buffer b (is_set s.filled1) s.origin1) (buffer c (is_set s.filled2) s.origin2) (is_set s.found))

-- a line: its settings and its receiver, and the lent memory
abbrev pub line_of : Line → List ℕ → List ℕ → List ℕ → List ℕ → List ℕ → receivers.Line
line_of x t i n b c = line (reader_of x.settings t i n b c) x.receiver

-- what is lent anew at a call: scores and thresholds; and the reply room
abbrev pub chip_of : List ℕ → List ℕ → Chip
chip_of scores thresholds = record { scores = scores; thresholds = thresholds }

abbrev pub lent_of : List ℕ → List ℕ → List ℕ → Lent
lent_of scores thresholds room = record { chip = chip_of scores thresholds; room = room }

-- a call: the settings after it, the refusal or 0, the bytes used, and the reply's length
pub record Called : Type 0 where
  pub settings : Settings
  pub refusal : ℕ
  pub used : ℕ
  pub length : ℕ

-- and the lent memory and the reply room after it
abbrev pub ended_of : Called → List ℕ → List ℕ → List ℕ → List ℕ → List ℕ → List ℕ → Ended
ended_of c t i n b d room =
    record {
      told = record { refusal = c.refusal; used = c.used; length = c.length; room = room };
      after = reader_of c.settings t i n b d;
    }

-- a line switch: the settings after it, and the refusal or 0
pub record Switched : Type 0 where
  pub settings : Settings
  pub refusal : ℕ

-- and the lent memory after it; no reply room is lent
abbrev pub switched_of : Switched → List ℕ → List ℕ → List ℕ → List ℕ → List ℕ → Ended
switched_of s t i n b d =
    record { told = record { refusal = s.refusal; used = 0; length = 0; room = [] }; after = reader_of s.settings t i n b d }

-- a receiver's call: the line after it, the refusal or 0, the bytes taken of the piece, and the reply's length
pub record Received : Type 0 where
  pub line : Line
  pub refusal : ℕ
  pub taken : ℕ
  pub length : ℕ

-- and the lent memory and the reply room after it
abbrev pub received_of : Received → List ℕ → List ℕ → List ℕ → List ℕ → List ℕ → List ℕ → Handed
received_of c t i n b d room =
    record {
      told = record { refusal = c.refusal; used = c.taken; length = c.length; room = room };
      after = line_of c.line t i n b d;
    }

-- a receiver's line switch: the line after it, and the refusal or 0
pub record Emptied : Type 0 where
  pub line : Line
  pub refusal : ℕ

-- and the lent memory after it
abbrev pub emptied_of : Emptied → List ℕ → List ℕ → List ℕ → List ℕ → List ℕ → Handed
emptied_of s t i n b d =
    record {
      told = record { refusal = s.refusal; used = 0; length = 0; room = [] };
      after = line_of s.line t i n b d;
    }

-- ---- lent records: what lies where it was lent, and what was returned beside it, or handed to a caller in C

abbrev pub answered_of : Result Lengths Refusal → Answered
answered_of (Ok n) = record { refusal = 0; used = n.used; length = n.reply }
answered_of (Err e) = record { refusal = refusal_number e; used = 0; length = 0 }

-- a record that went in by value, and comes back with the lengths unless the call is refused: what it is then, and the rest
abbrev pub after_of : {T : Type 0} → T → Result (T × Lengths) Refusal → T
after_of x (Ok p) = p.0
after_of x (Err e) = x

-- the same of a call that gives nothing beside it
abbrev pub left_of : {T : Type 0} → T → Result T Refusal → T
left_of x (Ok y) = y
left_of x (Err e) = x

abbrev pub lengths_of : {T : Type 0} → Result (T × Lengths) Refusal → Result Lengths Refusal
lengths_of (Ok p) = Ok p.1
lengths_of (Err e) = Err e

abbrev pub taken_of : Result Lengths Refusal → Taken
taken_of (Ok n) = record { refusal = 0; taken = n.used; length = n.reply }
taken_of (Err e) = record { refusal = refusal_number e; taken = 0; length = 0 }

abbrev pub called_at : Settings → Answered → Called
called_at s a = record { settings = s; refusal = a.refusal; used = a.used; length = a.length }

abbrev pub switched_at : Settings → ℕ → Switched
switched_at s refusal = record { settings = s; refusal = refusal }

abbrev pub received_at : Line → Taken → Received
received_at x a = record { line = x; refusal = a.refusal; taken = a.taken; length = a.length }

abbrev pub emptied_at : Line → ℕ → Emptied
emptied_at x refusal = record { line = x; refusal = refusal }

-- ---- fresh settings, the builder, bringing over

-- fresh settings have their filled marks and status bit 1 clear too, and no origins
abbrev pub fresh_of : List ℕ → List ℕ → List ℕ → List ℕ → List ℕ → Reader
fresh_of t i n b d = reader fresh (contents t i n (buffer b false no_page) (buffer d false no_page) false)

-- what the builder returns: the refusal or 0, and the packet's length
pub record Built : Type 0 where
  pub refusal : ℕ
  pub length : ℕ

abbrev pub built_of : Result ℕ Refusal → Built
built_of (Ok n) = record { refusal = 0; length = n }
built_of (Err e) = record { refusal = refusal_number e; length = 0 }

abbrev pub made_of : Built → List ℕ → Made
made_of b room = record { refusal = b.refusal; length = b.length; room = room }

-- bringing over: the refusal or 0 that it returned, and the lent index after it
abbrev pub brought_of : ℕ → List ℕ → Brought
brought_of refusal index = record { refusal = refusal; index = index }
