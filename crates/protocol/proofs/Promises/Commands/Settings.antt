-- The rows of the table that change or tell settings, notepad, index and count, once their tests pass: the reply, and every field of the reader after it.
use mathlib.Core.Bool.{true, false, ◌&&◌}
use mathlib.Core.Path.{◌≡◌, ap, ◌∙◌}
use mathlib.Core.List.{List, [], ◌++◌}
use Prim.Native.Nat.{ℕ, zero, ◌+◌, ◌*◌, ◌/◌, ◌≤◌, ◌<◌}
use native.Mathlib.Omega.{arith}
use lib.Dec.{T, ltb, leb, lt→ltb, le→leb}
use lib.ListN.{length, take, drop}
use lib.Seq.{take_all}
use Rattle.protocol.specs.Numbers.{highest_size}
use Rattle.protocol.specs.Bytes.{two, part, lay, follow}
use Rattle.protocol.specs.Tests.{within}
use Rattle.protocol.specs.Index.{set_bits}
use Rattle.protocol.specs.Reader.{Plain, Guarded, Reader, capacity, locked, with_password, with_address, with_tuning, with_notepad}
use Rattle.protocol.specs.Commands.{Barred, set_sys_para, set_password, set_address, write_notepad, read_notepad, templete_num, read_index_table, barred, command}
use Rattle.protocol.specs.Data.{acknowledge}
use Rattle.protocol.specs.Table.{in_range, with_parameter, rule, apply}
use Rattle.protocol.specs.Step.{order, hear, carry_as, rested}
use Rattle.protocol.specs.Call.{Shape, Lent, fit_lent, legal, call_of}
use Rattle.protocol.proofs.Laws.Logic.{and_i, passed}
use Rattle.protocol.proofs.Laws.Lists.{inside_lay}
use Rattle.protocol.proofs.Laws.Answers.{obeys}
use Rattle.protocol.proofs.Promises.Words.Told.{Gives, answered, word}

-- p and g: settings and contents of the reader once an open transfer has ended
module _ (σ : Shape) (r : Reader) (s : List ℕ) (lent : Lent) (f : T (legal σ r)) (u : T (fit_lent (capacity r.guarded) lent)) (l : locked r.plain ≡ false) where
  abbrev p : Plain
  p = (rested r).plain

  abbrev g : Guarded
  g = (rested r).guarded

  abbrev Asks : Barred → Type 0
  Asks c = hear r.plain.address s ≡ order (command (barred c))

  -- the call gave 00h with these bytes, and left these settings and contents
  abbrev Ends : List ℕ → List ℕ → Plain → Guarded → Type 0
  Ends address bytes q h = Gives (acknowledge address 0x00 bytes) record { plain = q; guarded = h } s lent (call_of σ r s lent)

  given : (c : Barred) → Asks c → T (passed (rule lent.chip (rested r) c).tests)
      → Gives (carry_as (rested r) (rule lent.chip (rested r) c) zero).reply (carry_as (rested r) (rule lent.chip (rested r) c) zero).after s lent (call_of σ r s lent)
  given c h d = answered σ r s lent f u (carry_as (rested r) (rule lent.chip (rested r) c) zero) (obeys lent.chip r s l c h d)

  range : (a v b : ℕ) → a ≤ v → v ≤ b → T (within a v b && true)
  unfolding within
  range a v b m n = and_i (leb a v && leb v b) true (and_i (leb a v) (leb v b) (le→leb a v m) (le→leb v b n)) tt

  noted : (q : ℕ) → q < length g.notepad / 32 → T (ltb q (length g.notepad / 32) && true)
  noted q d = and_i (ltb q (length g.notepad / 32)) true (lt→ltb q (length g.notepad / 32) d) tt

  -- SetSysPara: number 4 is the baud factor, 1 to 12
  pub sets_baud : (v : ℕ) → Asks (set_sys_para 4 v) → 1 ≤ v → v ≤ 12
      → Ends p.address []
      record { password = p.password; address = p.address; level = p.level; size = p.size; baud = v; sensor = p.sensor; verified = p.verified; transfer = p.transfer }
      g
  unfolding carry_as follow rule apply in_range with_parameter with_tuning within
  sets_baud v h m n = given (set_sys_para 4 v) h (range 1 v 12 m n)

  -- 5 the level, 1 to 5
  pub sets_level : (v : ℕ) → Asks (set_sys_para 5 v) → 1 ≤ v → v ≤ 5
      → Ends p.address []
      record { password = p.password; address = p.address; level = v; size = p.size; baud = p.baud; sensor = p.sensor; verified = p.verified; transfer = p.transfer }
      g
  unfolding carry_as follow rule apply in_range with_parameter with_tuning within
  sets_level v h m n = given (set_sys_para 5 v) h (range 1 v 5 m n)

  -- 6 the size code, 0 to 3
  pub sets_size : (v : ℕ) → Asks (set_sys_para 6 v) → v ≤ 3
      → Ends p.address []
      record { password = p.password; address = p.address; level = p.level; size = v; baud = p.baud; sensor = p.sensor; verified = p.verified; transfer = p.transfer }
      g
  unfolding carry_as follow rule apply in_range with_parameter with_tuning within highest_size
  sets_size v h m = given (set_sys_para 6 v) h (and_i (leb v 3) true (le→leb v 3 m) tt)

  -- SetPwd: store, clear the verified mark
  pub sets_password : (w : List ℕ) → Asks (set_password w)
      → Ends p.address []
      record { password = w; address = p.address; level = p.level; size = p.size; baud = p.baud; sensor = p.sensor; verified = false; transfer = p.transfer }
      g
  unfolding carry_as follow rule apply with_password
  sets_password w h = given (set_password w) h tt

  -- SetAdder: store; this reply already carries the new address
  pub sets_address : (a : List ℕ) → Asks (set_address a)
      → Ends a []
      record { password = p.password; address = a; level = p.level; size = p.size; baud = p.baud; sensor = p.sensor; verified = p.verified; transfer = p.transfer }
      g
  unfolding carry_as follow rule apply with_address
  sets_address a h = given (set_address a) h tt

  -- WriteNotepad: the bytes go in at 32 × page; all else stays
  pub writes_note : (q : ℕ) (b : List ℕ) → Asks (write_notepad q b) → q < length g.notepad / 32
      → Ends p.address [] p
      record {
        templates = g.templates;
        index = g.index;
        notepad = take (32 * q) g.notepad ++ (b ++ drop (32 * q + length b) g.notepad);
        buffer1 = g.buffer1;
        buffer2 = g.buffer2;
        found = g.found;
      }
  unfolding carry_as follow rule apply with_notepad lay
  writes_note q b h d = given (write_notepad q b) h (noted q d)

  -- ReadNotepad: the page's 32 bytes
  pub reads_note : (q : ℕ) → Asks (read_notepad q) → q < length g.notepad / 32 → Ends p.address (take 32 (drop (32 * q) g.notepad)) p g
  unfolding carry_as follow rule apply
  reads_note q h d = given (read_notepad q) h (noted q d)

  -- TempleteNum: the number of set bits, two bytes
  pub tells_number : Asks templete_num → Ends p.address (word (set_bits g.index)) p g
  unfolding carry_as follow rule apply two
  tells_number h = given templete_num h tt

  -- ReadIndexTable: 32 index bytes
  pub reads_index : (q : ℕ) → Asks (read_index_table q) → q < length g.index / 32 → Ends p.address (take 32 (drop (32 * q) g.index)) p g
  unfolding carry_as follow rule apply
  reads_index q h d = given (read_index_table q) h (and_i (ltb q (length g.index / 32)) true (lt→ltb q (length g.index / 32) d) tt)

-- what was written to a page of the notepad is what is read from it
pub note_kept : (n b : List ℕ) (q : ℕ) → length b ≡ 32 → q < length n / 32 → take 32 (drop (32 * q) (take (32 * q) n ++ (b ++ drop (32 * q + length b) n))) ≡ b
unfolding lay
note_kept n b q e h =
    let at : 32 * q ≡ 32 * q + 0 = omega arith in
    ap (λ (i : ℕ). part i 32 (lay (32 * q) b n)) at ∙ inside_lay (32 * q) b n (omega arith) 0 32 (omega arith) ∙ take_all 32 b (omega arith)
