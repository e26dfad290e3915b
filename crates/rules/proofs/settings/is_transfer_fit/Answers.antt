-- No transfer, a number that names no buffer, or an open transfer: then each test is a factor of the definition, and the lock stands before the filled mark.
use Rattle.std.proofs.Common.{◌≡◌, [], ℕ, ◌%◌, ◌≤◌, true, cond, ◌&&◌, not, eqb, ltb, arith}
use Rattle.std.proofs.lemmas.Bool.Decides.{nat_tests}
use Rattle.std.proofs.lemmas.Grind.{common_steps}
use Rattle.protocol.specs.Numbers.{page_bytes, highest_size}
use Rattle.protocol.specs.Reader.{Marks, Plain, Guarded, locked}
use Rattle.protocol.specs.Call.{fit_transfer}
use Rattle.protocol.specs.Records.{fit_marks, transfer_of, reader_of, plain_of, marks_of}
use Rattle.rules.specs.Settings.{SizeOf}
use Rattle.rules.proofs.Sizes.{size_legal}
use Rattle.rules.proofs.Transfers.{fit_none, fit_far, fit_at}
use Rattle.rules.proofs.settings.is_transfer_fit.Goals as goal

-- at a buffer, with the data bytes z
at_buffer : (p : Plain) (g : Guarded) (m : Marks) (w k z : ℕ) → fit_marks m ≡ true → (w ≡ 0 → ⊥) → w ≤ 2 → SizeOf p.size z → p.size ≤ highest_size
    → fit_transfer p g (transfer_of m w k) ≡ (eqb (k % z) 0 && ltb k page_bytes && not (cond (eqb w 2) g.buffer2.filled g.buffer1.filled) && not (locked p))
at_buffer p g m w k z j n h e l = rw (size_legal p.size z e l) (fit_at p g m j w k n h)

pub returns-in-0 : goal.returns-in-0
returns-in-0 c = grind (arith, nat_tests, common_steps, fit_none)

pub returns-then-not-is_locked : goal.returns-then-not-is_locked
returns-then-not-is_locked c =
    let s = c.args.s in
    rw (at_buffer (plain_of s) (reader_of s [] [] [] [] []).guarded (marks_of s) s.transfer s.got c.size_of.result c.requires.marks (λ z. omega arith) (omega arith) c.size_of.ensures c.requires.size)
    (grind (arith, nat_tests, common_steps))

pub returns-else-not-is_locked : goal.returns-else-not-is_locked
returns-else-not-is_locked c =
    let s = c.args.s in
    rw (at_buffer (plain_of s) (reader_of s [] [] [] [] []).guarded (marks_of s) s.transfer s.got c.size_of.result c.requires.marks (λ z. omega arith) (omega arith) c.size_of.ensures c.requires.size)
    (grind (arith, nat_tests, common_steps))

pub returns-in_default : goal.returns-in_default
returns-in_default c = grind (arith, nat_tests, common_steps, fit_far)
