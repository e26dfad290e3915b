-- Legal settings with a mark changed: the transfer is the same.
use mathlib.Core.Path.{◌≡◌}
use mathlib.Core.Bool.{true}
use Prim.Native.Nat.{ℕ}
use Rattle.protocol.specs.declared.Settings.{Settings}
use Rattle.protocol.specs.Records.{fit_mark, fit_marks, marks_of, transfer_of}
use Rattle.protocol.proofs.Laws.Marks.{fit_marks_lem, fit_verified, fit_filled1, fit_filled2, fit_found, same_beside}
use Rattle.rules.specs.Settings.{with_mark, with_found, Legal}

module _ (s : Settings) (l : Legal s) where
  -- beside the marks of any settings whose marks are fit
  pub beside : (q : Settings) → fit_marks (marks_of q) ≡ true → transfer_of (marks_of q) s.transfer s.got ≡ transfer_of (marks_of s) s.transfer s.got
  beside q e = same_beside (marks_of s) l.marks (marks_of q) e s.transfer s.got l.which l.none

  pub beside_marked : (v : ℕ) → fit_mark v ≡ true → transfer_of (marks_of (with_mark v s)) s.transfer s.got ≡ transfer_of (marks_of s) s.transfer s.got
  beside_marked v a =
      beside (with_mark v s) (fit_marks_lem v s.filled1 s.filled2 s.found a (fit_filled1 (marks_of s) l.marks) (fit_filled2 (marks_of s) l.marks) (fit_found (marks_of s) l.marks))

  pub beside_found : (o : ℕ) → fit_mark o ≡ true → transfer_of (marks_of (with_found o s)) s.transfer s.got ≡ transfer_of (marks_of s) s.transfer s.got
  beside_found o a =
      beside (with_found o s) (fit_marks_lem s.verified s.filled1 s.filled2 o (fit_verified (marks_of s) l.marks) (fit_filled1 (marks_of s) l.marks) (fit_filled2 (marks_of s) l.marks) a)
