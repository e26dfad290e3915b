-- Legal settings with one thing changed stay so.
use mathlib.Core.Path.{◌≡◌}
use mathlib.Core.Bool.{Bool, true, false}
use mathlib.Core.List.{List}
use Prim.Native.Nat.{ℕ, ◌≤◌}
use mir.Val.{bool_byte}
use Rattle.protocol.specs.declared.Settings.{Settings}
use Rattle.protocol.specs.Numbers.{highest_size}
use Rattle.protocol.specs.Records.{fit_mark, marks_of}
use Rattle.protocol.proofs.Laws.Marks.{fit_mark_lem, fit_marks_lem, fit_verified, fit_filled1, fit_filled2, fit_found}
use Rattle.rules.specs.Settings.{with_mark, with_password, with_address, with_tuning, with_found, Legal}

module _ (s q : Settings) (l : Legal s) where
  pub marked_legal : (v : ℕ) → q ≡ with_mark v s → fit_mark v ≡ true → Legal q
  marked_legal v e f =
      rw e record { size = l.size; which = l.which; none = l.none; marks = fit_marks_lem v s.filled1 s.filled2 s.found f (fit_filled1 (marks_of s) l.marks) (fit_filled2 (marks_of s) l.marks) (fit_found (marks_of s) l.marks) }

  pub password_legal : (w : List ℕ) → q ≡ with_password w s → Legal q
  password_legal w e =
      rw e record { size = l.size; which = l.which; none = l.none; marks = fit_marks_lem 0 s.filled1 s.filled2 s.found (fit_mark_lem false) (fit_filled1 (marks_of s) l.marks) (fit_filled2 (marks_of s) l.marks) (fit_found (marks_of s) l.marks) }

  pub address_legal : (a : List ℕ) → q ≡ with_address a s → Legal q
  address_legal a e = rw e record { size = l.size; which = l.which; none = l.none; marks = l.marks }

  pub tuned_legal : (b v z : ℕ) → q ≡ with_tuning b v z s → z ≤ highest_size → Legal q
  tuned_legal b v z e h = rw e record { size = h; which = l.which; none = l.none; marks = l.marks }

  pub found_legal : (v : ℕ) → q ≡ with_found v s → fit_mark v ≡ true → Legal q
  found_legal v e f =
      rw e record { size = l.size; which = l.which; none = l.none; marks = fit_marks_lem s.verified s.filled1 s.filled2 v (fit_verified (marks_of s) l.marks) (fit_filled1 (marks_of s) l.marks) (fit_filled2 (marks_of s) l.marks) f }

-- a truth as a mark
pub truth_fit : (b : Bool) → fit_mark (bool_byte b) ≡ true
truth_fit true = fit_mark_lem true
truth_fit false = fit_mark_lem false
