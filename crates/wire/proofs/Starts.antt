-- Where the finder's start is, by the marks that the code has tested.
use Rattle.std.proofs.Common.{◌≡◌, ℕ, ◌+◌, ◌<◌, Bool, true, false, ◌&&◌, eqb, List, length, sym, ◌∙◌, subst, Option, None, Some, refl, add-one, arith}
use Rattle.protocol.specs.Numbers.{first_mark, second_mark}
use Rattle.protocol.specs.Bytes.{byte_at}
use Rattle.protocol.specs.Finder.{marks_at, start_of}
use Rattle.protocol.proofs.Laws.Finder.{FirstStart, start_first, start_nowhere, start_at, marks_in}

-- the two marks at i, as the code has them
abbrev pub marks : List ℕ → ℕ → Bool
marks s i = eqb (byte_at s i) first_mark && eqb (byte_at s (i + 1)) second_mark

-- a start lies within the run
pub start_in : (s : List ℕ) (f : Option ℕ) (p : ℕ) → f ≡ start_of s → f ≡ Some p → p + 1 < length s
start_in s f p g e = let h = marks_in s p (subst (FirstStart s) (sym g ∙ e) (start_first s)).0 in omega arith

marked : (s : List ℕ) (i : ℕ) → marks_at s i ≡ marks s i
unfolding marks_at
marked s i = rw add-one

-- no place has the marks, or r is the first that has them
pub start_by : (s : List ℕ) (r : Option ℕ) → ((k : ℕ) → r ≡ None → k + 1 < length s → marks s k ≡ false) → ((i : ℕ) → r ≡ Some i → marks s i ≡ true)
    → ((i k : ℕ) → r ≡ Some i → k < i → marks s k ≡ false) → r ≡ start_of s
start_by s None n h b = sym (start_nowhere s (λ q. unmarked q (marks_at s q) refl))
  where
    unmarked : (q : ℕ) (t : Bool) → marks_at s q ≡ t → t ≡ false
    unmarked q false e = refl
    unmarked q true e = let l = marks_in s q e in sym e ∙ marked s q ∙ n q refl (omega arith)
start_by s (Some i) n h b = sym (start_at s i (marked s i ∙ h i refl) (λ q l. marked s q ∙ b i q refl l))
