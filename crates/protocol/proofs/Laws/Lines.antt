-- Lines: document 01's tables of tests, "unless this holds: that number", and what follows from a table read from top to bottom.
use mathlib.Core.Bool.{true, false}
use mathlib.Core.Path.{◌≡◌, subst}
use mathlib.Core.Logic.{◌↔◌}
use mathlib.Core.List.{List, [], ◌∷◌}
use Prim.Native.Nat.{ℕ}
use lib.Dec.{T}
use Rattle.protocol.specs.Tests.{Test, verdict}

-- unless P holds, the number c
pub data Line : Type 1 where
  unless : Type 0 → ℕ → Line

-- S c at the first line that does not hold, with its number c; S 0 where all hold
abbrev pub Follows : List Line → (ℕ → Type 0) → Type 0
Follows [] S = S 0
Follows (unless P c ∷ ls) S = (P → Follows ls S) × ((P → ⊥) → S c)

-- the tests are these lines: each says its line's condition, where the lines before it hold, and has its number
abbrev pub Matches : List Test → List Line → Type 0
Matches [] [] = Unit {0}
Matches [] (l ∷ ls) = ⊥
Matches (t ∷ ts) [] = ⊥
Matches (t ∷ ts) (unless P c ∷ ls) = (T t.0 ↔ P) × ((t.1 ≡ c) × (P → Matches ts ls))

-- what holds of the tests' verdict follows from the lines
pub follows : (ts : List Test) (ls : List Line) (S : ℕ → Type 0) → Matches ts ls → S (verdict ts) → Follows ls S
unfolding verdict
follows [] [] S m s = s
follows [] (l ∷ ls) S m s = absurd m
follows (t ∷ ts) [] S m s = absurd m
follows ((true, n) ∷ ts) (unless P c ∷ ls) S m s = (λ p. follows ts ls S (m.1.1 p) s, λ f. absurd (f (m.0.0 tt)))
follows ((false, n) ∷ ts) (unless P c ∷ ls) S m s = (λ p. absurd (m.0.1 p), λ f. subst S m.1.0 s)
