-- Document 02, request [9]: "In demand 2's valid count a moved page goes on as stored under its new number, and its old number no longer stands for it."
use mathlib.Core.Bool.{Bool, true, false, ◌&&◌, not}
use mathlib.Core.Path.{◌≡◌, refl}
use mathlib.Core.List.{List, ◌∷◌}
use Prim.Native.Nat.{ℕ, ◌+◌, ◌≤◌, ◌<◌}
use native.Mathlib.Omega.{arith}
use native.Mathlib.Decide.{ℕ_discrete}
use lib.Dec.{eqb}
use borrow.Author.Tests.{ne_eqb}
use lib.ListN.{length, get_or}
use Rattle.protocol.specs.Tests.{among}
use Rattle.dialogues.specs.History.{Act, cut, moved, live}
use Rattle.protocol.proofs.Laws.Logic.{eqb_same, and_false}
use Rattle.protocol.proofs.Laws.Below.{some_at, some_none}
use Rattle.protocol.proofs.Laws.Index.{in_among, not_among}

module _ (table : List ℕ) (old : List Act) where
  -- page p was stored, and goes to this number
  pub record Goes (p q : ℕ) : Type 0 where
    pub listed : p < length table
    pub was : live old p ≡ true
    pub to : get_or table p 0 ≡ q

  pub record MovedPages : Type 0 where
    pub goes_on : (p q : ℕ) → Goes p q → live (moved table ∷ old) q ≡ true
    pub no_longer : (q : ℕ) → ((p : ℕ) → Goes p q → ⊥) → live (moved table ∷ old) q ≡ false
    -- a later DeletChar with the new number among its pages takes it away, and one without it, whether the old number is among them or not, does not
    pub taken_away : (q m n : ℕ) → m ≤ q → q < m + n → live (cut m n ∷ moved table ∷ old) q ≡ false
    pub stays : (p q m n : ℕ) → Goes p q → (m ≤ q → q < m + n → ⊥) → live (cut m n ∷ moved table ∷ old) q ≡ true
    -- and where no page moved to a number, one of that number takes nothing away
    pub nothing_taken : (n : ℕ) → ((p : ℕ) → Goes p n → ⊥) → (q : ℕ) → live (cut n 1 ∷ moved table ∷ old) q ≡ live (moved table ∷ old) q

  comes_to : (p q : ℕ) → Goes p q → live (moved table ∷ old) q ≡ true
  unfolding live
  comes_to p q g = some_at _ (length table) p g.listed (rw (g.was, g.to, eqb_same q) refl)

  comes_not : (q : ℕ) → ((p : ℕ) → Goes p q → ⊥) → live (moved table ∷ old) q ≡ false
  unfolding live
  comes_not q n = some_none _ (length table) (λ p l. go p l (live old p) refl (ℕ_discrete (get_or table p 0) q))
    where
      go : (p : ℕ) → p < length table → (b : Bool) → live old p ≡ b → Dec (get_or table p 0 ≡ q) → (live old p && eqb (get_or table p 0) q) ≡ false
      go p l true e (yes t) = absurd (n p record { listed = l; was = e; to = t })
      go p l b e (no t) = and_false (live old p) (eqb (get_or table p 0) q) (ne_eqb (get_or table p 0) q t)
      go p l false e (yes t) = rw e refl

  pub moved_pages : MovedPages
  unfolding live
  moved_pages =
      record {
        goes_on = comes_to;
        no_longer = comes_not;
        taken_away = λ q m n a b. rw (in_among m n q a b) refl;
        stays = λ p q m n g d. rw (not_among m n q d, comes_to p q g) refl;
        nothing_taken = λ n none q. go n none q (ℕ_discrete n q);
      }
    where
      go : (n : ℕ) → ((p : ℕ) → Goes p n → ⊥) → (q : ℕ) → Dec (n ≡ q) → (not (among n 1 q) && live (moved table ∷ old) q) ≡ live (moved table ∷ old) q
      go n none q (yes e) = rw (← e, comes_not n none, in_among n 1 n (omega arith) (omega arith)) refl
      go n none q (no d) = rw (not_among n 1 q (λ a b. d (omega arith))) refl
