-- The best of some pages: the highest score, and of equal ones the lowest page.
use mathlib.Core.Bool.{Bool, true, false, true≢false, ◌&&◌, cond}
use mathlib.Core.Path.{◌≡◌, refl, sym, ap₂, ◌∙◌, subst}
use Prim.Native.Nat.{ℕ, zero, suc, ◌+◌, ◌-◌, ◌≤◌, ◌<◌}
use native.Mathlib.Omega.{arith}
use native.Mathlib.Decide.{ℕ_discrete}
use lib.Dec.{ltb, leb}
use borrow.Author.Tests.{ltb-true, ltb-false, leb-true, leb-false}
use Rattle.protocol.specs.Search.{Match, hit, beats, best_of, pages_from}

module _ (f : ℕ → Bool) (s : ℕ → ℕ) (p : ℕ) where
  -- of the n pages from p on, q is the first chosen one with the highest score, k
  pub record Top (n q k : ℕ) : Type 0 where
    pub from : p ≤ q
    pub before : q < p + n
    pub is : f q ≡ true
    pub score : k ≡ s q
    pub most : (j : ℕ) → p ≤ j → j < p + n → f j ≡ true → s j ≤ k
    pub first : (j : ℕ) → p ≤ j → j < p + n → f j ≡ true → s j ≡ k → q ≤ j

  -- none of them is chosen; page 0, score 0
  pub record Nobody (n q k : ℕ) : Type 0 where
    pub none : (j : ℕ) → p ≤ j → j < p + n → f j ≡ false
    pub page : q ≡ 0
    pub score : k ≡ 0

  -- by what was found
  abbrev pub Best : ℕ → Bool → ℕ → ℕ → Type 0
  Best n true q k = Top n q k
  Best n false q k = Nobody n q k

  abbrev BestMatch : ℕ → Match → Type 0
  BestMatch n m = Best n m.found m.page m.score

  -- a fact of the pages before the last and of the last is one of all
  up_to : (P : ℕ → Type 0) (n : ℕ) → ((j : ℕ) → p ≤ j → j < p + n → P j) → P (p + n) → (j : ℕ) → p ≤ j → j < p + suc n → P j
  up_to P n h k j l m = go (ℕ_discrete (p + n) j)
    where
      go : Dec (p + n ≡ j) → P j
      go (yes e) = subst P e k
      go (no d) = h j l (omega arith)

  pub best_of_lem : (n : ℕ) → Best n (best_of f s p n).found (best_of f s p n).page (best_of f s p n).score
  unfolding best_of beats
  best_of_lem zero = record { none = λ j l h. absurd (omega arith); page = refl; score = refl }
  best_of_lem (suc n) = go (f (p + n)) refl (best_of f s p n).found (best_of f s p n).page (best_of f s p n).score (best_of_lem n)
    where
      last : ℕ
      last = s (p + n)

      so_far : Bool → ℕ → ℕ → Match
      so_far c q k = record { found = c; page = q; score = k }

      not_both : {A : Type 0} (j : ℕ) → f j ≡ true → f j ≡ false → A
      not_both j a b = absurd (true≢false (sym a ∙ b))

      -- the last one is chosen: it is better, or not
      higher : (q k : ℕ) → f (p + n) ≡ true → Top n q k → (b : Bool) → ltb k last ≡ b → BestMatch (suc n) (cond b (hit (p + n) last) (so_far true q k))
      higher q k e h true l =
          let m : k < last = ltb-true k last l in
          record {
            from = omega arith;
            before = omega arith;
            is = e;
            score = refl;
            most = up_to (λ j. f j ≡ true → s j ≤ last) n (λ j a b c. omega (arith, h.most j a b c)) (λ c. omega arith);
            first = up_to (λ j. f j ≡ true → s j ≡ last → p + n ≤ j) n (λ j a b c d. absurd (omega (arith, h.most j a b c))) (λ c d. omega arith);
          }
      higher q k e h false l =
          let m : last ≤ k = ltb-false k last l in
          record {
            from = h.from;
            before = omega (arith, h.before);
            is = h.is;
            score = h.score;
            most = up_to (λ j. f j ≡ true → s j ≤ k) n h.most (λ c. m);
            first = up_to (λ j. f j ≡ true → s j ≡ k → q ≤ j) n h.first (λ c d. omega (arith, h.before));
          }

      go : (b : Bool) → f (p + n) ≡ b → (c : Bool) (q k : ℕ) → Best n c q k → BestMatch (suc n) (cond (b && beats last (so_far c q k)) (hit (p + n) last) (so_far c q k))
      go false e false q k h = record { none = up_to (λ j. f j ≡ false) n h.none e; page = h.page; score = h.score }
      go false e true q k h =
          record {
            from = h.from;
            before = omega (arith, h.before);
            is = h.is;
            score = h.score;
            most = up_to (λ j. f j ≡ true → s j ≤ k) n h.most (λ c. not_both (p + n) c e);
            first = up_to (λ j. f j ≡ true → s j ≡ k → q ≤ j) n h.first (λ c d. not_both (p + n) c e);
          }
      go true e false q k h =
          record {
            from = omega arith;
            before = omega arith;
            is = e;
            score = refl;
            most = up_to (λ j. f j ≡ true → s j ≤ last) n (λ j a b c. not_both j c (h.none j a b)) (λ c. omega arith);
            first = up_to (λ j. f j ≡ true → s j ≡ last → p + n ≤ j) n (λ j a b c d. not_both j c (h.none j a b)) (λ c d. omega arith);
          }
      go true e true q k h = higher q k e h (ltb k last) refl

-- pages chosen alike have the same best
pub best_ext : (f g : ℕ → Bool) (s : ℕ → ℕ) (p n : ℕ) → ((q : ℕ) → f q ≡ g q) → best_of f s p n ≡ best_of g s p n
unfolding best_of
best_ext f g s p zero h = refl
best_ext f g s p (suc n) h =
    ap₂ (λ (b : Bool) (m : Match). cond (b && beats (s (p + n)) m) (hit (p + n) (s (p + n))) m) (h (p + n)) (best_ext f g s p n h)

-- from p to before p + n, cut at c
pub cut_in : (c p n q : ℕ) → p < c → q < p + n → q < c → q < p + pages_from c p n
unfolding pages_from
cut_in c p n q l h k = go (leb (p + n) c)
  where
    go : (b : Bool) → q < p + cond b n (c - p)
    go true = h
    go false = omega arith

pub cut_at : (c p n q : ℕ) → p < c → q < p + pages_from c p n → (q < p + n) × (q < c)
unfolding pages_from
cut_at c p n q l = go (leb (p + n) c) refl
  where
    go : (b : Bool) → leb (p + n) c ≡ b → q < p + cond b n (c - p) → (q < p + n) × (q < c)
    go true e h = let m : p + n ≤ c = leb-true (p + n) c e in (h, omega arith)
    go false e h = let m : c < p + n = leb-false (p + n) c e in (omega arith, omega arith)
