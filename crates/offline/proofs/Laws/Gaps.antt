-- Closing the gaps: where each page goes, and what stands there after it. Every law is over any templates and any index.
use mathlib.Core.Bool.{Bool, true, false, ◌||◌, cond}
use mathlib.Core.Path.{◌≡◌, refl, sym, ap, ap₂, ◌∙◌}
use mathlib.Core.Logic.{◌⊎◌, inl, inr}
use mathlib.Core.List.{List, [], ◌++◌, append-nil}
use Prim.Native.Nat.{ℕ, zero, suc, ◌+◌, ◌-◌, ◌*◌, ◌≤◌, ◌<◌}
use native.Mathlib.Nat.{not-suc-le-zero, eq-or-lt_of_le, le_of_suc-le-suc}
use native.Mathlib.Omega.{arith}
use native.Mathlib.Decide.{ℕ_discrete, dec_le, dec_lt}
use lib.Dec.{T, eqb, ltb}
use borrow.Author.Tests.{lt-ltb, le-ltb, ne_eqb}
use lib.ListN.{length, take, drop, length-append, length-drop, length-replicate}
use lib.Seq.{take_at, drop_at, take_all, length-take-le, take-add, drop-append-add}
use Rattle.protocol.specs.Bytes.{part, zeros}
use Rattle.protocol.specs.Tests.{count_below}
use Rattle.protocol.specs.Index.{stored, set_bits, clear_from}
use Rattle.offline.specs.CloseGaps.{rank, gathered, closed_templates, first_bits, closed_index}
use Rattle.protocol.proofs.Laws.Logic.{eqb_same}
use Rattle.protocol.proofs.Laws.Lists.{part_left, part_zeros}
use Rattle.protocol.proofs.Laws.Index.{Fine, stored_with, stored_zeros, fine_with, fine_zeros, clear_to_lem}
use Rattle.protocol.proofs.Laws.Count.{count_le, count_all, count_first, below_capacity}

-- ---- counting

pub rank_le : (x : List ℕ) (p : ℕ) → rank x p ≤ p
unfolding rank
rank_le x p = count_le (stored x) p

pub rank_more : (x : List ℕ) (p : ℕ) → rank x (suc p) ≡ cond (stored x p) 1 0 + rank x p
unfolding rank count_below
rank_more x p = refl

-- order is kept: a stored page is counted by every later one
pub rank_lt : (x : List ℕ) (p n : ℕ) → p < n → stored x p ≡ true → rank x p < rank x n
unfolding rank count_below
rank_lt x p zero h e = absurd (not-suc-le-zero h)
rank_lt x p (suc n) h e = go (eq-or-lt_of_le (le_of_suc-le-suc h)) (λ l. rank_lt x p n l e)
  where
    go : (p ≡ n) ⊎ (p < n) → (p < n → count_below (stored x) p < count_below (stored x) n) → count_below (stored x) p < cond (stored x n) 1 0 + count_below (stored x) n
    go (inl q) ih = rw (← q, e) (omega arith)
    go (inr l) ih = omega (arith, ih l)

-- so two stored pages with one new number are one
pub rank_one : (x : List ℕ) (p q : ℕ) → stored x p ≡ true → stored x q ≡ true → rank x p ≡ rank x q → p ≡ q
rank_one x p q a b e = go (dec_lt p q) (dec_lt q p)
  where
    go : Dec (p < q) → Dec (q < p) → p ≡ q
    go (yes l) m = absurd (omega (arith, rank_lt x p q l a))
    go (no l) (yes m) = absurd (omega (arith, rank_lt x q p m b))
    go (no l) (no m) = omega arith

-- every number below the count is some stored page's
pub record Source (x : List ℕ) (c q : ℕ) : Type 0 where
  pub page : ℕ
  pub below : page < c
  pub there : stored x page ≡ true
  pub new : rank x page ≡ q

pub source : (x : List ℕ) (c q : ℕ) → q < rank x c → Source x c q
unfolding rank count_below
source x zero q h = absurd (not-suc-le-zero h)
source x (suc c) q h = go (stored x c) refl (dec_lt q (rank x c)) (source x c q)
  where
    more : Source x c q → Source x (suc c) q
    more k = record { page = k.page; below = omega (arith, k.below); there = k.there; new = k.new }

    go : (b : Bool) → stored x c ≡ b → Dec (q < rank x c) → (q < rank x c → Source x c q) → Source x (suc c) q
    go b e (yes l) ih = more (ih l)
    go true e (no l) ih =
        let k : rank x (suc c) ≡ 1 + rank x c = rank_more x c ∙ ap (λ (b : Bool). cond b 1 0 + rank x c) e in
        record { page = c; below = omega arith; there = e; new = omega arith }
    go false e (no l) ih =
        let k : rank x (suc c) ≡ 0 + rank x c = rank_more x c ∙ ap (λ (b : Bool). cond b 1 0 + rank x c) e in
        absurd (omega arith)

-- ---- the first k bits

pub fine_first : (m k : ℕ) → Fine m (first_bits m k)
unfolding first_bits
fine_first m zero = fine_zeros m
fine_first m (suc k) = fine_with (first_bits m k) k (fine_first m k)

next_first : (k q : ℕ) → (eqb k q || ltb q k) ≡ ltb q (suc k)
next_first k q = go (ℕ_discrete k q) (dec_lt q k)
  where
    go : Dec (k ≡ q) → Dec (q < k) → (eqb k q || ltb q k) ≡ ltb q (suc k)
    go (yes e) l = rw (← e, eqb_same k, lt-ltb k (suc k) (omega arith)) refl
    go (no d) (yes l) = rw (ne_eqb k q d, lt-ltb q k l, lt-ltb q (suc k) (omega arith)) refl
    go (no d) (no l) = rw (ne_eqb k q d, le-ltb q k (omega arith), le-ltb q (suc k) (omega arith)) refl

pub stored_first : (m k : ℕ) → k ≤ 8 * m → (q : ℕ) → stored (first_bits m k) q ≡ ltb q k
unfolding first_bits
stored_first m zero h q = stored_zeros m q ∙ sym (le-ltb q 0 (omega arith))
stored_first m (suc k) h q =
    stored_with (first_bits m k) (fine_first m k).bytes k (omega (arith, (fine_first m k).long)) q
    ∙ ap (λ (b : Bool). eqb k q || b) (stored_first m k (omega arith) q)
    ∙ next_first k q

pub rank_first : (m k n : ℕ) → k ≤ 8 * m → n ≤ k → rank (first_bits m k) n ≡ n
unfolding rank
rank_first m k n h l = count_all (stored (first_bits m k)) n (λ q a. stored_first m k h q ∙ lt-ltb q k (omega arith))

pub rank_all : (m k n : ℕ) → k ≤ 8 * m → k ≤ n → rank (first_bits m k) n ≡ k
unfolding rank
rank_all m k n h l =
    count_first (stored (first_bits m k)) k n l (λ q a. stored_first m k h q ∙ lt-ltb q k a) (λ q a b. stored_first m k h q ∙ le-ltb q k a)

pub clear_first : (m k c : ℕ) → k ≤ 8 * m → k ≤ c → T (clear_from (first_bits m k) c)
clear_first m k c h l = clear_to_lem (first_bits m k) c (λ q a b. stored_first m k h q ∙ le-ltb q k (omega arith))

-- ---- the pages, one behind the other

module _ (t x : List ℕ) where
  page_long : (n : ℕ) → 512 * suc n ≤ length t → length (part (512 * n) 512 t) ≡ 512
  page_long n h = length-take-le 512 (drop (512 * n) t) (omega (arith, length-drop (512 * n) t))

  pub long_gathered : (n : ℕ) → 512 * n ≤ length t → length (gathered t x n) ≡ 512 * rank x n
  unfolding gathered rank count_below
  long_gathered zero h = refl
  long_gathered (suc n) h = length-append (gathered t x n) (cond (stored x n) (part (512 * n) 512 t) []) ∙ go (stored x n) (rank_more x n) (long_gathered n (omega arith))
    where
      go : (b : Bool) → rank x (suc n) ≡ cond b 1 0 + rank x n → length (gathered t x n) ≡ 512 * rank x n → length (gathered t x n) + length (cond b (part (512 * n) 512 t) []) ≡ 512 * rank x (suc n)
      go true r e = omega (arith, page_long n h)
      go false r e = omega arith

  -- each stored page's bytes stand at its new page
  pub at_gathered : (n p : ℕ) → 512 * n ≤ length t → p < n → stored x p ≡ true → part (512 * rank x p) 512 (gathered t x n) ≡ part (512 * p) 512 t
  unfolding gathered
  at_gathered zero p h l e = absurd (not-suc-le-zero l)
  at_gathered (suc n) p h l e = go (eq-or-lt_of_le (le_of_suc-le-suc l)) (at_gathered n p (omega arith))
    where
      last : List ℕ
      last = cond (stored x n) (part (512 * n) 512 t) []

      go : (p ≡ n) ⊎ (p < n) → (p < n → stored x p ≡ true → part (512 * rank x p) 512 (gathered t x n) ≡ part (512 * p) 512 t) → part (512 * rank x p) 512 (gathered t x n ++ last) ≡ part (512 * p) 512 t
      go (inl q) ih =
          let s : stored x n ≡ true = ap (stored x) (sym q) ∙ e in
          let page : List ℕ = part (512 * n) 512 t in
          ap (λ (i : ℕ). part (512 * rank x i) 512 (gathered t x n ++ last)) q
          ∙ ap (take 512) (drop_at (gathered t x n) last (512 * rank x n) (long_gathered n (omega arith)))
          ∙ ap (λ (b : Bool). take 512 (cond b page [])) s ∙ take_all 512 page (omega (arith, page_long n h)) ∙ ap (λ (i : ℕ). part (512 * i) 512 t) (sym q)
      go (inr m) ih =
          part_left (gathered t x n) last (512 * rank x p) 512 (omega (arith, rank_lt x p n m e, long_gathered n (omega arith))) ∙ ih m e

  -- the first pages gathered are the front
  pub gathered_front : (j n : ℕ) → 512 * n ≤ length t → j ≤ n → ((q : ℕ) → q < j → stored x q ≡ true) → ((q : ℕ) → j ≤ q → q < n → stored x q ≡ false) → gathered t x n ≡ take (512 * j) t
  unfolding gathered
  gathered_front j zero h u a b = let z : j ≡ 0 = omega arith in ap (λ (i : ℕ). take (512 * i) t) (sym z)
  gathered_front j (suc n) h u a b = go (dec_le j n) (gathered_front j n (omega arith)) (gathered_front n n (omega arith) (omega arith))
    where
      go : Dec (j ≤ n) → (j ≤ n → ((q : ℕ) → q < j → stored x q ≡ true) → ((q : ℕ) → j ≤ q → q < n → stored x q ≡ false) → gathered t x n ≡ take (512 * j) t)
          → (((q : ℕ) → q < n → stored x q ≡ true) → ((q : ℕ) → n ≤ q → q < n → stored x q ≡ false) → gathered t x n ≡ take (512 * n) t)
          → gathered t x n ++ cond (stored x n) (part (512 * n) 512 t) [] ≡ take (512 * j) t
      go (yes v) ih ih' =
          ap (λ (w : Bool). gathered t x n ++ cond w (part (512 * n) 512 t) []) (b n v (omega arith)) ∙ append-nil (gathered t x n) ∙ ih v a (λ q d e. b q d (omega arith))
      go (no v) ih ih' =
          let d : 512 * n + 512 ≡ 512 * j = omega arith in
          ap (λ (w : Bool). gathered t x n ++ cond w (part (512 * n) 512 t) []) (a n (omega arith))
          ∙ ap (λ (w : List ℕ). w ++ part (512 * n) 512 t) (ih' (λ q o. a q (omega arith)) (λ q o u. absurd (omega arith)))
          ∙ sym (take-add (512 * n) 512 t) ∙ ap (λ (i : ℕ). take i t) d

-- ---- a library of c pages

module _ (c : ℕ) (t x : List ℕ) (h : length t ≡ 512 * c) where
  pub length_closed : length (closed_templates c t x) ≡ length t
  unfolding closed_templates
  length_closed =
      length-append (gathered t x c) (zeros (512 * (c - rank x c)))
      ∙ omega (arith, long_gathered t x c (omega arith), length-replicate {A = ℕ} (512 * (c - rank x c)) 0, rank_le x c)

  -- "each template's bytes are the same"
  pub page_moved : (p : ℕ) → p < c → stored x p ≡ true → part (512 * rank x p) 512 (closed_templates c t x) ≡ part (512 * p) 512 t
  unfolding closed_templates
  page_moved p q e =
      part_left (gathered t x c) (zeros (512 * (c - rank x c))) (512 * rank x p) 512 (omega (arith, rank_lt x p c q e, long_gathered t x c (omega arith)))
      ∙ at_gathered t x c p (omega arith) q e

  -- "zeroes the rest"
  pub page_rest : (q : ℕ) → rank x c ≤ q → q < c → part (512 * q) 512 (closed_templates c t x) ≡ zeros 512
  unfolding closed_templates
  page_rest q l u =
      let at : 512 * q ≡ length (gathered t x c) + 512 * (q - rank x c) = omega (arith, long_gathered t x c (omega arith)) in
      ap (λ (i : ℕ). part i 512 (gathered t x c ++ zeros (512 * (c - rank x c)))) at
      ∙ ap (take 512) (drop-append-add (gathered t x c) (zeros (512 * (c - rank x c))) (512 * (q - rank x c)))
      ∙ part_zeros (512 * (q - rank x c)) 512 (512 * (c - rank x c)) (omega arith)

  -- where the first k pages alone are stored, nothing moves, and the rest is zeroed
  pub closed_front : (k : ℕ) → k ≤ c → ((q : ℕ) → q < k → stored x q ≡ true) → ((q : ℕ) → k ≤ q → q < c → stored x q ≡ false)
      → closed_templates c t x ≡ take (512 * k) t ++ zeros (512 * (c - k))
  unfolding closed_templates rank
  closed_front k l a b = ap₂ (λ (s : List ℕ) (n : ℕ). s ++ zeros (512 * (c - n))) (gathered_front t x k c (omega arith) l a b) (count_first (stored x) k c l a b)

module _ (m c : ℕ) (t x : List ℕ) (h : length t ≡ 512 * c) (wide : length x ≡ m) (small : c ≤ 8 * m) where
  abbrev k : ℕ
  k = rank x c

  few : k ≤ 8 * m
  few = omega (arith, rank_le x c)

  pub fine_closed : Fine m (closed_index c x)
  fine_closed = rw wide (fine_first m k)

  pub stored_closed : (q : ℕ) → stored (closed_index c x) q ≡ ltb q (rank x c)
  stored_closed q = rw wide (stored_first m k few q)

  pub clear_closed : T (clear_from (closed_index c x) c)
  clear_closed = rw wide (clear_first m k c few (rank_le x c))

  -- the bit of a page's new number is set
  pub new_stored : (p : ℕ) → p < c → stored x p ≡ true → stored (closed_index c x) (rank x p) ≡ true
  new_stored p l e = stored_closed (rank x p) ∙ lt-ltb (rank x p) (rank x c) (rank_lt x p c l e)

  pub rank_again : rank (closed_index c x) c ≡ rank x c
  rank_again = rw wide (rank_all m k c few (rank_le x c))

  -- "The count is the same"
  pub same_count : T (clear_from x c) → set_bits (closed_index c x) ≡ set_bits x
  unfolding rank
  same_count v =
      let f : Fine m (closed_index c x) = fine_closed in
      below_capacity (closed_index c x) c (omega (arith, f.long)) clear_closed ∙ rank_again ∙ sym (below_capacity x c (omega arith) v)

  -- ---- "a second run moves nothing"

  pub index_again : closed_index c (closed_index c x) ≡ closed_index c x
  index_again = ap₂ first_bits (fine_closed.long ∙ sym wide) rank_again

  pub templates_again : closed_templates c (closed_templates c t x) (closed_index c x) ≡ closed_templates c t x
  unfolding closed_templates
  templates_again =
      closed_front c (closed_templates c t x) (closed_index c x) (length_closed c t x h ∙ h) k (rank_le x c) (λ q l. stored_closed q ∙ lt-ltb q k l) (λ q l u. stored_closed q ∙ le-ltb q k l)
      ∙ ap (λ (s : List ℕ). s ++ zeros (512 * (c - k))) (take_at (gathered t x c) (zeros (512 * (c - k))) (512 * k) (long_gathered t x c (omega arith)))

  pub rank_still : (p : ℕ) → p ≤ rank x c → rank (closed_index c x) p ≡ p
  rank_still p l = rw wide (rank_first m k p few l)
