-- The best page so far and the least score that is better; and how one page more changes them.
use Rattle.std.proofs.Common.{◌≡◌, ℕ, suc, ◌+◌, ◌-◌, ◌<◌, ◌≤◌, Bool, true, false, cond, ◌&&◌, ltb, leb, List, get_or, sym, refl, ap, ◌∙◌, arith, w16, Fits, ltb-false, ltb-true, le-ltb, lt-ltb, le-leb, leb-false, leb-true}
use mathlib.Core.Bool.{and_assoc}
use borrow.Author.Tests.{lt-leb}
use Rattle.protocol.specs.Index.{stored}
use Rattle.protocol.specs.Search.{Match, score_at, hit, nobody, eligible, beats, best_of}
use Rattle.protocol.proofs.Laws.Logic.{and_false, and_true}

-- a page, with one less than the least score that is better; none where that least is not above the threshold
unfoldable pub held : ℕ → ℕ → ℕ → Match
held threshold least page = cond (ltb threshold least) (hit page (least - 1)) nobody

-- the pages from start to before p are searched
pub record Searched (x s : List ℕ) (t start end least page p : ℕ) : Type 0 where
  pub found : held t least page ≡ best_of (eligible x s t) (score_at s) start (p - start)
  pub raised : t ≤ least
  pub reachable : least ≤ 65536
  pub from : start ≤ p
  pub to : p - start ≤ end - start

-- ---- before the first page

pub none_yet : (x s : List ℕ) (t start end least : ℕ) → least ≡ t → Fits w16 t → Searched x s t start end least 0 start
unfolding best_of held
none_yet x s t start end least e h =
    let k = h.fits in
    let z : start - start ≡ 0 = omega arith in
    rw e record { found = rw (z, le-ltb t t (omega arith)) refl; raised = omega arith; reachable = omega arith; from = omega arith; to = omega arith }

-- ---- one page more

next : (f : ℕ → Bool) (k : ℕ → ℕ) (start p : ℕ) (m : Match) → start ≤ p → m ≡ best_of f k start (p - start)
    → cond (f p && beats (k p) m) (hit p (k p)) m ≡ best_of f k start (p + 1 - start)
unfolding best_of
next f k start p m h e =
    let a : p + 1 - start ≡ suc (p - start) = omega arith in
    let b : start + (p - start) ≡ p = omega arith in
    rw (a, b, e) refl

-- a score is at or above the threshold and beats the best just where it reaches the least that is better
reached : (t k least page : ℕ) → t ≤ least → (leb t k && beats k (held t least page)) ≡ leb least k
unfolding held beats
reached t k least page h = go (ltb t least) refl
  where
    go : (b : Bool) → ltb t least ≡ b → (leb t k && beats k (cond b (hit page (least - 1)) nobody)) ≡ leb least k
    go true e = by (ltb-true t least e) (leb least k) refl
      where
        by : t < least → (b : Bool) → leb least k ≡ b → (leb t k && ltb (least - 1) k) ≡ b
        by l true f = let r = leb-true least k f in rw (le-leb t k (omega arith), lt-ltb (least - 1) k (omega arith)) refl
        by l false f = let r = leb-false least k f in and_false (leb t k) _ (le-ltb (least - 1) k (omega arith))
    go false e =
        let l = ltb-false t least e in
        let n : t ≡ least = omega arith in
        rw (← n) (and_true (leb t k) true refl)

module _ (x s : List ℕ) (t start end least page p : ℕ) (h : Searched x s t start end least page p) where
  turn : (b : Bool) → (stored x p && leb least (score_at s p)) ≡ b
      → cond b (hit p (score_at s p)) (held t least page) ≡ best_of (eligible x s t) (score_at s) start (p + 1 - start)
  unfolding eligible
  turn b e =
      let k = score_at s p in
      let m = held t least page in
      let r = reached t k least page h.raised in
      let f : (eligible x s t p && beats k m) ≡ b = and_assoc (stored x p) (leb t k) (beats k m) ∙ ap (λ (c : Bool). stored x p && c) r ∙ e in
      ap (λ (c : Bool). cond c (hit p k) m) (sym f) ∙ next (eligible x s t) (score_at s) start p m h.from h.found

  -- the page's score is k; v says whether it is stored
  module _ (l : p < end) (k : ℕ) (q : k ≡ score_at s p) (least' page' : ℕ) where
    kept : (stored x p && leb least k) ≡ false → least' ≡ least → page' ≡ page → Searched x s t start end least' page' (p + 1)
    kept n f g =
        let a = h.from in
        let b = h.to in
        rw (f, g) record { found = turn false (rw q at n); raised = h.raised; reachable = h.reachable; from = omega arith; to = omega arith }

    pub no_better : k < least → least' ≡ least → page' ≡ page → Searched x s t start end least' page' (p + 1)
    no_better r = kept (and_false (stored x p) _ (lt-leb least k r))

    module _ (v : Bool) (e : v ≡ stored x p) where
      pub not_there : v ≡ false → least' ≡ least → page' ≡ page → Searched x s t start end least' page' (p + 1)
      not_there n = kept (rw (← e, n) refl)

      pub better : v ≡ true → least ≤ k → ((i : ℕ) → Fits w16 (get_or s i 0)) → least' ≡ k + 1 → page' ≡ p → Searched x s t start end least' page' (p + 1)
      unfolding held
      better i r w f g =
          let b = (w p).fits in
          let m = h.raised in
          let a = h.from in
          let c = h.to in
          let d : k + 1 - 1 ≡ k = omega arith in
          let j = turn true (rw (← e, i, ← q, le-leb least k r) refl) in
          rw (f, g)
          record {
            found = rw (lt-ltb t (k + 1) (omega arith), d) (rw (← q) at j);
            raised = omega arith;
            reachable = omega arith;
            from = omega arith;
            to = omega arith;
          }

  -- ---- after the last page

  module _ (l : end ≤ p) (f : ℕ) (e : f ≡ t) where
    all_searched : held t least page ≡ best_of (eligible x s t) (score_at s) start (end - start)
    all_searched =
        let a = h.from in
        let b = h.to in
        let n : p - start ≡ end - start = omega arith in
        h.found ∙ ap (best_of (eligible x s t) (score_at s) start) n

    pub risen : f < least → hit page (least - 1) ≡ best_of (eligible x s t) (score_at s) start (end - start)
    unfolding held
    risen r = let b : t < least = omega arith in rw (lt-ltb t least b) at all_searched

    pub not_risen : least ≤ f → nobody ≡ best_of (eligible x s t) (score_at s) start (end - start)
    unfolding held
    not_risen r = let b : least ≤ t = omega arith in rw (le-ltb t least b) at all_searched
