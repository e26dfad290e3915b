-- A part that was lent and came back, as one list laid over another; and pages laid one after the other.
use Rattle.std.proofs.Common.{◌≡◌, ℕ, zero, suc, ◌+◌, ◌-◌, ◌*◌, ◌/◌, ◌<◌, ◌≤◌, true, ltb, leb, List, length, take, drop, sym, ap, ◌∙◌, arith, leb→le, length-drop, length-take, lt-ltb, le-leb}
use lib.ListN.{length-replicate, replicate-append-replicate}
use borrow.Rule.Slice.PartMut.{put_mid, Post-is}
use Rattle.protocol.specs.Numbers.{page_bytes}
use Rattle.protocol.specs.Bytes.{part, zeros, lay}
use Rattle.protocol.proofs.Laws.Lists.{length_lay, lay_lay, lay_nothing, lay_whole}
use Rattle.wire.specs.Laying.{lay_front}
use Rattle.library.specs.Lent.{is_span, zero_page, zero_pages}
use Rattle.protocol.proofs.Laws.Logic.{and_r}

-- a part from a to e that came back as ys, as long as it was
pub part_laid : (a e : ℕ) (xs ys : List ℕ) → a ≤ e → length ys ≡ e - a → put_mid a (e - a) xs ys ≡ lay a ys xs
unfolding lay
part_laid a e xs ys h k = let n : a + length ys ≡ e = omega arith in rw (n, Post-is a e xs h)

-- a list over which one as long was put
pub put_whole : (s d ys : List ℕ) → length s ≡ length d → ys ≡ lay_front s d → ys ≡ s
unfolding lay_front
put_whole s d ys l f =
    let m : length s ≤ length d = omega arith in
    f ∙ rw (le-leb _ _ m) (lay_whole s d l)

-- a part of n bytes over which a list as long was put
pub part_put : (a n : ℕ) (xs s ys : List ℕ) → length s ≡ n → a + n ≤ length xs → ys ≡ lay_front s (take (a + n - a) (drop a xs)) → put_mid a (a + n - a) xs ys ≡ lay a s xs
part_put a n xs s ys e h f =
    let l : length s ≡ length (take (a + n - a) (drop a xs)) = simp (length-take, length-drop) (omega arith) in
    rw (put_whole s _ ys l f) (part_laid a (a + n) xs s (omega arith) (omega arith))

-- a part of n bytes that was zeroed
pub part_zeroed : (a n : ℕ) (xs ys : List ℕ) → a + n ≤ length xs → ys ≡ zeros (length (take (a + n - a) (drop a xs))) → put_mid a (a + n - a) xs ys ≡ lay a (zeros n) xs
part_zeroed a n xs ys h f =
    let l : length (take (a + n - a) (drop a xs)) ≡ n = simp (length-take, length-drop) (omega arith) in
    let g : ys ≡ zeros n = f ∙ ap zeros l in
    rw g (part_laid a (a + n) xs (zeros n) (omega arith) (length-replicate n 0 ∙ omega arith))

-- a part of n bytes put over a list as long
pub part_read : (a n : ℕ) (xs d : List ℕ) → length d ≡ n → a + n ≤ length xs → lay_front (take (a + n - a) (drop a xs)) d ≡ part a n xs
unfolding lay_front
part_read a n xs d e h =
    let k : a + n - a ≡ n = omega arith in
    let l : length (take (a + n - a) (drop a xs)) ≡ length d = simp (length-take, length-drop) (omega arith) in
    let m : length (take (a + n - a) (drop a xs)) ≤ length d = omega arith in
    rw (le-leb _ _ m) (lay_whole _ d l ∙ ap (λ (m : ℕ). take m (drop a xs)) k)

-- ---- pages zeroed one after the other

-- z is what is to come of the templates t, by the pages from p to before e
module _ (z t : List ℕ) (p e : ℕ) (f : z ≡ zero_pages p (e - p) t) where
  pub zero_more : (u : List ℕ) → p < e → u ≡ zero_page p t → z ≡ zero_pages (p + 1) (e - (p + 1)) u
  unfolding zero_pages
  zero_more u h g =
      let a : e - p ≡ suc (e - (p + 1)) = omega arith in
      let b : p + 1 ≡ suc p = omega arith in
      rw (b, g) (rw (a, b) at f)

  pub zero_none : e ≤ p → t ≡ z
  unfolding zero_pages
  zero_none h = let none : e - p ≡ 0 = omega arith in sym (rw none at f)

pub span_within : (p n c : ℕ) → is_span p n c ≡ true → p + n ≤ c
unfolding is_span
span_within p n c e = leb→le (p + n) c (and_r (ltb p c) (leb (p + n) c) (rw e tt))

-- within the templates they are one run of zeros
pub zeroed : (p n : ℕ) (t : List ℕ) → p + n ≤ length t / page_bytes → zero_pages p n t ≡ lay (page_bytes * p) (zeros (page_bytes * n)) t
unfolding zero_pages zero_page
zeroed p zero t h = sym (lay_nothing (page_bytes * p) t)
zeroed p (suc n) t h =
    let one : List ℕ = zeros page_bytes in
    let rest : List ℕ = zeros (page_bytes * n) in
    let long : length rest ≡ page_bytes * n = length-replicate (page_bytes * n) 0 in
    let l : p < length t / page_bytes = omega arith in
    let k : length (lay (page_bytes * p) one t) ≡ length t = length_lay (page_bytes * p) one t (omega arith) in
    let m : suc p + n ≤ length (lay (page_bytes * p) one t) / page_bytes = rw k (omega arith) in
    let at : page_bytes * suc p ≡ page_bytes * p + length one = omega arith in
    let all : page_bytes + page_bytes * n ≡ page_bytes * suc n = omega arith in
    rw (lt-ltb _ _ l)
    (zeroed (suc p) n (lay (page_bytes * p) one t) m
    ∙ lay_lay (page_bytes * p) (page_bytes * suc p) one rest t at (omega arith)
    ∙ ap (λ (z : List ℕ). lay (page_bytes * p) z t) (replicate-append-replicate page_bytes (page_bytes * n) 0 ∙ ap zeros all))
