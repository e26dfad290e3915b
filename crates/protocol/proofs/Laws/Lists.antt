-- Lists of bytes: comparison, parts, one list laid over another, split and joined.
use mathlib.Core.Bool.{Bool, true, false}
use mathlib.Core.Path.{◌≡◌, refl, sym, ap, ap₂, ◌∙◌}
use mathlib.Core.Logic.{◌≢◌}
use mathlib.Core.List.{List, [], ◌∷◌, ◌++◌, foldr, append_assoc, append-nil}
use Prim.Native.Nat.{ℕ, zero, suc, ◌+◌, ◌-◌, ◌*◌, ◌/◌, ◌%◌, ◌≤◌, ◌<◌}
use native.Mathlib.Nat.{suc-mul, add-zero, add_assoc}
use native.Mathlib.Numerals.{add-one}
use native.Mathlib.Omega.{arith}
use lib.Dec.{eqb, eqb→eq}
use lib.ListN.{length, take, drop, length-append, length-take, length-drop, take-append-drop, drop_of_length-le, get_or-append, get_or, set}
use lib.Seq.{take_at, take-append-le, take-append_seam, drop-append_seam, drop-append-le, drop-append-add, drop-drop, length-take-le, take-suc, drop-cons, set_at, get_or-take, get_or-drop, get_or-append-add}
use Rattle.protocol.specs.Bytes.{part, zeros, total, same, lay, follow, joined, split}
use Rattle.protocol.proofs.Laws.Logic.{T→true, and_l, and_r, eqb_same}

-- ---- comparison

pub same_refl : (s : List ℕ) → same s s ≡ true
unfolding same
same_refl [] = refl
same_refl (x ∷ s) = rw (eqb_same x) (same_refl s)

pub same_eq : (s t : List ℕ) → same s t ≡ true → s ≡ t
unfolding same
same_eq [] [] e = refl
same_eq [] (y ∷ t) e = cc
same_eq (x ∷ s) [] e = cc
same_eq (x ∷ s) (y ∷ t) e =
    ap₂ (λ (n : ℕ) (u : List ℕ). n ∷ u) (eqb→eq x y (and_l (eqb x y) (same s t) (rw e tt)))
    (same_eq s t (T→true (same s t) (and_r (eqb x y) (same s t) (rw e tt))))

pub same_no : (s t : List ℕ) → s ≢ t → same s t ≡ false
same_no s t d = go (same s t) refl
  where
    go : (b : Bool) → same s t ≡ b → b ≡ false
    go true e = absurd (d (same_eq s t e))
    go false e = refl

pub same_front : (s t u : List ℕ) → same (s ++ t) (s ++ u) ≡ same t u
unfolding same
same_front [] t u = refl
same_front (x ∷ s) t u = rw (eqb_same x) (same_front s t u)

-- ---- all bytes added

pub total_added : (s : List ℕ) → total s ≡ foldr ◌+◌ 0 s
unfolding total
total_added [] = refl
total_added (b ∷ s) = ap (λ (n : ℕ). b + n) (total_added s)

-- ---- one behind the other

pub follow_append : (a b : List ℕ) → follow a b ≡ a ++ b
unfolding follow
follow_append a [] = sym (append-nil a)
follow_append a (x ∷ b) = refl

-- a list of four bytes, taken apart
pub by_four : (a : List ℕ) → length a ≡ 4 → (P : List ℕ → Type 0) → ((w x y z : ℕ) → P (w ∷ x ∷ y ∷ z ∷ [])) → P a
by_four [] h P f = absurd (omega arith)
by_four (w ∷ []) h P f = absurd (omega arith)
by_four (w ∷ x ∷ []) h P f = absurd (omega arith)
by_four (w ∷ x ∷ y ∷ []) h P f = absurd (omega arith)
by_four (w ∷ x ∷ y ∷ z ∷ []) h P f = f w x y z
by_four (w ∷ x ∷ y ∷ z ∷ v ∷ r) h P f = absurd (omega arith)

pub two_bytes : (n : ℕ) → n < 65536 → n / 256 % 256 * 256 + n % 256 ≡ n
two_bytes n h = omega arith

-- ---- s laid over d from the place i on

module _ (i : ℕ) (s d : List ℕ) (h : i + length s ≤ length d) where
  pub length_lay : length (lay i s d) ≡ length d
  unfolding lay
  length_lay = simp (length-append, length-take, length-drop) (omega arith)

  -- up to the end of s
  pub head_lay : take (i + length s) (lay i s d) ≡ take i d ++ s
  unfolding lay
  head_lay =
      ap (take (i + length s)) (sym (append_assoc (take i d) s (drop (i + length s) d)))
      ∙ take_at (take i d ++ s) (drop (i + length s) d) (i + length s) (simp (length-append, length-take) (omega arith))

  -- where s lies
  pub inside_lay : (j n : ℕ) → j + n ≤ length s → part (i + j) n (lay i s d) ≡ part j n s
  unfolding lay
  inside_lay j n l =
      let long : length (take i d) ≡ i = length-take-le i d (omega arith) in
      let t : List ℕ = s ++ drop (i + length s) d in
      let e : i + j ≡ length (take i d) + j = omega arith in
      ap (λ (m : ℕ). part m n (take i d ++ t)) e
      ∙ ap (take n) (drop-append-add (take i d) t j)
      ∙ ap (take n) (drop-append-le j s (drop (i + length s) d) (omega arith))
      ∙ take-append-le n (drop j s) (drop (i + length s) d) (simp length-drop (omega arith))

  -- before s
  pub before_lay : (j n : ℕ) → j + n ≤ i → part j n (lay i s d) ≡ part j n d
  unfolding lay
  before_lay j n l =
      let long : length (take i d) ≡ i = length-take-le i d (omega arith) in
      let t : List ℕ = s ++ drop (i + length s) d in
      ap (take n) (drop-append-le j (take i d) t (omega arith))
      ∙ take-append-le n (drop j (take i d)) t (simp length-drop (omega arith))
      ∙ sym (take-append-le n (drop j (take i d)) (drop i d) (simp length-drop (omega arith)))
      ∙ ap (take n) (sym (drop-append-le j (take i d) (drop i d) (omega arith)))
      ∙ ap (part j n) (take-append-drop i d)

  -- behind s
  pub behind_lay : (j n : ℕ) → i + length s ≤ j → part j n (lay i s d) ≡ part j n d
  unfolding lay
  behind_lay j n l =
      let long : length (take i d ++ s) ≡ i + length s = simp (length-append, length-take) (omega arith) in
      let k : ℕ = j - (i + length s) in
      let e : j ≡ length (take i d ++ s) + k = omega arith in
      let f : i + length s + k ≡ j = omega arith in
      ap (part j n) (sym (append_assoc (take i d) s (drop (i + length s) d)))
      ∙ ap (λ (m : ℕ). part m n ((take i d ++ s) ++ drop (i + length s) d)) e
      ∙ ap (take n) (drop-append-add (take i d ++ s) (drop (i + length s) d) k)
      ∙ ap (take n) (drop-drop k (i + length s) d)
      ∙ ap (λ (m : ℕ). part m n d) f

  -- place by place
  pub at_before : (j : ℕ) → j < i → get_or (lay i s d) j 0 ≡ get_or d j 0
  unfolding lay
  at_before j l =
      let long : length (take i d) ≡ i = length-take-le i d (omega arith) in
      get_or-append (take i d) (s ++ drop (i + length s) d) 0 j (omega arith) ∙ get_or-take i d j 0 l

  pub at_inside : (j : ℕ) → j < length s → get_or (lay i s d) (i + j) 0 ≡ get_or s j 0
  unfolding lay
  at_inside j l =
      let e : i + j ≡ length (take i d) + j = omega (arith, length-take-le i d (omega arith)) in
      ap (λ (k : ℕ). get_or (take i d ++ (s ++ drop (i + length s) d)) k 0) e ∙ get_or-append-add (take i d) (s ++ drop (i + length s) d) j 0
      ∙ get_or-append s (drop (i + length s) d) 0 j l

  pub at_behind : (j : ℕ) → i + length s ≤ j → get_or (lay i s d) j 0 ≡ get_or d j 0
  unfolding lay
  at_behind j l =
      let k : ℕ = j - (i + length s) in
      let e : j ≡ length (take i d) + (length s + k) = omega (arith, length-take-le i d (omega arith)) in
      let f : i + length s + k ≡ j = omega arith in
      ap (λ (m : ℕ). get_or (take i d ++ (s ++ drop (i + length s) d)) m 0) e ∙ get_or-append-add (take i d) (s ++ drop (i + length s) d) (length s + k) 0
      ∙ get_or-append-add s (drop (i + length s) d) k 0 ∙ get_or-drop (i + length s) d k 0 ∙ ap (λ (m : ℕ). get_or d m 0) f

-- two lists that differ at one place and at their ends, at another place
pub but_one : (s m u v : List ℕ) (x y j : ℕ) → j ≢ length s → j < length s + suc (length m) → get_or (s ++ (x ∷ (m ++ u))) j 0 ≡ get_or (s ++ (y ∷ (m ++ v))) j 0
but_one [] m u v x y zero d l = absurd (d refl)
but_one [] m u v x y (suc j) d l = get_or-append m u 0 j (omega arith) ∙ sym (get_or-append m v 0 j (omega arith))
but_one (a ∷ s) m u v x y zero d l = refl
but_one (a ∷ s) m u v x y (suc j) d l = but_one s m u v x y j (λ e. d (ap suc e)) (omega arith)

-- a part that ends before t begins
pub part_left : (s t : List ℕ) (i n : ℕ) → i + n ≤ length s → part i n (s ++ t) ≡ part i n s
part_left s t i n h = ap (take n) (drop-append-le i s t (omega arith)) ∙ take-append-le n (drop i s) t (omega (arith, length-drop i s))

-- a part that begins at t, or behind its first bytes
pub part_right : (s t : List ℕ) (i n : ℕ) → part (length s + i) n (s ++ t) ≡ part i n t
part_right s t i n = ap (take n) (drop-append-add s t i)

pub last_lay : (i : ℕ) (s d : List ℕ) → i + length s ≡ length d → lay i s d ≡ take i d ++ s
unfolding lay
last_lay i s d h =
    ap (λ (t : List ℕ). take i d ++ (s ++ t)) (drop_of_length-le d {i = i + length s} (omega arith)) ∙ ap (λ (t : List ℕ). take i d ++ t) (append-nil s)

-- the front of a room is what was laid there
pub take_lay : (s d : List ℕ) → take (length s) (lay 0 s d) ≡ s
unfolding lay
take_lay s d = take-append_seam s (drop (0 + length s) d)

pub drop_lay : (s d : List ℕ) → drop (length s) (lay 0 s d) ≡ drop (length s) d
unfolding lay
drop_lay s d = let e : 0 + length s ≡ length s = omega arith in drop-append_seam s (drop (0 + length s) d) ∙ ap (λ (n : ℕ). drop n d) e

pub lay_nothing : (i : ℕ) (d : List ℕ) → lay i [] d ≡ d
unfolding lay
lay_nothing i d = rw add-zero (take-append-drop i d)

pub part_zeros : (j n m : ℕ) → j + n ≤ m → part j n (zeros m) ≡ zeros n
part_zeros zero zero m h = refl
part_zeros zero (suc n) zero h = absurd (omega arith)
part_zeros zero (suc n) (suc m) h = ap (λ (t : List ℕ). 0 ∷ t) (part_zeros zero n m (omega arith))
part_zeros (suc j) n zero h = absurd (omega arith)
part_zeros (suc j) n (suc m) h = part_zeros j n m (omega arith)

-- ---- laid piece by piece

-- the bytes from i on, of which there is one
pub from : (s : List ℕ) (i : ℕ) → i < length s → drop i s ≡ get_or s i 0 ∷ drop (i + 1) s
from s i h = rw (add-one, drop-cons s i 0)

-- two pieces laid one after the other are their join, laid once
pub lay_lay : (i n : ℕ) (a b d : List ℕ) → n ≡ i + length a → n + length b ≤ length d → lay n b (lay i a d) ≡ lay i (a ++ b) d
unfolding lay
lay_lay i n a b d e h =
    let long : length (take i d ++ a) ≡ n = simp (length-append, length-take) (omega arith) in
    let rest : drop (n + length b) ((take i d ++ a) ++ drop (i + length a) d) ≡ drop (i + length (a ++ b)) d =
    rw (← long, drop-append-add, drop-drop, length-append, add_assoc)
    in
    rw (← append_assoc (take i d) a (drop (i + length a) d), take_at (take i d ++ a) (drop (i + length a) d) n long, rest) (simp append_assoc)

-- one byte more
pub lay_more : (i k : ℕ) (s d : List ℕ) → k < length s → i + length s ≤ length d → set (lay i (take k s) d) (i + k) (get_or s k 0) ≡ lay i (take (k + 1) s) d
unfolding lay
lay_more i k s d h l =
    let one : length (take k s) ≡ k = length-take-le k s (omega arith) in
    let long : length (take i d ++ take k s) ≡ i + k = simp (length-append, length-take) (omega arith) in
    let next : take (k + 1) s ≡ take k s ++ (get_or s k 0 ∷ []) = rw (add-one, take-suc s k 0) in
    let more : length (take (k + 1) s) ≡ k + 1 = length-take-le (k + 1) s (omega arith) in
    let here : drop (i + k) d ≡ get_or d (i + k) 0 ∷ drop (i + k + 1) d = from d (i + k) (omega arith) in
    rw (
      more,
      one,
      here,
      ← append_assoc (take i d) (take k s) (get_or d (i + k) 0 ∷ drop (i + k + 1) d),
      set_at (take i d ++ take k s) (get_or d (i + k) 0) (drop (i + k + 1) d) (get_or s k 0) (i + k) long,
      next,
    )
    (simp (append_assoc, add_assoc))

-- a list as long as what it is laid over
pub lay_whole : (s d : List ℕ) → length s ≡ length d → lay 0 s d ≡ s
unfolding lay
lay_whole s d e = let h : length d ≤ 0 + length s = omega arith in rw (drop_of_length-le d h, append-nil)

-- ---- split and joined

pub split_joined : (k n : ℕ) (s : List ℕ) → length s ≡ k * n → joined (split k n s) ≡ s
unfolding split joined
split_joined zero n [] h = refl
split_joined zero n (x ∷ s) h = absurd (omega arith)
split_joined (suc k) n s h =
    ap (λ (t : List ℕ). take n s ++ t) (split_joined k n (drop n s) (length-drop n s ∙ omega (arith, suc-mul k n))) ∙ take-append-drop n s
