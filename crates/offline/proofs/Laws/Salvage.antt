-- Salvage place by place: which byte of the templates is zeroed and which bit of the index is cleared, and what neither depends on.
use mathlib.Core.Bool.{Bool, true, false, true≢false, ◌&&◌, not, cond}
use mathlib.Core.Path.{◌≡◌, refl, sym, ap, ◌∙◌}
use mathlib.Core.List.{List}
use Prim.Native.Nat.{ℕ, zero, suc, ◌+◌, ◌-◌, ◌*◌, ◌/◌, ◌%◌, ◌^◌, ◌≤◌, ◌<◌}
use native.Mathlib.Nat.{div-one, pow-succ', div-div-eq-div-mul}
use native.Mathlib.Omega.{arith}
use native.Mathlib.Decide.{dec_lt}
use lib.Dec.{T, eqb, ltb}
use borrow.Author.Tests.{lt-ltb, le-ltb, eqb-true, eqb-false}
use lib.ListN.{length, drop, get_or, length-replicate, length-take, length-drop}
use lib.Seq.{get_or-take, get_or-drop, ext_get_or}
use Rattle.protocol.specs.Bytes.{Bytes, byte_at, part, zeros, lay}
use Rattle.protocol.specs.Tests.{among}
use Rattle.protocol.specs.Index.{bit, stored, bits, clear_from}
use Rattle.protocol.proofs.Laws.Logic.{and_false}
use Rattle.protocol.proofs.Laws.Lists.{length_lay, at_before, at_inside, at_behind}
use Rattle.protocol.proofs.Laws.Index.{Fine, in_among, not_among, stored_span, fine_span, stored_past, clear_to_lem, byte_zeros}
use Rattle.offline.specs.Salvage.{salvaged_index, salvaged_pages}

-- ---- lists by their cells

pub cell : (u : List ℕ) (i n j : ℕ) → j < n → get_or (part i n u) j 0 ≡ get_or u (i + j) 0
cell u i n j l = get_or-take n (drop i u) j 0 l ∙ get_or-drop i u j 0

cells_below : (u : List ℕ) (i n j : ℕ) → j < length (part i n u) → j < n
cells_below u i n j l = let m : length (part i n u) ≤ n = simp length-take (omega arith) in omega arith

part_ext : (t u : List ℕ) (i n : ℕ) → length u ≡ length t → ((j : ℕ) → i ≤ j → j < i + n → get_or u j 0 ≡ get_or t j 0) → part i n u ≡ part i n t
part_ext t u i n e h =
    ext_get_or 0 (part i n u) (part i n t) (simp (length-take, length-drop, e))
    (λ j l.
    let m = cells_below u i n j l in
    cell u i n j m ∙ h (i + j) (omega arith) (omega arith) ∙ sym (cell t i n j m))

pub part_blank : (u : List ℕ) (i n : ℕ) → i + n ≤ length u → ((j : ℕ) → i ≤ j → j < i + n → get_or u j 0 ≡ 0) → part i n u ≡ zeros n
part_blank u i n e h =
    ext_get_or 0 (part i n u) (zeros n) (simp (length-take, length-drop, length-replicate) (omega arith))
    (λ j l.
    let m = cells_below u i n j l in
    cell u i n j m ∙ h (i + j) (omega arith) (omega arith) ∙ sym (byte_zeros n j))

pub all_zero : (n : ℕ) (s : List ℕ) → length s ≡ n → ((j : ℕ) → j < n → get_or s j 0 ≡ 0) → s ≡ zeros n
all_zero n s e h = ext_get_or 0 s (zeros n) (e ∙ sym (length-replicate n 0)) (λ j l. h j (omega arith) ∙ sym (byte_zeros n j))

-- ---- the templates

module _ (t x : List ℕ) where
  pub length_salvaged : (n : ℕ) → 512 * n ≤ length t → length (salvaged_pages t x n) ≡ length t
  unfolding salvaged_pages
  length_salvaged zero h = refl
  length_salvaged (suc n) h = go (stored x n) (length_salvaged n (omega arith))
    where
      u : List ℕ
      u = salvaged_pages t x n

      go : (b : Bool) → length u ≡ length t → length (cond b u (lay (512 * n) (zeros 512) u)) ≡ length t
      go true e = e
      go false e = length_lay (512 * n) (zeros 512) u (omega (arith, length-replicate {A = ℕ} 512 0)) ∙ e

  -- a byte of a vacant page below n is zero
  pub byte_zeroed : (n : ℕ) → 512 * n ≤ length t → (j : ℕ) → j / 512 < n → stored x (j / 512) ≡ false → get_or (salvaged_pages t x n) j 0 ≡ 0
  unfolding salvaged_pages
  byte_zeroed zero h j l e = absurd (omega arith)
  byte_zeroed (suc n) h j l e = go (stored x n) refl (dec_lt (j / 512) n) (byte_zeroed n (omega arith) j)
    where
      u : List ℕ
      u = salvaged_pages t x n

      long : length u ≡ length t
      long = length_salvaged n (omega arith)

      many : length (zeros 512) ≡ 512
      many = length-replicate {A = ℕ} 512 0

      go : (b : Bool) → stored x n ≡ b → Dec (j / 512 < n) → (j / 512 < n → stored x (j / 512) ≡ false → get_or u j 0 ≡ 0)
          → get_or (cond b u (lay (512 * n) (zeros 512) u)) j 0 ≡ 0
      go true f (yes d) ih = ih d e
      go true f (no d) ih = let same : j / 512 ≡ n = omega arith in absurd (true≢false (sym f ∙ ap (stored x) (sym same) ∙ e))
      go false f (yes d) ih = at_before (512 * n) (zeros 512) u (omega (arith, long, many)) j (omega arith) ∙ ih d e
      go false f (no d) ih =
          let at : j ≡ 512 * n + j % 512 = omega arith in
          ap (λ (k : ℕ). get_or (lay (512 * n) (zeros 512) u) k 0) at
          ∙ at_inside (512 * n) (zeros 512) u (omega (arith, long, many)) (j % 512) (omega (arith, many)) ∙ byte_zeros 512 (j % 512)

  -- one of a stored page, or of a page from n on, is as it was
  pub byte_stays : (n : ℕ) → 512 * n ≤ length t → (j : ℕ) → (j / 512 < n → stored x (j / 512) ≡ true) → get_or (salvaged_pages t x n) j 0 ≡ get_or t j 0
  unfolding salvaged_pages
  byte_stays zero h j s = refl
  byte_stays (suc n) h j s = go (stored x n) refl (dec_lt (j / 512) n) (byte_stays n (omega arith) j (λ l. s (omega arith)))
    where
      u : List ℕ
      u = salvaged_pages t x n

      long : length u ≡ length t
      long = length_salvaged n (omega arith)

      many : length (zeros 512) ≡ 512
      many = length-replicate {A = ℕ} 512 0

      go : (b : Bool) → stored x n ≡ b → Dec (j / 512 < n) → get_or u j 0 ≡ get_or t j 0 → get_or (cond b u (lay (512 * n) (zeros 512) u)) j 0 ≡ get_or t j 0
      go true f d ih = ih
      go false f (yes d) ih = at_before (512 * n) (zeros 512) u (omega (arith, long, many)) j (omega arith) ∙ ih
      go false f (no d) ih = behind (dec_lt (j / 512) (suc n))
        where
          behind : Dec (j / 512 < suc n) → get_or (lay (512 * n) (zeros 512) u) j 0 ≡ get_or t j 0
          behind (yes l) = let same : j / 512 ≡ n = omega arith in absurd (true≢false (sym (s l) ∙ ap (stored x) same ∙ f))
          behind (no l) = at_behind (512 * n) (zeros 512) u (omega (arith, long, many)) j (omega (arith, many)) ∙ ih

  -- and so of pages
  pub page_stays : (n : ℕ) → 512 * n ≤ length t → (q : ℕ) → (q < n → stored x q ≡ true) → part (512 * q) 512 (salvaged_pages t x n) ≡ part (512 * q) 512 t
  page_stays n h q s =
      part_ext t (salvaged_pages t x n) (512 * q) 512 (length_salvaged n h)
      (λ j a b. let at : q ≡ j / 512 = omega arith in byte_stays n h j (λ l. ap (stored x) (sym at) ∙ s (omega arith)))

  pub page_zeroed_lem : (n : ℕ) → 512 * n ≤ length t → (q : ℕ) → q < n → stored x q ≡ false → part (512 * q) 512 (salvaged_pages t x n) ≡ zeros 512
  page_zeroed_lem n h q l e =
      part_blank (salvaged_pages t x n) (512 * q) 512 (omega (arith, length_salvaged n h))
      (λ j a b. let at : q ≡ j / 512 = omega arith in byte_zeroed n h j (omega arith) (ap (stored x) (sym at) ∙ e))

-- what is left depends on the stored pages' bytes alone
pub same_pages : (t u x y : List ℕ) (n : ℕ) → 512 * n ≡ length t → length u ≡ length t → ((q : ℕ) → q < n → stored y q ≡ stored x q)
    → ((j : ℕ) → j / 512 < n → stored x (j / 512) ≡ true → get_or u j 0 ≡ get_or t j 0) → salvaged_pages u y n ≡ salvaged_pages t x n
same_pages t u x y n h l s e =
    ext_get_or 0 (salvaged_pages u y n) (salvaged_pages t x n) (long ∙ sym (length_salvaged t x n (omega arith)))
    (λ j k. go j (omega (arith, long)) (stored x (j / 512)) refl)
  where
    long : length (salvaged_pages u y n) ≡ length t
    long = length_salvaged u y n (omega arith) ∙ l

    go : (j : ℕ) → j / 512 < n → (b : Bool) → stored x (j / 512) ≡ b → get_or (salvaged_pages u y n) j 0 ≡ get_or (salvaged_pages t x n) j 0
    go j k true f = byte_stays u y n (omega arith) j (λ m. s (j / 512) k ∙ f) ∙ e j k f ∙ sym (byte_stays t x n (omega arith) j (λ m. f))
    go j k false f = byte_zeroed u y n (omega arith) j k (s (j / 512) k ∙ f) ∙ sym (byte_zeroed t x n (omega arith) j k f)

-- ---- the index

module _ {m : ℕ} (x : List ℕ) (c : ℕ) (f : Fine m x) (small : c ≤ 8 * m) where
  pub fine_salvaged : Fine m (salvaged_index c x)
  fine_salvaged = fine_span x _ _ f

  -- the bits below c are as they were, and no other is set
  pub bits_salvaged : (q : ℕ) → stored (salvaged_index c x) q ≡ (ltb q c && stored x q)
  bits_salvaged q = let long = f.long in stored_span x c (bits x - c) f (omega arith) q ∙ go (dec_lt q c) (dec_lt q (bits x))
    where
      go : Dec (q < c) → Dec (q < bits x) → (not (among c (bits x - c) q) && stored x q) ≡ (ltb q c && stored x q)
      go (yes l) d = rw (not_among c (bits x - c) q (λ a b. omega arith), lt-ltb q c l) refl
      go (no l) (yes d) = rw (in_among c (bits x - c) q (omega arith) (omega arith), le-ltb q c (omega arith)) refl
      go (no l) (no d) = rw (stored_past x q (omega arith), le-ltb q c (omega arith)) (and_false (not (among c (bits x - c) q)) false refl)

  pub clear_salvaged : T (clear_from (salvaged_index c x) c)
  clear_salvaged = clear_to_lem (salvaged_index c x) c (λ q a b. bits_salvaged q ∙ rw (le-ltb q c a) refl)

-- a number of n bits is what its bits are
same_number : (n a b : ℕ) → a < 2 ^ n → b < 2 ^ n → ((k : ℕ) → k < n → bit a k ≡ bit b k) → a ≡ b
unfolding bit
same_number zero a b h l e = omega arith
same_number (suc n) a b h l e =
    let low : a % 2 ≡ b % 2 = rw (div-one a, div-one b) at (e 0 (omega arith)) in
    let p : 2 ^ suc n ≡ 2 * 2 ^ n = pow-succ' 2 n in
    let high : a / 2 ≡ b / 2 =
    same_number n (a / 2) (b / 2) (omega arith) (omega arith) (λ k i. sym (halved a k) ∙ e (suc k) (omega arith) ∙ halved b k)
    in
    omega arith
  where
    halved : (c k : ℕ) → c / 2 ^ suc k % 2 ≡ c / 2 / 2 ^ k % 2
    halved c k = ap (λ (d : ℕ). c / d % 2) (pow-succ' 2 k) ∙ ap (λ (d : ℕ). d % 2) (sym (div-div-eq-div-mul c 2 (2 ^ k)))

same_bit : (a b : ℕ) → a < 2 → b < 2 → eqb a 1 ≡ eqb b 1 → a ≡ b
same_bit a b h l e = go (eqb b 1) refl
  where
    go : (s : Bool) → eqb b 1 ≡ s → a ≡ b
    go true d = let p : a ≡ 1 = eqb-true a 1 (e ∙ d) in let q : b ≡ 1 = eqb-true b 1 d in omega arith
    go false d = let p : a ≡ 1 → ⊥ = eqb-false a 1 (e ∙ d) in let q : b ≡ 1 → ⊥ = eqb-false b 1 d in omega (arith, p, q)

-- and so is an index
pub same_index : {m : ℕ} (x y : List ℕ) → Fine m x → Fine m y → ((q : ℕ) → stored x q ≡ stored y q) → x ≡ y
unfolding stored bit Bytes
same_index x y f g e =
    ext_get_or 0 x y (f.long ∙ sym g.long)
    (λ i l.
    same_number 8 (byte_at x i) (byte_at y i) (f.bytes i) (g.bytes i)
    (λ k h.
    let d : (8 * i + k) / 8 ≡ i = omega arith in
    let r : (8 * i + k) % 8 ≡ k = omega arith in
    same_bit (bit (byte_at x i) k) (bit (byte_at y i) k) (omega arith) (omega arith) (rw (d, r) at (e (8 * i + k)))))

-- where no bit from c on is set, none is cleared
pub index_stays : {m : ℕ} (x : List ℕ) (c : ℕ) → Fine m x → c ≤ 8 * m → ((q : ℕ) → c ≤ q → stored x q ≡ false) → salvaged_index c x ≡ x
index_stays x c f small none = same_index (salvaged_index c x) x (fine_salvaged x c f small) f (λ q. bits_salvaged x c f small q ∙ go q (dec_lt q c))
  where
    go : (q : ℕ) → Dec (q < c) → (ltb q c && stored x q) ≡ stored x q
    go q (yes l) = rw (lt-ltb q c l) refl
    go q (no l) = let h : c ≤ q = omega arith in rw (le-ltb q c h, none q h) refl
