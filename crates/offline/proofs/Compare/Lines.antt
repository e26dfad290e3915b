-- Document 02, request [11]: "prints the non-zero entries one to a line: T or N, page number in decimal, space, code, newline; .. pages rising".
use mathlib.Core.Bool.{Bool, true, false, not, cond}
use mathlib.Core.Path.{◌≡◌, refl, sym, ap, ◌∙◌}
use mathlib.Core.Logic.{◌↔◌, ◌≢◌}
use mathlib.Core.List.{List, [], ◌∷◌, ◌++◌, append-nil, append_assoc}
use Prim.Native.Nat.{ℕ, zero, suc, ◌+◌, ◌-◌, ◌*◌, ◌/◌, ◌%◌, ◌≤◌, ◌<◌}
use native.Mathlib.Nat.{div-div-eq-div-mul}
use native.Mathlib.Omega.{arith}
use native.Mathlib.Decide.{ℕ_discrete, dec_lt}
use lib.Dec.{eqb, ltb}
use borrow.Author.Tests.{lt-ltb, le-ltb, ne_eqb}
use lib.ListN.{length, get_or, length-append}
use Rattle.protocol.specs.Tests.{count_below}
use Rattle.offline.specs.Print.{decimal, line_of, lines_of}

-- ---- a number in decimal

-- the number that is read where n was read before
unfoldable pub read_from : ℕ → List ℕ → ℕ
read_from n [] = n
read_from n (d ∷ ds) = read_from (10 * n + (d - 48)) ds

-- digits, the first not 0 unless it is alone
pub record InDecimal (n : ℕ) (ds : List ℕ) : Type 0 where
  pub reads : read_from 0 ds ≡ n
  pub some : 1 ≤ length ds
  pub digits : (i : ℕ) → i < length ds → (48 ≤ get_or ds i 0) × (get_or ds i 0 ≤ 57)
  pub leading : 1 < length ds → get_or ds 0 0 ≢ 48

pub in_decimal : (n : ℕ) → n < 1000 → InDecimal n (decimal n)
unfolding decimal read_from
in_decimal n l = go (dec_lt n 10) (dec_lt n 100)
  where
    is_digit : (k : ℕ) → (48 ≤ 48 + k % 10) × (48 + k % 10 ≤ 57)
    is_digit k = (omega arith, omega arith)

    one : (i : ℕ) → i < 1 → (48 ≤ get_or ((48 + n % 10) ∷ []) i 0) × (get_or ((48 + n % 10) ∷ []) i 0 ≤ 57)
    one zero h = is_digit n
    one (suc i) h = absurd (omega arith)

    two : (i : ℕ) → i < 2 → (48 ≤ get_or ((48 + n / 10 % 10) ∷ (48 + n % 10) ∷ []) i 0) × (get_or ((48 + n / 10 % 10) ∷ (48 + n % 10) ∷ []) i 0 ≤ 57)
    two zero h = is_digit (n / 10)
    two (suc zero) h = is_digit n
    two (suc (suc i)) h = absurd (omega arith)

    three : (i : ℕ) → i < 3
        → (48 ≤ get_or ((48 + n / 100 % 10) ∷ (48 + n / 10 % 10) ∷ (48 + n % 10) ∷ []) i 0) × (get_or ((48 + n / 100 % 10) ∷ (48 + n / 10 % 10) ∷ (48 + n % 10) ∷ []) i 0 ≤ 57)
    three zero h = is_digit (n / 100)
    three (suc zero) h = is_digit (n / 10)
    three (suc (suc zero)) h = is_digit n
    three (suc (suc (suc i))) h = absurd (omega arith)

    read_three : read_from 0 ((48 + n / 100 % 10) ∷ (48 + n / 10 % 10) ∷ (48 + n % 10) ∷ []) ≡ n
    read_three =
        let h : n / 10 / 10 ≡ n / 100 = div-div-eq-div-mul n 10 10 in
        let one : n / 100 % 10 ≡ n / 100 = omega arith in
        let tens : 10 * (n / 100) + n / 10 % 10 ≡ n / 10 = omega arith in
        omega (arith, one, tens)

    go : Dec (n < 10) → Dec (n < 100) → InDecimal n (decimal n)
    go (yes a) b = rw (lt-ltb n 10 a) record { reads = omega arith; some = omega arith; digits = one; leading = λ h. absurd (omega arith) }
    go (no a) (yes b) =
        rw (le-ltb n 10 (omega arith), lt-ltb n 100 b) record { reads = omega arith; some = omega arith; digits = two; leading = λ h e. absurd (omega arith) }
    go (no a) (no b) =
        rw (le-ltb n 10 (omega arith), le-ltb n 100 (omega arith)) record { reads = read_three; some = omega arith; digits = three; leading = λ h e. absurd (omega arith) }

-- ---- a line of a code below 10, by its bytes

pub line_is : (letter page code : ℕ) → code < 10 → line_of letter page code ≡ letter ∷ (decimal page ++ (32 ∷ (48 + code) ∷ 10 ∷ []))
unfolding line_of
line_is letter page code h = let e : code % 10 ≡ code = omega arith in rw e refl

-- how many lines end in a text
unfoldable pub line_ends : List ℕ → ℕ
line_ends [] = 0
line_ends (c ∷ s) = cond (eqb c 10) 1 0 + line_ends s

ends_nothing : line_ends [] ≡ 0
unfolding line_ends
ends_nothing = refl

ends_append : (s t : List ℕ) → line_ends (s ++ t) ≡ line_ends s + line_ends t
unfolding line_ends
ends_append [] t = omega arith
ends_append (c ∷ s) t = omega (arith, ends_append s t)

-- one line, whatever its page and its code
ends_line : (letter page code : ℕ) → letter ≢ 10 → line_ends (line_of letter page code) ≡ 1
unfolding line_ends line_of decimal
ends_line letter page code h =
    let tail : line_ends (32 ∷ (48 + code % 10) ∷ 10 ∷ []) ≡ 1 = rw (no_digit code) refl in
    rw (ne_eqb letter 10 h) (omega (arith, ends_append (decimal page) (32 ∷ (48 + code % 10) ∷ 10 ∷ []), no_ends (ltb page 10) (ltb page 100)))
  where
    no_digit : (k : ℕ) → eqb (48 + k % 10) 10 ≡ false
    no_digit k = ne_eqb (48 + k % 10) 10 (λ e. omega arith)

    no_ends : (a b : Bool) → line_ends (cond a ((48 + page % 10) ∷ []) (cond b ((48 + page / 10 % 10) ∷ (48 + page % 10) ∷ []) ((48 + page / 100 % 10) ∷ (48 + page / 10 % 10) ∷ (48 + page % 10) ∷ []))) ≡ 0
    no_ends true b = rw (no_digit page) refl
    no_ends false true = rw (no_digit (page / 10), no_digit page) refl
    no_ends false false = rw (no_digit (page / 100), no_digit (page / 10), no_digit page) refl

-- ---- the lines of n entries

module _ (letter : ℕ) (f : ℕ → ℕ) where
  -- each entry that is not 0 has its line, behind those of lower pages and before those of higher ones
  pub line_stands : (n q : ℕ) → q < n → f q ≢ 0 → (rest : List ℕ) × (lines_of letter f n ≡ lines_of letter f q ++ (line_of letter q (f q) ++ rest))
  unfolding lines_of
  line_stands zero q l h = absurd (omega arith)
  line_stands (suc n) q l h = go (dec_lt q n) (λ a. line_stands n q a h)
    where
      last : List ℕ
      last = cond (eqb (f n) 0) [] (line_of letter n (f n))

      go : Dec (q < n) → (q < n → (rest : List ℕ) × (lines_of letter f n ≡ lines_of letter f q ++ (line_of letter q (f q) ++ rest)))
          → (rest : List ℕ) × (lines_of letter f (suc n) ≡ lines_of letter f q ++ (line_of letter q (f q) ++ rest))
      go (yes a) ih =
          let before = ih a in (
            before.0 ++ last,
            ap (λ (s : List ℕ). s ++ last) before.1
                ∙ append_assoc (lines_of letter f q) (line_of letter q (f q) ++ before.0) last
                ∙ ap (λ (s : List ℕ). lines_of letter f q ++ s) (append_assoc (line_of letter q (f q)) before.0 last),
          )
      go (no a) ih = let e : q ≡ n = omega arith in (
        [],
        rw (← e, ne_eqb (f q) 0 h) (ap (λ (s : List ℕ). lines_of letter f q ++ s) (sym (append-nil (line_of letter q (f q))))),
      )

  -- as many lines as entries that are not 0
  pub line_count : letter ≢ 10 → (n : ℕ) → line_ends (lines_of letter f n) ≡ count_below (λ q. not (eqb (f q) 0)) n
  unfolding lines_of count_below
  line_count h zero = ends_nothing
  line_count h (suc n) = omega (arith, ends_append (lines_of letter f n) (cond (eqb (f n) 0) [] (line_of letter n (f n))), line_count h n, one (eqb (f n) 0))
    where
      one : (z : Bool) → line_ends (cond z [] (line_of letter n (f n))) ≡ cond (not z) 1 0
      one true = ends_nothing
      one false = ends_line letter n (f n) h

  -- none is printed where all are 0, and only there
  none_where : (n : ℕ) → ((q : ℕ) → q < n → f q ≡ 0) → lines_of letter f n ≡ []
  unfolding lines_of
  none_where zero h = refl
  none_where (suc n) h = rw (none_where n (λ q l. h q (omega arith)), h n (omega arith)) refl

  pub none_printed : (n : ℕ) → (lines_of letter f n ≡ []) ↔ ((q : ℕ) → q < n → f q ≡ 0)
  unfolding line_of
  none_printed n = (λ e q l. go e q l (ℕ_discrete (f q) 0), none_where n)
    where
      go : lines_of letter f n ≡ [] → (q : ℕ) → q < n → Dec (f q ≡ 0) → f q ≡ 0
      go e q l (yes z) = z
      go e q l (no z) =
          let h = line_stands n q l z in
          let some : length (lines_of letter f q ++ (line_of letter q (f q) ++ h.0)) ≡ 0 = ap length (sym h.1 ∙ e) in
          absurd (omega (arith, length-append (lines_of letter f q) (line_of letter q (f q) ++ h.0)))
