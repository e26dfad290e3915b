-- A line by its digits, and lines put one behind the other into a text.
use mathlib.Core.Path.{◌≡◌, refl, sym, ap, ◌∙◌}
use mathlib.Core.List.{List, [], ◌∷◌, ◌++◌, append-nil, append_assoc}
use Prim.Native.Nat.{ℕ, suc, ◌+◌, ◌*◌, ◌/◌, ◌%◌, ◌≤◌, ◌<◌}
use native.Mathlib.Numerals.{add-one}
use native.Mathlib.Omega.{arith}
use mathlib.Core.Bool.{Bool, true, false, cond}
use lib.Dec.{ltb}
use lib.ListN.{length, get_or, length-append}
use borrow.Author.Tests.{lt-ltb, le-ltb, ne_eqb}
use Rattle.offline.specs.Print.{decimal, line_of, lines_of}
use Rattle.compare.specs.Print.{code_lines}

-- ---- a line

module _ (letter page code : ℕ) where
  abbrev pub tens : ℕ
  tens = 48 + page / 10 % 10

  abbrev pub hundreds : ℕ
  hundreds = 48 + page / 100 % 10

  -- the letter, and the digits before the last
  abbrev pub head : List ℕ
  head = letter ∷ cond (ltb page 10) [] (cond (ltb page 100) (tens ∷ []) (hundreds ∷ tens ∷ []))

  pub one_digit : page < 10 → head ≡ letter ∷ []
  one_digit l = rw (lt-ltb page 10 l) refl

  pub two_digits : 10 ≤ page → page < 100 → head ≡ letter ∷ tens ∷ []
  two_digits k l = rw (le-ltb page 10 k, lt-ltb page 100 l) refl

  pub three_digits : 10 ≤ page → 100 ≤ page → head ≡ letter ∷ hundreds ∷ tens ∷ []
  three_digits k l = rw (le-ltb page 10 k, le-ltb page 100 l) refl

  -- and the rest behind them, all of it behind a text p
  pub lined : (p s t u v w : List ℕ) → s ≡ p ++ head → t ≡ s ++ ((48 + page % 10) ∷ []) → u ≡ t ++ (32 ∷ []) → v ≡ u ++ ((48 + code % 10) ∷ []) → w ≡ v ++ (10 ∷ [])
      → w ≡ p ++ line_of letter page code
  unfolding line_of decimal
  lined p s t u v w a b c d e = rw (e, d, c, b, a) (joined head ∙ ap (λ (s : List ℕ). p ++ s) (go (ltb page 10) (ltb page 100)))
    where
      joined : (h : List ℕ)
          → (p ++ h) ++ ((48 + page % 10) ∷ []) ++ (32 ∷ []) ++ ((48 + code % 10) ∷ []) ++ (10 ∷ []) ≡ p ++ (h ++ ((48 + page % 10) ∷ []) ++ (32 ∷ []) ++ ((48 + code % 10) ∷ []) ++ (10 ∷ []))
      joined h = simp append_assoc

      go : (p q : Bool)
          → (letter ∷ cond p [] (cond q (tens ∷ []) (hundreds ∷ tens ∷ []))) ++ ((48 + page % 10) ∷ []) ++ (32 ∷ []) ++ ((48 + code % 10) ∷ []) ++ (10 ∷ [])
          ≡ letter
          ∷ (cond p ((48 + page % 10) ∷ []) (cond q (tens ∷ (48 + page % 10) ∷ []) (hundreds ∷ tens ∷ (48 + page % 10) ∷ [])) ++ (32 ∷ (48 + code % 10) ∷ 10 ∷ []))
      go true q = refl
      go false true = refl
      go false false = refl

  pub line_few : length (line_of letter page code) ≤ 7
  unfolding line_of decimal
  line_few = go (ltb page 10) (ltb page 100)
    where
      go : (p q : Bool)
          → length
          (letter
          ∷ (cond p ((48 + page % 10) ∷ []) (cond q (tens ∷ (48 + page % 10) ∷ []) (hundreds ∷ tens ∷ (48 + page % 10) ∷ [])) ++ (32 ∷ (48 + code % 10) ∷ 10 ∷ [])))
          ≤ 7
      go true q = omega arith
      go false true = omega arith
      go false false = omega arith

-- ---- lines put one behind the other

-- of n codes v the lines of the first q stand behind the text u
pub record Putting (letter : ℕ) (v : List ℕ) (n : ℕ) (u : List ℕ) (q : ℕ) (w : List ℕ) : Type 0 where
  pub few : length w ≤ length u + 7 * q
  pub lines : w ≡ u ++ code_lines letter v q

module _ (letter : ℕ) (v : List ℕ) (n : ℕ) (u : List ℕ) where
  pub none_put : Putting letter v n u 0 u
  unfolding lines_of
  none_put = record { few = omega arith; lines = sym (append-nil u) }

  module _ (q : ℕ) (w : List ℕ) (h : Putting letter v n u q w) where
    abbrev so_far : List ℕ
    so_far = code_lines letter v q

    pub put_skip : get_or v q 0 ≡ 0 → Putting letter v n u (q + 1) w
    unfolding lines_of
    put_skip z =
        let same : code_lines letter v (suc q) ≡ so_far = rw z (append-nil so_far) in
        let few = h.few in
        rw add-one record { few = omega arith; lines = h.lines ∙ ap (λ (s : List ℕ). u ++ s) (sym same) }

    pub put_one : (y : List ℕ) → (get_or v q 0 ≡ 0 → ⊥) → y ≡ w ++ line_of letter q (get_or v q 0) → Putting letter v n u (q + 1) y
    unfolding lines_of
    put_one y z f =
        let line : List ℕ = line_of letter q (get_or v q 0) in
        let next : code_lines letter v (suc q) ≡ so_far ++ line = rw (ne_eqb (get_or v q 0) 0 z) refl in
        let few = h.few in
        let long : length y ≡ length w + length line = ap length f ∙ length-append w line in
        rw add-one
        record {
          few = omega (arith, long, line_few letter q (get_or v q 0));
          lines = f ∙ ap (λ (s : List ℕ). s ++ line) h.lines ∙ append_assoc u so_far line ∙ ap (λ (s : List ℕ). u ++ s) (sym next);
        }
