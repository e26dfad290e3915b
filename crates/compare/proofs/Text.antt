-- The whole text: a refusal's line, or the lines of pages and notepads.
use mathlib.Core.Bool.{Bool, true, false}
use mathlib.Core.Path.{◌≡◌, refl, sym, ap, ap₂, ◌∙◌}
use mathlib.Core.List.{List, [], ◌∷◌, ◌++◌}
use Prim.Native.Nat.{ℕ, ◌+◌, ◌%◌}
use native.Mathlib.Omega.{arith}
use lib.Dec.{eqb}
use lib.ListN.{length, take, get_or}
use lib.Seq.{length-take-le, get_or-take}
use borrow.Author.Tests.{eq-eqb, ne_eqb}
use Rattle.protocol.specs.declared.refusals.Refusal.{Refusal}
use Rattle.protocol.specs.declared.refusals.Refusal.TheVariants.{BadLength, BadRoom, BadSetting, BadContent}
use Rattle.protocol.specs.Numbers.{bad_length, bad_setting}
use Rattle.protocol.specs.Codes.{refusal_number}
use Rattle.protocol.specs.Tests.{listed}
use Rattle.protocol.specs.Index.{clear_from}
use Rattle.protocol.specs.Call.{core}
use Rattle.protocol.proofs.Laws.Below.{length_listed, at_listed}
use Rattle.offline.specs.Compare.{note_says}
use Rattle.offline.specs.Print.{lines_of, refusal_line}
use Rattle.offline.proofs.Compare.Prints.{same_lines}
use Rattle.upkeep.specs.Compare.{note_codes}
use Rattle.upkeep.proofs.Comparing.{notes_fit}
use Rattle.compare.specs.Print.{code_lines, Held, text_of}

-- a refusal's line at the front of the room
digit_is : (e : Refusal) → refusal_number e % 10 ≡ refusal_number e
digit_is BadLength = refl
digit_is BadRoom = refl
digit_is BadSetting = refl
digit_is BadContent = refl

pub refused : (e : Refusal) (k : ℕ) → k ≡ refusal_number e → 82 ∷ (48 + k) ∷ 10 ∷ [] ≡ refusal_line (refusal_number e)
refused e k d = ap (λ (n : ℕ). 82 ∷ (48 + n) ∷ 10 ∷ []) (d ∙ sym (digit_is e))

-- k pages were read, which is c where there are any
module _ (x n y m : List ℕ) (c : ℕ) (v : List ℕ) (h : Held n m c v) (k : ℕ) (e : k ≡ c) where
  pub no_page_lem : (w : List ℕ) → w ≡ refusal_line bad_length → k ≡ 0 → w ≡ text_of x n y m c v
  unfolding text_of
  no_page_lem w f z = rw (eq-eqb c 0 (sym e ∙ z)) f

  module _ (some : k ≡ 0 → ⊥) (p : Bool) (g : p ≡ clear_from x k) where
    one : eqb c 0 ≡ false
    one = ne_eqb c 0 (λ z. some (e ∙ z))

    clear_first : clear_from x c ≡ p
    clear_first = sym (g ∙ ap (clear_from x) e)

    pub first_beyond : (w : List ℕ) → w ≡ refusal_line bad_setting → p ≡ false → w ≡ text_of x n y m c v
    unfolding text_of
    first_beyond w f b = rw (one, clear_first ∙ b) f

    module _ (b : p ≡ true) (q : Bool) (l : q ≡ clear_from y k) where
      clear_second : clear_from y c ≡ q
      clear_second = sym (l ∙ ap (clear_from y) e)

      pub second_beyond : (w : List ℕ) → w ≡ refusal_line bad_setting → q ≡ false → w ≡ text_of x n y m c v
      unfolding text_of
      second_beyond w f d = rw (one, clear_first ∙ b, clear_second ∙ d) f

      pub lines : q ≡ true → (u z codes : List ℕ) → u ≡ [] → codes ≡ note_codes n m z → length z ≡ 16 → (w : List ℕ) → w ≡ u ++ code_lines 84 (take k v) (length (take k v))
          → (w' : List ℕ) → w' ≡ w ++ code_lines 78 codes (length codes) → w' ≡ text_of x n y m c v
      unfolding text_of core
      lines d u z codes o f j w i w' t =
          let pages : length (take k v) ≡ c = length-take-le k v (omega (arith, h.few, h.codes)) ∙ e in
          let first : code_lines 84 (take k v) (length (take k v)) ≡ code_lines 84 v c =
          ap (code_lines 84 (take k v)) pages ∙ same_lines 84 (λ p. get_or (take k v) p 0) (λ p. get_or v p 0) c (λ p b. get_or-take k v p 0 (omega arith))
          in
          let said : codes ≡ listed (note_says n m) 16 = f ∙ notes_fit n m z h.first h.second j in
          let sixteen : length codes ≡ 16 = ap length said ∙ length_listed (note_says n m) 16 in
          let notes : code_lines 78 codes (length codes) ≡ lines_of 78 (note_says n m) 16 =
          ap (code_lines 78 codes) sixteen ∙ same_lines 78 (λ p. get_or codes p 0) (note_says n m) 16 (λ p b. ap (λ (s : List ℕ). get_or s p 0) said ∙ at_listed (note_says n m) 16 p b)
          in
          rw (one, clear_first ∙ b, clear_second ∙ d) (t ∙ ap₂ (λ (a s : List ℕ). a ++ s) (i ∙ ap₂ (λ (a s : List ℕ). a ++ s) o first) notes)
