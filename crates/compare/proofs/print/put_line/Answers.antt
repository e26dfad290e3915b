-- A line of one, two or three digits, byte by byte, behind the text.
use Rattle.std.proofs.Common.{◌≡◌, ◌∙◌, sym, ap, append_assoc, List, ℕ, ◌++◌, ◌∷◌, []}
use native.Mathlib.Omega.{arith}
use Rattle.compare.proofs.Lines.{tens, hundreds, head, one_digit, two_digits, three_digits, lined}
use Rattle.compare.proofs.print.put_line.Goals as goal
use Rattle.compare.proofs.print.put_line.Goals.{then-page-ge100, else-page-ge100, then-page-ge10, else-page-ge10}

pub returns : goal.returns
returns c =
    let before : List ℕ = c.args.text.now.items in
    let letter = c.args.letter in
    let page = c.args.page in
    let code = c.args.code in
    let high = hundreds letter page code in
    let middle = tens letter page code in
    let first : c.push.new.self.items ≡ before ++ (letter ∷ []) = c.push.ensures.items in
    let front : c.if-page-ge10.text.items ≡ before ++ head letter page code =
    elim c.if-page-ge100.branch [
      | then-page-ge100 v ↦
          let second : c.if-page-ge100.text.items ≡ before ++ (letter ∷ high ∷ []) =
          rw v.text-is (v.push-then-page-ge100.ensures.items ∙ ap (λ (s : List ℕ). s ++ (high ∷ [])) first ∙ append_assoc before (letter ∷ []) (high ∷ [])) in
          elim c.if-page-ge10.branch [
            | then-page-ge10 w ↦
                rw w.text-is
                (w.push-then-page-ge10.ensures.items ∙ ap (λ (s : List ℕ). s ++ (middle ∷ [])) second ∙ append_assoc before (letter ∷ high ∷ []) (middle ∷ [])
                ∙ ap (λ (s : List ℕ). before ++ s) (sym (three_digits letter page code (omega arith) (omega arith))))
            | else-page-ge10 w ↦ absurd (omega arith)
          ]
      | else-page-ge100 v ↦
          let second : c.if-page-ge100.text.items ≡ before ++ (letter ∷ []) = rw v.text-is first in
          elim c.if-page-ge10.branch [
            | then-page-ge10 w ↦
                rw w.text-is
                (w.push-then-page-ge10.ensures.items ∙ ap (λ (s : List ℕ). s ++ (middle ∷ [])) second ∙ append_assoc before (letter ∷ []) (middle ∷ [])
                ∙ ap (λ (s : List ℕ). before ++ s) (sym (two_digits letter page code (omega arith) (omega arith))))
            | else-page-ge10 w ↦ rw w.text-is (second ∙ ap (λ (s : List ℕ). before ++ s) (sym (one_digit letter page code (omega arith))))
          ]
    ] in
    lined letter page code before _ _ _ _ _ front c.push-2.ensures.items c.push-3.ensures.items c.push-4.ensures.items c.push-5.ensures.items
