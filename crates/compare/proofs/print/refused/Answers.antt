-- The number of a refusal is a digit.
use Rattle.std.proofs.Common.{◌∙◌, ap, List, ℕ, [], ◌∷◌, ◌++◌, ◌+◌}
use Rattle.compare.proofs.Text.{refused}
use Rattle.compare.proofs.print.refused.Goals as goal

pub returns : goal.returns
returns c =
    c.push-3.ensures.items
    ∙ ap (λ (s : List ℕ). s ++ (10 ∷ []))
    (c.push-2.ensures.items
    ∙ ap (λ (s : List ℕ). s ++ ((48 + c.from.result) ∷ [])) (c.push.ensures.items ∙ ap (λ (s : List ℕ). s ++ (82 ∷ [])) c.new-text.ensures))
    ∙ refused c.args.refusal c.from.result c.from.ensures
