-- The four tests are the definition's, in its order.
use mathlib.Core.Path.{refl}
use Rattle.protocol.specs.Records.{fit_mark, fit_marks}
use Rattle.rules.proofs.settings.has_fit_marks.Goals as goal

pub returns : goal.returns
unfolding fit_marks fit_mark
returns c = refl
