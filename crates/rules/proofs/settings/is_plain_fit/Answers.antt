-- The tests are those of the definition, in its order.
use Rattle.std.proofs.Common.{arith}
use Rattle.std.proofs.lemmas.Bool.Decides.{nat_tests}
use Rattle.std.proofs.lemmas.Grind.{common_steps}
use Rattle.protocol.specs.Numbers.{highest_size}
use Rattle.protocol.specs.Tests.{within}
use Rattle.protocol.specs.Call.{fit_plain}
use Rattle.rules.proofs.settings.is_plain_fit.Goals as goal

pub returns-then-s-le-HIGHEST_SIZE : goal.returns-then-s-le-HIGHEST_SIZE
unfolding within fit_plain highest_size
returns-then-s-le-HIGHEST_SIZE c = grind (arith, nat_tests, common_steps)

pub returns-else-s-le-HIGHEST_SIZE : goal.returns-else-s-le-HIGHEST_SIZE
unfolding within fit_plain highest_size
returns-else-s-le-HIGHEST_SIZE c = grind (arith, nat_tests, common_steps)
