-- Sum, size and total: the tests of step 7 in its order, at the data bytes of the size code.
use Rattle.std.proofs.Common.{arith}
use Rattle.std.proofs.lemmas.List.{length-replicate}
use Rattle.std.proofs.lemmas.Bool.Decides.{nat_tests}
use Rattle.std.proofs.lemmas.Grind.{common_steps}
use Rattle.protocol.specs.Step.{fits}
use Rattle.rules.specs.Transfer.{does_fit}
use Rattle.rules.proofs.transfer.does_fit.Goals as goal

pub returns-then-not-right : goal.returns-then-not-right
unfolding does_fit fits
returns-then-not-right c = grind (arith, nat_tests, common_steps, length-replicate)

pub returns-then-last : goal.returns-then-last
unfolding does_fit fits
returns-then-last c = grind (arith, nat_tests, common_steps, length-replicate)

pub returns-else-last : goal.returns-else-last
unfolding does_fit fits
returns-else-last c = grind (arith, nat_tests, common_steps, length-replicate)
