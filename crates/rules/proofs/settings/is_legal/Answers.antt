-- The settings' ranges first, then the marks, and then the transfer, whose test needs a size code in its range.
use Rattle.std.proofs.Common.{arith}
use Rattle.std.proofs.lemmas.Grind.{common_steps}
use Rattle.rules.specs.Settings.{legal_of}
use Rattle.rules.proofs.Transfers.{plain_size, fit_unmarked}
use Rattle.rules.proofs.settings.is_legal.Goals as goal

pub is_transfer_fit-requires-clause-size : goal.is_transfer_fit-requires-clause-size
is_transfer_fit-requires-clause-size c = grind (arith, common_steps, plain_size)

pub returns-then-marked : goal.returns-then-marked
unfolding legal_of
returns-then-marked c = grind (arith, common_steps)

pub returns-else-marked : goal.returns-else-marked
unfolding legal_of
returns-else-marked c = grind (arith, common_steps, fit_unmarked)
