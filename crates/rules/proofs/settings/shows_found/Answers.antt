-- The found mark, masked by the lock.
use Rattle.std.proofs.Common.{arith}
use Rattle.std.proofs.lemmas.Grind.{common_steps}
use Rattle.protocol.specs.Table.{public_of}
use Rattle.rules.specs.Settings.{shown_of}
use Rattle.rules.proofs.settings.shows_found.Goals as goal

pub returns : goal.returns
unfolding shown_of public_of
returns c = grind (arith, common_steps)
