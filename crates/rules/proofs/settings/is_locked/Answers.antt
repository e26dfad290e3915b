-- A zero password locks nothing; any other locks while the verified mark is clear.
use Rattle.protocol.specs.Bytes.{four}
use Rattle.protocol.specs.Reader.{locked, keyed}
use Rattle.std.proofs.Common.{arith}
use Rattle.std.proofs.lemmas.Bool.Decides.{nat_tests}
use Rattle.std.proofs.lemmas.Grind.{common_steps}
use Rattle.rules.proofs.settings.is_locked.Goals as goal

pub returns-then-not-is_same : goal.returns-then-not-is_same
unfolding locked keyed four
returns-then-not-is_same c = grind (arith, nat_tests, common_steps)

pub returns-else-not-is_same : goal.returns-else-not-is_same
unfolding locked keyed four
returns-else-not-is_same c = grind (arith, nat_tests, common_steps)
