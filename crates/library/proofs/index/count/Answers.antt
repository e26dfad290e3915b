-- Where the index has the length that is asked for, its set bits are counted; of another there is no count.
use Rattle.std.proofs.Common.{arith}
use Rattle.std.proofs.lemmas.Grind.{common_steps}
use Rattle.library.specs.Lent.{counted_of}
use Rattle.library.proofs.index.count.Goals as goal

pub returns-then-index-from : goal.returns-then-index-from
unfolding counted_of
returns-then-index-from c = grind (arith, common_steps)

pub returns-else-index-from : goal.returns-else-index-from
unfolding counted_of
returns-else-index-from c = grind (arith, common_steps)
