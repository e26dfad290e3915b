use Rattle.library.proofs.Bits.{ones_more, ones_all, ones_most}
use Rattle.library.proofs.index.count_bits.Goals as goal

pub loop-byte-preserved : goal.loop-byte-preserved
loop-byte-preserved c = (search ones_more, search (ones_most, c.type_inv.index))

pub returns-clause-count : goal.returns-clause-count
returns-clause-count c = search ones_all
