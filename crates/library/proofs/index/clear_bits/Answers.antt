use Rattle.library.proofs.Bits.{clear_more, clear_none}
use Rattle.library.proofs.index.clear_bits.Goals as goal

pub loop-q-preserved : goal.loop-q-preserved
loop-q-preserved c = search clear_more

pub returns : goal.returns
returns c = search clear_none
