-- The mask sets the page's bit and keeps the others; where the index has no byte for the page, nothing is written, and nothing is to be set.
use Rattle.library.proofs.Bits.{set_mask, not_set}
use Rattle.library.proofs.index.set_bit.Goals as goal

pub returns-then-p-index : goal.returns-then-p-index
returns-then-p-index c = search set_mask

pub returns-else-p-index : goal.returns-else-p-index
returns-else-p-index c = search not_set
