-- The mask clears the page's bit and keeps the others; where the index has no byte for the page, no bit of it is set.
use Rattle.library.proofs.Bits.{clear_mask, not_cleared}
use Rattle.library.proofs.index.clear_bit.Goals as goal

pub returns-then-p-index : goal.returns-then-p-index
returns-then-p-index c = search clear_mask

pub returns-else-p-index : goal.returns-else-p-index
returns-else-p-index c = search not_cleared
