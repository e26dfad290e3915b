use Rattle.library.proofs.Parts.{zero_more, zero_none}
use Rattle.library.proofs.pages.zero_pages.Goals as goal

pub loop-p-preserved : goal.loop-p-preserved
loop-p-preserved c = search zero_more

pub returns : goal.returns
returns c = search zero_none
