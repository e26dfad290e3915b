-- What is gathered stands at the front; the part behind it is lent and comes back zero.
use Rattle.upkeep.proofs.Gathering.{tidied}
use Rattle.upkeep.proofs.gaps.close_library.Goals as goal

pub returns : goal.returns
returns c = let z = c.fill.ensures.after (λ y e. e) in search tidied
