-- The bits of the byte behind the whole ones: 2 ^ n - 1 is the first n of them.
use Rattle.upkeep.proofs.FirstBits.{bits_set}
use Rattle.upkeep.proofs.gaps.set_first.Goals as goal

pub returns : goal.returns
returns c = bits_set _ _ _ _ c.requires (c.fill.ensures.after (λ y e. e)) (c.fill-2.ensures.after (λ y e. e))
