-- Each code has twice the data bytes of the one before it, which is a shift; a code above the highest is shifted as the highest.
use Rattle.protocol.specs.Numbers.{highest_size}
use Rattle.rules.proofs.Sizes.{size_counted}
use Rattle.rules.proofs.settings.size_of.Goals as goal

pub returns : goal.returns
unfolding highest_size
returns c = search size_counted
