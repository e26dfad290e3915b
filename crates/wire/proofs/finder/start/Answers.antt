-- The first window with the two marks is where the first start is.
use Rattle.std.proofs.Common.{rules}
use Rattle.wire.proofs.Starts.{start_by}
use Rattle.wire.proofs.finder.start.Goals as goal

pub returns : goal.returns
returns c = start_by _ _ (λ k e l. search rules) (λ i e. search rules) (λ i k e l. search rules)
