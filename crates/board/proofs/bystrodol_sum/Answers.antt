-- The service's definition is what `bytes::sum` ensures.
use Rattle.protocol.specs.Services.{sum_service}
use Rattle.board.proofs.bystrodol_sum.Goals as goal

pub returns : goal.returns
unfolding sum_service
returns c = c.sum.ensures
