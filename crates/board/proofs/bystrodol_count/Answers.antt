-- The service's definition is what `index::count` ensures at the reader's index length.
use Rattle.protocol.specs.Call.{core}
use Rattle.protocol.specs.Services.{count_service}
use Rattle.library.specs.Lent.{counted_of}
use Rattle.std.proofs.Common.{arith}
use Rattle.std.proofs.lemmas.Grind.{common_steps}
use Rattle.board.proofs.bystrodol_count.Goals as goal

pub returns : goal.returns
unfolding count_service core counted_of
returns c = grind (arith, common_steps)
