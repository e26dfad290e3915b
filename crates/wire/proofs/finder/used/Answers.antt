-- What is found in a run lies in it, so that nothing wraps.
use Rattle.std.proofs.Common.{◌≡◌, ℕ, ◌%◌, ◌<◌, List, length, ◌∙◌, arith}
use Rattle.protocol.specs.declared.Found.{Found}
use Rattle.protocol.specs.Numbers.{wraps_at}
use Rattle.protocol.specs.Finder.{find_of, used_of}
use Rattle.protocol.specs.Services.{used_service}
use Rattle.protocol.proofs.Laws.Finder.{used_in}
use Rattle.wire.proofs.finder.used.Goals as goal

by_found : (s : List ℕ) (f : Found) (r : ℕ) → f ≡ find_of s → r ≡ used_of f % wraps_at → length s < wraps_at → r ≡ used_service s
unfolding used_service
by_found s f r e g h = let l = used_in s in g ∙ rw e (omega arith)

pub returns : goal.returns
returns c = search (by_found, arith)
