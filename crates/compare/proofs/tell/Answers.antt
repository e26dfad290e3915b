-- The text of what was read is what is printed of two files that have those bytes.
use Rattle.std.proofs.Common.{rules}
use Rattle.compare.proofs.Reading.{printed}
use Rattle.compare.proofs.tell.Goals as goal

pub returns : goal.returns
returns g c = search (rules, printed)
