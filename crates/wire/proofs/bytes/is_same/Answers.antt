use Rattle.std.proofs.Common.{rules}
use Rattle.wire.proofs.Sums.{same_four}
use Rattle.wire.proofs.bytes.is_same.Goals as goal

pub returns : goal.returns
returns c = search (same_four, rules)
