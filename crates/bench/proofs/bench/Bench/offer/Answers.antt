-- The call is the receiver's; what it takes lies in the piece, what it writes in the room, and it brings the end nearer.
use Rattle.std.proofs.Common.{rules}
use Rattle.protocol.specs.Numbers.{holds, longest}
use Rattle.protocol.specs.Call.{core}
use Rattle.bench.proofs.Calls.{offer_within}
use Rattle.bench.proofs.bench.Bench.offer.Goals as goal

pub returns : goal.returns
unfolding core holds longest
returns c =
    let w = c.write_back.ensures in
    let f = offer_within _ _ _ _ _ _ _ _ _ _ _ _ _ _ _ _ (search rules) (search rules) (search rules) (search rules) c.receive-outcome.ensures in
    rw (w.record, w.lengths) f
