-- What the receiver's call ensures, its outcome in numbers.
use Rattle.protocol.specs.Call.{core}
use Rattle.board.proofs.bystrodol_receive.Goals as goal

pub returns : goal.returns
unfolding core
returns c =
    let w = c.write_back.ensures in
    let e = c.into.ensures in
    rw (e, w.record, w.lengths) c.receive-outcome.ensures
