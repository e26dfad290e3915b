-- What the call ensures, its outcome in numbers.
use Rattle.protocol.specs.Call.{core}
use Rattle.step.proofs.bystrodol_step.Goals as goal

pub returns : goal.returns
unfolding core
returns c =
    let w = c.write_back.ensures in
    let e = c.into.ensures in
    rw (e, w.record, w.lengths) c.step-outcome.ensures
