-- The line starts at rest on nothing, and each piece is answered from where the ones before it left it.
use Rattle.std.proofs.Common.{rules}
use Rattle.bench.proofs.Calls.{starts, talks_on}
use Rattle.bench.proofs.talk.Goals as goal

pub loop-init : goal.loop-init
loop-init g c = starts _ _ _ c.new-bench.ensures.started

pub loop-preserved : goal.loop-preserved
loop-preserved g c = talks_on _ _ _ _ _ _ _ _ _ c.loop.invariant (search rules) c.in_ok-answer.ensures.drained c.in_ok-answer.ensures.written
