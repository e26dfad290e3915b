-- The last call leaves what the drain of the whole leaves; each other brings it nearer.
use Rattle.std.proofs.Common.{rules, refl}
use Rattle.protocol.specs.Call.{reply_of}
use Rattle.bench.proofs.Calls.{again, over, written}
use Rattle.bench.proofs.bench.Bench.answer.Goals as goal

pub returns-then-is_last-clause-drained : goal.returns-then-is_last-clause-drained
returns-then-is_last-clause-drained g c =
    let f = rw (c.in_ok-lengths.was) at c.offer.ensures in
    over _ _ _ _ _ _ c.loop-lengths.invariant _ _ f refl (search rules)

pub returns-then-is_last-clause-written : goal.returns-then-is_last-clause-written
unfolding reply_of
returns-then-is_last-clause-written g c =
    let f = rw (c.in_ok-lengths.was) at c.offer.ensures in
    written _ _ _ _ _ _ c.loop-lengths.invariant _ _ f refl (search rules) _ (search rules)

pub loop-lengths-preserved : goal.loop-lengths-preserved
unfolding reply_of
loop-lengths-preserved g c =
    let f = rw (c.in_ok-lengths.was) at c.offer.ensures in
    again _ _ _ _ _ _ c.loop-lengths.invariant _ _ f refl _ (search rules)
