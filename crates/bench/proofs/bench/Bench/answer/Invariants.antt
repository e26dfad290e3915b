-- What is left of the piece gives the whole, and each call but the last takes or drops a byte, so that the loop ends.
use Rattle.std.proofs.Common.{◌+◌, ◌*◌, length}
use Rattle.bench.specs.Bench.{line_at}
use Rattle.bench.proofs.Calls.{Offering}
use Rattle.bench.proofs.bench.Bench.answer.Given as goal

abbrev pub invariant-loop-lengths : goal.invariant-loop-lengths
invariant-loop-lengths g l =
    Offering (line_at l.fn.self) l.fn.piece (g.W.Write.contents l.fn.output) (line_at l.self) l.rest (g.W.Write.contents l.output)

abbrev pub decreases-loop-lengths : goal.decreases-loop-lengths
decreases-loop-lengths g l = 2 * length l.rest + l.self.line.receiver.count
