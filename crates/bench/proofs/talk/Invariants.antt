-- What was taken so far has been answered, and the line is at rest on it.
use Rattle.bench.specs.Bench.{line_at}
use Rattle.bench.proofs.Calls.{Talking}
use Rattle.bench.proofs.talk.Given as goal

abbrev pub invariant-loop : goal.invariant-loop
invariant-loop g l =
    Talking (g.R.Read.remaining l.fn.input) (g.R.Read.remaining l.input) (g.W.Write.contents l.fn.output) (g.W.Write.contents l.output) (line_at l.bench)
