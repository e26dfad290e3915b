-- A stored page's score reaches the least that is better just where the definition takes the page, and then the least is one more than that score.
use Rattle.library.proofs.Best.{Searched}
use Rattle.library.proofs.search.best_of.Given as goal

abbrev pub invariant-loop-p : goal.invariant-loop-p
invariant-loop-p l = Searched l.index l.scores l.threshold l.start l.end l.least l.page l.p
