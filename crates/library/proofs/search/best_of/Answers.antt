use Rattle.std.proofs.Common.{arith}
use Rattle.library.proofs.Best.{none_yet, not_there, no_better, better, risen, not_risen}
use Rattle.library.proofs.search.best_of.Goals as goal
use Rattle.library.proofs.search.best_of.Goals.{then-least-score+then-bit_at, else-least-score, else-least-score-via-then-least-score+else-bit_at, else-least-score-via-else-least-score}

pub loop-p-init : goal.loop-p-init
loop-p-init c = search none_yet

pub overflow_add-least : goal.overflow_add-least
overflow_add-least c = let k = (c.type_inv.scores c.loop-p.p).fits in record { fits = omega arith }

pub loop-p-preserved : goal.loop-p-preserved
loop-p-preserved c =
    elim c.if-least-score.branch [ then-least-score+then-bit_at w ↦ search (better, c.type_inv.scores) | else-least-score w ↦ elim w.else-least-score.branch [ else-least-score-via-then-least-score+else-bit_at w' ↦ search not_there | else-least-score-via-else-least-score w' ↦ search no_better ] ]

pub returns-then-from-least : goal.returns-then-from-least
returns-then-from-least c = search risen

pub returns-else-from-least : goal.returns-else-from-least
returns-else-from-least c = search not_risen
