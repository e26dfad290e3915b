-- Each way out has its code.
use borrow.Author.Rules.{rules}
use Rattle.offline.specs.Compare.{page_code}
use Rattle.upkeep.proofs.Comparing.{both_there}
use Rattle.upkeep.proofs.compare.page_code.Goals as goal
use Rattle.upkeep.proofs.compare.page_code.Goals.{in-true-true, in-true-false, in-false-true, in-false-false}

pub returns : goal.returns
unfolding page_code
returns c =
    elim c.if-is_stored.branch [
      | in-true-true w ↦ search (both_there, w.in-true-true.ensures, w.in-true-true.ensures')
      | in-true-false w ↦ search rules
      | in-false-true w ↦ search rules
      | in-false-false w ↦ search rules
    ]
