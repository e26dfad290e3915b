-- One library after the other, then their capacities, then the report; the first that is not right answers.
use borrow.Author.Rules.{rules}
use Rattle.wire.proofs.Picks.{picks}
use Rattle.protocol.specs.Call.{core}
use Rattle.upkeep.specs.Compare.{fits_two}
use Rattle.upkeep.proofs.compare.are_fit.Goals as goal
use Rattle.upkeep.proofs.compare.are_fit.Goals.{then-is_fit, else-is_fit, then-is_fit-2, else-is_fit-2}

pub returns-then-pages-two : goal.returns-then-pages-two
unfolding fits_two core
returns-then-pages-two c =
    elim c.if-is_fit-2.branch [
      | then-is_fit-2 w ↦ elim c.if-is_fit.branch [ then-is_fit v ↦ search (picks, rules) | else-is_fit v ↦ search (picks, rules) ]
      | else-is_fit-2 w ↦ search (picks, rules)
    ]

pub returns-else-pages-two : goal.returns-else-pages-two
unfolding fits_two core
returns-else-pages-two c =
    elim c.if-is_fit-2.branch [
      | then-is_fit-2 w ↦ elim c.if-is_fit.branch [ then-is_fit v ↦ search (picks, rules) | else-is_fit v ↦ search (picks, rules) ]
      | else-is_fit-2 w ↦ elim c.if-is_fit.branch [ then-is_fit v ↦ search (picks, rules) | else-is_fit v ↦ search (picks, rules) ]
    ]
