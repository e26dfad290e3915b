-- Each length is compared with the one that it must be; the first that differs answers.
use borrow.Author.Rules.{rules}
use Rattle.wire.proofs.Picks.{picks}
use Rattle.protocol.specs.Tests.{within}
use Rattle.protocol.specs.Call.{core}
use Rattle.upkeep.specs.Lent.{fits_pages}
use Rattle.upkeep.proofs.lent.is_fit.Goals as goal
use Rattle.upkeep.proofs.lent.is_fit.Goals.{then-t-pages, else-t-pages, then-pages-ge1, else-pages-ge1, then-pages-le-MOST_PAGES, else-pages-le-MOST_PAGES}

pub returns-then-i-eq-INDEX : goal.returns-then-i-eq-INDEX
unfolding fits_pages within core
returns-then-i-eq-INDEX c = search (picks, rules)

pub returns-else-i-eq-INDEX : goal.returns-else-i-eq-INDEX
unfolding fits_pages within core
returns-else-i-eq-INDEX c =
    elim c.if-pages-le-MOST_PAGES.branch [
      | then-pages-le-MOST_PAGES w ↦ search (picks, rules)
      | else-pages-le-MOST_PAGES w ↦
          elim c.if-pages-ge1.branch [
            | then-pages-ge1 v ↦ search (picks, rules)
            | else-pages-ge1 v ↦ elim c.if-t-pages.branch [ then-t-pages u ↦ search (picks, rules) | else-t-pages u ↦ search (picks, rules) ]
          ]
    ]
