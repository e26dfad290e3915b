-- A code of 0 puts no line; any other puts one behind those that are there.
use Rattle.compare.proofs.Lines.{none_put, put_skip, put_one}
use Rattle.compare.proofs.print.put_lines.Goals as goal
use Rattle.compare.proofs.print.put_lines.Goals.{then-code-ne0, else-code-ne0}

pub loop-page-init : goal.loop-page-init
loop-page-init c = search none_put

pub loop-page-preserved : goal.loop-page-preserved
loop-page-preserved c =
    elim c.if-code-ne0.branch [
      | then-code-ne0 w ↦ rw w.text-is (search put_one)
      | else-code-ne0 w ↦ rw w.text-is (search put_skip)
    ]
