-- The lines of the codes so far stand behind the text.
use Rattle.std.proofs.Common.{length}
use Rattle.compare.proofs.Lines.{Putting}
use Rattle.compare.proofs.print.put_lines.Given as goal

abbrev pub invariant-loop-page : goal.invariant-loop-page
invariant-loop-page l = Putting l.letter l.codes (length l.codes) l.fn.text.items l.page l.text.items
