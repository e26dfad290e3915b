-- The refusals stand in their order; behind them the lines of the pages, and then those of the notepads.
use Rattle.compare.proofs.Text.{no_page_lem, first_beyond, second_beyond, lines}
use Rattle.compare.proofs.print.text.Goals as goal

pub returns-then-c-eq0 : goal.returns-then-c-eq0
returns-then-c-eq0 c = search no_page_lem

pub returns-then-not-is_clear_from : goal.returns-then-not-is_clear_from
returns-then-not-is_clear_from c = search first_beyond

pub returns-then-not-is_clear_from-2 : goal.returns-then-not-is_clear_from-2
returns-then-not-is_clear_from-2 c = search second_beyond

pub returns : goal.returns
returns c = search lines
