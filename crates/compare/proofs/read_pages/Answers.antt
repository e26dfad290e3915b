-- The code of one page more.
use Rattle.std.proofs.Common.{rules}
use Rattle.compare.proofs.Reading.{one_read, unread, at_end}
use Rattle.compare.proofs.read_pages.Goals as goal

pub loop-p-preserved : goal.loop-p-preserved
loop-p-preserved g c = one_read _ _ _ _ _ _ c.loop-p.invariant c.loop-p-test.true (search rules) (search rules) _ c.page_code.ensures

pub returns-in_err-fill_both : goal.returns-in_err-fill_both
returns-in_err-fill_both g c = unread _ _ _ _ c.loop-p.invariant _ c.from_residual.ensures

pub returns-in_err-last : goal.returns-in_err-last
returns-in_err-last g c = unread _ _ _ _ c.loop-p.invariant _ c.from_residual-in_err-last.ensures

pub returns : goal.returns
returns g c = at_end _ _ _ _ c.loop-p.invariant c.loop-p-test.false _ _ c.then_some.ensures
