-- The pages first, by the index as it was; then the bits that are no page's, if one of them is set.
use Rattle.upkeep.proofs.Salvaging.{refused, reporting, clear_salvaged, stray_salvaged, few_fit, few_pages}
use Rattle.upkeep.proofs.salvage.salvage.Goals as goal

pub returns-then-not-is_fit : goal.returns-then-not-is_fit
returns-then-not-is_fit c = search refused

pub salvage_pages-requires : goal.salvage_pages-requires
salvage_pages-requires c = search reporting

pub overflow_cast-c : goal.overflow_cast-c
overflow_cast-c c = search few_fit

pub overflow_sub-c : goal.overflow_sub-c
overflow_sub-c c = search few_pages

pub returns-then-not-is_clear_from : goal.returns-then-not-is_clear_from
returns-then-not-is_clear_from c = search stray_salvaged

pub returns-else-not-is_clear_from : goal.returns-else-not-is_clear_from
returns-else-not-is_clear_from c =
    clear_salvaged _ _ _ _ c.is_fit.ensures c.if-not-is_fit.false _ _ c.salvage_pages.ensures c.slice_known-2-1.given _ c.is_clear_from.ensures c.if-not-is_clear_from.false
