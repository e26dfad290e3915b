-- The refusals stand in their order. What passes them are two libraries of equal capacity, whose pages and notepad pages are said in turn.
use borrow.Author.Rules.{rules}
use Rattle.upkeep.proofs.Comparing.{fit_lengths_lem, shelved, unfit, first_beyond, second_beyond, reported}
use Rattle.upkeep.proofs.compare.compare.Goals as goal

pub returns-then-not-are_fit : goal.returns-then-not-are_fit
returns-then-not-are_fit c = search unfit

pub returns-then-not-is_clear_from : goal.returns-then-not-is_clear_from
returns-then-not-is_clear_from c = search first_beyond

pub returns-then-not-is_clear_from-2 : goal.returns-then-not-is_clear_from-2
returns-then-not-is_clear_from-2 c = search second_beyond

pub compare_pages-requires : goal.compare_pages-requires
compare_pages-requires c = shelved _ _ _ _ _ _ _ _ c.are_fit.ensures c.if-not-are_fit.false

pub slice_bounds-note_codes-count : goal.slice_bounds-note_codes-count
slice_bounds-note_codes-count c = let l = fit_lengths_lem _ _ _ _ _ _ _ _ c.are_fit.ensures c.if-not-are_fit.false in search rules

pub slice_bounds-note_codes-start : goal.slice_bounds-note_codes-start
slice_bounds-note_codes-start c = let l = fit_lengths_lem _ _ _ _ _ _ _ _ c.are_fit.ensures c.if-not-are_fit.false in search rules

pub returns : goal.returns
returns c = search reported
