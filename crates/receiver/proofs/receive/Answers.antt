-- A count above what is held is refused by the lengths alone. Else the reader is called on all held bytes, and refused, or what it left is held.
use mathlib.Core.Path.{◌≡◌, refl, sym, ◌∙◌}
use lib.ListN.{length}
use borrow.Author.Rules.{rules}
use Rattle.protocol.specs.Numbers.{holds, longest}
use Rattle.protocol.specs.Receiver.{bytes_in, fitting, run_of}
use Rattle.protocol.specs.Call.{refused}
use Rattle.reader.specs.Memory.{reader_at, chip_at}
use Rattle.reader.proofs.Calls.{lengths_are}
use Rattle.reader.proofs.Rows.{is_err}
use Rattle.receiver.proofs.Cells.{cells_run, fits_many, rest_held}
use Rattle.receiver.proofs.Calls.{refuses, full, stops, goes, used_within}
use Rattle.receiver.proofs.receive.Goals as goal

pub returns-then-count-gt-HOLDS : goal.returns-then-count-gt-HOLDS
unfolding holds longest refused
returns-then-count-gt-HOLDS c =
    let a = c.args in
    let r = reader_at a.line.settings a.memory in
    full a.noted a.line.receiver r a.chip.scores.now a.chip.thresholds.now a.piece.now a.reply.now _ _ c.if-count-gt-HOLDS.true (lengths_are a.noted r.guarded (chip_at a.chip) ∙ sym c.has_fit_lengths-fit.ensures) c.full_refusal.ensures

pub returns-in_err-settings : goal.returns-in_err-settings
unfolding run_of bytes_in fitting holds longest
returns-in_err-settings c =
    let p = c.put.ensures in
    let k = c.in_err-settings.field-0.0 in
    let q = rw (c.in_err-settings.was) at c.step.ensures in
    let f = c.min-taken.ensures in
    let m = c.if-count-gt-HOLDS.false in
    let l : length c.args.line.receiver.held ≡ holds = search rules in
    rw (is_err c.from_residual.result k c.from_residual.ensures.1) (stops _ _ _ _ m _ (cells_run _ _ _ f _ l m _ p) _ q (refuses k))

pub overflow_sub-left : goal.overflow_sub-left
overflow_sub-left c =
    let q = rw (c.in_ok-settings.was) at c.step.ensures in
    used_within _ _ _ _ _ _ q

pub slice_bounds-put-count-2 : goal.slice_bounds-put-count-2
slice_bounds-put-count-2 c =
    let q = rw (c.in_ok-settings.was) at c.step.ensures in
    used_within _ _ _ _ _ _ q

pub slice_bounds-put-start : goal.slice_bounds-put-start
slice_bounds-put-start c =
    let q = rw (c.in_ok-settings.was) at c.step.ensures in
    used_within _ _ _ _ _ _ q

pub returns : goal.returns
unfolding run_of bytes_in fitting holds longest
returns c =
    let p = c.put.ensures in
    let q = rw (c.in_ok-settings.was) at c.step.ensures in
    let e = c.put-2.ensures in
    let f = c.min-taken.ensures in
    let m = c.if-count-gt-HOLDS.false in
    let l : length c.args.line.receiver.held ≡ holds = search rules in
    let u = used_within _ _ _ _ _ _ q in
    goes _ _ _ _ m _ (cells_run _ _ _ f _ l m _ p) _ q _ _ refl (fits_many _ _ _ f) (rest_held _ _ _ f _ l m _ p _ u _ e)
