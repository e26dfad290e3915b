-- The reader's line switch was refused and the held bytes stay, or it was made and none is held.
use mathlib.Core.Path.{refl}
use Rattle.protocol.specs.Codes.{refusal_number}
use Rattle.reader.proofs.Rows.{is_err}
use Rattle.receiver.proofs.Calls.{refuses, empties, leaves}
use Rattle.receiver.proofs.line_switch.Goals as goal

pub returns-in_err-settings : goal.returns-in_err-settings
returns-in_err-settings c =
    let x = c.args.line in
    let e = rw (c.in_err-settings.was) at c.line_switch.ensures in
    let k = c.in_err-settings.field-0.0 in
    rw (is_err c.from_residual.result k c.from_residual.ensures.1) (leaves x.receiver x.settings x.settings c.args.buffer1.now c.args.buffer2.now _ _ (refusal_number k) e (refuses k))

pub returns : goal.returns
returns c =
    let x = c.args.line in
    let e = rw (c.in_ok-settings.was) at c.line_switch.ensures in
    empties x.receiver x.settings c.in_ok-settings.settings c.args.buffer1.now c.args.buffer2.now _ _ 0 e c.empty.result c.empty.ensures refl
