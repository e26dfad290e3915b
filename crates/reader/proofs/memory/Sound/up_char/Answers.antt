-- A number that names no buffer, a buffer that is not filled, and one that is.
use mathlib.Core.Path.{refl}
use Rattle.protocol.specs.declared.codes.Code.TheVariants.{BadPacket, NothingToSend}
use Rattle.protocol.specs.Tests.{verdict}
use Rattle.protocol.specs.Table.{rule, apply}
use Rattle.protocol.specs.Reader.{buffer_of}
use Rattle.protocol.specs.Step.{carry, carry_as}
use Rattle.reader.proofs.Laws.{chosen_filled, chosen_bytes}
use Rattle.reader.proofs.Rows.{is_err, refused}
use Rattle.reader.proofs.memory.Sound.up_char.Goals as goal

pub returns-in_err-buffer : goal.returns-in_err-buffer
unfolding rule verdict
returns-in_err-buffer c =
    let f = c.in_err-buffer.ensures in
    rw (is_err c.from_residual.result c.in_err-buffer.field-0.0 c.from_residual.ensures.1, f.0)
    (refused c.args.self.now BadPacket _ _ refl (rw (f.1) refl))

pub returns-then-not-is_filled : goal.returns-then-not-is_filled
unfolding rule verdict buffer_of
returns-then-not-is_filled c =
    let f = c.in_ok-buffer.ensures in
    let h = c.if-not-is_filled.ensures in
    refused c.args.self.now NothingToSend _ _ refl (rw (f.1, chosen_filled, f.0, ← h) refl)

pub returns : goal.returns
unfolding rule verdict buffer_of carry carry_as apply
returns c =
    let f = c.in_ok-buffer.ensures in
    let h = c.if-not-is_filled.ensures in
    rw (f.1, chosen_filled, f.0, ← h, chosen_bytes) refl
