-- A number that names no buffer; otherwise its buffer is emptied, and a transfer into it opened.
use mathlib.Core.Path.{refl, ap, ◌∙◌}
use mathlib.Core.List.{[]}
use lib.Dec.{eqb}
use Rattle.protocol.specs.declared.codes.Code.TheVariants.{BadPacket}
use Rattle.protocol.specs.Numbers.{done}
use Rattle.protocol.specs.Tests.{verdict}
use Rattle.protocol.specs.Bytes.{follow}
use Rattle.protocol.specs.Table.{rule, apply}
use Rattle.protocol.specs.Reader.{opened, Reader, reader}
use Rattle.protocol.specs.Reader as readers
use Rattle.protocol.specs.Records.{marks_of}
use Rattle.protocol.specs.Data.{acknowledge}
use Rattle.protocol.specs.Step.{carry, carry_as}
use Rattle.protocol.proofs.Laws.Marks.{into_beside}
use Rattle.reader.proofs.ByNumber.{moved_reader}
use Rattle.reader.proofs.Rows.{is_err, refused}
use Rattle.reader.proofs.memory.Sound.down_char.Goals as goal

pub returns-in_err-buffer-clause-obeyed : goal.returns-in_err-buffer-clause-obeyed
unfolding rule verdict
returns-in_err-buffer-clause-obeyed c =
    let f = c.in_err-buffer.ensures in
    rw (is_err c.from_residual.result c.in_err-buffer.field-0.0 c.from_residual.ensures.1, f.0)
    (refused c.args.self.now BadPacket _ _ refl (rw (f.1) refl))

pub returns-clause-obeyed : goal.returns-clause-obeyed
unfolding rule verdict carry carry_as apply follow
returns-clause-obeyed c =
    let f = c.in_ok-buffer.ensures in
    let n = c.args.number in
    let e = rw (← f.0) at c.empty_buffer.ensures.emptied in
    let o = c.empty_buffer.new.self in
    let s = o.settings.now in
    let m = moved_reader n 0 (opened (eqb n 2) 0) s c.moved-self.result o.templates.now o.index.now o.notepad.now o.buffer1.now o.buffer2.now c.moved-self.ensures (into_beside (marks_of s) o.legal.marks n 0 (f.1)) in
    rw (f.1) (ap (λ (z : Reader). record { reply = acknowledge z.plain.address done []; after = z }) (m ∙ ap (λ (z : Reader). reader (readers.with_transfer (opened (eqb n 2) 0) z.plain) z.guarded) e))
