-- No open transfer leaves all as it is; the buffer of an open one is emptied, and there is no transfer then.
use mathlib.Core.Path.{refl, ap, ◌∙◌}
use lib.Dec.{eqb}
use Rattle.protocol.specs.Reader.{closed, Reader, reader}
use Rattle.protocol.specs.Reader as readers
use Rattle.protocol.specs.Records.{marks_of}
use Rattle.protocol.proofs.Laws.Marks.{none_beside}
use Rattle.reader.specs.Memory.{reader_in}
use Rattle.reader.proofs.ByNumber.{moved_reader}
use Rattle.reader.proofs.Transfers.{none_open, open_into, none_ended, one_ended}
use Rattle.reader.proofs.memory.Sound.end_transfer.Goals as goal

pub returns-in-Ok-clause-rested : goal.returns-in-Ok-clause-rested
returns-in-Ok-clause-rested c =
    let x = c.args.self.now in
    let f = c.in-Ok.ensures in
    let e = rw (← f.0) at c.empty_buffer.ensures.emptied in
    let o = c.empty_buffer.new.self in
    let s = o.settings.now in
    moved_reader 0 0 closed s c.moved-self.result o.templates.now o.index.now o.notepad.now o.buffer1.now o.buffer2.now c.moved-self.ensures (none_beside (marks_of s) o.legal.marks 0 0 refl refl)
    ∙ ap (λ (z : Reader). reader (readers.with_transfer closed z.plain) z.guarded) e
    ∙ one_ended (reader_in x) (eqb x.settings.now.transfer 2) x.settings.now.got (open_into x.settings.now x.legal f.1)

pub returns-in_default-clause-rested : goal.returns-in_default-clause-rested
returns-in_default-clause-rested c =
    let x = c.args.self.now in
    none_ended (reader_in x) (none_open x.settings.now x.legal (c.in_default.ensures.1))
