-- The page gets the buffer and its bit, and is the buffer's origin.
use mathlib.Core.Path.{◌∙◌}
use native.Mathlib.Omega.{arith}
use Rattle.reader.specs.declared.buffers.Buffer.TheVariants.{First, Second}
use Rattle.reader.specs.Buffers.{buffer_number}
use Rattle.reader.proofs.Laws.{writes}
use Rattle.reader.proofs.Library.{stored_reader}
use Rattle.reader.proofs.memory.Sound.store_buffer.Goals as goal

pub returns-in-First-clause-stored : goal.returns-in-First-clause-stored
returns-in-First-clause-stored c =
    let s = c.args.self.now in
    let k = c.requires.there in
    let m = s.few in
    let o = rw c.from-place.ensures at (c.write_page.ensures ∙ writes c.from-place.result s.buffer1.now s.templates.now (rw (c.from-place.ensures) k) s.first) in
    rw (c.in-First.is) (stored_reader (buffer_number First) c.args.page s.settings.now c.hold-self.result s.templates.now s.index.now s.notepad.now s.buffer1.now s.buffer2.now c.write_page.new.templates c.set_bit.new.index
    (rw (c.in-First.is) at c.hold-self.ensures) s.legal (omega arith) (rw (c.in-First.is) at c.requires.filled) o (rw c.from-place.ensures at c.set_bit.ensures))

pub returns-in-Second-clause-stored : goal.returns-in-Second-clause-stored
returns-in-Second-clause-stored c =
    let s = c.args.self.now in
    let k = c.requires.there in
    let m = s.few in
    let o = rw c.from-place.ensures at (c.write_page-in-Second.ensures ∙ writes c.from-place.result s.buffer2.now s.templates.now (rw (c.from-place.ensures) k) s.second) in
    rw (c.in-Second.is) (stored_reader (buffer_number Second) c.args.page s.settings.now c.hold-self.result s.templates.now s.index.now s.notepad.now s.buffer1.now s.buffer2.now c.write_page-in-Second.new.templates c.set_bit-in-Second.new.index
    (rw (c.in-Second.is) at c.hold-self.ensures) s.legal (omega arith) (rw (c.in-Second.is) at c.requires.filled) o (rw c.from-place.ensures at c.set_bit-in-Second.ensures))
