-- The buffer has the page's bytes, its mark is set, and the page is its origin; legal settings stay so.
use mathlib.Core.Path.{◌∙◌}
use mathlib.Core.Bool.{true}
use native.Mathlib.Omega.{arith}
use Rattle.protocol.proofs.Laws.Marks.{fit_mark_lem}
use Rattle.reader.proofs.Laws.{reads}
use Rattle.reader.proofs.ByNumber.{held_legal, first_loaded, second_loaded}
use Rattle.reader.proofs.memory.Sound.load_buffer.Goals as goal

pub invariant_of-self : goal.invariant_of-self
invariant_of-self c = let f = fit_mark_lem true in search held_legal

pub returns-in-First-clause-loaded : goal.returns-in-First-clause-loaded
returns-in-First-clause-loaded c =
    let s = c.args.self.now in
    let e = rw (c.in-First.is) at c.hold-self.ensures in
    let h = s.few in
    let k = c.requires in
    let z = (rw c.from-place.ensures at c.read_page.ensures) ∙ reads c.args.page s.templates.now s.buffer1.now k s.first in
    rw (c.in-First.is) (first_loaded s.settings.now c.hold-self.result s.legal c.args.page (omega arith) s.templates.now s.index.now s.notepad.now s.buffer1.now s.buffer2.now c.read_page.new.dst z e)

pub returns-in-Second-clause-loaded : goal.returns-in-Second-clause-loaded
returns-in-Second-clause-loaded c =
    let s = c.args.self.now in
    let e = rw (c.in-Second.is) at c.hold-self.ensures in
    let h = s.few in
    let k = c.requires in
    let z = (rw c.from-place.ensures at c.read_page-in-Second.ensures) ∙ reads c.args.page s.templates.now s.buffer2.now k s.second in
    rw (c.in-Second.is) (second_loaded s.settings.now c.hold-self.result s.legal c.args.page (omega arith) s.templates.now s.index.now s.notepad.now s.buffer1.now s.buffer2.now c.read_page-in-Second.new.dst z e)
