-- The buffer is zeroed, its mark clear, and its origin none; legal settings stay so.
use mathlib.Core.Path.{◌≡◌, ap, ◌∙◌}
use lib.ListN.{length}
use borrow.Author.Rules.{rules}
use Rattle.protocol.specs.Bytes.{zeros}
use Rattle.protocol.proofs.Laws.Marks.{fit_mark_lem}
use Rattle.reader.proofs.ByNumber.{held_legal, first_emptied, second_emptied}
use Rattle.reader.proofs.memory.Sound.empty_buffer.Goals as goal
use mathlib.Core.Bool.{false}

pub invariant_of-self : goal.invariant_of-self
invariant_of-self c = let f = fit_mark_lem false in search held_legal

pub returns-in-First-clause-emptied : goal.returns-in-First-clause-emptied
returns-in-First-clause-emptied c =
    let s = c.args.self.now in
    let e = rw (c.in-First.is) at c.hold-self.ensures in
    let z : c.fill.new.self ≡ zeros (length s.buffer1.now) = search rules in
    rw (c.in-First.is) (first_emptied s.settings.now c.hold-self.result s.legal s.templates.now s.index.now s.notepad.now s.buffer1.now s.buffer2.now c.fill.new.self (z ∙ ap zeros s.first) e)

pub returns-in-Second-clause-emptied : goal.returns-in-Second-clause-emptied
returns-in-Second-clause-emptied c =
    let s = c.args.self.now in
    let e = rw (c.in-Second.is) at c.hold-self.ensures in
    let z : c.fill-in-Second.new.self ≡ zeros (length s.buffer2.now) = search rules in
    rw (c.in-Second.is) (second_emptied s.settings.now c.hold-self.result s.legal s.templates.now s.index.now s.notepad.now s.buffer1.now s.buffer2.now c.fill-in-Second.new.self (z ∙ ap zeros s.second) e)
