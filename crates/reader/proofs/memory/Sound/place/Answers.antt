-- The bytes lie in the open transfer's buffer; the last closes it and sets the mark, and any other moves it on.
use mathlib.Core.Path.{◌≡◌, refl}
use mathlib.Core.Bool.{true}
use Prim.Native.Nat.{◌+◌, ◌≤◌}
use native.Mathlib.Omega.{arith}
use lib.ListN.{length}
use Rattle.protocol.specs.Table.{is_buffer}
use Rattle.protocol.specs.Step.{silence}
use Rattle.reader.specs.declared.buffers.Buffer.{Buffer}
use Rattle.reader.specs.declared.buffers.Buffer.TheVariants.{First, Second}
use Rattle.reader.specs.Buffers.{buffer_number, changed}
use Rattle.reader.proofs.Transfers.{placed_legal, placed_reader, part_copied}
use Rattle.reader.proofs.memory.Sound.place.Goals as goal

named : (b : Buffer) → is_buffer (buffer_number b) ≡ true
unfolding is_buffer
named First = refl
named Second = refl

pub invariant_of-self : goal.invariant_of-self
invariant_of-self c = let l = c.args.self.now.legal in let e = c.requires.opened in let n = named c.args.buffer in search placed_legal

pub returns-in-First-clause-placed : goal.returns-in-First-clause-placed
unfolding silence changed is_buffer
returns-in-First-clause-placed c =
    let s = c.args.self.now in
    let g = c.from-at.ensures in
    let w = c.requires.room in
    let f = s.first in
    let h : c.from-at.result + length c.args.content.now ≤ length s.buffer1.now = omega arith in
    let z = part_copied _ _ _ s.buffer1.now _ h c.put.ensures g in
    let q = rw (c.in-First.is) at c.moved_on-self.ensures in
    let e = rw (c.in-First.is) at c.requires.opened in
    rw (c.in-First.is)
    (placed_reader 1 _ s.settings.now s.legal e refl c.args.last _ s.templates.now s.index.now s.notepad.now s.buffer1.now s.buffer2.now _ _ c.args.content.now q (rw (c.from-at.ensures) refl) c.requires.long (rw z refl))

pub returns-in-Second-clause-placed : goal.returns-in-Second-clause-placed
unfolding silence changed is_buffer
returns-in-Second-clause-placed c =
    let s = c.args.self.now in
    let g = c.from-at.ensures in
    let w = c.requires.room in
    let f = s.second in
    let h : c.from-at.result + length c.args.content.now ≤ length s.buffer2.now = omega arith in
    let z = part_copied _ _ _ s.buffer2.now _ h c.put-in-Second.ensures g in
    let q = rw (c.in-Second.is) at c.moved_on-self.ensures in
    let e = rw (c.in-Second.is) at c.requires.opened in
    rw (c.in-Second.is)
    (placed_reader 2 _ s.settings.now s.legal e refl c.args.last _ s.templates.now s.index.now s.notepad.now s.buffer1.now s.buffer2.now _ _ c.args.content.now q (rw (c.from-at.ensures) refl) c.requires.long (rw z refl))
