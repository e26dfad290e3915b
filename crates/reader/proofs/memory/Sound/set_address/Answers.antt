-- The address is these four bytes; legal settings stay so.
use mathlib.Core.Path.{refl}
use Rattle.protocol.specs.Tests.{verdict}
use Rattle.protocol.specs.Reader.{with_address}
use Rattle.protocol.specs.Table.{apply, rule}
use Rattle.reader.proofs.Rows.{did_parts}
use Rattle.reader.proofs.Settled.{address_legal}
use Rattle.reader.proofs.memory.Sound.set_address.Goals as goal

pub invariant_of-self : goal.invariant_of-self
invariant_of-self c = search address_legal

pub returns-clause-obeyed : goal.returns-clause-obeyed
unfolding rule verdict apply with_address
returns-clause-obeyed c =
    let s = c.args.self.now in
    did_parts s _ s.templates.now s.index.now s.notepad.now s.buffer1.now s.buffer2.now _ _ refl (rw (c.with_address-self.ensures) refl)
