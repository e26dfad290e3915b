-- The password is these four bytes, and the verified mark is clear; legal settings stay so.
use mathlib.Core.Path.{refl}
use mathlib.Core.Bool.{false}
use Rattle.protocol.specs.Tests.{verdict}
use Rattle.protocol.specs.Reader.{with_password}
use Rattle.protocol.specs.Table.{apply, rule}
use Rattle.protocol.proofs.Laws.Marks.{fit_mark_lem}
use Rattle.rules.proofs.Marks.{beside_marked}
use Rattle.reader.proofs.Rows.{did_parts}
use Rattle.reader.proofs.Settled.{password_legal}
use Rattle.reader.proofs.memory.Sound.set_password.Goals as goal

pub invariant_of-self : goal.invariant_of-self
invariant_of-self c = search password_legal

pub returns-clause-obeyed : goal.returns-clause-obeyed
unfolding rule verdict apply with_password
returns-clause-obeyed c =
    let s = c.args.self.now in
    did_parts s _ s.templates.now s.index.now s.notepad.now s.buffer1.now s.buffer2.now _ _ refl
    (rw (c.with_password-self.ensures, beside_marked s.settings.now s.legal 0 (fit_mark_lem false)) refl)
