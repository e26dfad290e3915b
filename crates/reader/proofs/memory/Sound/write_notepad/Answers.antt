-- A page that is not there is 1Ch; otherwise the notepad has these bytes on it.
use mathlib.Core.Path.{◌≡◌, refl}
use mathlib.Core.List.{List}
use Prim.Native.Nat.{ℕ, ◌+◌, ◌-◌, ◌*◌}
use native.Mathlib.Omega.{arith}
use lib.ListN.{length}
use borrow.Rule.Slice.PartMut.{put_mid}
use borrow.Author.Rules.{rules}
use borrow.Author.Tests.{lt-ltb, le-ltb}
use Rattle.protocol.specs.declared.codes.Code.TheVariants.{BadNotePage}
use Rattle.protocol.specs.Numbers.{note_bytes}
use Rattle.protocol.specs.Tests.{verdict}
use Rattle.protocol.specs.Bytes.{lay}
use Rattle.protocol.specs.Reader.{with_notepad}
use Rattle.protocol.specs.Table.{rule, apply}
use Rattle.library.proofs.Parts.{part_laid}
use Rattle.reader.proofs.Rows.{refused, did_parts}
use Rattle.reader.proofs.memory.Sound.write_notepad.Goals as goal

noted : (p q : ℕ) (m w y : List ℕ) → q ≡ p → y ≡ w → length w ≡ note_bytes → put_mid (note_bytes * q) (note_bytes * q + note_bytes - note_bytes * q) m y ≡ lay (note_bytes * p) w m
noted p q m w y e f l = rw (e, f) (part_laid (note_bytes * p) (note_bytes * p + note_bytes) m w (omega arith) (omega arith))

pub returns-then-self-page-clause-obeyed : goal.returns-then-self-page-clause-obeyed
unfolding rule verdict
returns-then-self-page-clause-obeyed c =
    let h = rw c.from-page.ensures at c.if-self-page.true in
    refused c.args.self.now BadNotePage _ _ refl (rw (le-ltb _ _ h) refl)

pub returns-clause-obeyed : goal.returns-clause-obeyed
unfolding rule verdict apply with_notepad
returns-clause-obeyed c =
    let s = c.args.self.now in
    let h = rw c.from-page.ensures at c.if-self-page.false in
    let n = noted c.args.page _ s.notepad.now c.args.note _ c.from-page.ensures c.copy_from_slice.ensures.after (search rules) in
    did_parts s s.settings.now s.templates.now s.index.now _ s.buffer1.now s.buffer2.now _ _ (rw (lt-ltb _ _ h) refl) (rw n refl)
