-- Each test that fails stops with its code, in the row's order; otherwise the page gets the buffer.
use mathlib.Core.Path.{refl}
use borrow.Author.Tests.{lt-ltb, le-ltb}
use Rattle.protocol.specs.declared.codes.Code.TheVariants.{BadPage, NothingThere, PageTaken}
use Rattle.protocol.specs.Tests.{verdict}
use Rattle.protocol.specs.Table.{rule}
use Rattle.protocol.specs.Reader.{capacity, buffer_of}
use Rattle.reader.proofs.Laws.{chosen_filled}
use Rattle.reader.proofs.Rows.{refused, nameless, did}
use Rattle.reader.proofs.memory.Sound.store.Goals as goal

pub returns-in_err-buffer-clause-obeyed : goal.returns-in_err-buffer-clause-obeyed
unfolding rule
returns-in_err-buffer-clause-obeyed c =
    nameless c.args.self.now c.args.number c.from_residual.result c.in_err-buffer.field-0.0 _ _ c.from_residual.ensures.1 c.in_err-buffer.ensures refl

pub returns-then-self-from-clause-obeyed : goal.returns-then-self-from-clause-obeyed
unfolding rule verdict capacity
returns-then-self-from-clause-obeyed c =
    let h = rw c.from.ensures at c.if-self-from.true in
    refused c.args.self.now BadPage _ _ refl (rw (c.in_ok-buffer.ensures.1, le-ltb _ _ h) refl)

pub returns-then-not-is_filled-clause-obeyed : goal.returns-then-not-is_filled-clause-obeyed
unfolding rule verdict capacity buffer_of
returns-then-not-is_filled-clause-obeyed c =
    let h = rw c.from.ensures at c.if-self-from.false in
    refused c.args.self.now NothingThere _ _ refl
    (rw (c.in_ok-buffer.ensures.1, lt-ltb _ _ h, chosen_filled, c.in_ok-buffer.ensures.0, ← c.if-not-is_filled.ensures) refl)

pub returns-then-is_stored-clause-obeyed : goal.returns-then-is_stored-clause-obeyed
unfolding rule verdict capacity buffer_of
returns-then-is_stored-clause-obeyed c =
    let h = rw c.from.ensures at c.if-self-from.false in
    refused c.args.self.now PageTaken _ _ refl
    (rw (c.in_ok-buffer.ensures.1, lt-ltb _ _ h, chosen_filled, c.in_ok-buffer.ensures.0, ← c.if-not-is_filled.ensures, ← c.if-is_stored.ensures) refl)

pub returns-clause-obeyed : goal.returns-clause-obeyed
unfolding rule verdict capacity buffer_of
returns-clause-obeyed c =
    let h = rw c.from.ensures at c.if-self-from.false in
    did c.args.self.now c.store_buffer.new.self _ _
    (rw (c.in_ok-buffer.ensures.1, lt-ltb _ _ h, chosen_filled, c.in_ok-buffer.ensures.0, ← c.if-not-is_filled.ensures, ← c.if-is_stored.ensures) refl)
    (rw (c.in_ok-buffer.ensures.0) c.store_buffer.ensures.stored)
