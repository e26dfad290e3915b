-- The rows that take all of the content behind the code, and the one that does nothing.
use mathlib.Core.Path.{refl, ap, ◌∙◌}
use native.Mathlib.Omega.{arith}
use Rattle.protocol.specs.Codes.{command_number}
use Rattle.protocol.specs.Commands.{commands, row_of, hand_shake}
use Rattle.protocol.specs.Table.{free_rule, public_of}
use Rattle.protocol.specs.Step.{carry_free}
use Rattle.rules.specs.Commands.{len_of, read_of, is_free}
use Rattle.reader.proofs.Laws.{take_rest}
use Rattle.reader.proofs.Obeying.{free_row, barred_row}
use Rattle.reader.proofs.memory.Sound.obey.Goals as goal

pub returns-in-SetPwd-clause-obeyed : goal.returns-in-SetPwd-clause-obeyed
unfolding len_of read_of is_free row_of commands
returns-in-SetPwd-clause-obeyed c =
    let s = c.args.self.now in
    let x = c.args.content.now in
    let l = rw (c.in-SetPwd.is) at c.requires.long in
    let b = c.bytes_at.ensures ∙ take_rest 1 4 x (omega arith) in
    barred_row s x c.args.command 0x12 (ap command_number c.in-SetPwd.is) _ _ (rw b at c.set_password.ensures.obeyed) c.requires.open' refl refl

pub returns-in-VfyPwd-clause-obeyed : goal.returns-in-VfyPwd-clause-obeyed
unfolding len_of read_of row_of commands
returns-in-VfyPwd-clause-obeyed c =
    let s = c.args.self.now in
    let x = c.args.content.now in
    let l = rw (c.in-VfyPwd.is) at c.requires.long in
    let b = c.bytes_at-in-VfyPwd.ensures ∙ take_rest 1 4 x (omega arith) in
    free_row s x c.args.command 0x13 (ap command_number c.in-VfyPwd.is) _ _ (rw b at c.verify_password.ensures.freed) refl

pub returns-in-SetAdder-clause-obeyed : goal.returns-in-SetAdder-clause-obeyed
unfolding len_of read_of is_free row_of commands
returns-in-SetAdder-clause-obeyed c =
    let s = c.args.self.now in
    let x = c.args.content.now in
    let l = rw (c.in-SetAdder.is) at c.requires.long in
    let b = c.bytes_at-in-SetAdder.ensures ∙ take_rest 1 4 x (omega arith) in
    barred_row s x c.args.command 0x15 (ap command_number c.in-SetAdder.is) _ _ (rw b at c.set_address.ensures.obeyed) c.requires.open' refl refl

pub returns-in-WriteNotepad-clause-obeyed : goal.returns-in-WriteNotepad-clause-obeyed
unfolding len_of read_of is_free row_of commands
returns-in-WriteNotepad-clause-obeyed c =
    let s = c.args.self.now in
    let x = c.args.content.now in
    let l = rw (c.in-WriteNotepad.is) at c.requires.long in
    let b = c.bytes_at-in-WriteNotepad.ensures ∙ take_rest 2 32 x (omega arith) in
    barred_row s x c.args.command 0x18 (ap command_number c.in-WriteNotepad.is) _ _ (rw b at c.write_notepad.ensures.obeyed) c.requires.open' refl refl

pub returns-in-HandShake-clause-obeyed : goal.returns-in-HandShake-clause-obeyed
unfolding read_of row_of commands carry_free free_rule public_of
returns-in-HandShake-clause-obeyed c =
    let s = c.args.self.now in
    free_row s c.args.content.now c.args.command 0x40 (ap command_number c.in-HandShake.is) _ hand_shake refl refl
