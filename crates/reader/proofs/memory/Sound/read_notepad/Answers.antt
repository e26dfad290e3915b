-- A page of the notepad is 32 bytes of it, and one that is not there is 1Ch.
use mathlib.Core.Path.{refl}
use Prim.Native.Nat.{◌/◌, ◌≤◌}
use native.Mathlib.Omega.{arith}
use lib.ListN.{length}
use borrow.Author.Tests.{lt-ltb, le-ltb}
use Rattle.protocol.specs.declared.codes.Code.TheVariants.{BadNotePage}
use Rattle.protocol.specs.Numbers.{note_bytes}
use Rattle.protocol.specs.Tests.{verdict}
use Rattle.protocol.specs.Table.{rule}
use Rattle.reader.proofs.Rows.{refused, gave}
use Rattle.reader.proofs.memory.Sound.read_notepad.Goals as goal

pub returns-in-Some : goal.returns-in-Some
unfolding rule verdict
returns-in-Some c =
    gave c.args.self.now _ c.in-Some.bytes _ (rw (lt-ltb _ _ (c.in-Some.ensures.there.0 refl)) refl) c.in-Some.ensures.bytes

pub returns-in-None : goal.returns-in-None
unfolding rule verdict
returns-in-None c =
    let f = c.in-None.ensures.there.1 in
    let n = length c.args.self.now.notepad.now / note_bytes in
    let h : n ≤ c.args.page = grind arith in
    refused c.args.self.now BadNotePage _ _ refl (rw (le-ltb _ _ h) refl)
