-- A page of the index is 32 bytes of it, and one that is not there is 0Bh.
use mathlib.Core.Path.{refl}
use Prim.Native.Nat.{◌/◌, ◌≤◌}
use native.Mathlib.Omega.{arith}
use lib.ListN.{length}
use borrow.Author.Tests.{lt-ltb, le-ltb}
use Rattle.protocol.specs.declared.codes.Code.TheVariants.{BadPage}
use Rattle.protocol.specs.Numbers.{index_page_bytes}
use Rattle.protocol.specs.Tests.{verdict}
use Rattle.protocol.specs.Table.{rule}
use Rattle.reader.proofs.Rows.{refused, gave}
use Rattle.reader.proofs.memory.Sound.read_index_table.Goals as goal

pub returns-in-Some : goal.returns-in-Some
unfolding rule verdict
returns-in-Some c =
    gave c.args.self.now _ c.in-Some.bytes _ (rw (lt-ltb _ _ (c.in-Some.ensures.there.0 refl)) refl) c.in-Some.ensures.bytes

pub returns-in-None : goal.returns-in-None
unfolding rule verdict
returns-in-None c =
    let f = c.in-None.ensures.there.1 in
    let n = length c.args.self.now.index.now / index_page_bytes in
    let h : n ≤ c.args.page = grind arith in
    refused c.args.self.now BadPage _ _ refl (rw (le-ltb _ _ h) refl)
