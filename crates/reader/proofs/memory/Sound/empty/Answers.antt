-- Both lists are zero, and the buffers forget every page.
use mathlib.Core.Path.{◌≡◌, refl}
use lib.ListN.{length}
use borrow.Author.Rules.{rules}
use Rattle.protocol.specs.Bytes.{zeros}
use Rattle.protocol.specs.Tests.{verdict}
use Rattle.protocol.specs.Table.{rule, apply}
use Rattle.protocol.specs.Reader.{capacity, with_library}
use Rattle.reader.proofs.Rows.{did}
use Rattle.reader.proofs.memory.Sound.empty.Goals as goal

pub returns-clause-obeyed : goal.returns-clause-obeyed
unfolding rule verdict capacity apply with_library
returns-clause-obeyed c =
    let s = c.args.self.now in
    let t : c.fill.new.self ≡ zeros (length s.templates.now) = search rules in
    let i : c.fill-2.new.self ≡ zeros (length s.index.now) = search rules in
    did s c.forget.new.self _ _ refl (rw (t, i) at c.forget.ensures.forgot)
