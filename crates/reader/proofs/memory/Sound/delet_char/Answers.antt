-- A range that is not there is 10h; otherwise its pages are zeroed, its bits cleared, and the buffers forget them.
use mathlib.Core.Path.{refl, sym, ◌∙◌}
use Prim.Native.Nat.{◌/◌}
use lib.ListN.{length}
use Rattle.protocol.specs.declared.codes.Code.TheVariants.{BadRange}
use Rattle.protocol.specs.Numbers.{page_bytes}
use Rattle.protocol.specs.Tests.{verdict}
use Rattle.protocol.specs.Table.{rule, apply}
use Rattle.protocol.specs.Reader.{capacity, with_library}
use Rattle.library.specs.Lent.{is_span}
use Rattle.library.proofs.Parts.{zeroed, span_within}
use Rattle.reader.proofs.Rows.{refused, did}
use Rattle.reader.proofs.memory.Sound.delet_char.Goals as goal

pub returns-then-not-is_span-clause-obeyed : goal.returns-then-not-is_span-clause-obeyed
unfolding rule verdict capacity is_span
returns-then-not-is_span-clause-obeyed c =
    refused c.args.self.now BadRange _ _ refl (rw (← c.if-not-is_span.ensures) refl)

pub returns-clause-obeyed : goal.returns-clause-obeyed
unfolding rule verdict capacity is_span apply with_library
returns-clause-obeyed c =
    let p = c.args.page in
    let n = c.args.count in
    let t = c.args.self.now.templates.now in
    let h = sym c.if-not-is_span.ensures in
    let z = c.zero_pages.ensures ∙ zeroed p n t (span_within p n (length t / page_bytes) h) in
    did c.args.self.now c.forget.new.self _ _ (rw h refl) (rw (z, c.clear_bits.ensures) at c.forget.ensures.forgot)
