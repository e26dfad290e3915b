-- The index of a reader is as long as an index is, so that it has a count; that goes out as two bytes.
use mathlib.Core.Path.{◌≡◌, refl, ap, ◌∙◌}
use Rattle.protocol.specs.Numbers.{index_bytes}
use Rattle.protocol.specs.Tests.{verdict}
use Rattle.protocol.specs.Bytes.{two}
use Rattle.protocol.specs.Index.{set_bits}
use Rattle.protocol.specs.Table.{rule}
use Rattle.reader.proofs.Laws.{counts}
use Rattle.reader.proofs.Rows.{gave}
use Rattle.reader.proofs.memory.Sound.templete_num.Goals as goal

pub unwrap-count-requires : goal.unwrap-count-requires
unwrap-count-requires c =
    let s = c.args.self.now in
    rw (c.count.ensures ∙ counts index_bytes s.index.now s.indexed) refl

pub returns : goal.returns
unfolding rule verdict two
returns c =
    let s = c.args.self.now in
    let n : c.unwrap-count.result ≡ set_bits s.index.now = cc (c.unwrap-count.ensures, c.count.ensures, counts index_bytes s.index.now s.indexed) in
    gave s _ c.to_be_bytes.result _ refl (c.to_be_bytes.ensures ∙ ap two n)
