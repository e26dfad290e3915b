-- The content's sum may be taken modulo 65536 before the rest is added.
use Rattle.std.proofs.Common.{◌∙◌}
use Rattle.wire.proofs.Packets.{packet_sum}
use Rattle.wire.proofs.builder.packet_sum.Goals as goal

pub returns : goal.returns
returns c = c.from.ensures ∙ packet_sum _ _ _ _ c.sum.ensures c.sum_of.ensures
