-- The byte shifted down by the place has the page's bit lowest, and the mask leaves that bit alone.
use Rattle.std.proofs.Common.{ℕ, eqb, ap}
use Rattle.protocol.specs.Index.{stored}
use Rattle.protocol.proofs.Laws.Bits.{shift_bit}
use Rattle.upkeep.proofs.lent.is_stored.Goals as goal

pub returns : goal.returns
unfolding stored
returns c = ap (λ (v : ℕ). eqb v 1) (shift_bit _ _)
