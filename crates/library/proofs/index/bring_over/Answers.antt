-- Where both lengths are right, the old bytes lie at the front and zeros behind them; otherwise nothing is written.
use Rattle.std.proofs.Common.{◌≡◌, ℕ, ◌+◌, List, ◌++◌, length, refl, arith}
use Rattle.std.proofs.lemmas.Grind.{common_steps}
use Rattle.protocol.specs.Numbers.{old_index_bytes, index_bytes, added_bytes}
use Rattle.protocol.specs.Bytes.{zeros}
use Rattle.protocol.specs.Tests.{verdict}
use Rattle.protocol.specs.BringOver.{brought_over, bring_refusal, bring_as, bring_over}
use Rattle.protocol.specs.Records.{brought_of}
use Rattle.library.proofs.index.bring_over.Goals as goal

-- n bytes behind the front, zeroed
done : (old index y z : List ℕ) (n : ℕ) → length old ≡ old_index_bytes → length index ≡ index_bytes → y ≡ old → z ≡ zeros n → n + old_index_bytes ≡ length index
    → brought_of 0 (y ++ z) ≡ bring_over old index
unfolding bring_over bring_refusal bring_as verdict brought_over
done old index y z n e l f g h = let k : n ≡ added_bytes = omega arith in rw (e, l, f, g, k) refl

pub returns-then-old-ne-OLD_INDEX : goal.returns-then-old-ne-OLD_INDEX
unfolding bring_over bring_refusal bring_as verdict
returns-then-old-ne-OLD_INDEX c = grind (arith, common_steps)

pub returns : goal.returns
returns c = let z = c.fill.ensures.after (λ y e. e) in search done
