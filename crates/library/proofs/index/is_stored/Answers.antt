-- Where the index has no byte for the page, the page is not stored.
use Rattle.std.proofs.Common.{◌≡◌, ℕ, ◌/◌, ◌≤◌, ltb, List, length, le-ltb}
use Rattle.protocol.specs.Index.{stored}
use Rattle.library.proofs.Bits.{not_stored}
use Rattle.library.proofs.index.is_stored.Goals as goal

past : (x : List ℕ) (p : ℕ) → length x ≤ p / 8 → ltb (p / 8) (length x) ≡ stored x p
past x p h = rw (le-ltb _ _ h) (not_stored x p h)

pub returns-else-p-index : goal.returns-else-p-index
returns-else-p-index c = search past
