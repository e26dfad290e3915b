-- The lengths of lent templates and a lent index, as the code has them.
use Rattle.std.specs.Prelude.{Bool, ◌&&◌, ℕ, ◌/◌, eqb}
use Rattle.protocol.specs.Numbers.{page_bytes}
use Rattle.protocol.specs.Call.{core}
use Rattle.offline.specs.Lengths.{pages_fit}

unfoldable pub fits_pages : ℕ → ℕ → Bool
fits_pages t i = pages_fit core (t / page_bytes) t i

-- and beside them what has n of the m bytes or entries that it must have
abbrev pub fits_lent : ℕ → ℕ → ℕ → ℕ → Bool
fits_lent t i n m = fits_pages t i && eqb n m
