-- Both tests, joined.
use mathlib.Core.Path.{◌≡◌, ap₂}
use mathlib.Core.Bool.{Bool, ◌&&◌}
use mathlib.Core.List.{List}
use Prim.Native.Nat.{ℕ}
use Rattle.protocol.specs.declared.Settings.{Settings}
use Rattle.protocol.specs.Call.{fit_origin}
use Rattle.protocol.specs.Records.{is_set, origin_of}
use Rattle.rules.specs.Settings.{origins_fit}
use Rattle.reader.proofs.origins.are_fit.Goals as goal

both : (c : ℕ) (x : List ℕ) (s : Settings) (a b : Bool) → a ≡ fit_origin c x (is_set s.filled1) (origin_of s.origin1) → b ≡ fit_origin c x (is_set s.filled2) (origin_of s.origin2)
    → (a && b) ≡ origins_fit c x s
unfolding origins_fit
both c x s a b e f = ap₂ ◌&&◌ e f

pub returns : goal.returns
returns c = search both
