-- Each bit has its weight.
use mathlib.Core.Path.{◌≡◌, refl}
use mathlib.Core.Bool.{Bool, true, false}
use Prim.Native.Nat.{◌+◌, ◌*◌}
use mir.Val.{bool_byte}
use Rattle.protocol.specs.Table.{status_of}
use Rattle.reader.proofs.parameters.status.Goals as goal

weighed : (v f : Bool) → 4 * bool_byte v + 2 * bool_byte f ≡ status_of v f
unfolding status_of
weighed true true = refl
weighed true false = refl
weighed false true = refl
weighed false false = refl

pub returns : goal.returns
returns c = rw (c.from.ensures, c.from-2.ensures) (weighed c.args.verified c.args.found)
