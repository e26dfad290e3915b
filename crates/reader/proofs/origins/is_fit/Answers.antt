-- No origin is legal; a page at or above C is not; and below C the byte that was picked is the page's.
use mathlib.Core.Path.{◌≡◌, refl}
use mathlib.Core.Bool.{Bool, true, false, ◌&&◌, ◌||◌, cond}
use mathlib.Core.List.{List}
use Prim.Native.Nat.{ℕ, ◌/◌, ◌%◌, ◌^◌, ◌≤◌}
use native.Mathlib.Omega.{arith}
use lib.Dec.{eqb, ltb}
use lib.Bits.{bit_and}
use borrow.Author.Tests.{ltb-true}
use Rattle.protocol.specs.Numbers.{no_page, most_pages}
use Rattle.protocol.specs.Bytes.{byte_at}
use Rattle.protocol.specs.Index.{stored}
use Rattle.protocol.specs.Reader.{no_origin, from_page}
use Rattle.protocol.specs.Call.{fit_origin}
use Rattle.protocol.specs.Records.{origin_of}
use Rattle.protocol.proofs.Laws.Bits.{shift_bit}
use Rattle.reader.proofs.origins.is_fit.Goals as goal

tested : (c o byte : ℕ) (x : List ℕ) (mark : Bool) → c ≤ most_pages → byte ≡ byte_at x (o / 8 % 256)
    → (eqb o 65535 || (ltb o c && eqb (bit_and (byte / 2 ^ (o % 8)) 1) 1 && mark)) ≡ fit_origin c x mark (origin_of o)
unfolding fit_origin origin_of stored
tested c o byte x mark l e = go (eqb o no_page) (ltb o c) refl
  where
    go : (a b : Bool) → ltb o c ≡ b
        → (a || (b && eqb (bit_and (byte / 2 ^ (o % 8)) 1) 1 && mark)) ≡ fit_origin c x mark (cond a no_origin (from_page o))
    go true b f = refl
    go false true f =
        let h = ltb-true o c f in
        let same : o / 8 % 256 ≡ o / 8 = omega arith in
        rw (f, e, same, shift_bit (byte_at x (o / 8)) (o % 8)) refl
    go false false f = rw f refl

pub returns : goal.returns
returns c = search tested
