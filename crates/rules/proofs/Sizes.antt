-- Size codes: the data bytes of each, and that a legal code is not changed by the cap.
use mathlib.Core.Path.{◌≡◌, sym, ◌∙◌}
use Prim.Native.Nat.{ℕ, ◌*◌, ◌%◌, ◌^◌, ◌≤◌}
use native.Mathlib.Nat.{suc-mul}
use native.Mathlib.Omega.{arith}
use Rattle.std.proofs.Common.{min}
use Rattle.std.proofs.lemmas.Bool.Decides.{nat_tests}
use lib.Dec.{lit<}
use lib.Pow.{pow-add, shl_exact}
use lib.ListN.{length, length-replicate}
use mathlib.Core.Bool.{Bool}
use mathlib.Core.List.{List}
use borrow.Author.Tests.{le-leb}
use Rattle.protocol.specs.declared.Settings.{Settings}
use Rattle.protocol.specs.Numbers.{highest_size, wraps_at}
use Rattle.protocol.specs.Reader.{size_of}
use Rattle.protocol.specs.Step.{fits}
use Rattle.protocol.specs.Records.{plain_of}
use Rattle.protocol.proofs.Laws.Sizes.{Size, sizes}
use Rattle.rules.specs.Settings.{capped_code, SizeOf}
use Rattle.rules.specs.Transfer.{does_fit}

pub capped_legal : (code : ℕ) → code ≤ highest_size → capped_code code ≡ code
unfolding capped_code
capped_legal code h = rw (le-leb code highest_size h)

-- the data bytes of a legal code are document 01's
pub size_legal : (code r : ℕ) → SizeOf code r → code ≤ highest_size → r ≡ size_of code
size_legal code r z h = rw capped_legal at z.is

-- ---- the data bytes of a code

-- 32 shifted by the code
shifted : (code : ℕ) → code ≤ highest_size → 32 * 2 ^ code % wraps_at ≡ size_of code
unfolding size_of highest_size
shifted code h = shl_exact 6 code 64 (lit< tt) (omega arith) ∙ sym (pow-add 2 5 code)

-- whatever code it counts as, which is a legal one
pub size_counted : (code k : ℕ) → k ≡ min code highest_size → SizeOf code (32 * 2 ^ k % wraps_at)
unfolding capped_code
size_counted code k e =
    let c : capped_code code ≡ k = grind (arith, nat_tests) in
    let z : Size (size_of k) = sizes k (omega arith) in
    let s = shifted k (omega arith) in
    record { is = rw c s; low = omega (arith, s, z.some); high = omega (arith, s, z.whole, suc-mul z.more (size_of k)) }

-- ---- a data packet

-- at a legal size code a data packet goes in as document 01 says
pub fits_legal : (s : Settings) (last right : Bool) (n : ℕ) (c : List ℕ) (f : Bool) → f ≡ does_fit s right last n → s.size ≤ highest_size → length c ≡ n
    → f ≡ fits (plain_of s) s.got last right c
unfolding does_fit fits
fits_legal s last right n c f e h l = rw (e, capped_legal s.size h, l, length-replicate)
