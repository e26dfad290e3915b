use Rattle.std.proofs.Common.{◌≡◌, ℕ, ◌+◌, ◌*◌, ◌%◌, ◌<◌, ◌≤◌, eqb, List, length, take, min, arith, length-take, w8, Fits}
use Rattle.std.proofs.lemmas.Bool.Decides.{nat_tests}
use Rattle.std.proofs.lemmas.List.{get_or-take, get_or_past}
use Rattle.std.specs.Int.{from_bool}
use lib.Bits.{bit_or, or_add_and, and_le_l, and_le_r}
use Rattle.protocol.specs.Bytes.{byte_at}
use Rattle.library.proofs.index.byte_of.Invariants.{up_to}
use Rattle.library.proofs.index.byte_of.Goals as goal

-- of the first n bytes, those before place i are passed
module _ (x : List ℕ) (at n i f : ℕ) (w : n ≡ min (length x) 256) (e : f ≡ up_to (take n x) at i) where
  -- the byte counts once at its place, where nothing is left, and elsewhere not at all
  next : (k m : ℕ) → (k + i) % 256 ≡ at → Fits w8 k → i < length (take n x) → m ≡ from_bool (eqb k 0) → bit_or f (byte_at (take n x) i * m) ≡ up_to (take n x) at (i + 1)
  next k m a h l g =
      let o = or_add_and f (byte_at (take n x) i * m) in
      let p = and_le_l f (byte_at (take n x) i * m) in
      let q = and_le_r f (byte_at (take n x) i * m) in
      let b = length-take n x in
      grind (arith, nat_tests)

  -- all bytes that the place can mean are passed
  all_passed : length (take n x) ≤ i → Fits w8 at → f ≡ byte_at x at
  all_passed l h =
      let b = length-take n x in
      let t = get_or-take n x at 0 in
      let u = get_or_past x at 0 in
      let v = get_or_past (take n x) at 0 in
      grind (arith, nat_tests)

pub loop-byte-preserved : goal.loop-byte-preserved
loop-byte-preserved c = (omega arith, search next)

pub returns : goal.returns
returns c = search all_passed
