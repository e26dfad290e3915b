-- 1 and 2 name a buffer, and no other number does.
use mathlib.Core.Path.{◌≡◌, refl}
use mathlib.Core.Bool.{false}
use Prim.Native.Nat.{ℕ}
use borrow.Author.Tests.{ne_eqb}
use Rattle.protocol.specs.Table.{is_buffer}
use Rattle.reader.proofs.buffers.BufferTryFromU8.try_from.Goals as goal

nameless : (n : ℕ) → (n ≡ 1 → ⊥) → (n ≡ 2 → ⊥) → is_buffer n ≡ false
unfolding is_buffer
nameless n f g = rw (ne_eqb n 1 f, ne_eqb n 2 g) refl

pub returns-in-1 : goal.returns-in-1
unfolding is_buffer
returns-in-1 c = let e = c.in-1.is in (e, rw e refl)

pub returns-in-2 : goal.returns-in-2
unfolding is_buffer
returns-in-2 c = let e = c.in-2.is in (e, rw e refl)

pub returns-in_default : goal.returns-in_default
returns-in_default c = let m = c.in_default in (refl, search nameless)
