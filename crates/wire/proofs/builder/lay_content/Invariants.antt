-- The bytes before place i of the content are laid and summed; at the end that is all of them.
use Rattle.std.proofs.Common.{◌≡◌, ℕ, ◌%◌, List, take}
use Rattle.protocol.specs.Numbers.{head_bytes}
use Rattle.protocol.specs.Bytes.{total, lay}
use Rattle.wire.proofs.builder.lay_content.Given as goal

-- how far the loop has come
pub record Laying (s d x : List ℕ) (n i : ℕ) : Type 0 where
  pub laid : x ≡ lay head_bytes (take i s) d
  pub sum : n ≡ total (take i s) % 65536

abbrev pub invariant-loop-i : goal.invariant-loop-i
invariant-loop-i l = Laying l.content l.initial.room l.room l.sum l.i
