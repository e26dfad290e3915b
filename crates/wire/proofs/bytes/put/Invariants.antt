-- The bytes before place i are laid; at the end that is all of them.
use Rattle.std.proofs.Common.{◌≡◌, take}
use Rattle.protocol.specs.Bytes.{lay}
use Rattle.wire.proofs.bytes.put.Given as goal

abbrev pub invariant-loop-i : goal.invariant-loop-i
invariant-loop-i l = l.dst ≡ lay 0 (take l.i l.src) l.initial.dst
