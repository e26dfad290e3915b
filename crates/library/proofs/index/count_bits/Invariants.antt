-- The ones of the bytes so far are counted, and the rest have those that are left; a byte has at most 8, so that the count fits.
use Rattle.std.proofs.Common.{◌≡◌, ◌+◌, ◌*◌, ◌≤◌, drop}
use Rattle.protocol.specs.Index.{set_bits}
use Rattle.library.proofs.index.count_bits.Given as goal

abbrev pub invariant-loop-byte : goal.invariant-loop-byte
invariant-loop-byte l = (l.n + set_bits (drop l.byte-index l.index) ≡ set_bits l.index) × (l.n ≤ 8 * l.byte-index)
