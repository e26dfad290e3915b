-- What is found so far is the byte, once its place is passed, and 0 before; every other byte counts for nothing.
use Rattle.std.proofs.Common.{◌≡◌, ℕ, ◌+◌, ◌%◌, cond, ltb, List}
use Rattle.protocol.specs.Bytes.{byte_at}
use Rattle.library.proofs.index.byte_of.Given as goal

-- the byte at a place, if the bytes before i have it
abbrev pub up_to : List ℕ → ℕ → ℕ → ℕ
up_to x at i = cond (ltb at i) (byte_at x at) 0

abbrev pub invariant-loop-byte : goal.invariant-loop-byte
invariant-loop-byte l = ((l.left + l.byte-index) % 256 ≡ l.at) × (l.found ≡ up_to l.byte-items l.at l.byte-index)
