-- What is found so far is 0 just where the bits so far are clear; the loop looks at every later byte.
use Rattle.std.proofs.Common.{◌≡◌, ◌+◌, eqb}
use Rattle.library.proofs.Bits.{clear_to}
use Rattle.library.proofs.index.is_clear_from.Given as goal

abbrev pub invariant-loop-byte : goal.invariant-loop-byte
invariant-loop-byte l = eqb l.found 0 ≡ clear_to l.index l.c (l.at + 1 + l.byte-index)
