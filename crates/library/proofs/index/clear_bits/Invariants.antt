-- The bits still to be cleared, cleared from the index as it is, give the whole; at the end none is left.
use Rattle.std.proofs.Common.{◌≡◌, ◌-◌}
use Rattle.protocol.specs.Index.{clear_bits}
use Rattle.library.proofs.index.clear_bits.Given as goal

abbrev pub invariant-loop-q : goal.invariant-loop-q
invariant-loop-q l = clear_bits l.initial.index l.p l.n ≡ clear_bits l.index l.q (l.q-end - l.q)
