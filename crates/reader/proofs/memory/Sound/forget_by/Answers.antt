-- A buffer whose origin is not one of the pages stays as it is; any other is emptied.
use mathlib.Core.Path.{◌≡◌, refl, sym, ap, ◌∙◌}
use mathlib.Core.Bool.{Bool, true, false}
use Prim.Native.Nat.{ℕ}
use lib.Dec.{eqb}
use Rattle.protocol.specs.Tests.{among}
use Rattle.protocol.specs.Reader.{buffer_of, emptied, is_one_of, without}
use Rattle.protocol.specs.Reader as readers
use Rattle.protocol.specs.Records.{origin_of, is_set}
use Rattle.protocol.proofs.Laws.Effects.{buffer_own}
use Rattle.reader.specs.declared.memory.Sound.{Sound}
use Rattle.reader.specs.Buffers.{buffer_number}
use Rattle.reader.specs.Memory.{reader_in, origin_in, with_numbered, without_numbered}
use Rattle.reader.proofs.Laws.{chosen_origin}
use Rattle.reader.proofs.memory.Sound.forget_by.Goals as goal

module _ (x : Sound) (n p k : ℕ) (b : Bool) (e : b ≡ is_one_of (among p k) (origin_of (origin_in n x))) where
  -- the test is the definition's
  asked : is_one_of (among p k) (buffer_of (eqb n 2) (reader_in x).guarded).origin ≡ b
  unfolding buffer_of
  asked = ap (is_one_of (among p k)) (chosen_origin (eqb n 2) _ _ (is_set x.settings.now.filled2) (is_set x.settings.now.filled1) x.settings.now.origin2 x.settings.now.origin1) ∙ sym e

  stays : b ≡ false → reader_in x ≡ without_numbered n (among p k) (reader_in x)
  unfolding without
  stays f = rw (asked, f) (sym (ap (readers.reader (reader_in x).plain) (buffer_own (eqb n 2) (reader_in x).guarded)))

  goes : b ≡ true → with_numbered n emptied (reader_in x) ≡ without_numbered n (among p k) (reader_in x)
  unfolding without
  goes f = rw (asked, f) refl

pub returns-then-not-is_one_of-clause-forgot : goal.returns-then-not-is_one_of-clause-forgot
returns-then-not-is_one_of-clause-forgot c = stays c.args.self.now (buffer_number c.args.buffer) c.args.page c.args.count c.is_one_of.result (rw (c.origin_of.ensures) at c.is_one_of.ensures) c.if-not-is_one_of.true

pub returns-clause-forgot : goal.returns-clause-forgot
returns-clause-forgot c = c.empty_buffer.ensures.emptied ∙ goes c.args.self.now (buffer_number c.args.buffer) c.args.page c.args.count c.is_one_of.result (rw (c.origin_of.ensures) at c.is_one_of.ensures) c.if-not-is_one_of.false
