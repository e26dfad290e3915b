use Rattle.std.proofs.Common.{◌≡◌, ℕ, ◌+◌, ◌%◌, ◌<◌, ◌≤◌, List, [], ◌∷◌, ◌++◌, length, get_or, set, sym, refl, ◌∙◌, arith, add_assoc, take_all}
use Rattle.std.proofs.lemmas.List.{take_more}
use native.Mathlib.Nat.{mod-add-mod}
use Rattle.protocol.specs.Numbers.{head_bytes}
use Rattle.protocol.specs.Bytes.{total}
use Rattle.protocol.proofs.Laws.Lists.{lay_nothing, lay_more}
use Rattle.wire.proofs.builder.lay_content.Invariants.{Laying}
use Rattle.wire.proofs.builder.lay_content.Goals as goal

total_one_more : (s : List ℕ) (b : ℕ) → total (s ++ b ∷ []) ≡ total s + b
unfolding total
total_one_more [] b = omega arith
total_one_more (x ∷ s) b = rw (total_one_more s b, add_assoc)

module _ (s d x : List ℕ) (n i : ℕ) (l : Laying s d x n i) where
  one_more : (b : ℕ) → b ≡ get_or s i 0 → i < length s → head_bytes + length s ≤ length d → Laying s d (set x (head_bytes + i) (get_or s i 0)) ((n + b) % 65536) (i + 1)
  one_more b e h k = record {
    laid = rw l.laid (lay_more head_bytes i s d h k);
    sum = rw (l.sum, mod-add-mod, take_more s i 0 h, total_one_more, e) refl;
  }

pub loop-i-init : goal.loop-i-init
unfolding total
loop-i-init c = record { laid = sym (lay_nothing _ _); sum = refl }

pub loop-i-preserved : goal.loop-i-preserved
loop-i-preserved c = one_more _ _ _ _ _ c.loop-i.invariant _ c.from-sum.ensures c.loop-i-test.true c.requires

pub returns-clause-sum : goal.returns-clause-sum
returns-clause-sum c = c.loop-i.invariant.sum ∙ rw (take_all c.loop-i.i c.args.content.now c.loop-i-test.false)

pub returns-clause-laid : goal.returns-clause-laid
returns-clause-laid c = c.loop-i.invariant.laid ∙ rw (take_all c.loop-i.i c.args.content.now c.loop-i-test.false)
