-- Where src is no longer than dst it is laid over its front; otherwise nothing is written.
use Rattle.std.proofs.Common.{◌≡◌, ℕ, ◌+◌, ◌<◌, ◌≤◌, List, length, get_or, set, take, sym, ◌∙◌, le-leb, zero-add, take_all}
use borrow.Author.Tests.{lt-leb}
use Rattle.protocol.specs.Bytes.{lay}
use Rattle.protocol.proofs.Laws.Lists.{lay_nothing, lay_more}
use Rattle.wire.specs.Laying.{lay_front}
use Rattle.wire.proofs.bytes.put.Goals as goal

module _ (s d x : List ℕ) (i : ℕ) (h : length s ≤ length d) (e : x ≡ lay 0 (take i s) d) where
  one_more : i < length s → set x i (get_or s i 0) ≡ lay 0 (take (i + 1) s) d
  one_more l = rw e (rw zero-add at (lay_more 0 i s d l (rw zero-add h)))

  all_laid : length s ≤ i → x ≡ lay_front s d
  unfolding lay_front
  all_laid l = rw (le-leb _ _ h) (e ∙ rw (take_all i s l))

pub loop-i-init : goal.loop-i-init
loop-i-init c = sym (lay_nothing _ _)

pub loop-i-preserved : goal.loop-i-preserved
loop-i-preserved c = one_more _ _ _ _ c.if-src-dst.true c.loop-i.invariant c.loop-i-test.true

pub returns-after-loop-i : goal.returns-after-loop-i
returns-after-loop-i c = all_laid _ _ _ _ c.if-src-dst.true c.loop-i.invariant c.loop-i-test.false

pub returns-else-src-dst : goal.returns-else-src-dst
unfolding lay_front
returns-else-src-dst c = rw (lt-leb _ _ c.if-src-dst.false)
