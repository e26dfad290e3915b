-- Document 02, request [7], what an origin is worth: over any sequence of calls and line switches, from a legal start that has it, a buffer with an origin holds
-- exactly the bytes of that page, which is stored. So no buffer is left over of a page that is deleted. A fresh reader has it.
use mathlib.Core.Bool.{Bool, true, false, true≢false, not}
use mathlib.Core.Path.{◌≡◌, refl, sym, ap, ◌∙◌, subst}
use mathlib.Core.Logic.{◌≢◌}
use mathlib.Core.List.{List, [], ◌∷◌}
use Prim.Native.Nat.{ℕ, zero, suc, ◌*◌, ◌≤◌}
use native.Mathlib.Omega.{arith}
use lib.Dec.{T}
use Rattle.protocol.specs.Bytes.{part}
use Rattle.protocol.specs.Tests.{among}
use Rattle.protocol.specs.Index.{bit, stored, clear_from}
use Rattle.protocol.specs.Reader.{Transfer, closed, opened, unfit, no_origin, from_page, Buffer, Guarded, Reader, capacity, buffer_of, emptied, loaded_from, stored_on, with_library, with_notepad, with_buffer, without_pages, with_found}
use Rattle.protocol.specs.Search.{Chip}
use Rattle.protocol.specs.Table.{Effect, keep, fill_page, erase, erase_all, fill_buffer, await, note, remember, settle, rule, apply}
use Rattle.protocol.specs.Step.{Heard, hear, Said, silence, says, carry_as, carry_free, ended, rested, laid_in, take_as, answer, step_of, wiped, switched}
use Rattle.protocol.specs.Call.{Shape, fit_lengths, fit_plain, fit_transfer, sound, legal, Ended, refused, carried, switch_refusal, switch_as, switch_of}
use Rattle.protocol.specs.Dialogue.{Event, received, switch, on, finally}
use Rattle.protocol.proofs.Laws.Logic.{and_i}
use Rattle.protocol.proofs.Laws.Index.{in_among}
use Rattle.protocol.proofs.Laws.Commands.{LongHeard, long_heard}
use Rattle.protocol.proofs.Laws.Effects.{each_buffer, Filled, fill_page_lem, Erased, erase_pages}
use Rattle.protocol.proofs.Laws.Origins.{loaded_origin, stored_origin, same_page, Rooted, rooted_none, fit_origins_lem, no_page_lem, unfilled_none, erase_leaves, empty_leaves, without_kinds, one_of}
use Rattle.protocol.proofs.Laws.Answers.{answer_kinds, call_kinds}
use Rattle.protocol.proofs.Laws.Legal.{buffer_long, Moving, moving, Good}
use Rattle.protocol.proofs.Laws.Proper.{Proper}
use Rattle.protocol.proofs.Promises.Words.Told.{page, has, buffer}
use Rattle.protocol.proofs.Promises.Refusals.StaysLegal.{Legal, good, good_rested, rested_closed, row_proper, stays_legal}

-- beside the templates t: the buffer b, if it has an origin, holds the bytes of that page
abbrev pub Copy : List ℕ → Buffer → Type 0
Copy t b = (p : ℕ) → b.origin ≡ from_page p → b.bytes ≡ part (512 * p) 512 t

-- both buffers of a reader do
pub record Faithful (r : Reader) : Type 0 where
  pub buffer1 : Copy r.guarded.templates r.guarded.buffer1
  pub buffer2 : Copy r.guarded.templates r.guarded.buffer2

abbrev Faith : Reader → Type 0
Faith r = (w : Bool) → Copy r.guarded.templates (buffer_of w r.guarded)

faith : (r : Reader) → Faithful r → Faith r
unfolding buffer_of
faith r f true = f.buffer2
faith r f false = f.buffer1

copy_none : (t : List ℕ) (b : Buffer) → b.origin ≡ no_origin → Copy t b
copy_none t b e p h = no_page_lem p (sym e ∙ h)

copy_emptied : (t : List ℕ) → Copy t emptied
unfolding emptied
copy_emptied t = copy_none t emptied refl

module _ (σ : Shape) (ok : σ.most ≤ 8 * σ.indexed) where
  -- ---- an effect

  effect_faith : (e : Effect) (r : Reader) → Proper σ ok r e → Good σ ok r → Faith r → Faith (apply e r)
  unfolding apply loaded_from stored_on with_library with_notepad with_buffer without_pages with_found buffer_of capacity
  effect_faith keep r m k f = f
  effect_faith (fill_page w p) r m k f =
      let g : Guarded = r.guarded in
      let b : Buffer = buffer_of w g in
      let new : Filled r w p = fill_page_lem r w p (buffer_long w g k.buffers) (omega (arith, k.shelf.long, m.0)) in
      each_buffer (Copy (apply (fill_page w p) r).guarded.templates) w (stored_on p b) g
      (λ q e. subst (λ (j : ℕ). b.bytes ≡ page (apply (fill_page w p) r) j) (same_page p q (sym (stored_origin p b) ∙ e)) (sym new.bytes))
      (λ q e.
      let other : q ≢ p = λ j. true≢false (sym (k.origins (not w) q e).there ∙ ap (stored g.index) j ∙ m.1.1) in
      f (not w) q e ∙ sym (new.others q other))
  effect_faith (erase p n) r m k f =
      let g : Guarded = r.guarded in
      let new : Erased r p n = erase_pages r p n (omega (arith, k.shelf.long)) in
      λ w.
      rw (erase_leaves p n w r)
      (without_kinds (Copy (apply (erase p n) r).guarded.templates) (among p n) (buffer_of w g) (copy_emptied _)
      (λ o q e.
      f w q e
      ∙ sym (new.others q (λ a b. true≢false (sym (in_among p n q a b) ∙ sym (one_of (among p n) (buffer_of w g).origin q e) ∙ o)))))
  effect_faith erase_all r m k f =
      let g : Guarded = r.guarded in
      let c : ℕ = capacity g in
      λ w.
      rw (empty_leaves w r)
      (without_kinds (Copy (apply erase_all r).guarded.templates) (among 0 c) (buffer_of w g) (copy_emptied _)
      (λ o q e.
      absurd
      (true≢false
      (sym (in_among 0 c q (omega arith) (omega (arith, (k.origins w q e).below))) ∙ sym (one_of (among 0 c) (buffer_of w g).origin q e) ∙ o))))
  effect_faith (fill_buffer w p) r m k f =
      each_buffer (Copy r.guarded.templates) w (loaded_from p (page r p)) r.guarded (λ q e. ap (page r) (same_page p q (sym (loaded_origin p (page r p)) ∙ e))) (f (not w))
  effect_faith (await w) r m k f = each_buffer (Copy r.guarded.templates) w emptied r.guarded (copy_emptied _) (f (not w))
  effect_faith (note i b) r m k f = f
  effect_faith (remember x) r m k f = f
  effect_faith (settle p) r m k f = f

  -- ---- an answer

  rested_faith : (r : Reader) → Faith r → Faith (rested r)
  unfolding rested ended with_buffer
  rested_faith r f = go r.plain.transfer
    where
      go : (t : Transfer) → Faith (ended r t)
      go closed = f
      go (opened w got) = each_buffer (Copy r.guarded.templates) w emptied r.guarded (copy_emptied _) (f (not w))
      go (unfit b j m) = f

  -- a transfer's buffer is not filled, so it has no origin
  taken_faith : (r : Reader) → Good σ ok r → Faith r → (w last : Bool) (got : ℕ) (content : List ℕ) → Moving r.plain r.guarded w got
      → Faith (take_as r w got content true last).after
  unfolding take_as silence with_buffer
  taken_faith r k f w last got content m = go last
    where
      b : Buffer
      b = buffer_of w r.guarded

      alone : b.origin ≡ no_origin
      alone = unfilled_none (capacity r.guarded) r.guarded.index b (k.origins w) m.unfilled

      put : (mark : Bool) → (v : Bool) → Copy r.guarded.templates (buffer_of v (with_buffer w (laid_in got content mark b) r.guarded))
      put mark =
          each_buffer (Copy r.guarded.templates) w (laid_in got content mark b) r.guarded (copy_none r.guarded.templates (laid_in got content mark b) alone)
          (f (not w))

      go : (last : Bool) → Faith (take_as r w got content true last).after
      go true = put true
      go false = put b.filled

  answer_faith : (χ : Chip) (r : Reader) → Good σ ok r → Faith r → (h : Heard) → LongHeard h → Faith (answer χ r h).after
  unfolding silence says carry_as carry_free
  answer_faith χ r k f h l =
      let q : Good σ ok (rested r) = good_rested σ ok r k in
      let z : (rested r).plain.transfer ≡ closed = rested_closed σ ok r k in
      answer_kinds (λ (a : Said). Faith a.after) χ r h
      record {
        silent = f;
        refuses = λ n. rested_faith r f;
        frees = λ c e. rested_faith r f;
        takes =
            λ w last right got content e e' i.
            taken_faith r k f w last got content (moving r.plain r.guarded w got (subst (λ (t : Transfer). T (fit_transfer r.plain r.guarded t)) e k.transfer));
        does = λ c e u t. effect_faith (rule χ (rested r) c).effect (rested r) (row_proper σ ok χ (rested r) z q u c (subst LongHeard e l) t) q (rested_faith r f);
      }

  -- ---- calls and line switches

  stays_faith : (r : Reader) → Legal σ ok r → Faith r → (e : Event) → Faith (on σ r e).after
  unfolding on refused carried step_of switch_of switch_as switched wiped buffer_of
  stays_faith r l f (received s lent) =
      call_kinds σ r s lent (λ (e : Ended). Faith e.after) (λ n. f)
      (λ t u. answer_faith lent.chip r (good σ ok r l) f (hear r.plain.address s) (long_heard r.plain.address s))
  stays_faith r l f switch = go (switch_refusal r.guarded)
    where
      go : (n : ℕ) → Faith (switch_as r n).after
      go zero true = copy_emptied _
      go zero false = copy_emptied _
      go (suc n) w = f w

  ever_faith : (r : Reader) → Legal σ ok r → Faith r → (es : List Event) → Legal σ ok (finally σ r es) × Faith (finally σ r es)
  unfolding finally
  ever_faith r l f [] = (l, f)
  ever_faith r l f (e ∷ es) = ever_faith (on σ r e).after (stays_legal σ ok r l e) (stays_faith r l f e) es

  pub stays_faithful : (r : Reader) → Legal σ ok r → Faithful r → (es : List Event) → Faithful (finally σ r es)
  unfolding buffer_of
  stays_faithful r l f es = let k = (ever_faith r l (faith r f) es).1 in record { buffer1 = k false; buffer2 = k true }

  -- ---- the promise

  -- the buffer b has an origin: it is filled, and holds the 512 bytes of that page, which is stored
  pub record Holds (r : Reader) (b : ℕ) (p : ℕ) : Type 0 where
    pub stored_there : has r p ≡ true
    pub filled : (buffer b r.guarded).filled ≡ true
    pub bytes : (buffer b r.guarded).bytes ≡ page r p

  held : (r : Reader) → Good σ ok r → Faith r → (b p : ℕ) → (buffer b r.guarded).origin ≡ from_page p → Holds r b p
  unfolding buffer_of stored bit
  held r k f zero p e = let o = k.origins false p e in record { stored_there = o.there; filled = o.filled; bytes = f false p e }
  held r k f (suc zero) p e = let o = k.origins false p e in record { stored_there = o.there; filled = o.filled; bytes = f false p e }
  held r k f (suc (suc b)) p e = let o = k.origins true p e in record { stored_there = o.there; filled = o.filled; bytes = f true p e }

  pub ever_faithful : (r : Reader) → Legal σ ok r → Faithful r → (es : List Event) (b p : ℕ) → (buffer b (finally σ r es).guarded).origin ≡ from_page p
      → Holds (finally σ r es) b p
  ever_faithful r l f es = let h = ever_faith r l (faith r f) es in held (finally σ r es) (good σ ok (finally σ r es) h.0) h.1

-- ---- a start

-- a reader whose buffers have no origin: a fresh one, and one after a line switch
pub faithful_start : (r : Reader) → r.guarded.buffer1.origin ≡ no_origin → r.guarded.buffer2.origin ≡ no_origin → Faithful r
faithful_start r e f =
    record { buffer1 = copy_none r.guarded.templates r.guarded.buffer1 e; buffer2 = copy_none r.guarded.templates r.guarded.buffer2 f }

-- settings stored before request [7], with both origins none: they are legal, if they passed the tests that there were
pub stored_before : (σ : Shape) (r : Reader) → r.guarded.buffer1.origin ≡ no_origin → r.guarded.buffer2.origin ≡ no_origin → T (fit_lengths σ r.guarded)
    → T (fit_plain r.plain) → T (fit_transfer r.plain r.guarded r.plain.transfer) → T (clear_from r.guarded.index (capacity r.guarded))
    → T (legal σ r) × Faithful r
unfolding legal sound buffer_of
stored_before σ r e f a b c d =
    let o = fit_origins_lem r.guarded none in
    (search and_i, faithful_start r e f)
  where
    none : (w : Bool) → Rooted (capacity r.guarded) r.guarded.index (buffer_of w r.guarded)
    none false = rooted_none (capacity r.guarded) r.guarded.index r.guarded.buffer1 e
    none true = rooted_none (capacity r.guarded) r.guarded.index r.guarded.buffer2 f
