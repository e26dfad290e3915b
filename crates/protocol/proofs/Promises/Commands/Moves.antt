-- What Store, LoadChar, DownChar, DeletChar and Empty do once their row's tests pass: the reply, every page's bytes and bit, both buffers, the
-- notepad and the settings.
use mathlib.Core.Bool.{Bool, true, false, ◌&&◌, ◌||◌, not}
use mathlib.Core.Path.{◌≡◌, refl, sym, ap, ◌∙◌, subst}
use mathlib.Core.Logic.{◌≢◌}
use mathlib.Core.List.{List, []}
use Prim.Native.Nat.{ℕ, zero, suc, ◌+◌, ◌*◌, ◌≤◌, ◌<◌}
use native.Mathlib.Omega.{arith}
use lib.Dec.{T, eqb, ltb, leb, lt→ltb, le→leb, ltb→lt}
use lib.ListN.{length, replicate}
use Rattle.protocol.specs.Bytes.{part, lay, follow}
use Rattle.protocol.specs.Tests.{among}
use Rattle.protocol.specs.Index.{bit, stored, set_bit}
use Rattle.protocol.specs.Reader.{opened, Origin, no_origin, from_page, Buffer, Guarded, Reader, capacity, locked, buffer_of, emptied, loaded_from, stored_on, is_one_of, without, with_transfer, with_library, with_buffer, without_pages, contents, reader}
use Rattle.protocol.specs.Commands.{Barred, store, load_char, down_char, delet_char, empty, barred, command}
use Rattle.protocol.specs.Data.{acknowledge}
use Rattle.protocol.specs.Table.{is_buffer, second, rule, apply}
use Rattle.protocol.specs.Step.{order, hear, carry_as, rested}
use Rattle.protocol.specs.Call.{Shape, Lent, fit_lent, Ended, call_of}
use Rattle.protocol.proofs.Laws.Logic.{and_i, passed}
use Rattle.protocol.proofs.Laws.Lists.{part_zeros}
use Rattle.protocol.proofs.Laws.Index.{in_among, not_among, stored_with, stored_span, stored_zeros}
use Rattle.protocol.proofs.Laws.Effects.{Filled, fill_page_lem, Erased, erase_pages}
use Rattle.protocol.proofs.Laws.Origins.{no_page_lem, one_of}
use Rattle.protocol.proofs.Laws.Answers.{spared, obeys}
use Rattle.protocol.proofs.Laws.Legal.{buffer_long, Good, fine_of}
use Rattle.protocol.proofs.Promises.Words.Told.{Replies, Leaves, Gives, answered, pages, page, has, Numbered, buffer, other, blank, WithBuffer, numbered, buffer_is, by_number}
use Rattle.protocol.proofs.Promises.Refusals.StaysLegal.{Legal, good, good_rested}

-- a buffer before and after the n pages from p on are deleted: zeroed, unmarked and without an origin where its origin was one of them; otherwise as it was
pub record Forgets (p n : ℕ) (before after : Buffer) : Type 0 where
  pub wiped : (q : ℕ) → before.origin ≡ from_page q → p ≤ q → q < p + n → after ≡ blank
  pub stays : ((q : ℕ) → before.origin ≡ from_page q → p ≤ q → q < p + n → ⊥) → after ≡ before

forgets : (p n : ℕ) (b : Buffer) → Forgets p n b (without (among p n) b)
unfolding without is_one_of emptied
forgets p n b =
    record {
      wiped = λ q e l h. rw (one_of (among p n) b.origin q e, in_among p n q l h) refl;
      stays = λ o. rw (go b.origin o) refl;
    }
  where
    go : (x : Origin) → ((q : ℕ) → x ≡ from_page q → p ≤ q → q < p + n → ⊥) → is_one_of (among p n) x ≡ false
    go no_origin o = refl
    go (from_page q) o = not_among p n q (o q refl)

-- a buffer before and after all pages are deleted
pub record Clears (before after : Buffer) : Type 0 where
  pub wiped : (q : ℕ) → before.origin ≡ from_page q → after ≡ blank
  pub stays : before.origin ≡ no_origin → after ≡ before

-- an origin is below the c pages that are deleted
clears : (c : ℕ) (b : Buffer) → ((q : ℕ) → b.origin ≡ from_page q → q < c) → Clears b (without (among 0 c) b)
clears c b h =
    let f : Forgets 0 c b (without (among 0 c) b) = forgets 0 c b in
    record { wiped = λ q e. f.wiped q e (omega arith) (omega (arith, h q e)); stays = λ e. f.stays (λ q o. no_page_lem q (sym e ∙ o)) }

other_library : (b : ℕ) (x y : List ℕ) (g : Guarded) → other b (with_library x y g) ≡ other b g
unfolding with_library
other_library zero x y g = refl
other_library (suc zero) x y g = refl
other_library (suc (suc k)) x y g = refl

-- a legal reader that is not locked, what is lent fit, and the reader t that it is once an open transfer has ended
module _ (σ : Shape) (ok : σ.most ≤ 8 * σ.indexed) (r : Reader) (l : Legal σ ok r) (u : locked r.plain ≡ false) (s : List ℕ) (lent : Lent) (v : T (fit_lent (capacity r.guarded) lent)) where
  abbrev t : Reader
  t = rested r

  k : Good σ ok t
  k = good_rested σ ok r (good σ ok r l)

  -- the run asks for the command c
  abbrev Asks : Barred → Type 0
  Asks c = hear r.plain.address s ≡ order (command (barred c))

  abbrev called : Ended
  called = call_of σ r s lent

  -- 00h alone
  abbrev pub Done : Type 0
  Done = Replies (acknowledge t.plain.address 0x00 []) s lent called

  carried : (c : Barred) → Asks c → T (passed (rule lent.chip t c).tests) → Gives (carry_as t (rule lent.chip t c) zero).reply (carry_as t (rule lent.chip t c) zero).after s lent called
  carried c h d = answered σ r s lent l.legal v (carry_as t (rule lent.chip t c) zero) (obeys lent.chip r s u c h d)

  below : (p : ℕ) → p < pages r → T (ltb p (capacity t.guarded))
  unfolding capacity
  below p h = lt→ltb p (capacity t.guarded) (rw (spared r).templates h)

  -- 00h alone, and neither settings nor notepad nor status bit 1 change
  pub record Quiet : Type 0 where
    pub told : Done
    pub settings : called.after.plain ≡ t.plain
    pub notepad : called.after.guarded.notepad ≡ t.guarded.notepad
    pub found : called.after.guarded.found ≡ t.guarded.found

  quietly : (x y : List ℕ) (b c : Buffer) → Gives (acknowledge t.plain.address 0x00 []) (reader t.plain (contents x y t.guarded.notepad b c t.guarded.found)) s lent called
      → Quiet
  quietly x y b c a =
      record {
        told = a.told;
        settings = ap (λ (w : Reader). w.plain) a.after;
        notepad = ap (λ (w : Reader). w.guarded.notepad) a.after;
        found = ap (λ (w : Reader). w.guarded.found) a.after;
      }

  -- ---- Store: page p has the buffer's bytes and its bit; every other page keeps both. The buffer's origin is page p; the other buffer stays

  pub record Stored (b p : ℕ) : Type 0 where
    pub quiet : Quiet
    pub chosen : buffer b called.after.guarded ≡ record { bytes = (buffer b t.guarded).bytes; filled = true; origin = from_page p }
    pub spare : other b called.after.guarded ≡ other b t.guarded
    pub bytes : page called.after p ≡ (buffer b t.guarded).bytes
    pub others : (q : ℕ) → q ≢ p → page called.after q ≡ page r q
    pub bits : (q : ℕ) → has called.after q ≡ (eqb p q || has r q)

  pub store_moves : (b p : ℕ) → Asks (store b p) → Numbered b → p < pages r → (buffer b t.guarded).filled ≡ true → has r p ≡ false → Stored b p
  unfolding rule apply with_library with_buffer with_transfer stored_on carry_as follow stored bit
  store_moves b p h i m e o =
      let g : Guarded = t.guarded in
      let c : Buffer = buffer_of (second b) g in
      let x = below p m in
      let f : T c.filled = rw (buffer_is b i g, e) tt in
      let y : T (not (stored g.index p)) = rw ((spared r).index, o) tt in
      let z : T (is_buffer b) = (numbered b).1 i in
      let d : T (passed (rule lent.chip t (store b p)).tests) = search and_i depth 9 in
      let n : p < capacity g = ltb→lt p (capacity g) x in
      let w : Filled t (second b) p = fill_page_lem t (second b) p (buffer_long (second b) g k.buffers) (omega (arith, k.shelf.long)) in
      let a = carried (store b p) h d in
      let laid : Guarded = with_library (lay (512 * p) c.bytes g.templates) (set_bit g.index p) g in
      let now : WithBuffer b (stored_on p c) t.plain.transfer (reader t.plain laid) (reader t.plain (with_buffer (second b) (stored_on p c) laid)) =
      by_number b i (stored_on p c) t.plain.transfer (reader t.plain laid)
      in
      record {
        quiet = quietly _ _ _ _ a;
        chosen =
            ap (λ (z : Reader). buffer b z.guarded) a.after ∙ now.chosen
            ∙ ap (stored_on p) (buffer_is b i g)
            ∙ ap (λ (m : Bool). record { bytes = (buffer b g).bytes; filled = m; origin = from_page p }) e;
        spare = ap (λ (z : Reader). other b z.guarded) a.after ∙ now.spare ∙ other_library b (lay (512 * p) c.bytes g.templates) (set_bit g.index p) g;
        bytes = ap (λ (z : Reader). page z p) a.after ∙ w.bytes ∙ ap (λ (z : Buffer). z.bytes) (buffer_is b i g);
        others = λ q o. ap (λ (z : Reader). page z q) a.after ∙ w.others q o ∙ ap (part (512 * q) 512) (spared r).templates;
        bits =
            λ q.
            ap (λ (z : Reader). has z q) a.after ∙ stored_with g.index k.typed.index p (omega (arith, k.shelf.wide, k.shelf.high)) q
            ∙ ap (λ (z : List ℕ). eqb p q || stored z q) (spared r).index;
      }

  -- ---- LoadChar: the buffer has the page's bytes and its mark, and its origin is that page; all else stays

  pub load_moves : (b p : ℕ) → Asks (load_char b p) → Numbered b → p < pages r → has r p ≡ true
      → Leaves (acknowledge t.plain.address 0x00 []) (WithBuffer b record { bytes = page r p; filled = true; origin = from_page p } t.plain.transfer t) s lent called
  unfolding rule apply carry_as follow stored bit loaded_from with_transfer
  load_moves b p h i m f =
      let g : Guarded = t.guarded in
      let y : T (stored g.index p) = rw ((spared r).index, f) tt in
      let d : T (passed (rule lent.chip t (load_char b p)).tests) = and_i (is_buffer b) (ltb p (capacity g) && (stored g.index p && true)) ((numbered b).1 i) (and_i (ltb p (capacity g)) (stored g.index p && true) (below p m) (and_i (stored g.index p) true y tt)) in
      let a = carried (load_char b p) h d in
      let now = subst (WithBuffer b (loaded_from p (page t p)) t.plain.transfer t) (sym a.after) (by_number b i (loaded_from p (page t p)) t.plain.transfer t) in
      record {
        told = a.told;
        after = subst (λ (z : List ℕ). WithBuffer b (loaded_from p (part (512 * p) 512 z)) t.plain.transfer t called.after) (spared r).templates now;
      }

  -- ---- DownChar: the buffer is zeroed, its mark clear, its origin none, and a transfer into it open with no byte got; all else stays

  pub down_awaits : (b : ℕ) → Asks (down_char b) → Numbered b → Leaves (acknowledge t.plain.address 0x00 []) (WithBuffer b blank (opened (eqb b 2) 0) t) s lent called
  unfolding rule apply carry_as follow emptied with_transfer
  down_awaits b h i =
      let a = carried (down_char b) h (and_i (is_buffer b) true ((numbered b).1 i) tt) in
      record { told = a.told; after = subst (WithBuffer b blank (opened (eqb b 2) 0) t) (sym a.after) (by_number b i blank (opened (eqb b 2) 0) t) }

  -- ---- DeletChar: the n pages from p on are zero and vacant; every other page keeps its bytes and its bit. A buffer whose origin is one of them is wiped

  pub record Deleted (p n : ℕ) : Type 0 where
    pub quiet : Quiet
    pub buffer1 : Forgets p n t.guarded.buffer1 called.after.guarded.buffer1
    pub buffer2 : Forgets p n t.guarded.buffer2 called.after.guarded.buffer2
    pub bytes : (q : ℕ) → p ≤ q → q < p + n → page called.after q ≡ replicate 512 0
    pub others : (q : ℕ) → (p ≤ q → q < p + n → ⊥) → page called.after q ≡ page r q
    pub bits : (q : ℕ) → has called.after q ≡ (not (leb p q && ltb q (p + n)) && has r q)

  pub delete_moves : (p n : ℕ) → Asks (delet_char p n) → p < pages r → p + n ≤ pages r → Deleted p n
  unfolding rule apply with_library without_pages carry_as follow capacity stored bit
  delete_moves p n h x b =
      let g : Guarded = t.guarded in
      let m : p + n ≤ capacity g = rw (spared r).templates b in
      let d : T (passed (rule lent.chip t (delet_char p n)).tests) = and_i (ltb p (capacity g) && leb (p + n) (capacity g)) true (and_i (ltb p (capacity g)) (leb (p + n) (capacity g)) (below p x) (le→leb (p + n) (capacity g) m)) tt in
      let w : Erased t p n = erase_pages t p n (omega (arith, k.shelf.long)) in
      let a = carried (delet_char p n) h d in
      record {
        quiet = quietly _ _ _ _ a;
        buffer1 = subst (λ (z : Reader). Forgets p n g.buffer1 z.guarded.buffer1) (sym a.after) (forgets p n g.buffer1);
        buffer2 = subst (λ (z : Reader). Forgets p n g.buffer2 z.guarded.buffer2) (sym a.after) (forgets p n g.buffer2);
        bytes = λ q x y. ap (λ (z : Reader). page z q) a.after ∙ w.bytes q x y;
        others = λ q o. ap (λ (z : Reader). page z q) a.after ∙ w.others q o ∙ ap (part (512 * q) 512) (spared r).templates;
        bits =
            λ q.
            ap (λ (z : Reader). has z q) a.after ∙ stored_span g.index p n (fine_of σ ok t k) (omega (arith, k.shelf.high, ok)) q
            ∙ ap (λ (z : List ℕ). not (leb p q && ltb q (p + n)) && stored z q) (spared r).index;
      }

  -- ---- Empty: every page is zero and vacant. A buffer with an origin is wiped; "buffers stay" holds for those without one

  pub record Emptied : Type 0 where
    pub quiet : Quiet
    pub buffer1 : Clears t.guarded.buffer1 called.after.guarded.buffer1
    pub buffer2 : Clears t.guarded.buffer2 called.after.guarded.buffer2
    pub bytes : (q : ℕ) → q < pages r → page called.after q ≡ replicate 512 0
    pub bits : (q : ℕ) → has called.after q ≡ false

  pub empty_moves : Asks empty → Emptied
  unfolding rule apply with_library without_pages buffer_of carry_as follow stored bit
  empty_moves h =
      let g : Guarded = t.guarded in
      let a = carried empty h tt in
      record {
        quiet = quietly _ _ _ _ a;
        buffer1 = subst (λ (z : Reader). Clears g.buffer1 z.guarded.buffer1) (sym a.after) (clears (capacity g) g.buffer1 (λ q e. (k.origins false q e).below));
        buffer2 = subst (λ (z : Reader). Clears g.buffer2 z.guarded.buffer2) (sym a.after) (clears (capacity g) g.buffer2 (λ q e. (k.origins true q e).below));
        bytes = λ q b. ap (λ (z : Reader). page z q) a.after ∙ part_zeros (512 * q) 512 (length g.templates) (omega (arith, k.shelf.long, ltb→lt q (capacity g) (below q b)));
        bits = λ q. ap (λ (z : Reader). has z q) a.after ∙ stored_zeros (length g.index) q;
      }
