-- An effect leaves a legal reader legal.
use mathlib.Core.Bool.{Bool, true, false, true≢false, ◌&&◌, ◌||◌, not}
use mathlib.Core.Path.{◌≡◌, refl, sym, ap, ◌∙◌, subst}
use mathlib.Core.List.{List}
use Prim.Native.Nat.{ℕ, ◌+◌, ◌*◌, ◌/◌, ◌≤◌, ◌<◌}
use native.Mathlib.Nat.{zero-mod}
use native.Mathlib.Omega.{arith}
use lib.Dec.{T, eqb}
use borrow.Author.Tests.{ne_eqb}
use lib.ListN.{length, length-replicate, length-take, length-drop}
use Rattle.protocol.specs.Numbers.{page_bytes, four_bytes}
use Rattle.protocol.specs.Bytes.{zeros, part}
use Rattle.protocol.specs.Tests.{among}
use Rattle.protocol.specs.Index.{stored, set_bit, clear_bits, bits}
use Rattle.protocol.specs.Reader.{closed, opened, Buffer, Guarded, Reader, capacity, size_of, keyed, locked, buffer_of, emptied, loaded_from, stored_on, without, with_transfer, with_library, with_notepad, with_buffer, without_pages, with_found, reader}
use Rattle.protocol.specs.Table.{Effect, keep, fill_page, erase, erase_all, fill_buffer, await, note, remember, settle, apply}
use Rattle.protocol.specs.Call.{Shape, fit_buffers, fit_plain}
use Rattle.protocol.proofs.Laws.Logic.{and_i, and_false, or_false, or_true, eqb_same, eq→eqb}
use Rattle.protocol.proofs.Laws.Lists.{length_lay}
use Rattle.protocol.proofs.Laws.Index.{in_among, Fine, stored_with, stored_span, stored_zeros, fine_with, fine_span, fine_zeros, clear_from_lem, clear_to_lem}
use Rattle.protocol.proofs.Laws.Effects.{buffer_same, each_buffer}
use Rattle.protocol.proofs.Laws.Origins.{loaded_origin, stored_origin, same_page, Root, Rooted, rooted_none, erase_leaves, empty_leaves, without_kinds, one_of}
use Rattle.protocol.proofs.Laws.Legal.{buffer_long, fit_closed, fit_opened, Good, fine_of, good_plain, good_buffer}

fit_both : (g : Guarded) → ((w : Bool) → length (buffer_of w g).bytes ≡ page_bytes) → T (fit_buffers g)
unfolding fit_buffers buffer_of
fit_both g h =
    let a = eq→eqb (length g.buffer1.bytes) page_bytes (h false) in
    let b = eq→eqb (length g.buffer2.bytes) page_bytes (h true) in
    search and_i

module _ (σ : Shape) (ok : σ.most ≤ 8 * σ.indexed) where
  -- other contents of the same lengths, with no bit at or above the capacity
  record Kept (r : Reader) (g : Guarded) : Type 0 where
    templates : length g.templates ≡ length r.guarded.templates
    index : Fine σ.indexed g.index
    notepad : length g.notepad ≡ length r.guarded.notepad
    clear : (q : ℕ) → capacity r.guarded ≤ q → q < bits g.index → stored g.index q ≡ false
    buffers : (w : Bool) → length (buffer_of w g).bytes ≡ page_bytes
    origins : (w : Bool) → Rooted (capacity r.guarded) g.index (buffer_of w g)

  good_kept : (r : Reader) (g : Guarded) → Good σ ok r → r.plain.transfer ≡ closed → Kept r g → Good σ ok (reader r.plain g)
  unfolding capacity
  good_kept r g k z h =
      let c : length g.templates / page_bytes ≡ length r.guarded.templates / page_bytes = ap (λ (n : ℕ). n / page_bytes) h.templates in
      record {
        settings = k.settings;
        shelf =
            record {
              long = h.templates ∙ k.shelf.long ∙ ap (λ (n : ℕ). page_bytes * n) (sym c);
              low = rw c k.shelf.low;
              high = rw c k.shelf.high;
              wide = h.index.long;
              notes = h.notepad ∙ k.shelf.notes;
            };
        buffers = fit_both g h.buffers;
        transfer = fit_closed r.plain g r.plain.transfer z;
        clear = rw c (clear_to_lem g.index (capacity r.guarded) h.clear);
        origins = rw c h.origins;
        typed = record { password = k.typed.password; address = k.typed.address; index = h.index.bytes };
      }

  -- ---- an effect

  -- what a row's tests see to before its effect
  abbrev pub Proper : Reader → Effect → Type 0
  Proper r keep = Unit {0}
  Proper r (fill_page w p) = (p < capacity r.guarded) × (((buffer_of w r.guarded).filled ≡ true) × (stored r.guarded.index p ≡ false))
  Proper r (erase p n) = p + n ≤ capacity r.guarded
  Proper r erase_all = Unit {0}
  Proper r (fill_buffer w p) = (p < capacity r.guarded) × (stored r.guarded.index p ≡ true)
  Proper r (await w) = locked r.plain ≡ false
  Proper r (note i b) = i + length b ≤ length r.guarded.notepad
  Proper r (remember f) = Unit {0}
  Proper r (settle p) = T (fit_plain p) × ((p.transfer ≡ closed) × ((length p.password ≡ four_bytes) × (length p.address ≡ four_bytes)))

  -- pages deleted, and an index x that has the others as they were: both buffers
  module _ (r : Reader) (k : Good σ ok r) (pages : ℕ → Bool) (x : List ℕ)
      (h : (q : ℕ) → q < capacity r.guarded → pages q ≡ false → stored r.guarded.index q ≡ true → stored x q ≡ true) where
    without_long : (w : Bool) → length (without pages (buffer_of w r.guarded)).bytes ≡ page_bytes
    unfolding emptied
    without_long w = without_kinds (λ (b : Buffer). length b.bytes ≡ page_bytes) pages (buffer_of w r.guarded) refl (λ o. buffer_long w r.guarded k.buffers)

    without_rooted : (w : Bool) → Rooted (capacity r.guarded) x (without pages (buffer_of w r.guarded))
    unfolding emptied
    without_rooted w =
        without_kinds (Rooted (capacity r.guarded) x) pages (buffer_of w r.guarded) (rooted_none (capacity r.guarded) x emptied refl)
        (λ o q e.
        let m = k.origins w q e in
        record { below = m.below; there = h q m.below (sym (one_of pages (buffer_of w r.guarded).origin q e) ∙ o) m.there; filled = m.filled })

  pub effect_good : (e : Effect) (r : Reader) → Proper r e → r.plain.transfer ≡ closed → Good σ ok r → Good σ ok (apply e r)
  unfolding apply emptied loaded_from stored_on with_transfer with_library with_notepad with_buffer without_pages with_found buffer_of capacity locked keyed
  effect_good keep r m z k = k
  effect_good (fill_page w p) r m z k =
      let g : Guarded = r.guarded in
      let c : ℕ = capacity g in
      let b : Buffer = buffer_of w g in
      let x : List ℕ = set_bit g.index p in
      let long = buffer_long w g k.buffers in
      let bit : (q : ℕ) → stored x q ≡ (eqb p q || stored g.index q) = stored_with g.index k.typed.index p (omega (arith, k.shelf.wide, k.shelf.high, m.0)) in
      good_kept r (apply (fill_page w p) r).guarded k z
      record {
        templates = length_lay (page_bytes * p) b.bytes g.templates (omega (arith, k.shelf.long, m.0));
        index = fine_with g.index p (fine_of σ ok r k);
        notepad = refl;
        clear =
            λ q l u. bit q
            ∙ or_false (eqb p q) (stored g.index q) (ne_eqb p q (λ e. omega (arith, m.0)))
            (clear_from_lem g.index c k.clear q l (omega (arith, (fine_with g.index p (fine_of σ ok r k)).long, k.shelf.wide)));
        buffers = each_buffer (λ (y : Buffer). length y.bytes ≡ page_bytes) w (stored_on p b) g long (buffer_long (not w) g k.buffers);
        origins =
            each_buffer (Rooted c x) w (stored_on p b) g
            (λ q e. subst (Root c x (stored_on p b)) (same_page p q (sym (stored_origin p b) ∙ e))
            record { below = m.0; there = bit p ∙ ap (λ (t : Bool). t || stored g.index p) (eqb_same p); filled = m.1.0 })
            (λ q e. let o = k.origins (not w) q e in record { below = o.below; there = bit q ∙ or_true (eqb p q) (stored g.index q) o.there; filled = o.filled });
      }
  effect_good (erase p n) r m z k =
      let g : Guarded = r.guarded in
      let zs : List ℕ = zeros (page_bytes * n) in
      let x : List ℕ = clear_bits g.index p n in
      let long : length zs ≡ page_bytes * n = length-replicate (page_bytes * n) 0 in
      let span : (q : ℕ) → stored x q ≡ (not (among p n q) && stored g.index q) = stored_span g.index p n (fine_of σ ok r k) (omega (arith, k.shelf.high)) in
      let stay : (q : ℕ) → q < capacity g → among p n q ≡ false → stored g.index q ≡ true → stored x q ≡ true = λ q l a e. span q ∙ rw (a, e) refl in
      good_kept r (apply (erase p n) r).guarded k z
      record {
        templates = length_lay (page_bytes * p) zs g.templates (omega (arith, k.shelf.long));
        index = fine_span g.index p n (fine_of σ ok r k);
        notepad = refl;
        clear =
            λ q l u. span q
            ∙ and_false (not (among p n q)) (stored g.index q)
            (clear_from_lem g.index (capacity g) k.clear q l (omega (arith, (fine_span g.index p n (fine_of σ ok r k)).long, k.shelf.wide)));
        buffers = λ w. rw (erase_leaves p n w r) (without_long r k (among p n) x stay w);
        origins = λ w. rw (erase_leaves p n w r) (without_rooted r k (among p n) x stay w);
      }
  effect_good erase_all r m z k =
      let g : Guarded = r.guarded in
      let x : List ℕ = zeros (length g.index) in
      let all : (q : ℕ) → q < capacity g → among 0 (capacity g) q ≡ true = λ q l. in_among 0 (capacity g) q (omega arith) (omega arith) in
      let stay : (q : ℕ) → q < capacity g → among 0 (capacity g) q ≡ false → stored g.index q ≡ true → stored x q ≡ true = λ q l a e. absurd (true≢false (sym (all q l) ∙ a)) in
      good_kept r (apply erase_all r).guarded k z
      record {
        templates = length-replicate (length g.templates) 0;
        index = subst (λ (n : ℕ). Fine n x) k.shelf.wide (fine_zeros (length g.index));
        notepad = refl;
        clear = λ q l u. stored_zeros (length g.index) q;
        buffers = λ w. rw (empty_leaves w r) (without_long r k (among 0 (capacity g)) x stay w);
        origins = λ w. rw (empty_leaves w r) (without_rooted r k (among 0 (capacity g)) x stay w);
      }
  effect_good (fill_buffer w p) r m z k =
      let g : Guarded = r.guarded in
      let b : Buffer = loaded_from p (part (page_bytes * p) page_bytes g.templates) in
      good_buffer σ ok r r.plain.transfer w b k (simp (length-take, length-drop) (omega (arith, k.shelf.long, m.0)))
      (λ q e. subst (Root (capacity g) g.index b) (same_page p q (sym (loaded_origin p (part (page_bytes * p) page_bytes g.templates)) ∙ e)) record { below = m.0; there = m.1; filled = refl })
      (fit_closed r.plain (with_buffer w b g) r.plain.transfer z)
  effect_good (await w) r m z k =
      good_buffer σ ok r (opened w 0) w emptied k refl (rooted_none (capacity r.guarded) r.guarded.index emptied refl)
      (fit_opened (with_transfer (opened w 0) r.plain) (with_buffer w emptied r.guarded) w 0 (zero-mod (size_of r.plain.size)) (omega arith)
      (ap (λ (b : Buffer). b.filled) (buffer_same w emptied r.guarded)) m)
  effect_good (note i b) r m z k =
      good_kept r (apply (note i b) r).guarded k z
      record {
        templates = refl;
        index = fine_of σ ok r k;
        notepad = length_lay i b r.guarded.notepad m;
        clear = clear_from_lem r.guarded.index (capacity r.guarded) k.clear;
        buffers = λ w. buffer_long w r.guarded k.buffers;
        origins = k.origins;
      }
  effect_good (remember f) r m z k =
      good_kept r (apply (remember f) r).guarded k z
      record {
        templates = refl;
        index = fine_of σ ok r k;
        notepad = refl;
        clear = clear_from_lem r.guarded.index (capacity r.guarded) k.clear;
        buffers = λ w. buffer_long w r.guarded k.buffers;
        origins = k.origins;
      }
  effect_good (settle p) r m z k = good_plain σ ok r p k m.0 m.1.0 m.1.1.0 m.1.1.1
