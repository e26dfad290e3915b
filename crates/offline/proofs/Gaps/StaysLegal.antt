-- A legal reader is legal after its gaps are closed, and a buffer with an origin holds the bytes of the page that its origin names then.
use mathlib.Core.Bool.{Bool, true, false}
use mathlib.Core.Path.{◌≡◌, refl, sym, ap, ◌∙◌}
use mathlib.Core.List.{List}
use Prim.Native.Nat.{ℕ, ◌*◌, ◌/◌, ◌≤◌}
use native.Mathlib.Omega.{arith}
use lib.Dec.{T}
use Rattle.protocol.specs.Index.{stored}
use Rattle.protocol.specs.Reader.{Transfer, closed, opened, unfit, Origin, no_origin, from_page, Buffer, Guarded, Reader, capacity, buffer_of, reader}
use Rattle.protocol.specs.Call.{Shape, fit_buffers, fit_transfer, sound}
use Rattle.offline.specs.CloseGaps.{rank, closed_templates, closed_index, followed, following, closed_up, Closed, close_as, close_of}
use Rattle.protocol.proofs.Laws.Index.{Fine}
use Rattle.protocol.proofs.Laws.Origins.{no_page_lem, same_page, Root, Rooted, rooted}
use Rattle.protocol.proofs.Laws.Logic.{and_r}
use Rattle.protocol.proofs.Laws.Legal.{Good, legal_of_lem}
use Rattle.offline.proofs.Laws.Gaps.{rank_le, length_closed, page_moved, fine_closed, clear_closed, new_stored}
use Rattle.protocol.proofs.Promises.Words.Told.{page}
use Rattle.protocol.proofs.Promises.Refusals.StaysLegal.{Legal, good}
use Rattle.dialogues.proofs.Library.Faithful.{Copy, Faithful}
use Rattle.offline.proofs.Gaps.Refusals.{Able, able, close_kinds}

module _ (σ : Shape) (ok : σ.most ≤ 8 * σ.indexed) (r : Reader) (table : List ℕ) where
  -- ---- a legal reader stays legal

  -- with one of its origins followed
  pub rooted_follows : Able σ r table → (b : Buffer) → Rooted (capacity r.guarded) r.guarded.index b
      → Rooted (capacity r.guarded) (closed_index (capacity r.guarded) r.guarded.index) (following r.guarded.index b)
  unfolding followed
  rooted_follows k b h = go b.origin refl
    where
      g : Guarded
      g = r.guarded

      go : (o : Origin) → b.origin ≡ o → (q : ℕ) → followed g.index o ≡ from_page q → Root (capacity g) (closed_index (capacity g) g.index) (following g.index b) q
      go no_origin e q d = no_page_lem q d
      go (from_page p) e q d =
          let o = h p e in
          let same : rank g.index p ≡ q = same_page (rank g.index p) q d in
          record {
            below = omega (arith, rank_le g.index p, o.below);
            there =
                ap (stored (closed_index (capacity g) g.index)) (sym same)
                ∙ new_stored σ.indexed (capacity g) g.templates g.index k.long k.wide (omega (arith, k.high)) p o.below o.there;
            filled = o.filled;
          }

  pub capacity_closed : Able σ r table → capacity (closed_up r.guarded) ≡ capacity r.guarded
  unfolding capacity closed_up
  capacity_closed k = ap (λ (n : ℕ). n / 512) (length_closed (capacity r.guarded) r.guarded.templates r.guarded.index k.long)

  pub transfer_follows : (t : Transfer) → T (fit_transfer r.plain r.guarded t) → T (fit_transfer r.plain (closed_up r.guarded) t)
  unfolding fit_transfer closed_up buffer_of
  transfer_follows closed f = f
  transfer_follows (opened true got) f = f
  transfer_follows (opened false got) f = f
  transfer_follows (unfit b n m) f = f

  good_closed : Good σ ok r → Able σ r table → Good σ ok (close_as r table 0).after
  unfolding close_as closed_up buffer_of fit_buffers
  good_closed q k =
      let g : Guarded = r.guarded in
      let c : ℕ = capacity g in
      let small : c ≤ 8 * σ.indexed = omega (arith, k.high) in
      let same : capacity (closed_up g) ≡ c = capacity_closed k in
      let fine : Fine σ.indexed (closed_index c g.index) = fine_closed σ.indexed c g.templates g.index k.long k.wide small in
      record {
        settings = q.settings;
        shelf = record {
          long = rw same (length_closed c g.templates g.index k.long ∙ k.long);
          low = rw same q.shelf.low;
          high = rw same q.shelf.high;
          wide = fine.long;
          notes = q.shelf.notes;
        };
        buffers = q.buffers;
        transfer = transfer_follows r.plain.transfer q.transfer;
        clear = rw same (clear_closed σ.indexed c g.templates g.index k.long k.wide small);
        origins = rw same (both k q.origins);
        typed = record { password = q.typed.password; address = q.typed.address; index = fine.bytes };
      }
    where
      both : Able σ r table → ((w : Bool) → Rooted (capacity r.guarded) r.guarded.index (buffer_of w r.guarded))
          → (w : Bool) → Rooted (capacity r.guarded) (closed_index (capacity r.guarded) r.guarded.index) (buffer_of w (closed_up r.guarded))
      both k o true = rooted_follows k r.guarded.buffer2 (o true)
      both k o false = rooted_follows k r.guarded.buffer1 (o false)

  pub closed_legal : Legal σ ok r → Legal σ ok (close_of σ r table).after
  closed_legal l =
      close_kinds σ r table (λ (e : Closed). Legal σ ok e.after) (λ n. l)
      (λ t u. let k = good_closed (good σ ok r l) (able σ r table t u) in record { typed = k.typed; legal = legal_of_lem σ ok (close_as r table 0).after k })

  -- ---- request [7]'s "holds exactly the bytes of that page" stays true

  copy_follows : Able σ r table → (b : Buffer) → Rooted (capacity r.guarded) r.guarded.index b → Copy r.guarded.templates b
      → Copy (closed_templates (capacity r.guarded) r.guarded.templates r.guarded.index) (following r.guarded.index b)
  unfolding followed closed_up
  copy_follows k b h f = go b.origin refl
    where
      g : Guarded
      g = r.guarded

      go : (o : Origin) → b.origin ≡ o → (q : ℕ) → followed g.index o ≡ from_page q → b.bytes ≡ page (reader r.plain (closed_up g)) q
      go no_origin e q d = no_page_lem q d
      go (from_page p) e q d =
          let o = h p e in
          let same : rank g.index p ≡ q = same_page (rank g.index p) q d in
          f p e ∙ sym (page_moved (capacity g) g.templates g.index k.long p o.below o.there) ∙ ap (page (reader r.plain (closed_up g))) same

  pub closed_faithful : Faithful r → Faithful (close_of σ r table).after
  unfolding close_as closed_up buffer_of sound
  closed_faithful f =
      close_kinds σ r table (λ (e : Closed). Faithful e.after) (λ n. f)
      (λ t u.
      let o : (w : Bool) → Rooted (capacity r.guarded) r.guarded.index (buffer_of w r.guarded) = rooted r.guarded (search (and_r)) in
      record { buffer1 = copy_follows (able σ r table t u) r.guarded.buffer1 (o false) f.buffer1; buffer2 = copy_follows (able σ r table t u) r.guarded.buffer2 (o true) f.buffer2 })
