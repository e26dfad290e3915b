-- Document 02, request [9]: "a second run moves nothing".
use mathlib.Core.Bool.{Bool, true, false}
use mathlib.Core.Path.{◌≡◌, refl, sym, ap, ◌∙◌}
use mathlib.Core.List.{List}
use Prim.Native.Nat.{ℕ, ◌*◌, ◌≤◌, ◌<◌}
use native.Mathlib.Omega.{arith}
use lib.Dec.{T, eqb, ltb, leb, ltb→lt}
use borrow.Author.Tests.{lt-ltb}
use lib.ListN.{length, get_or}
use Rattle.protocol.specs.Tests.{within, count_below}
use Rattle.protocol.specs.Index.{clear_from}
use Rattle.protocol.specs.Reader.{Origin, no_origin, from_page, Buffer, Guarded, Reader, capacity, buffer_of, reader}
use Rattle.protocol.specs.Call.{Shape, fit_plain, fit_transfer, fit_origins, sound}
use Rattle.offline.specs.CloseGaps.{rank, closed_index, followed, closed_up, Closed, fit_closing, close_as, close_of}
use Rattle.protocol.proofs.Laws.Logic.{and_l, and_r, and_i, eq→eqb}
use Rattle.protocol.proofs.Laws.Origins.{Rooted, rooted, fit_origins_lem}
use Rattle.protocol.proofs.Laws.Count.{count_all}
use Rattle.offline.proofs.Laws.Gaps.{rank_lt, length_closed, fine_closed, clear_closed, index_again, templates_again, rank_still}
use Rattle.protocol.proofs.Promises.Words.Told.{pages, has}
use Rattle.offline.proofs.Gaps.Refusals.{Able, able, close_is, passes}
use Rattle.offline.proofs.Gaps.Closes.{Closes, closes}
use Rattle.offline.proofs.Gaps.StaysLegal.{rooted_follows, capacity_closed, transfer_follows}

-- the call, with this table lent, is not refused, leaves the reader t as it is, and tells each stored page its own number
pub record MovesNothing (σ : Shape) (t : Reader) (table : List ℕ) : Type 0 where
  pub refusal : (close_of σ t table).refusal ≡ 0
  pub after : (close_of σ t table).after ≡ t
  pub own : (p : ℕ) → p < pages t → has t p ≡ true → get_or (close_of σ t table).table p 0 ≡ p
  pub vacant : (p : ℕ) → p < pages t → has t p ≡ false → get_or (close_of σ t table).table p 0 ≡ 0xffff

-- of a reader whose first n pages alone are stored
count_own : (t : Reader) (n : ℕ) → ((q : ℕ) → has t q ≡ ltb q n) → (p : ℕ) → has t p ≡ true → count_below (has t) p ≡ p
count_own t n h p e =
    let l : p < n = ltb→lt p n (rw (sym (h p) ∙ e) tt) in
    count_all (has t) p (λ q a. h q ∙ lt-ltb q n (omega arith))

module _ (σ : Shape) (ok : σ.most ≤ 8 * σ.indexed) (r : Reader) (table : List ℕ) where
  origin_again : Able σ r table → (b : Buffer) → Rooted (capacity r.guarded) r.guarded.index b
      → followed (closed_index (capacity r.guarded) r.guarded.index) (followed r.guarded.index b.origin) ≡ followed r.guarded.index b.origin
  unfolding followed
  origin_again k b h = go b.origin refl
    where
      g : Guarded
      g = r.guarded

      go : (o : Origin) → b.origin ≡ o → followed (closed_index (capacity g) g.index) (followed g.index o) ≡ followed g.index o
      go no_origin e = refl
      go (from_page p) e =
          let o = h p e in
          ap from_page
          (rank_still σ.indexed (capacity g) g.templates g.index k.long k.wide (omega (arith, k.high)) (rank g.index p)
          (omega (arith, rank_lt g.index p (capacity g) o.below o.there)))

  pub sound_closed : T (fit_closing σ r.guarded table) → T (sound r) → T (sound (close_as r table 0).after)
  unfolding close_as sound closed_up buffer_of
  sound_closed t u =
      let k : Able σ r table = able σ r table t u in
      let g : Guarded = r.guarded in
      let same : capacity (closed_up g) ≡ capacity g = capacity_closed σ ok r table k in
      let a : T (fit_plain r.plain) = search (and_l) in
      let b : T (fit_transfer r.plain (closed_up g) r.plain.transfer) = transfer_follows σ ok r table r.plain.transfer (search (and_l, and_r)) in
      let c : T (clear_from (closed_up g).index (capacity (closed_up g))) = clears k same in
      let o : T (fit_origins (closed_up g)) = fit_origins_lem (closed_up g) (rw same (roots k (rooted g (search (and_r))))) in
      search (and_i)
    where
      clears : Able σ r table → capacity (closed_up r.guarded) ≡ capacity r.guarded → T (clear_from (closed_up r.guarded).index (capacity (closed_up r.guarded)))
      clears k e = rw e (clear_closed σ.indexed (capacity r.guarded) r.guarded.templates r.guarded.index k.long k.wide (omega (arith, k.high)))

      roots : Able σ r table → ((w : Bool) → Rooted (capacity r.guarded) r.guarded.index (buffer_of w r.guarded))
          → (w : Bool) → Rooted (capacity r.guarded) (closed_up r.guarded).index (buffer_of w (closed_up r.guarded))
      roots k o true = rooted_follows σ ok r table k r.guarded.buffer2 (o true)
      roots k o false = rooted_follows σ ok r table k r.guarded.buffer1 (o false)

  fits_again : T (fit_closing σ r.guarded table) → T (sound r) → (next : List ℕ) → length next ≡ pages r → T (fit_closing σ (closed_up r.guarded) next)
  unfolding fit_closing within capacity closed_up
  fits_again t u next e =
      let k : Able σ r table = able σ r table t u in
      let g : Guarded = r.guarded in
      let c : ℕ = capacity g in
      let long = length_closed c g.templates g.index k.long in
      let wide = (fine_closed σ.indexed c g.templates g.index k.long k.wide (omega (arith, k.high))).long in
      let a : T (leb σ.least c) = search (and_l, and_r) depth 8 in
      let b : T (leb c σ.most) = search (and_l, and_r) depth 8 in
      let d : T (eqb (length g.templates) (512 * c)) = search (and_l, and_r) depth 8 in
      let i : T (eqb σ.indexed σ.indexed) = eq→eqb σ.indexed σ.indexed refl in
      let n : T (eqb c c) = eq→eqb c c refl in
      rw (long, wide, e) (search (and_i) depth 8)

  closed_again : T (fit_closing σ r.guarded table) → T (sound r) → closed_up (closed_up r.guarded) ≡ closed_up r.guarded
  unfolding closed_up sound buffer_of
  closed_again t u =
      let k : Able σ r table = able σ r table t u in
      let g : Guarded = r.guarded in
      let c : ℕ = capacity g in
      let x : List ℕ = g.index in
      let small : c ≤ 8 * σ.indexed = omega (arith, k.high) in
      let same : capacity (closed_up g) ≡ c = capacity_closed σ ok r table k in
      let o : (w : Bool) → Rooted c x (buffer_of w g) = rooted g (search (and_r)) in
      let ts = templates_again σ.indexed c g.templates x k.long k.wide small in
      let is = index_again σ.indexed c g.templates x k.long k.wide small in
      let o1 = origin_again k g.buffer1 (o false) in
      let o2 = origin_again k g.buffer2 (o true) in
      rw (same, ts, is, o1, o2) refl

module _ (σ : Shape) (ok : σ.most ≤ 8 * σ.indexed) (r : Reader) (table : List ℕ) (z : (close_of σ r table).refusal ≡ 0) where
  pub moves_nothing : (next : List ℕ) → length next ≡ pages r → MovesNothing σ (close_of σ r table).after next
  unfolding close_as
  moves_nothing next e =
      let k = passes σ r table z in
      let one : close_of σ r table ≡ close_as r table 0 = close_is σ r table k.lengths k.settings in
      let t : Reader = (close_as r table 0).after in
      let f : T (fit_closing σ t.guarded next) = fits_again σ ok r table k.lengths k.settings next e in
      let u : T (sound t) = sound_closed σ ok r table k.lengths k.settings in
      let two : close_of σ t next ≡ close_as t next 0 = close_is σ t next f u in
      let c : Closes r (count_below (has r) (pages r)) (close_as r table 0) = rw one at (closes σ ok r table z) in
      let d : Closes t (count_below (has t) (pages t)) (close_of σ t next) = closes σ ok t next (ap (λ (e : Closed). e.refusal) two) in
      rw one
      record {
        refusal = ap (λ (e : Closed). e.refusal) two;
        after = ap (λ (e : Closed). e.after) two ∙ ap (reader r.plain) (closed_again σ ok r table k.lengths k.settings);
        own = λ p l h. d.moved p l h ∙ count_own t (count_below (has r) (pages r)) c.bits p h;
        vacant = d.vacant;
      }
