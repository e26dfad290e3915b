-- The library over any life: calls, line switches and, between them, closings of its gaps (request [9]) and salvages (request [10]). Demand 2: "From an empty library, the valid count always equals
-- the pages stored and not deleted since." "In demand 2's valid count a moved page goes on as stored under its new number, and its old number no longer stands for it."
use mathlib.Core.Bool.{Bool, true, false, true≢false, ◌&&◌}
use mathlib.Core.Path.{◌≡◌, refl, sym, ap, ◌∙◌}
use mathlib.Core.List.{List, [], ◌∷◌}
use Prim.Native.Nat.{ℕ, ◌*◌, ◌≤◌, ◌<◌}
use native.Mathlib.Omega.{arith}
use native.Mathlib.Decide.{dec_lt}
use lib.Dec.{T, eqb, ltb}
use lib.ListN.{length, get_or}
use borrow.Author.Tests.{lt-ltb, le-ltb, ne_eqb}
use Rattle.protocol.specs.Bytes.{zeros}
use Rattle.protocol.specs.Tests.{some, count_below}
use Rattle.protocol.specs.Index.{stored, set_bits}
use Rattle.protocol.specs.Reader.{from_page, Reader, capacity, locked}
use Rattle.protocol.specs.Commands.{templete_num, barred, command}
use Rattle.protocol.specs.Data.{acknowledge}
use Rattle.protocol.specs.Step.{order, hear, rested}
use Rattle.protocol.specs.Call.{Shape, Lent, fit_lent, sound, call_of}
use Rattle.protocol.specs.Dialogue.{finally}
use Rattle.dialogues.specs.History.{Act, moved, live}
use Rattle.protocol.proofs.Laws.Logic.{eqb_same, and_false}
use Rattle.protocol.proofs.Laws.Below.{some_at, some_none, length_listed, at_listed}
use Rattle.protocol.proofs.Promises.Words.Told.{Gives, word, buffer}
use Rattle.protocol.proofs.Promises.Refusals.StaysLegal.{Legal}
use Rattle.protocol.proofs.Promises.Refusals.StaysLegal as calling
use Rattle.protocol.proofs.Laws.Index.{stored_zeros}
use Rattle.dialogues.proofs.Laws.History.{ever_capacity}
use Rattle.dialogues.proofs.Library.ValidCount.{Tells, tells_none, tells_count, tells_ever, tells_told}
use Rattle.dialogues.proofs.Library.Faithful.{Faithful, Holds, ever_faithful, stays_faithful}
use Rattle.offline.specs.CloseGaps.{rank, new_page, closed_up, table_of, Closed, fit_closing, close_as, close_of}
use Rattle.offline.specs.Salvage.{salvaged_in}
use Rattle.offline.specs.Life.{closing, salvaging, after_work, Deed, calls, between, deed, lastly, Sight, told, work_seen, sights, life_of}
use Rattle.offline.proofs.Laws.Gaps.{rank_lt, Source, source, fine_closed, stored_closed}
use Rattle.offline.proofs.Gaps.Refusals.{Able, able, close_kinds}
use Rattle.offline.proofs.Gaps.StaysLegal.{closed_legal, closed_faithful}
use Rattle.offline.proofs.Salvage.StaysLegal.{salvaged_legal, salvaged_faithful}
use Rattle.offline.proofs.Life.Work.{work_legal, work_capacity, Below, calls_below, work_below, salvaging_leaves}

-- the pages that were seen stored and not deleted since, under the numbers that the tables told, of an index of m bytes
abbrev pub live_pages : ℕ → List Sight → ℕ
live_pages m seen = count_below (live (life_of seen [])) (8 * m)

module _ (σ : Shape) (ok : σ.most ≤ 8 * σ.indexed) where
  -- ---- a legal reader stays legal, and keeps its capacity

  pub ever_legal : (ds : List Deed) (r : Reader) → Legal σ ok r → Legal σ ok (lastly σ r ds)
  unfolding lastly deed
  ever_legal [] r l = l
  ever_legal (calls es ∷ ds) r l = ever_legal ds (finally σ r es) (calling.ever_legal σ ok r l es)
  ever_legal (between w ∷ ds) r l = ever_legal ds (after_work σ r w) (work_legal σ ok w r l)

  pub life_capacity : (ds : List Deed) (r : Reader) → capacity (lastly σ r ds).guarded ≡ capacity r.guarded
  unfolding lastly deed
  life_capacity [] r = refl
  life_capacity (calls es ∷ ds) r = life_capacity ds (finally σ r es) ∙ ever_capacity σ ok r es
  life_capacity (between w ∷ ds) r = life_capacity ds (after_work σ r w) ∙ work_capacity σ ok w r

  -- ---- the valid count

  -- the table that a closing tells moves the live pages to those that are stored then
  closing_tells : (r : Reader) (table : List ℕ) (acts : List Act) → Tells σ.indexed r.guarded.index acts → T (fit_closing σ r.guarded table) → T (sound r)
      → Tells σ.indexed (close_as r table 0).after.guarded.index (moved (close_as r table 0).table ∷ acts)
  unfolding close_as closed_up table_of live new_page
  closing_tells r table acts k t u =
      record {
        fine = fine_closed σ.indexed c s x a.long a.wide small;
        pages = λ q. stored_closed σ.indexed c s x a.long a.wide small q ∙ sym (go q (dec_lt q (rank x c)));
      }
    where
      x : List ℕ
      x = r.guarded.index

      s : List ℕ
      s = r.guarded.templates

      c : ℕ
      c = capacity r.guarded

      a : Able σ r table
      a = able σ r table t u

      small : c ≤ 8 * σ.indexed
      small = omega (arith, a.high)

      f : ℕ → ℕ → Bool
      f q p = live acts p && eqb (get_or (table_of r.guarded) p 0) q

      long : length (table_of r.guarded) ≡ c
      long = length_listed (new_page x) c

      here : (q p : ℕ) → p < c → stored x p ≡ true → rank x p ≡ q → f q p ≡ true
      here q p l e n = rw (sym (k.pages p) ∙ e, at_listed (new_page x) c p l, e, n, eqb_same q) refl

      there : (q p : ℕ) → p < c → rank x c ≤ q → (b : Bool) → stored x p ≡ b → f q p ≡ false
      there q p l m true e = rw (at_listed (new_page x) c p l, e) (and_false (live acts p) _ (ne_eqb (rank x p) q (λ n. omega (arith, rank_lt x p c l e))))
      there q p l m false e = rw (sym (k.pages p) ∙ e) refl

      go : (q : ℕ) → Dec (q < rank x c) → some (f q) (length (table_of r.guarded)) ≡ ltb q (rank x c)
      go q (yes l) =
          let d : Source x c q = source x c q l in
          rw (long, lt-ltb q (rank x c) l) (some_at (f q) c d.page d.below (here q d.page d.below d.there d.new))
      go q (no l) = rw (long, le-ltb q (rank x c) (omega arith)) (some_none (f q) c (λ p m. there q p m (omega arith) (stored x p) refl))

  -- of a library of which no page from C on is stored
  pub deeds_tell : (ds : List Deed) (r : Reader) (acts : List Act) → Below σ ok r.guarded.templates r.guarded.index → Tells σ.indexed r.guarded.index acts
      → Tells σ.indexed (lastly σ r ds).guarded.index (life_of (sights σ r ds) acts)
  unfolding lastly deed after_work sights work_seen life_of close_as
  deeds_tell [] r acts b k = k
  deeds_tell (calls es ∷ ds) r acts b k = deeds_tell ds (finally σ r es) _ (calls_below σ ok r k.fine.bytes b es) (tells_ever σ ok r acts k es)
  deeds_tell (between (closing table) ∷ ds) r acts b k =
      close_kinds σ r table
      (λ (e : Closed). Below σ ok e.after.guarded.templates e.after.guarded.index
      → Tells σ.indexed (lastly σ e.after ds).guarded.index (life_of (told e.refusal e.table ∷ sights σ e.after ds) acts))
      (λ n h. deeds_tell ds r acts h k) (λ t u h. deeds_tell ds (close_as r table 0).after _ h (closing_tells r table acts k t u)) (work_below σ ok (closing table) r k.fine.bytes b)
  deeds_tell (between (salvaging report) ∷ ds) r acts b k =
      deeds_tell ds (salvaged_in σ r report) acts (work_below σ ok (salvaging report) r k.fine.bytes b) (rw (salvaging_leaves σ ok r report k.fine.bytes b) k)

  -- none of an empty library is
  pub none_below : (r : Reader) → r.guarded.index ≡ zeros σ.indexed → Below σ ok r.guarded.templates r.guarded.index
  none_below r z q s = absurd (true≢false (sym s ∙ ap (λ (x : List ℕ). stored x q) z ∙ stored_zeros σ.indexed q))

  pub valid_count : (r : Reader) → r.guarded.index ≡ zeros σ.indexed → (ds : List Deed) → set_bits (lastly σ r ds).guarded.index ≡ live_pages σ.indexed (sights σ r ds)
  valid_count r z ds = tells_count σ.indexed (lastly σ r ds).guarded.index (life_of (sights σ r ds) []) (deeds_tell ds r [] (none_below r z) (rw z (tells_none σ.indexed)))

  -- and TempleteNum answers them, at any time that the reader is not locked
  pub count_told : (r : Reader) → Legal σ ok r → r.guarded.index ≡ zeros σ.indexed → (ds : List Deed) (s : List ℕ) (lent : Lent) → T (fit_lent (capacity r.guarded) lent)
      → locked (lastly σ r ds).plain ≡ false → hear (lastly σ r ds).plain.address s ≡ order (command (barred templete_num))
      → Gives (acknowledge (lastly σ r ds).plain.address 0x00 (word (live_pages σ.indexed (sights σ r ds)))) (rested (lastly σ r ds)) s lent (call_of σ (lastly σ r ds) s lent)
  count_told r f z ds s lent u =
      tells_told σ ok (lastly σ r ds) _ (deeds_tell ds r [] (none_below r z) (rw z (tells_none σ.indexed))) (ever_legal ds r f).legal s lent (rw (life_capacity ds r) u)

  -- ---- request [7]: a buffer with an origin holds the bytes of the page that its origin names, which is stored

  pub deeds_faithful : (ds : List Deed) (r : Reader) → Legal σ ok r → Faithful r → Faithful (lastly σ r ds)
  unfolding lastly deed after_work
  deeds_faithful [] r l f = f
  deeds_faithful (calls es ∷ ds) r l f = deeds_faithful ds (finally σ r es) (calling.ever_legal σ ok r l es) (stays_faithful σ ok r l f es)
  deeds_faithful (between (closing table) ∷ ds) r l f = deeds_faithful ds (close_of σ r table).after (closed_legal σ ok r table l) (closed_faithful σ ok r table f)
  deeds_faithful (between (salvaging report) ∷ ds) r l f = deeds_faithful ds (salvaged_in σ r report) (salvaged_legal σ ok r report l) (salvaged_faithful σ ok r report l f)

  pub life_faithful : (r : Reader) → Legal σ ok r → Faithful r → (ds : List Deed) (b p : ℕ) → (buffer b (lastly σ r ds).guarded).origin ≡ from_page p
      → Holds σ ok (lastly σ r ds) b p
  unfolding finally
  life_faithful r l f ds = ever_faithful σ ok (lastly σ r ds) (ever_legal ds r l) (deeds_faithful ds r l f) []
