-- Request [5] over any life: a stored page is lost by deletion alone. Whatever the reader, legal or not, a page below C is stored with the same bytes, 512 where it has so many,
-- under the number that the tables tell for it, or it was seen deleted under the number that it had then. (A bit at or above C is no page's, and salvage clears it.)
use mathlib.Core.Bool.{true}
use mathlib.Core.Path.{◌≡◌, refl, sym, ap, ◌∙◌, subst}
use mathlib.Core.Logic.{◌⊎◌, inl, inr, ◌≢◌}
use mathlib.Core.List.{List, [], ◌∷◌}
use Prim.Native.Nat.{ℕ, zero, suc, ◌*◌, ◌/◌, ◌≤◌, ◌<◌}
use native.Mathlib.Omega.{arith}
use lib.ListN.{length, get_or}
use borrow.Author.Tests.{lt-ltb}
use Rattle.protocol.specs.Bytes.{Bytes}
use Rattle.protocol.specs.Tests.{count_below}
use Rattle.protocol.specs.Index.{bit, stored}
use Rattle.protocol.specs.Reader.{Reader, capacity, with_library, reader}
use Rattle.protocol.specs.Call.{Shape}
use Rattle.protocol.specs.Dialogue.{finally}
use Rattle.dialogues.specs.History.{exchanges}
use Rattle.dialogues.proofs.Laws.History.{ever_capacity}
use Rattle.dialogues.proofs.Library.Untouched.{SawDeleted, Untouched, only_by_deletion}
use Rattle.protocol.proofs.Promises.Words.Told.{pages, page, has}
use Rattle.offline.specs.CloseGaps.{Closed, close_as, close_of}
use Rattle.offline.specs.Salvage.{Salvaged, salvage_as, salvaged_in}
use Rattle.offline.specs.Life.{closing, salvaging, after_work, Deed, calls, between, deed, lastly, Sight, exchanged, told, work_seen, sights, where_is}
use Rattle.offline.proofs.Gaps.Refusals.{close_kinds}
use Rattle.offline.proofs.Gaps.Closes.{closes, keeps_order, goes_down}
use Rattle.offline.proofs.Laws.Salvage.{page_stays, bits_salvaged}
use Rattle.offline.proofs.Salvage.Refusals.{salvage_kinds}
use Rattle.offline.proofs.Life.Work.{calls_bytes, work_bytes, work_length}

-- page q was seen deleted, under the number that it had then
abbrev pub Lost : ℕ → List Sight → Type 0
Lost q [] = ⊥
Lost q (exchanged xs ∷ ss) = SawDeleted q xs ⊎ Lost q ss
Lost q (told zero table ∷ ss) = Lost (get_or table q 0) ss
Lost q (told (suc k) table ∷ ss) = Lost q ss

-- page q of one reader is page p of the other, stored and with the same 512 bytes
pub record Stands (q : ℕ) (before : Reader) (p : ℕ) (after : Reader) : Type 0 where
  pub bit_set : has after p ≡ true
  pub bytes : page after p ≡ page before q

-- after what was seen: it stands where the tables tell, or was lost
abbrev pub StandsOrLost : ℕ → Reader → List Sight → Reader → Type 0
StandsOrLost q before ss after = Stands q before (where_is ss q) after ⊎ Lost q ss

via : {q p : ℕ} {r t z : Reader} (ss : List Sight) → page t p ≡ page r q → StandsOrLost p t ss z → Stands q r (where_is ss p) z ⊎ Lost p ss
via ss e (inl k) = inl record { bit_set = k.bit_set; bytes = k.bytes ∙ e }
via ss e (inr k) = inr k

module _ (σ : Shape) (ok : σ.most ≤ 8 * σ.indexed) where
  -- ---- one closing

  closing_stays : (r : Reader) (table : List ℕ) → (close_of σ r table).refusal ≢ 0 → (close_of σ r table).after ≡ r
  unfolding close_as
  closing_stays r table = close_kinds σ r table (λ (e : Closed). e.refusal ≢ 0 → e.after ≡ r) (λ n d. refl) (λ t u d. absurd (d refl))

  -- where it goes, and that it is stored there
  record MovedTo (r : Reader) (q : ℕ) (e : Closed) : Type 0 where
    bit_set : has e.after (get_or e.table q 0) ≡ true
    bytes : page e.after (get_or e.table q 0) ≡ page r q
    below : get_or e.table q 0 < pages e.after

  closing_goes : (r : Reader) (table : List ℕ) (q : ℕ) → q < pages r → has r q ≡ true → (close_of σ r table).refusal ≡ 0 → MovedTo r q (close_of σ r table)
  closing_goes r table q l h z =
      let c = closes σ ok r table z in
      let k = c.moved q l h in
      record {
        bit_set =
            ap (has (close_of σ r table).after) k ∙ c.bits (count_below (has r) q)
            ∙ lt-ltb (count_below (has r) q) (count_below (has r) (pages r)) (keeps_order r q (pages r) l h);
        bytes = ap (page (close_of σ r table).after) k ∙ c.bytes q l h;
        below = omega (arith, k, goes_down r q, c.templates);
      }

  -- ---- one salvage

  salvaging_keeps : (r : Reader) (report : List ℕ) → Bytes r.guarded.index → (q : ℕ) → q < pages r → has r q ≡ true → Stands q r q (salvaged_in σ r report)
  unfolding salvaged_in salvage_as with_library stored bit
  salvaging_keeps r report y q l h =
      let g = r.guarded in
      let c : ℕ = length g.templates / 512 in
      salvage_kinds σ g.templates g.index report (λ (e : Salvaged). Stands q r q (reader r.plain (with_library e.templates e.index g)))
      (λ n. record { bit_set = h; bytes = refl })
      (λ k. record {
        bit_set = bits_salvaged g.index c record { long = k.wide; bytes = y } (omega (arith, k.high)) q ∙ rw (lt-ltb q c l) h;
        bytes = page_stays g.templates g.index c (omega (arith, k.long)) q (λ m. h);
      })

  -- ---- any life

  pub lost_by_deletion : (ds : List Deed) (r : Reader) → Bytes r.guarded.index → (q : ℕ) → q < pages r → has r q ≡ true → StandsOrLost q r (sights σ r ds) (lastly σ r ds)
  unfolding lastly deed after_work sights work_seen where_is capacity
  lost_by_deletion [] r y q l h = inl record { bit_set = h; bytes = refl }
  lost_by_deletion (calls es ∷ ds) r y q l h = go (only_by_deletion σ ok r y q h es) (lost_by_deletion ds t (calls_bytes σ ok r y es) q (rw (ever_capacity σ ok r es) l))
    where
      t : Reader
      t = finally σ r es

      ended : Stands q r (where_is (sights σ t ds) q) (lastly σ t ds) ⊎ Lost q (sights σ t ds) → Stands q r (where_is (sights σ t ds) q) (lastly σ t ds) ⊎ (SawDeleted q (exchanges σ r es) ⊎ Lost q (sights σ t ds))
      ended (inl k) = inl k
      ended (inr k) = inr (inr k)

      go : Untouched q r t ⊎ SawDeleted q (exchanges σ r es) → (has t q ≡ true → StandsOrLost q t (sights σ t ds) (lastly σ t ds))
          → Stands q r (where_is (sights σ t ds) q) (lastly σ t ds) ⊎ (SawDeleted q (exchanges σ r es) ⊎ Lost q (sights σ t ds))
      go (inl u) ih = ended (via (sights σ t ds) u.bytes (ih u.bit_set))
      go (inr d) ih = inr (inl d)
  lost_by_deletion (between (closing table) ∷ ds) r y q l h = go o.refusal refl (lost_by_deletion ds o.after (work_bytes σ ok (closing table) r y))
    where
      o : Closed
      o = close_of σ r table

      rest : List Sight
      rest = sights σ o.after ds

      go : (n : ℕ) → o.refusal ≡ n → ((p : ℕ) → p < pages o.after → has o.after p ≡ true → StandsOrLost p o.after rest (lastly σ o.after ds))
          → Stands q r (where_is (told n o.table ∷ rest) q) (lastly σ o.after ds) ⊎ Lost q (told n o.table ∷ rest)
      go zero z ih = let g = closing_goes r table q l h z in via rest g.bytes (ih (get_or o.table q 0) g.below g.bit_set)
      go (suc n) z ih =
          let same : o.after ≡ r = closing_stays r table (λ k. absurd (omega arith)) in
          via rest (ap (λ (x : Reader). page x q) same) (ih q (subst (λ (x : Reader). q < pages x) (sym same) l) (subst (λ (x : Reader). has x q ≡ true) (sym same) h))
  lost_by_deletion (between (salvaging report) ∷ ds) r y q l h =
      let k = salvaging_keeps r report y q l h in
      via (sights σ (salvaged_in σ r report) ds) k.bytes
      (lost_by_deletion ds (salvaged_in σ r report) (work_bytes σ ok (salvaging report) r y) q (rw (work_length σ ok (salvaging report) r) l) k.bit_set)
