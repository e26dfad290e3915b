-- What work between two calls keeps, whatever it is: a reader's legality, its settings but for what is guarded, and its capacity; that the index is one of bytes, and that no page from C on is stored.
use mathlib.Core.Bool.{Bool, true, false, true≢false, ◌||◌, ◌&&◌, not}
use mathlib.Core.Path.{◌≡◌, refl, sym, ap, ◌∙◌}
use mathlib.Core.List.{List, []}
use Prim.Native.Nat.{ℕ, ◌*◌, ◌/◌, ◌≤◌, ◌<◌}
use native.Mathlib.Omega.{arith}
use native.Mathlib.Decide.{ℕ_discrete}
use lib.Dec.{T, eqb, ltb, ltb→lt}
use lib.ListN.{length, length-replicate}
use borrow.Author.Tests.{ne_eqb}
use Rattle.protocol.specs.Bytes.{Bytes, zeros, lay}
use Rattle.protocol.specs.Tests.{among}
use Rattle.protocol.specs.Index.{stored, set_bit, clear_bits}
use Rattle.protocol.specs.Reader.{Reader, capacity, with_library}
use Rattle.protocol.specs.Call.{Shape}
use Rattle.protocol.specs.Dialogue.{Event, finally}
use Rattle.protocol.proofs.Laws.Lists.{length_lay}
use Rattle.protocol.proofs.Laws.Index.{Fine, stored_with, stored_span, stored_zeros, fine_with, fine_span, fine_zeros}
use Rattle.protocol.proofs.Promises.Refusals.StaysLegal.{Legal}
use Rattle.dialogues.proofs.Laws.History.{Keeps, events_keep}
use Rattle.offline.specs.CloseGaps.{rank, closed_up, Closed, close_as}
use Rattle.offline.specs.Salvage.{Salvaged, salvage_as, salvaged_in}
use Rattle.offline.specs.Life.{Work, closing, salvaging, after_work}
use Rattle.offline.proofs.Laws.Gaps.{rank_le, length_closed, fine_closed, stored_closed}
use Rattle.offline.proofs.Laws.Salvage.{length_salvaged, fine_salvaged, index_stays}
use Rattle.offline.proofs.Gaps.Refusals.{able, close_kinds}
use Rattle.offline.proofs.Gaps.StaysLegal.{closed_legal}
use Rattle.offline.proofs.Salvage.Refusals.{salvage_kinds}
use Rattle.offline.proofs.Salvage.StaysLegal.{salvaged_legal}

module _ (σ : Shape) (ok : σ.most ≤ 8 * σ.indexed) where
  pub work_legal : (w : Work) (r : Reader) → Legal σ ok r → Legal σ ok (after_work σ r w)
  unfolding after_work
  work_legal (closing table) r l = closed_legal σ ok r table l
  work_legal (salvaging report) r l = salvaged_legal σ ok r report l

  pub work_plain : (w : Work) (r : Reader) → (after_work σ r w).plain ≡ r.plain
  unfolding after_work close_as salvaged_in
  work_plain (closing table) r = close_kinds σ r table (λ (e : Closed). e.after.plain ≡ r.plain) (λ n. refl) (λ t u. refl)
  work_plain (salvaging report) r = refl

  pub work_length : (w : Work) (r : Reader) → length (after_work σ r w).guarded.templates ≡ length r.guarded.templates
  unfolding after_work close_as closed_up salvaged_in salvage_as with_library
  work_length (closing table) r =
      close_kinds σ r table (λ (e : Closed). length e.after.guarded.templates ≡ length r.guarded.templates) (λ k. refl)
      (λ t u. length_closed (capacity r.guarded) r.guarded.templates r.guarded.index (able σ r table t u).long)
  work_length (salvaging report) r =
      let g = r.guarded in
      salvage_kinds σ g.templates g.index report (λ (e : Salvaged). length e.templates ≡ length g.templates) (λ k. refl)
      (λ k. length_salvaged g.templates g.index (length g.templates / 512) (omega (arith, k.long)))

  pub work_capacity : (w : Work) (r : Reader) → capacity (after_work σ r w).guarded ≡ capacity r.guarded
  unfolding capacity
  work_capacity w r = ap (λ (n : ℕ). n / 512) (work_length w r)

  -- ---- an index of bytes

  bytes_kept : Keeps σ.indexed (λ t x acts. Bytes x)
  bytes_kept =
      record {
        puts = λ t x old k c a p b l e v. (fine_with x p record { long = a.wide; bytes = k }).bytes;
        cuts = λ t x old k c a p n l. (fine_span x p n record { long = a.wide; bytes = k }).bytes;
        clears = λ t x old k. (fine_zeros (length x)).bytes;
      }

  pub calls_bytes : (r : Reader) → Bytes r.guarded.index → (es : List Event) → Bytes (finally σ r es).guarded.index
  calls_bytes r y es = events_keep σ ok (λ t x acts. Bytes x) bytes_kept es r [] y

  pub work_bytes : (w : Work) (r : Reader) → Bytes r.guarded.index → Bytes (after_work σ r w).guarded.index
  unfolding after_work close_as closed_up salvaged_in salvage_as with_library
  work_bytes (closing table) r y =
      close_kinds σ r table (λ (e : Closed). Bytes e.after.guarded.index) (λ k. y)
      (λ t u.
      let a = able σ r table t u in
      let g = r.guarded in
      (fine_closed σ.indexed (capacity g) g.templates g.index a.long a.wide (omega (arith, a.high))).bytes)
  work_bytes (salvaging report) r y =
      let g = r.guarded in
      salvage_kinds σ g.templates g.index report (λ (e : Salvaged). Bytes e.index) (λ k. y)
      (λ k. (fine_salvaged g.index (length g.templates / 512) record { long = k.wide; bytes = y } (omega (arith, k.high))).bytes)

  -- ---- of its pages none from C on is stored

  abbrev pub Below : List ℕ → List ℕ → Type 0
  Below t x = (q : ℕ) → stored x q ≡ true → q < length t / 512

  below_laid : (t b x : List ℕ) (i : ℕ) → length (lay i b t) ≡ length t → Below t x → Below (lay i b t) x
  below_laid t b x i e h q s = let n : length (lay i b t) / 512 ≡ length t / 512 = ap (λ (k : ℕ). k / 512) e in rw n (h q s)

  below_kept : Keeps σ.indexed (λ t x acts. Bytes x × Below t x)
  below_kept =
      record {
        puts =
            λ t x old k c a p b l e v. (
              (fine_with x p record { long = a.wide; bytes = k.0 }).bytes,
              below_laid t b (set_bit x p) (512 * p) (length_lay (512 * p) b t (omega (arith, a.long, e)))
                  (λ q s. one t x c p q a.long l (k.1 q) (ℕ_discrete p q) (sym (stored_with x k.0 p (omega (arith, a.wide, a.small)) q) ∙ s)),
            );
        cuts =
            λ t x old k c a p n l.
            let f : Fine σ.indexed x = record { long = a.wide; bytes = k.0 } in
            let many : length (zeros (512 * n)) ≡ 512 * n = length-replicate (512 * n) 0 in (
              (fine_span x p n f).bytes,
              below_laid t (zeros (512 * n)) (clear_bits x p n) (512 * p) (length_lay (512 * p) (zeros (512 * n)) t (omega (arith, a.long)))
                  (λ q s. k.1 q (both (not (among p n q)) (stored x q) (sym (stored_span x p n f (omega (arith, a.small)) q) ∙ s))),
            );
        clears = λ t x old k. ((fine_zeros (length x)).bytes, λ q s. absurd (true≢false (sym s ∙ stored_zeros (length x) q)));
      }
    where
      one : (t x : List ℕ) (c p q : ℕ) → length t ≡ 512 * c → p < c → (stored x q ≡ true → q < length t / 512) → Dec (p ≡ q) → (eqb p q || stored x q) ≡ true → q < length t / 512
      one t x c p q e l h (yes d) s = omega arith
      one t x c p q e l h (no d) s = h (rw (ne_eqb p q d) at s)

      both : (a b : Bool) → (a && b) ≡ true → b ≡ true
      both true b e = e
      both false b e = absurd (true≢false (sym e))

  pub calls_below : (r : Reader) → Bytes r.guarded.index → Below r.guarded.templates r.guarded.index → (es : List Event)
      → (let g = (finally σ r es).guarded in Below g.templates g.index)
  calls_below r y b es = (events_keep σ ok (λ t x acts. Bytes x × Below t x) below_kept es r [] (y, b)).1

  -- so salvage clears no bit
  pub salvaging_leaves : (r : Reader) (report : List ℕ) → Bytes r.guarded.index → Below r.guarded.templates r.guarded.index → (salvaged_in σ r report).guarded.index ≡ r.guarded.index
  unfolding salvaged_in salvage_as with_library
  salvaging_leaves r report y b =
      let g = r.guarded in
      salvage_kinds σ g.templates g.index report (λ (e : Salvaged). e.index ≡ g.index) (λ k. refl)
      (λ k. index_stays g.index (length g.templates / 512) record { long = k.wide; bytes = y } (omega (arith, k.high)) (λ q l. none q l (stored g.index q) refl))
    where
      none : (q : ℕ) → length r.guarded.templates / 512 ≤ q → (s : Bool) → stored r.guarded.index q ≡ s → stored r.guarded.index q ≡ false
      none q l true e = absurd (omega (arith, b q e))
      none q l false e = e

  pub work_below : (w : Work) (r : Reader) → Bytes r.guarded.index → Below r.guarded.templates r.guarded.index
      → (let g = (after_work σ r w).guarded in Below g.templates g.index)
  unfolding after_work close_as closed_up capacity
  work_below (closing table) r y b =
      close_kinds σ r table (λ (e : Closed). Below e.after.guarded.templates e.after.guarded.index) (λ k. b)
      (λ t u q s.
      let a = able σ r table t u in
      let g = r.guarded in
      let c : ℕ = length g.templates / 512 in
      let l : T (ltb q (rank g.index c)) = rw (sym (stored_closed σ.indexed c g.templates g.index a.long a.wide (omega (arith, a.high)) q) ∙ s) tt in
      omega (arith, length_closed c g.templates g.index a.long, rank_le g.index c, ltb→lt q (rank g.index c) l))
  work_below (salvaging report) r y b =
      λ q s. omega (arith, work_length (salvaging report) r, b q (ap (λ (x : List ℕ). stored x q) (sym (salvaging_leaves r report y b)) ∙ s))
