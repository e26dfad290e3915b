-- A reader beside its salvaged library. "What it leaves passes refusal 3's index test": so settings that are legal otherwise are legal with it. A legal reader keeps its index, is legal,
-- and its buffers with an origin hold the bytes of their pages.
use mathlib.Core.Bool.{Bool, true, false}
use mathlib.Core.Path.{◌≡◌, refl, sym, ap, ◌∙◌}
use mathlib.Core.List.{List}
use Prim.Native.Nat.{ℕ, ◌*◌, ◌/◌, ◌≤◌, ◌<◌}
use native.Mathlib.Omega.{arith}
use lib.Dec.{T}
use borrow.Author.Tests.{lt-ltb}
use lib.ListN.{length}
use Rattle.protocol.specs.Bytes.{Bytes}
use Rattle.protocol.specs.Index.{bit, stored, clear_from}
use Rattle.protocol.specs.Reader.{Buffer, Guarded, Reader, capacity, buffer_of, with_library, reader}
use Rattle.protocol.specs.Call.{Shape, fit_buffers}
use Rattle.protocol.proofs.Laws.Index.{Fine, clear_above}
use Rattle.protocol.proofs.Laws.Origins.{Rooted}
use Rattle.protocol.proofs.Laws.Legal.{Good, legal_of_lem, fine_of}
use Rattle.protocol.proofs.Promises.Refusals.StaysLegal.{Legal, good}
use Rattle.dialogues.proofs.Library.BroughtOver.{transfer_fits}
use Rattle.dialogues.proofs.Library.Faithful.{Copy, Faithful}
use Rattle.offline.specs.Salvage.{salvaged_index, salvaged_pages, Salvaged, salvage_as, salvage_of, salvaged_in}
use Rattle.offline.proofs.Lengths.{Sized}
use Rattle.offline.proofs.Laws.Salvage.{length_salvaged, page_stays, fine_salvaged, bits_salvaged, clear_salvaged, index_stays}
use Rattle.protocol.proofs.Promises.Words.Told.{pages, has_bit}
use Rattle.offline.proofs.Salvage.Refusals.{salvage_kinds}

module _ (σ : Shape) (ok : σ.most ≤ 8 * σ.indexed) where
  -- a legal reader with another library of as many pages, in which the same are stored
  good_library : (r : Reader) (u i : List ℕ) → Good σ ok r → length u ≡ length r.guarded.templates → Fine σ.indexed i → T (clear_from i (capacity r.guarded))
      → ((q : ℕ) → q < capacity r.guarded → stored i q ≡ stored r.guarded.index q) → Good σ ok (reader r.plain (with_library u i r.guarded))
  unfolding with_library capacity buffer_of fit_buffers
  good_library r u i k long fine clear same =
      let c : length u / 512 ≡ length r.guarded.templates / 512 = ap (λ (n : ℕ). n / 512) long in
      record {
        settings = k.settings;
        shelf = record { long = rw c (long ∙ k.shelf.long); low = rw c k.shelf.low; high = rw c k.shelf.high; wide = fine.long; notes = k.shelf.notes };
        buffers = k.buffers;
        transfer = transfer_fits r.plain r.guarded u i r.plain.transfer k.transfer;
        clear = rw c clear;
        origins = rw c origins;
        typed = record { password = k.typed.password; address = k.typed.address; index = fine.bytes };
      }
    where
      moves : (b : Buffer) → Rooted (length r.guarded.templates / 512) r.guarded.index b → Rooted (length r.guarded.templates / 512) i b
      moves b h p e = let o = h p e in record { below = o.below; there = same p o.below ∙ o.there; filled = o.filled }

      origins : (w : Bool) → Rooted (length r.guarded.templates / 512) i (buffer_of w (with_library u i r.guarded))
      origins true = moves r.guarded.buffer2 (k.origins true)
      origins false = moves r.guarded.buffer1 (k.origins false)

  module _ (r : Reader) (report : List ℕ) where
    abbrev g : Guarded
    g = r.guarded

    -- the call, not refused, beside an index z that has the bits of the reader's own below C
    legal_as : Sized σ g.templates g.index → Bytes g.index → (z : List ℕ) → ((q : ℕ) → q < capacity g → stored g.index q ≡ stored z q)
        → Legal σ ok (reader r.plain (with_library g.templates z g))
        → (let e = salvage_as g.templates g.index report 0 in Legal σ ok (reader r.plain (with_library e.templates e.index g)))
    unfolding salvage_as with_library capacity
    legal_as k y z s l =
        let c : ℕ = capacity g in
        let small : c ≤ 8 * σ.indexed = omega (arith, k.high) in
        let fine : Fine σ.indexed g.index = record { long = k.wide; bytes = y } in
        let q = good_library (reader r.plain (with_library g.templates z g)) (salvaged_pages g.templates g.index c) (salvaged_index c g.index) (good σ ok _ l)
        (length_salvaged g.templates g.index c (omega (arith, k.long))) (fine_salvaged g.index c fine small) (clear_salvaged g.index c fine small)
        (λ p a. bits_salvaged g.index c fine small p ∙ rw (lt-ltb p c a) (s p a))
        in
        record { typed = q.typed; legal = legal_of_lem σ ok _ q }

    -- settings that are legal with another index, which has the same bits below C, are legal with the one that is left
    pub otherwise_legal : Bytes g.index → (z : List ℕ) → ((q : ℕ) → q < pages r → has_bit g.index q ≡ has_bit z q) → Legal σ ok (reader r.plain (with_library g.templates z g))
        → (salvage_of σ g.templates g.index report).refusal ≡ 0 → Legal σ ok (salvaged_in σ r report)
    unfolding salvaged_in capacity stored bit
    otherwise_legal y z s l =
        salvage_kinds σ g.templates g.index report
        (λ (e : Salvaged). e.refusal ≡ 0 → Legal σ ok (reader r.plain (with_library e.templates e.index g))) (λ n d. absurd (omega arith))
        (λ k d. legal_as k y z s l)

    pub salvaged_legal : Legal σ ok r → Legal σ ok (salvaged_in σ r report)
    unfolding salvaged_in with_library
    salvaged_legal l =
        salvage_kinds σ g.templates g.index report (λ (e : Salvaged). Legal σ ok (reader r.plain (with_library e.templates e.index g))) (λ n. l)
        (λ k. legal_as k l.typed.index g.index (λ q a. refl) l)

    -- a legal reader: no bit is cleared
    pub legal_index : Legal σ ok r → (salvaged_in σ r report).guarded.index ≡ g.index
    unfolding salvaged_in salvage_as with_library capacity
    legal_index l =
        let k = good σ ok r l in
        salvage_kinds σ g.templates g.index report (λ (e : Salvaged). e.index ≡ g.index) (λ n. refl)
        (λ h. index_stays g.index (capacity g) (fine_of σ ok r k) (omega (arith, h.high)) (λ q a. clear_above g.index (capacity g) k.clear q a))

    pub salvaged_faithful : Legal σ ok r → Faithful r → Faithful (salvaged_in σ r report)
    unfolding salvaged_in salvage_as with_library capacity buffer_of
    salvaged_faithful l f =
        let k = good σ ok r l in
        salvage_kinds σ g.templates g.index report (λ (e : Salvaged). Faithful (reader r.plain (with_library e.templates e.index g))) (λ n. f)
        (λ h.
        let long : 512 * capacity g ≤ length g.templates = omega (arith, h.long) in
        let stays : (b : Buffer) → Rooted (capacity g) g.index b → Copy g.templates b → Copy (salvaged_pages g.templates g.index (capacity g)) b =
        λ b o d p e. d p e ∙ sym (page_stays g.templates g.index (capacity g) long p (λ m. (o p e).there))
        in
        record { buffer1 = stays g.buffer1 (k.origins false) f.buffer1; buffer2 = stays g.buffer2 (k.origins true) f.buffer2 })
