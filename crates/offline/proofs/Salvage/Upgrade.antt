-- Requests [6] and [10] in one: a vault of an old firmware, with an index of 32 bytes, bits past the end and bytes in vacant pages. Its index is brought over, its library salvaged with as many
-- pages as before, and then it gets more. If its settings were legal otherwise, it is legal; every stored page has its bit and its bytes, no other bit is set, and every other page is zero.
use mathlib.Core.Bool.{Bool, true, false, ◌&&◌}
use mathlib.Core.Path.{◌≡◌, sym, ap, ◌∙◌}
use mathlib.Core.List.{List, ◌++◌}
use Prim.Native.Nat.{ℕ, ◌+◌, ◌*◌, ◌/◌, ◌≤◌, ◌<◌}
use native.Mathlib.Omega.{arith}
use native.Mathlib.Decide.{dec_lt}
use lib.Dec.{ltb}
use borrow.Author.Tests.{lt-ltb}
use lib.ListN.{length, replicate}
use Rattle.protocol.specs.Bytes.{Bytes}
use Rattle.protocol.specs.Index.{bit, stored}
use Rattle.protocol.specs.Reader.{Reader, capacity, with_library, reader}
use Rattle.protocol.specs.Call.{core}
use Rattle.protocol.proofs.Laws.Index.{Fine, fine_over, stored_over}
use Rattle.protocol.proofs.Promises.Words.Told.{pages, page_of, has_bit, page, has}
use Rattle.protocol.proofs.Promises.Refusals.LegalMeans.{core_holds}
use Rattle.protocol.proofs.Promises.Refusals.StaysLegal.{Legal, good}
use Rattle.dialogues.proofs.Library.BroughtOver.{before, before_holds, brought, brings_legal, grown, Grown, grows}
use Rattle.offline.specs.Salvage.{salvaged_pages, Salvaged, salvage_as, salvage_of, salvaged_in}
use Rattle.offline.proofs.Laws.Salvage.{length_salvaged, page_stays, page_zeroed_lem, bits_salvaged}
use Rattle.offline.proofs.Salvage.Refusals.{SalvageLengths, salvage_means, salvage_is}
use Rattle.offline.proofs.Salvage.StaysLegal.{otherwise_legal}

-- the reader r, with k pages more in the end
pub record Upgraded (k : ℕ) (r u : Reader) : Type 0 where
  pub legal : Legal core core_holds u
  pub more : pages u ≡ pages r + k
  pub bits : (q : ℕ) → has u q ≡ (ltb q (pages r) && has r q)
  pub bytes : (q : ℕ) → q < pages r → has r q ≡ true → page u q ≡ page r q
  pub vacant : (q : ℕ) → q < pages u → has u q ≡ false → page u q ≡ replicate 512 0

-- z is an index of 32 bytes with which the old reader was legal, and has the same bits below C
module _ (r : Reader) (y : Bytes r.guarded.index) (wide : length r.guarded.index ≡ 32) (z : List ℕ) (same : (q : ℕ) → q < pages r → has r q ≡ has_bit z q)
    (l : Legal before before_holds (reader r.plain (with_library r.guarded.templates z r.guarded))) (report : List ℕ) (long : length report ≡ 1024) where
  abbrev t : List ℕ
  t = r.guarded.templates

  abbrev x : List ℕ
  x = (brought r).guarded.index

  abbrev salvaged : Reader
  salvaged = salvaged_in core (brought r) report

  fine : Fine 128 x
  fine = fine_over r.guarded.index 96 record { long = wide; bytes = y }

  lengths : SalvageLengths t x report
  unfolding with_library capacity
  lengths =
      let k = good before before_holds _ l in
      record {
        library = record { pages = pages r; templates = k.shelf.long; least = k.shelf.low; most = omega (arith, k.shelf.high); index = fine.long };
        entries = long;
      }

  is : salvage_of core t x report ≡ salvage_as t x report 0
  is = salvage_is core t x report ((salvage_means t x report).1 lengths)

  legal : Legal core core_holds salvaged
  unfolding with_library stored bit salvage_as
  legal =
      otherwise_legal core core_holds (brought r) report fine.bytes (z ++ replicate 96 0)
      (λ q a. stored_over r.guarded.index 96 q ∙ same q a ∙ sym (stored_over z 96 q)) (brings_legal _ l) (ap (λ (e : Salvaged). e.refusal) is)

  left_pages : salvaged.guarded.templates ≡ salvaged_pages t x (pages r)
  unfolding salvaged_in with_library salvage_as
  left_pages = ap (λ (e : Salvaged). e.templates) is

  left_bits : (q : ℕ) → has salvaged q ≡ (ltb q (pages r) && has r q)
  unfolding salvaged_in with_library salvage_as stored bit
  left_bits q =
      ap (λ (e : Salvaged). has_bit e.index q) is ∙ bits_salvaged x (pages r) fine (omega (arith, lengths.library.most, lengths.library.templates)) q
      ∙ ap (λ (b : Bool). ltb q (pages r) && b) (stored_over r.guarded.index 96 q)

  same_pages : pages salvaged ≡ pages r
  same_pages = ap (λ (u : List ℕ). length u / 512) left_pages ∙ ap (λ (n : ℕ). n / 512) (length_salvaged t x (pages r) (omega (arith, lengths.library.templates)))

  pub upgrades : (k : ℕ) → pages r + k ≤ 1000 → Upgraded k r (grown k salvaged)
  unfolding stored bit
  upgrades k few =
      let g : Grown k salvaged = grows k salvaged legal (omega (arith, same_pages)) in
      let room : 512 * pages r ≤ length t = omega (arith, lengths.library.templates) in
      record {
        legal = g.legal;
        more = g.more ∙ ap (λ (n : ℕ). n + k) same_pages;
        bits = λ q. g.bits q ∙ left_bits q;
        bytes =
            λ q a s. g.same q (omega (arith, same_pages)) ∙ ap (λ (u : List ℕ). page_of u q) left_pages ∙ page_stays t x (pages r) room q (λ m. stored_over r.guarded.index 96 q ∙ s);
        vacant = λ q a s. zero q (dec_lt q (pages r)) (omega (arith, a, g.more)) (sym (g.bits q) ∙ s) g room;
      }
    where
      zero : (q : ℕ) → Dec (q < pages r) → q < pages salvaged + k → has salvaged q ≡ false → Grown k salvaged → 512 * pages r ≤ length t → page (grown k salvaged) q ≡ replicate 512 0
      zero q (yes a) m s g room =
          let v : stored x q ≡ false = stored_over r.guarded.index 96 q ∙ sym (rw (lt-ltb q (pages r) a) at (left_bits q)) ∙ s in
          g.same q (omega (arith, same_pages)) ∙ ap (λ (u : List ℕ). page_of u q) left_pages ∙ page_zeroed_lem t x (pages r) room q a v
      zero q (no a) m s g room = g.added q (omega (arith, same_pages)) m
