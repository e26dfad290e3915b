-- Document 02, request [10]: "Run again, the report is all zero." And run again after any part of its writes, or of their saving, it comes to the same: what it leaves depends on
-- the bits below C and the bytes of stored pages alone, and it changes neither.
use mathlib.Core.Bool.{true, false, true≢false, ◌&&◌}
use mathlib.Core.Path.{◌≡◌, refl, sym, ap, ◌∙◌}
use mathlib.Core.List.{List}
use Prim.Native.Nat.{ℕ, zero, suc, ◌*◌, ◌/◌, ◌≤◌, ◌<◌}
use native.Mathlib.Omega.{arith}
use native.Mathlib.Decide.{dec_lt}
use lib.Dec.{ltb}
use borrow.Author.Tests.{lt-ltb, le-ltb}
use lib.ListN.{length, get_or, replicate}
use Rattle.protocol.specs.Bytes.{Bytes, zeros}
use Rattle.protocol.specs.Index.{bit, stored}
use Rattle.protocol.specs.Call.{core}
use Rattle.protocol.proofs.Laws.Index.{Fine}
use Rattle.offline.specs.Salvage.{salvaged_index, Salvaged, salvage_as, salvage_of}
use Rattle.offline.proofs.Laws.Salvage.{part_blank, all_zero, same_pages, fine_salvaged, bits_salvaged, same_index}
use Rattle.offline.proofs.Salvage.Refusals.{SalvageLengths, salvage_means, salvage_is}
use Rattle.protocol.proofs.Promises.Words.Told.{page_of, has_bit}
use Rattle.offline.proofs.Salvage.Salvages.{Salvages, salvages}

-- templates u and an index z that have the stored pages of t and x, of c pages, whatever lies in vacant pages and at bits from c on
pub record SameStored (c : ℕ) (t x u z : List ℕ) : Type 0 where
  pub templates : length u ≡ length t
  pub index : length z ≡ length x
  pub index_bytes_lem : (i : ℕ) → get_or z i 0 < 256
  pub bits : (q : ℕ) → q < c → has_bit z q ≡ has_bit x q
  pub bytes : (j : ℕ) → j < 512 * c → has_bit x (j / 512) ≡ true → get_or u j 0 ≡ get_or t j 0

-- it is not refused, and leaves the same templates and the same index
pub record SameLeft (e d : Salvaged) : Type 0 where
  pub refusal : e.refusal ≡ 0
  pub templates : e.templates ≡ d.templates
  pub index : e.index ≡ d.index

-- nothing changes, and the report is all zero
pub record CleanAlready (t x : List ℕ) (e : Salvaged) : Type 0 where
  pub refusal : e.refusal ≡ 0
  pub templates : e.templates ≡ t
  pub index : e.index ≡ x
  pub report : e.report ≡ replicate 1024 0

module _ (t x report : List ℕ) (m : SalvageLengths t x report) (y : Bytes x) where
  abbrev c : ℕ
  c = m.library.pages

  abbrev e : Salvaged
  e = salvage_of core t x report

  module _ (u z next : List ℕ) (k : SameStored c t x u z) (l : length next ≡ 1024) where
    fits : SalvageLengths u z next
    fits =
        record {
          library = record {
            pages = c;
            templates = k.templates ∙ m.library.templates;
            least = m.library.least;
            most = m.library.most;
            index = k.index ∙ m.library.index;
          };
          entries = l;
        }

    pub comes_to_the_same : SameLeft (salvage_of core u z next) e
    unfolding salvage_as stored bit Bytes
    comes_to_the_same =
        let small : c ≤ 8 * 128 = omega (arith, m.library.most) in
        let one : length t / 512 ≡ c = omega (arith, m.library.templates) in
        let other : length u / 512 ≡ c = omega (arith, k.templates, m.library.templates) in
        let fx : Fine 128 x = record { long = m.library.index; bytes = y } in
        let fz : Fine 128 z = record { long = k.index ∙ m.library.index; bytes = k.index_bytes_lem } in
        rw (salvage_is core t x report ((salvage_means t x report).1 m), salvage_is core u z next ((salvage_means u z next).1 fits), one, other)
        record {
          refusal = refl;
          templates = same_pages t u x z c (sym m.library.templates) k.templates k.bits (λ j a s. k.bytes j (omega arith) s);
          index =
              same_index (salvaged_index c z) (salvaged_index c x) (fine_salvaged z c fz small) (fine_salvaged x c fx small)
              (λ q. bits_salvaged z c fz small q ∙ alike q (dec_lt q c) ∙ sym (bits_salvaged x c fx small q));
        }
      where
        alike : (q : ℕ) → Dec (q < c) → (ltb q c && stored z q) ≡ (ltb q c && stored x q)
        alike q (yes a) = rw (lt-ltb q c a) (k.bits q a)
        alike q (no a) = rw (le-ltb q c (omega arith)) refl

  -- what was left is such a library
  left_stored : SameStored c t x e.templates e.index
  left_stored =
      let s : Salvages t x c e = salvages t x report m y in
      record {
        templates = s.templates ∙ sym m.library.templates;
        index = s.index ∙ sym m.library.index;
        index_bytes_lem = s.index_bytes_lem;
        bits = s.bits;
        bytes = s.bytes;
      }

  pub clean_already : (next : List ℕ) → length next ≡ 1024 → CleanAlready e.templates e.index (salvage_of core e.templates e.index next)
  unfolding fits Bytes
  clean_already next l =
      let same = comes_to_the_same e.templates e.index next left_stored l in
      record {
        refusal = same.refusal;
        templates = same.templates;
        index = same.index;
        report = all_zero 1024 (salvage_of core e.templates e.index next).report again.entries (λ q a. none q a (get_or (salvage_of core e.templates e.index next).report q 0) refl);
      }
    where
      s : Salvages t x c e
      s = salvages t x report m y

      again : Salvages e.templates e.index c (salvage_of core e.templates e.index next)
      again = salvages e.templates e.index next (fits e.templates e.index next left_stored l) s.index_bytes_lem

      -- a vacant page was zeroed by the first run
      blank : (q : ℕ) → q < c → has_bit e.index q ≡ false → page_of e.templates q ≡ zeros 512
      blank q a v =
          part_blank e.templates (512 * q) 512 (omega (arith, s.templates))
          (λ j b d. let at : j / 512 ≡ q = omega arith in s.zeroed j (omega arith) (ap (has_bit x) at ∙ sym (s.bits q a) ∙ v))

      none : (q : ℕ) → q < 1024 → (n : ℕ) → get_or (salvage_of core e.templates e.index next).report q 0 ≡ n → get_or (salvage_of core e.templates e.index next).report q 0 ≡ 0
      none q a zero f = f
      none q a (suc zero) f = let k = (again.says_1 q a).0 f in absurd (true≢false (sym k.1 ∙ s.cleared q k.0))
      none q a (suc (suc zero)) f = let k = (again.says_2 q a).0 f in absurd (k.1.1 (blank q k.0 k.1.0))
      none q a (suc (suc (suc n))) f = absurd (omega (arith, again.says q a))
