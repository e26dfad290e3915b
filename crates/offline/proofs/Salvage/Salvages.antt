-- Document 02, request [10]: "clear bits at or above C, zero the bytes of vacant pages, and touch nothing else. A report of 1024 bytes, one per index bit, says 0 for
-- unchanged, 1 for bit cleared, 2 for non-zero bytes zeroed. What it leaves passes refusal 3's index test."
use mathlib.Core.Bool.{Bool, true, false, true≢false, ◌&&◌, cond}
use mathlib.Core.Path.{◌≡◌, refl, sym, ap, ◌∙◌}
use mathlib.Core.Logic.{◌↔◌, ◌≢◌}
use mathlib.Core.List.{List}
use Prim.Native.Nat.{ℕ, zero, suc, ◌+◌, ◌*◌, ◌/◌, ◌≤◌, ◌<◌}
use native.Mathlib.Omega.{arith}
use native.Mathlib.Decide.{dec_lt}
use lib.Dec.{T, eqb, ltb}
use borrow.Author.Tests.{lt-ltb, le-ltb, ne_eqb}
use lib.ListN.{length, get_or, replicate}
use Rattle.protocol.specs.Bytes.{Bytes, part, zeros, same}
use Rattle.protocol.specs.Tests.{count_below, listed}
use Rattle.protocol.specs.Index.{bit, stored, bits, set_bits, clear_from}
use Rattle.protocol.specs.Call.{core}
use Rattle.protocol.proofs.Laws.Lists.{same_refl, same_eq}
use Rattle.protocol.proofs.Laws.Below.{length_listed, at_listed}
use Rattle.protocol.proofs.Laws.Index.{Fine}
use Rattle.protocol.proofs.Promises.Words.Told.{page_of, has_bit}
use Rattle.offline.specs.Salvage.{salvaged_index, salvaged_pages, page_entry, entry_of, Salvaged, salvage_as, salvage_of}
use Rattle.offline.proofs.Laws.Salvage.{length_salvaged, byte_zeroed, byte_stays, page_stays, page_zeroed_lem, fine_salvaged, bits_salvaged, clear_salvaged}
use Rattle.offline.proofs.Salvage.Refusals.{SalvageLengths, salvage_means, salvage_is}

-- of templates t of c pages and an index x, and a call that was not refused
pub record Salvages (t x : List ℕ) (c : ℕ) (e : Salvaged) : Type 0 where
  pub refusal : e.refusal ≡ 0
  -- "clear bits at or above C"
  pub cleared : (q : ℕ) → c ≤ q → has_bit e.index q ≡ false
  -- "zero the bytes of vacant pages"
  pub zeroed : (j : ℕ) → j < 512 * c → has_bit x (j / 512) ≡ false → get_or e.templates j 0 ≡ 0
  -- "and touch nothing else"
  pub bits : (q : ℕ) → q < c → has_bit e.index q ≡ has_bit x q
  pub bytes : (j : ℕ) → j < 512 * c → has_bit x (j / 512) ≡ true → get_or e.templates j 0 ≡ get_or t j 0
  pub templates : length e.templates ≡ 512 * c
  pub index : length e.index ≡ 128
  pub index_bytes_lem : (i : ℕ) → get_or e.index i 0 < 256
  -- "A report of 1024 bytes, one per index bit, says 0 for unchanged, 1 for bit cleared, 2 for non-zero bytes zeroed."
  pub entries : length e.report ≡ 1024
  pub says : (q : ℕ) → q < 1024 → get_or e.report q 0 ≤ 2
  pub says_0 : (q : ℕ) → q < 1024 → (get_or e.report q 0 ≡ 0) ↔ ((has_bit e.index q ≡ has_bit x q) × (page_of e.templates q ≡ page_of t q))
  pub says_1 : (q : ℕ) → q < 1024 → (get_or e.report q 0 ≡ 1) ↔ ((c ≤ q) × (has_bit x q ≡ true))
  pub says_2 : (q : ℕ) → q < 1024 → (get_or e.report q 0 ≡ 2) ↔ ((q < c) × ((has_bit x q ≡ false) × (page_of t q ≢ replicate 512 0)))
  -- "What it leaves passes refusal 3's index test."
  pub passes : T (clear_from e.index c)
  -- the set bits are fewer by those that are reported 1
  pub count : set_bits x ≡ set_bits e.index + count_below (λ q. eqb (get_or e.report q 0) 1) 1024

-- a number is counted under one of two tests, or under none
count_parted : (f g h : ℕ → Bool) (n : ℕ) → ((q : ℕ) → q < n → cond (f q) 1 0 ≡ cond (g q) 1 0 + cond (h q) 1 0) → count_below f n ≡ count_below g n + count_below h n
unfolding count_below
count_parted f g h zero e = refl
count_parted f g h (suc n) e = let a = e n (omega arith) in let b = count_parted f g h n (λ q l. e q (omega arith)) in omega arith

module _ (t x report : List ℕ) (m : SalvageLengths t x report) (y : Bytes x) where
  abbrev c : ℕ
  c = m.library.pages

  abbrev u : List ℕ
  u = salvaged_pages t x c

  abbrev z : List ℕ
  z = salvaged_index c x

  fine : Fine 128 x
  fine = record { long = m.library.index; bytes = y }

  long : 512 * c ≤ length t
  long = omega (arith, m.library.templates)

  small : c ≤ 8 * 128
  small = omega (arith, m.library.most)

  entry : (q : ℕ) → q < 1024 → get_or (listed (entry_of c t x) (bits x)) q 0 ≡ entry_of c t x q
  entry q l = at_listed (entry_of c t x) (bits x) q (omega (arith, m.library.index))

  -- what an entry n of bit q says
  record EntrySays (q n : ℕ) : Type 0 where
    most : n ≤ 2
    unchanged : (n ≡ 0) ↔ ((stored z q ≡ stored x q) × (part (512 * q) 512 u ≡ part (512 * q) 512 t))
    bit_cleared_lem : (n ≡ 1) ↔ ((c ≤ q) × (stored x q ≡ true))
    page_zeroed_lem : (n ≡ 2) ↔ ((q < c) × ((stored x q ≡ false) × (part (512 * q) 512 t ≢ zeros 512)))

  not_blank : (q : ℕ) → same (part (512 * q) 512 t) (zeros 512) ≡ false → part (512 * q) 512 t ≢ zeros 512
  not_blank q e d = true≢false (sym (ap (λ (s : List ℕ). same s (zeros 512)) d ∙ same_refl (zeros 512)) ∙ e)

  -- nothing is done to a page that is stored or blank, or to a clear bit
  entry_0 : (q : ℕ) → (q < c → stored x q ≡ false → part (512 * q) 512 t ≡ zeros 512) → (c ≤ q → stored x q ≡ false) → EntrySays q 0
  entry_0 q f g =
      record {
        most = omega arith;
        unchanged = (λ k. (bit_stays (dec_lt q c), page_same (dec_lt q c) (stored x q) refl), λ k. refl);
        bit_cleared_lem = (λ k. absurd (omega arith), λ k. absurd (true≢false (sym k.1 ∙ g k.0)));
        page_zeroed_lem = (λ k. absurd (omega arith), λ k. absurd (k.1.1 (f k.0 k.1.0)));
      }
    where
      bit_stays : Dec (q < c) → stored z q ≡ stored x q
      bit_stays (yes l) = bits_salvaged x c fine small q ∙ rw (lt-ltb q c l) refl
      bit_stays (no l) = let h : c ≤ q = omega arith in bits_salvaged x c fine small q ∙ rw (le-ltb q c h, g h) refl

      page_same : Dec (q < c) → (b : Bool) → stored x q ≡ b → part (512 * q) 512 u ≡ part (512 * q) 512 t
      page_same (yes l) false s = page_zeroed_lem t x c long q l s ∙ sym (f l s)
      page_same (yes l) true s = page_stays t x c long q (λ k. s)
      page_same (no l) b s = page_stays t x c long q (λ k. absurd (l k))

  entry_is : (q : ℕ) → EntrySays q (entry_of c t x q)
  unfolding entry_of page_entry
  entry_is q = go (dec_lt q c) (stored x q) (same (part (512 * q) 512 t) (zeros 512)) refl refl
    where
      zeroed : q < c → stored x q ≡ false → same (part (512 * q) 512 t) (zeros 512) ≡ false → EntrySays q 2
      zeroed l s e =
          record {
            most = omega arith;
            unchanged = (λ k. absurd (omega arith), λ k. absurd (not_blank q e (sym k.1 ∙ page_zeroed_lem t x c long q l s)));
            bit_cleared_lem = (λ k. absurd (omega arith), λ k. absurd (omega (arith, k.0)));
            page_zeroed_lem = (λ k. (l, (s, not_blank q e)), λ k. refl);
          }

      cleared : c ≤ q → stored x q ≡ true → EntrySays q 1
      cleared l s =
          record {
            most = omega arith;
            unchanged = (λ k. absurd (omega arith), λ k. absurd (true≢false (sym (k.0 ∙ s) ∙ bits_salvaged x c fine small q ∙ rw (le-ltb q c l) refl)));
            bit_cleared_lem = (λ k. (l, s), λ k. refl);
            page_zeroed_lem = (λ k. absurd (omega arith), λ k. absurd (omega (arith, k.0)));
          }

      go : Dec (q < c) → (b d : Bool) → stored x q ≡ b → same (part (512 * q) 512 t) (zeros 512) ≡ d → EntrySays q (entry_of c t x q)
      go (yes l) true d s e = rw (lt-ltb q c l, s) (entry_0 q (λ k v. absurd (true≢false (sym s ∙ v))) (λ k. absurd (omega arith)))
      go (yes l) false true s e = rw (lt-ltb q c l, s, e) (entry_0 q (λ k v. same_eq (part (512 * q) 512 t) (zeros 512) e) (λ k. absurd (omega arith)))
      go (yes l) false false s e = rw (lt-ltb q c l, s, e) (zeroed l s e)
      go (no l) true d s e = let h : c ≤ q = omega arith in rw (le-ltb q c h, s) (cleared h s)
      go (no l) false d s e = let h : c ≤ q = omega arith in rw (le-ltb q c h, s) (entry_0 q (λ k. absurd (omega arith)) (λ k. s))

  fewer : set_bits x ≡ set_bits z + count_below (λ q. eqb (get_or (listed (entry_of c t x) (bits x)) q 0) 1) 1024
  unfolding set_bits
  fewer =
      ap (count_below (stored x)) (ap (λ (n : ℕ). 8 * n) m.library.index)
      ∙ count_parted (stored x) (stored z) (λ q. eqb (get_or (listed (entry_of c t x) (bits x)) q 0) 1) 1024
      (λ q l. rw (bits_salvaged x c fine small q, entry q l) (one q (dec_lt q c) (stored x q) refl))
      ∙ ap (λ (n : ℕ). count_below (stored z) (8 * n) + count_below (λ q. eqb (get_or (listed (entry_of c t x) (bits x)) q 0) 1) 1024) (sym (fine_salvaged x c fine small).long)
    where
      -- a bit is kept, or it is cleared and its entry is 1, or it was clear
      one : (q : ℕ) → Dec (q < c) → (b : Bool) → stored x q ≡ b → cond (stored x q) 1 0 ≡ cond (ltb q c && stored x q) 1 0 + cond (eqb (entry_of c t x q) 1) 1 0
      one q (yes l) b s =
          let k : entry_of c t x q ≢ 1 = λ e. omega (arith, ((entry_is q).bit_cleared_lem.0 e).0) in
          rw (lt-ltb q c l, ne_eqb (entry_of c t x q) 1 k) (omega arith)
      one q (no l) true s = let h : c ≤ q = omega arith in rw (le-ltb q c h, s, (entry_is q).bit_cleared_lem.1 (h, s)) refl
      one q (no l) false s =
          let h : c ≤ q = omega arith in
          let k : entry_of c t x q ≢ 1 = λ e. true≢false (sym ((entry_is q).bit_cleared_lem.0 e).1 ∙ s) in
          rw (le-ltb q c h, s, ne_eqb (entry_of c t x q) 1 k) refl

  salvages_as : Salvages t x c (salvage_as t x report 0)
  unfolding salvage_as stored bit Bytes
  salvages_as =
      let e : length t / 512 ≡ c = omega (arith, m.library.templates) in
      rw e
      record {
        refusal = refl;
        cleared = λ q l. bits_salvaged x c fine small q ∙ rw (le-ltb q c l) refl;
        zeroed = λ j l s. byte_zeroed t x c long j (omega arith) s;
        bits = λ q l. bits_salvaged x c fine small q ∙ rw (lt-ltb q c l) refl;
        bytes = λ j l s. byte_stays t x c long j (λ k. s);
        templates = length_salvaged t x c long ∙ m.library.templates;
        index = (fine_salvaged x c fine small).long;
        index_bytes_lem = (fine_salvaged x c fine small).bytes;
        entries = length_listed (entry_of c t x) (bits x) ∙ omega (arith, m.library.index);
        says = λ q l. rw (entry q l) (entry_is q).most;
        says_0 = λ q l. rw (entry q l) (entry_is q).unchanged;
        says_1 = λ q l. rw (entry q l) (entry_is q).bit_cleared_lem;
        says_2 = λ q l. rw (entry q l) (entry_is q).page_zeroed_lem;
        passes = clear_salvaged x c fine small;
        count = fewer;
      }

  pub salvages : Salvages t x c (salvage_of core t x report)
  salvages = rw (salvage_is core t x report ((salvage_means t x report).1 m)) salvages_as
