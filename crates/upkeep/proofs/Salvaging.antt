-- Salvage: what one page and one bit more come to.
use mathlib.Core.Path.{◌≡◌, refl, sym, ap, ap₂, ◌∙◌}
use mathlib.Core.Bool.{Bool, true, false, ◌||◌, cond}
use mathlib.Core.List.{List}
use Prim.Native.Nat.{ℕ, zero, suc, ◌+◌, ◌-◌, ◌*◌, ◌/◌, ◌%◌, ◌^◌, ◌≤◌, ◌<◌}
use native.Mathlib.Omega.{arith}
use native.Mathlib.Decide.{ℕ_discrete, dec_lt}
use mir.Syntax.{w8, w16}
use mir.Val.{Fits}
use lib.Dec.{T, eqb, eqb→eq, leb→le}
use lib.ListN.{length, get_or, set, length-set, length-replicate}
use lib.Seq.{get_or-set_same, get_or-set_other, ext_get_or}
use borrow.Author.Tests.{lt-ltb, le-ltb}
use Rattle.protocol.specs.Bytes.{Bytes, byte_at, part, zeros, same, lay}
use Rattle.protocol.specs.Tests.{within, verdict, listed}
use Rattle.protocol.specs.Index.{bit, stored, clear_bits, bits, clear_from}
use Rattle.protocol.specs.Call.{core}
use Rattle.protocol.proofs.Laws.Logic.{and_l, and_r}
use Rattle.protocol.proofs.Laws.Lists.{same_eq, length_lay}
use Rattle.protocol.proofs.Laws.Index.{clear_above, byte_zeros}
use Rattle.protocol.proofs.Laws.Below.{length_listed, at_listed}
use Rattle.library.specs.Lent.{zero_page}
use Rattle.offline.specs.Salvage.{is_blank, salvaged_index, salvaged_pages, page_entry, entry_of, salvage_refusal, fit_salvage, salvage_as, salvage_of}
use Rattle.offline.specs.Records.{salvaged_of}
use Rattle.offline.proofs.Laws.Salvage.{page_stays, index_stays}
use Rattle.upkeep.proofs.Blank.{lay_own}
use Rattle.upkeep.specs.declared.salvage.Entry.{Entry}
use Rattle.upkeep.specs.declared.salvage.Entry.TheVariants.{Unchanged, BitCleared}
use Rattle.upkeep.specs.Salvage.{entry_number, Reporting, Reached, PageSalvaged, PagesSalvaged, BitsReported}
use Rattle.upkeep.specs.Lent.{fits_pages, fits_lent}

-- ---- a page

-- an index byte of 255
byte_stored : (x : List ℕ) (q : ℕ) → byte_at x (q / 8) ≡ 255 → stored x q ≡ true
unfolding stored bit
byte_stored x q e = rw e (one (q % 8) (omega arith))
  where
    one : (k : ℕ) → k < 8 → eqb (255 / 2 ^ k % 2) 1 ≡ true
    one zero l = refl
    one (suc zero) l = refl
    one (suc (suc zero)) l = refl
    one (suc (suc (suc zero))) l = refl
    one (suc (suc (suc (suc zero)))) l = refl
    one (suc (suc (suc (suc (suc zero))))) l = refl
    one (suc (suc (suc (suc (suc (suc zero)))))) l = refl
    one (suc (suc (suc (suc (suc (suc (suc zero))))))) l = refl
    one (suc (suc (suc (suc (suc (suc (suc (suc k)))))))) l = absurd (omega arith)

module _ (t x v : List ℕ) (p : ℕ) (h : Reached t x v p) where
  -- nothing is done to it
  left : (r : ℕ) → p < r → ((q : ℕ) → p < q → q < r → stored x q ≡ true) → t ≡ cond (stored x p) t (lay (512 * p) (zeros 512) t) → 0 ≡ page_entry t x p → PageSalvaged t x v p r t v
  left r l s e f = record { more = l; rest = s; pages = e; same = refl; entries = refl; entry = h.none ∙ f; others = λ j n. refl }

  pub byte_passed : get_or x (p / 8) 0 ≡ 255 → PageSalvaged t x v p (8 * (p / 8) + 8) t v
  unfolding page_entry
  byte_passed e =
      let here = byte_stored x p e in
      left (8 * (p / 8) + 8) (omega arith) (λ q a b. let d : q / 8 ≡ p / 8 = omega arith in byte_stored x q (rw d e)) (rw here refl) (rw here refl)

  module _ (b : Bool) (e : b ≡ stored x p) where
    pub there_passed : b ≡ true → PageSalvaged t x v p (p + 1) t v
    unfolding page_entry
    there_passed f = let here = sym e ∙ f in left (p + 1) (omega arith) (λ q a d. absurd (omega arith)) (rw here refl) (rw here refl)

    module _ (f : b ≡ false) (k : Bool) (g : k ≡ is_blank t p) where
      pub blank_passed : k ≡ true → PageSalvaged t x v p (p + 1) t v
      unfolding page_entry
      blank_passed i =
          let here = sym e ∙ f in
          let none : part (512 * p) 512 t ≡ zeros 512 = same_eq (part (512 * p) 512 t) (zeros 512) (sym g ∙ i) in
          left (p + 1) (omega arith) (λ q a d. absurd (omega arith)) (rw here (sym (lay_own (512 * p) 512 t none))) (rw (here, sym g ∙ i) refl)

      pub zeroed_passed : k ≡ false → (u : List ℕ) (n : ℕ) → u ≡ zero_page p t → n ≡ 2 → PageSalvaged t x v p (p + 1) u (set v p n)
      unfolding page_entry zero_page
      zeroed_passed i u n c z =
          let w : List ℕ = set v p n in
          let d : w ≡ set v p 2 = ap (set v p) z in
          let here = sym e ∙ f in
          let below = h.below in
          let many : length (zeros 512) ≡ 512 = length-replicate {A = ℕ} 512 0 in
          let laid : u ≡ lay (512 * p) (zeros 512) t = c ∙ rw (lt-ltb p (length t / 512) below) refl in
          record {
            more = omega arith;
            rest = λ q a b. absurd (omega arith);
            pages = laid ∙ rw here refl;
            same = ap length laid ∙ length_lay (512 * p) (zeros 512) t (omega arith);
            entries = ap length d ∙ length-set v p 2;
            entry = ap (λ (z : List ℕ). get_or z p 0) d ∙ get_or-set_same v p 2 0 (omega (arith, h.library.entries, h.library.bits)) ∙ rw (here, sym g ∙ i) refl;
            others = λ j n. ap (λ (z : List ℕ). get_or z j 0) d ∙ get_or-set_other v p j 2 0 n;
          }

-- ---- all pages: those below p are salvaged, in u and in the report w

pub record PagesSoFar (t x : List ℕ) (end : ℕ) (u w : List ℕ) (p : ℕ) : Type 0 where
  pub library : Reporting t x w
  pub end_is : end ≡ length t / 512
  pub pages : u ≡ salvaged_pages t x p
  pub same : length u ≡ length t
  -- p may be past the end, behind stored bits
  pub over : (q : ℕ) → end ≤ q → q < p → stored x q ≡ true
  pub reported : (j : ℕ) → j < p → j < end → get_or w j 0 ≡ page_entry t x j
  pub ahead : (j : ℕ) → p ≤ j → get_or w j 0 ≡ 0
  pub none : (j : ℕ) → end ≤ j → get_or w j 0 ≡ 0

pub none_passed : (t x v w : List ℕ) → Reporting t x v → w ≡ zeros (length v) → PagesSoFar t x (length t / 512) t w 0
unfolding salvaged_pages
none_passed t x v w h e =
    let zero_at : (j : ℕ) → get_or w j 0 ≡ 0 = λ j. ap (λ (z : List ℕ). get_or z j 0) e ∙ byte_zeros (length v) j in
    record {
      library = record { long = h.long; bits = h.bits; entries = ap length e ∙ length-replicate (length v) 0 ∙ h.entries };
      end_is = refl;
      pages = refl;
      same = refl;
      over = λ q a b. absurd (omega arith);
      reported = λ j a b. absurd (omega arith);
      ahead = λ j a. zero_at j;
      none = λ j a. zero_at j;
    }

-- pages that are stored are passed over
pages_stored : (t x : List ℕ) (n k : ℕ) → ((q : ℕ) → n ≤ q → q < n + k → stored x q ≡ true) → salvaged_pages t x (n + k) ≡ salvaged_pages t x n
unfolding salvaged_pages
pages_stored t x n zero h = let e : n + 0 ≡ n = omega arith in ap (salvaged_pages t x) e
pages_stored t x n (suc k) h =
    let e : n + suc k ≡ suc (n + k) = omega arith in
    ap (salvaged_pages t x) e ∙ rw (h (n + k) (omega arith) (omega arith)) (pages_stored t x n k (λ q a b. h q a (omega arith)))

module _ (t x : List ℕ) (end : ℕ) (u w : List ℕ) (p : ℕ) (c : PagesSoFar t x end u w p) where
  -- page p has the bytes that it had
  own : p < end → part (512 * p) 512 u ≡ part (512 * p) 512 t
  own l =
      let e = c.end_is in
      let long = c.library.long in
      ap (part (512 * p) 512) c.pages ∙ page_stays t x p (omega arith) p (λ m. absurd (omega arith))

  pub reached : p < end → Reached u x w p
  reached l =
      let e = c.end_is in
      let same = c.same in
      let long = c.library.long in
      record {
        library = record { long = omega (arith, c.library.bits); bits = omega (arith, c.library.bits); entries = c.library.entries };
        below = omega arith;
        none = c.ahead p (omega arith);
      }

  pub passed_on : p < end → (r : ℕ) (u' w' : List ℕ) → PageSalvaged u x w p r u' w' → PagesSoFar t x end u' w' r
  unfolding salvaged_pages page_entry
  passed_on l r u' w' h =
      let e = c.end_is in
      let more = h.more in
      let long = c.library.long in
      let steps : suc p + (r - suc p) ≡ r = omega arith in
      let one : u' ≡ salvaged_pages t x (suc p) = h.pages ∙ ap (λ (z : List ℕ). cond (stored x p) z (lay (512 * p) (zeros 512) z)) c.pages in
      let entry : get_or w' p 0 ≡ page_entry t x p = h.entry ∙ ap (λ (z : List ℕ). cond (stored x p || same z (zeros 512)) 0 2) (own l) in
      record {
        library = record { long = long; bits = c.library.bits; entries = h.entries ∙ c.library.entries };
        end_is = e;
        pages = one ∙ sym (pages_stored t x (suc p) (r - suc p) (λ q a b. h.rest q a (omega arith))) ∙ ap (salvaged_pages t x) steps;
        same = h.same ∙ c.same;
        over = λ q a b. h.rest q (omega arith) b;
        reported = λ j a b. told j a b (ℕ_discrete j p) (dec_lt j p) entry;
        ahead = λ j a. h.others j (λ z. omega arith) ∙ c.ahead j (omega arith);
        none = λ j a. h.others j (λ z. omega arith) ∙ c.none j a;
      }
    where
      -- stored pages behind it have no entry
      told : (j : ℕ) → j < r → j < end → Dec (j ≡ p) → Dec (j < p) → get_or w' p 0 ≡ page_entry t x p → get_or w' j 0 ≡ page_entry t x j
      told j a b (yes d) m entry = rw d entry
      told j a b (no d) (yes m) entry = h.others j d ∙ c.reported j m b
      told j a b (no d) (no m) entry = h.others j d ∙ c.ahead j (omega arith) ∙ rw (h.rest j (omega arith) a) refl

  pub all_passed : end ≤ p → PagesSalvaged t x u w
  all_passed l =
      let e = c.end_is in
      let steps : end + (p - end) ≡ p = omega arith in
      record {
        pages = c.pages ∙ ap (salvaged_pages t x) (sym steps) ∙ pages_stored t x end (p - end) (λ q a b. c.over q a (omega arith)) ∙ ap (salvaged_pages t x) e;
        same = c.same;
        entries = c.library.entries;
        reported = λ j a. c.reported j (omega arith) (omega arith);
        none = λ j a. c.none j (omega arith);
      }

-- ---- all bits from c on: those below q are reported in w

pub record BitsSoFar (c : ℕ) (x v w : List ℕ) (q : ℕ) : Type 0 where
  pub low : c ≤ q
  pub entries : length w ≡ length v
  pub bits : length v ≡ 8 * length x
  pub before : (j : ℕ) → j < c → get_or w j 0 ≡ get_or v j 0
  pub reported : (j : ℕ) → c ≤ j → j < q → get_or w j 0 ≡ cond (stored x j) 1 0

pub none_told : (c : ℕ) (x v : List ℕ) → length v ≡ 8 * length x → BitsSoFar c x v v c
none_told c x v e = record { low = omega arith; entries = refl; bits = e; before = λ j a. refl; reported = λ j a b. absurd (omega arith) }

module _ (c : ℕ) (x v w : List ℕ) (q : ℕ) (h : BitsSoFar c x v w q) where
  -- by what is said of a bit
  pub one_told : q < length v → (b : Bool) → b ≡ stored x q → (s : Bool) → b ≡ s → (d : Entry) → d ≡ cond s BitCleared Unchanged → (k : ℕ) → k ≡ entry_number d
      → BitsSoFar c x v (set w q k) (q + 1)
  one_told l b e s i d g k f =
      let low = h.low in
      record {
        low = omega arith;
        entries = length-set w q k ∙ h.entries;
        bits = h.bits;
        before = λ j a. get_or-set_other w q j k 0 (λ z. omega arith) ∙ h.before j a;
        reported = λ j a m. entry j a m (ℕ_discrete j q);
      }
    where
      number : (s : Bool) → entry_number (cond s BitCleared Unchanged) ≡ cond s 1 0
      number true = refl
      number false = refl

      entry : (j : ℕ) → c ≤ j → j < q + 1 → Dec (j ≡ q) → get_or (set w q k) j 0 ≡ cond (stored x j) 1 0
      entry j a m (yes z) =
          rw z (get_or-set_same w q k 0 (omega (arith, h.entries)) ∙ f ∙ ap entry_number g ∙ number s ∙ ap (λ (z : Bool). cond z 1 0) (sym i ∙ e))
      entry j a m (no z) = get_or-set_other w q j k 0 z ∙ h.reported j a (omega arith)

  pub all_told : length v ≤ q → BitsReported c x v w
  all_told l =
      let same = h.entries in
      let bits = h.bits in
      record { entries = same; before = h.before; reported = λ j a m. h.reported j a (omega arith) }

-- ---- the call

as_bytes : (x : List ℕ) → ((i : ℕ) → Fits w8 (get_or x i 0)) → Bytes x
unfolding Bytes
as_bytes x h i = (h i).fits

module _ (t x v : List ℕ) (fit : Bool) (e : fit ≡ fits_lent (length t) (length x) (length v) 1024) where
  pub refused : fit ≡ false → salvaged_of 1 t x v ≡ salvage_of core t x v
  unfolding salvage_of salvage_refusal salvage_as fit_salvage fits_pages verdict core
  refused f = rw (sym e ∙ f) refl

  module _ (f : fit ≡ true) where
    record Lengths : Type 0 where
      long : length t ≡ 512 * (length t / 512)
      few : length t / 512 ≤ 1000
      wide : length x ≡ 128
      entries : length v ≡ 1024

    lengths : Lengths
    unfolding fits_pages within core
    lengths =
        let y : T (fits_lent (length t) (length x) (length v) 1024) = rw (sym e ∙ f) tt in
        record {
          long = eqb→eq (length t) (512 * (length t / 512)) (search (and_l, and_r) depth 8);
          few = leb→le (length t / 512) 1000 (search (and_l, and_r) depth 8);
          wide = eqb→eq (length x) 128 (search (and_l, and_r) depth 8);
          entries = eqb→eq (length v) 1024 (search (and_l, and_r) depth 8);
        }

    pub reporting : Reporting t x v
    reporting = let m = lengths in record { long = m.long; bits = omega (arith, m.few, m.wide); entries = omega (arith, m.wide, m.entries) }

    module _ (u w : List ℕ) (h : PagesSalvaged t x u w) where
      pages_same : length u / 512 ≡ length t / 512
      pages_same = ap (λ (n : ℕ). n / 512) h.same

      -- the report, of which each page and each bit past them has its entry
      whole : (z : List ℕ) → length z ≡ 1024 → ((j : ℕ) → j < length t / 512 → get_or z j 0 ≡ page_entry t x j)
          → ((j : ℕ) → length t / 512 ≤ j → j < 1024 → get_or z j 0 ≡ cond (stored x j) 1 0) → z ≡ listed (entry_of (length t / 512) t x) (bits x)
      unfolding entry_of
      whole z long p q =
          let all : bits x ≡ 1024 = omega (arith, lengths.wide) in
          ext_get_or 0 z (listed (entry_of (length t / 512) t x) (bits x)) (long ∙ sym (length_listed (entry_of (length t / 512) t x) (bits x) ∙ all))
          (λ j l. code j (dec_lt j (length t / 512)) (omega arith) ∙ sym (at_listed (entry_of (length t / 512) t x) (bits x) j (omega arith)))
        where
          code : (j : ℕ) → Dec (j < length t / 512) → j < 1024 → get_or z j 0 ≡ entry_of (length t / 512) t x j
          code j (yes l) m = p j l ∙ rw (lt-ltb j (length t / 512) l) refl
          code j (no l) m = q j (omega arith) m ∙ rw (le-ltb j (length t / 512) (omega arith)) refl

      -- what the call comes to
      salvaged : (y z : List ℕ) → y ≡ salvaged_index (length t / 512) x → z ≡ listed (entry_of (length t / 512) t x) (bits x) → salvaged_of 0 u y z ≡ salvage_of core t x v
      unfolding salvage_of salvage_refusal salvage_as fit_salvage fits_pages verdict core
      salvaged y z i r = rw (sym e ∙ f, h.pages, i, r) refl

      -- no bit from C on was set
      pub clear_salvaged : ((i : ℕ) → Fits w8 (get_or x i 0)) → (b : Bool) → b ≡ clear_from x (length u / 512) → b ≡ true → salvaged_of 0 u x w ≡ salvage_of core t x v
      clear_salvaged y b g k =
          let clear : T (clear_from x (length t / 512)) = rw (ap (clear_from x) (sym pages_same) ∙ sym g ∙ k) tt in
          let none : (q : ℕ) → length t / 512 ≤ q → stored x q ≡ false = λ q a. clear_above x (length t / 512) clear q a in
          let m = lengths in
          salvaged x w (sym (index_stays x (length t / 512) record { long = m.wide; bytes = as_bytes x y } (omega (arith, m.few)) none))
          (whole w (h.entries ∙ omega (arith, m.wide)) h.reported (λ j a l. h.none j a ∙ rw (none j a) refl))

      -- some were
      pub stray_salvaged : (w' y : List ℕ) → BitsReported (length u / 512) x w w' → y ≡ clear_bits x (length u / 512) (1024 - length u / 512) → salvaged_of 0 u y w' ≡ salvage_of core t x v
      stray_salvaged w' y k g =
          let m = lengths in
          let same = pages_same in
          let all : bits x ≡ 1024 = omega (arith, m.wide) in
          salvaged y w' (g ∙ ap₂ (λ (c n : ℕ). clear_bits x c (n - c)) same (sym all))
          (whole w' (k.entries ∙ h.entries ∙ omega (arith, m.wide)) (λ j a. k.before j (omega arith) ∙ h.reported j a) (λ j a l. k.reported j (omega arith) (omega (arith, m.wide))))

      pub few_pages : length u / 512 ≤ 1024
      few_pages = omega (arith, lengths.few, h.same)

      pub few_fit : Fits w16 (length u / 512)
      few_fit = record { fits = omega (arith, few_pages) }
