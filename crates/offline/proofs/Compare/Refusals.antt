-- Document 02, request [11]: "Refusals: 1 for unequal capacities or wrong lengths; 3 for an index bit at or above C in either." A refused call writes nothing.
use mathlib.Core.Bool.{false}
use mathlib.Core.Path.{◌≡◌, refl, sym, ap, ◌∙◌}
use mathlib.Core.Logic.{◌↔◌}
use mathlib.Core.List.{List, [], ◌∷◌}
use Prim.Native.Nat.{ℕ, zero, suc, ◌+◌, ◌*◌, ◌≤◌}
use native.Mathlib.Omega.{arith}
use lib.Dec.{T, eqb→eq, leb→le, le→leb}
use lib.ListN.{length}
use Rattle.protocol.specs.Tests.{within}
use Rattle.protocol.specs.Index.{bit, stored}
use Rattle.protocol.specs.Call.{core}
use Rattle.protocol.proofs.Laws.Logic.{and_l, and_r, and_i, eq→eqb, verdict_passed, passed_verdict}
use Rattle.protocol.proofs.Laws.Lines.{Line, unless, Follows, follows}
use Rattle.protocol.proofs.Laws.Index.{clear_above, clear_to_lem}
use Rattle.protocol.proofs.Promises.Words.Told.{has_bit}
use Rattle.offline.specs.Compare.{Library, pages_in, Compared, fits_alone, fits_beside, fit_compare, clear_beyond, compare_refusal, compare_as, compare_of}

-- of so many pages
pub record WithNotepad (a : Library) (pages : ℕ) : Type 0 where
  pub templates : length a.templates ≡ 512 * pages
  pub least : 1 ≤ pages
  pub most : pages ≤ 1000
  pub index : length a.index ≡ 128
  pub notepad : length a.notepad ≡ 512

-- two of equal capacity
pub record EqualCapacity (a b : Library) : Type 0 where
  pub pages : ℕ
  pub first : WithNotepad a pages
  pub second : WithNotepad b pages

-- and a report of C + 16 bytes
pub record CompareLengths (a b : Library) (report : List ℕ) : Type 0 where
  pub libraries : EqualCapacity a b
  pub entries : length report ≡ libraries.pages + 16

-- no bit at or above C is set in either
pub record NoneBeyond (a b : Library) : Type 0 where
  pub first : (c q : ℕ) → length a.templates ≡ 512 * c → c ≤ q → has_bit a.index q ≡ false
  pub second : (c q : ℕ) → length b.templates ≡ 512 * c → c ≤ q → has_bit b.index q ≡ false

abbrev pub compare_lines : Library → Library → List ℕ → List Line
compare_lines a b report = unless (CompareLengths a b report) 1 ∷ unless (NoneBeyond a b) 3 ∷ []

-- 0 is no refusal; a refusal leaves the report unchanged, and nothing else is lent to be written
abbrev pub CompareEnds : List ℕ → Compared → ℕ → Type 0
CompareEnds report e zero = e.refusal ≡ 0
CompareEnds report e (suc n) = (e.refusal ≡ suc n) × (e.report ≡ report)

alone_mean : (a : Library) → T (fits_alone core a) ↔ WithNotepad a (pages_in a)
unfolding core within
alone_mean a = (to, from)
  where
    to : T (fits_alone core a) → WithNotepad a (pages_in a)
    to y =
        record {
          templates = eqb→eq (length a.templates) (512 * pages_in a) (search (and_l, and_r) depth 8);
          least = leb→le 1 (pages_in a) (search (and_l, and_r) depth 8);
          most = leb→le (pages_in a) 1000 (search (and_l, and_r) depth 8);
          index = eqb→eq (length a.index) 128 (search (and_l, and_r) depth 8);
          notepad = eqb→eq (length a.notepad) 512 (search (and_l, and_r) depth 8);
        }

    from : WithNotepad a (pages_in a) → T (fits_alone core a)
    from m =
        let t₁ = eq→eqb (length a.templates) (512 * pages_in a) m.templates in
        let t₂ = le→leb 1 (pages_in a) m.least in
        let t₃ = le→leb (pages_in a) 1000 m.most in
        let t₄ = eq→eqb (length a.index) 128 m.index in
        let t₅ = eq→eqb (length a.notepad) 512 m.notepad in
        search (and_i) depth 8

-- a library has the pages that its templates have
pub pages_are : (a : Library) (c : ℕ) → WithNotepad a c → pages_in a ≡ c
pages_are a c m = omega (arith, m.templates)

pub beside_mean : (a b : Library) → T (fits_beside core a b) ↔ EqualCapacity a b
unfolding fits_beside
beside_mean a b = (to, from)
  where
    to : T (fits_beside core a b) → EqualCapacity a b
    to y =
        let e : pages_in a ≡ pages_in b = eqb→eq (pages_in a) (pages_in b) (search (and_l, and_r) depth 8) in
        record {
          pages = pages_in a;
          first = (alone_mean a).0 (search (and_l, and_r) depth 8);
          second = rw e ((alone_mean b).0 (search (and_l, and_r) depth 8));
        }

    from : EqualCapacity a b → T (fits_beside core a b)
    from m =
        let p : pages_in a ≡ m.pages = pages_are a m.pages m.first in
        let q : pages_in b ≡ m.pages = pages_are b m.pages m.second in
        let t₁ = (alone_mean a).1 (rw p m.first) in
        let t₂ = (alone_mean b).1 (rw q m.second) in
        let t₃ = eq→eqb (pages_in a) (pages_in b) (p ∙ sym q) in
        search (and_i) depth 8

pub compare_means : (a b : Library) (report : List ℕ) → T (fit_compare core a b (length report)) ↔ CompareLengths a b report
unfolding fit_compare core
compare_means a b report = (
  λ y.
      (let m : EqualCapacity a b = (beside_mean a b).0 (search (and_l)) in
      let n : length report ≡ pages_in a + 16 = eqb→eq (length report) (pages_in a + 16) (search (and_r)) in
      record { libraries = m; entries = n ∙ ap (λ (c : ℕ). c + 16) (pages_are a m.pages m.first) }),
  λ m.
      (let t₁ = (beside_mean a b).1 m.libraries in
      let t₂ = eq→eqb (length report) (pages_in a + 16) (omega (arith, m.entries, pages_are a m.libraries.pages m.libraries.first)) in
      search (and_i)),
)

pub beyond_mean : (a b : Library) → EqualCapacity a b → T (clear_beyond a b) ↔ NoneBeyond a b
unfolding clear_beyond stored bit
beyond_mean a b m = (
  λ t.
      record {
        first = λ c q e l. clear_above a.index (pages_in a) (search (and_l)) q (omega arith);
        second = λ c q e l. clear_above b.index (pages_in b) (search (and_r)) q (omega arith);
      },
  λ k.
      (let x = clear_to_lem a.index (pages_in a) (λ q l h. k.first (pages_in a) q (omega (arith, m.first.templates)) l) in
      let y = clear_to_lem b.index (pages_in b) (λ q l h. k.second (pages_in b) q (omega (arith, m.second.templates)) l) in
      search (and_i)),
)

pub compare_refusals : (a b : Library) (report : List ℕ) → Follows (compare_lines a b report) (CompareEnds report (compare_of core a b report))
unfolding compare_of compare_refusal compare_as
compare_refusals a b report =
    follows ((fit_compare core a b (length report), 1) ∷ (clear_beyond a b, 3) ∷ []) (compare_lines a b report) (CompareEnds report (compare_of core a b report))
    (compare_means a b report, (refl, λ m. (beyond_mean a b m.libraries, (refl, λ k. tt)))) (ends (compare_refusal core a b (length report)))
  where
    ends : (n : ℕ) → CompareEnds report (compare_as core a b report n) n
    ends zero = refl
    ends (suc n) = (refl, refl)

-- what is not refused
pub compare_is : (a b : Library) (report : List ℕ) → CompareLengths a b report → NoneBeyond a b → compare_of core a b report ≡ compare_as core a b report 0
unfolding compare_of compare_refusal
compare_is a b report m k =
    let x = (compare_means a b report).1 m in
    let y = (beyond_mean a b m.libraries).1 k in
    ap (compare_as core a b report) (passed_verdict ((fit_compare core a b (length report), 1) ∷ (clear_beyond a b, 3) ∷ []) (search (and_i)))

pub compare_passes : (a b : Library) (report : List ℕ) → (compare_of core a b report).refusal ≡ 0 → CompareLengths a b report × NoneBeyond a b
unfolding compare_of compare_as compare_refusal
compare_passes a b report e = go (compare_refusal core a b (length report)) refl e
  where
    go : (n : ℕ) → compare_refusal core a b (length report) ≡ n → (compare_as core a b report n).refusal ≡ 0 → CompareLengths a b report × NoneBeyond a b
    go zero f z =
        let y = verdict_passed ((fit_compare core a b (length report), 1) ∷ (clear_beyond a b, 3) ∷ []) tt f in
        let m = (compare_means a b report).0 (search (and_l)) in
        (m, (beyond_mean a b m.libraries).0 (search (and_l, and_r)))
    go (suc n) f z = absurd (omega arith)
