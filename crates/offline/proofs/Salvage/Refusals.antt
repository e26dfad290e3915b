-- Document 02, request [10]: "Refusals: 1 for lengths; 3 is not given here."
use mathlib.Core.Path.{◌≡◌, refl, sym, ap, ◌∙◌}
use mathlib.Core.Logic.{◌↔◌}
use mathlib.Core.List.{List, [], ◌∷◌}
use Prim.Native.Nat.{ℕ, zero, suc, ◌*◌, ◌/◌}
use native.Mathlib.Omega.{arith}
use lib.Dec.{T, eqb→eq}
use lib.ListN.{length}
use Rattle.protocol.specs.Call.{Shape, core}
use Rattle.protocol.proofs.Laws.Logic.{and_l, and_r, and_i, eq→eqb, verdict_passed, passed_verdict}
use Rattle.protocol.proofs.Laws.Lines.{Line, unless, Follows, follows}
use Rattle.offline.specs.Lengths.{pages_fit}
use Rattle.offline.specs.Salvage.{Salvaged, fit_salvage, salvage_refusal, salvage_as, salvage_of}
use Rattle.offline.proofs.Lengths.{LibraryLengths, library_mean, Sized, sized}

-- the templates, the index and the report; no settings are lent
pub record SalvageLengths (t x report : List ℕ) : Type 0 where
  pub library : LibraryLengths t x
  pub entries : length report ≡ 1024

abbrev pub salvage_lines : List ℕ → List ℕ → List ℕ → List Line
salvage_lines t x report = unless (SalvageLengths t x report) 1 ∷ []

-- 0 is no refusal; a refusal leaves templates, index and report unchanged
abbrev pub SalvageEnds : List ℕ → List ℕ → List ℕ → Salvaged → ℕ → Type 0
SalvageEnds t x report e zero = e.refusal ≡ 0
SalvageEnds t x report e (suc n) = (e.refusal ≡ suc n) × ((e.templates ≡ t) × ((e.index ≡ x) × (e.report ≡ report)))

pub salvage_means : (t x report : List ℕ) → T (fit_salvage core t x report) ↔ SalvageLengths t x report
unfolding fit_salvage core
salvage_means t x report = (
  λ y. record { library = (library_mean t x).0 (search (and_l)); entries = eqb→eq (length report) 1024 (search (and_r)) },
  λ m. let a = (library_mean t x).1 m.library in let b = eq→eqb (length report) 1024 m.entries in search (and_i),
)

pub salvage_refusals : (t x report : List ℕ) → Follows (salvage_lines t x report) (SalvageEnds t x report (salvage_of core t x report))
unfolding salvage_of salvage_refusal salvage_as
salvage_refusals t x report =
    follows ((fit_salvage core t x report, 1) ∷ []) (salvage_lines t x report) (SalvageEnds t x report (salvage_of core t x report))
    (salvage_means t x report, (refl, λ m. tt)) (ends (salvage_refusal core t x report))
  where
    ends : (n : ℕ) → SalvageEnds t x report (salvage_as t x report n) n
    ends zero = refl
    ends (suc n) = (refl, (refl, (refl, refl)))

-- of any shape, the report has an entry for each bit of the index
pub entries_mean : (σ : Shape) (t x report : List ℕ)
    → T (fit_salvage σ t x report) ↔ (T (pages_fit σ (length t / 512) (length t) (length x)) × (length report ≡ 8 * length x))
unfolding fit_salvage
entries_mean σ t x report = (
  λ y. let a : T (pages_fit σ (length t / 512) (length t) (length x)) = search (and_l) in (
    a,
    eqb→eq (length report) (8 * σ.indexed) (search (and_r)) ∙ ap (λ (n : ℕ). 8 * n) (sym (sized σ t x a).wide),
  ),
  λ m.
      let a = m.0 in
      let b = eq→eqb (length report) (8 * σ.indexed) (m.1 ∙ ap (λ (n : ℕ). 8 * n) (sized σ t x a).wide) in
      search (and_i),
)

-- ---- refused, or not

module _ (σ : Shape) (t x report : List ℕ) where
  pub salvage_is : T (fit_salvage σ t x report) → salvage_of σ t x report ≡ salvage_as t x report 0
  unfolding salvage_of salvage_refusal
  salvage_is y = ap (salvage_as t x report) (passed_verdict ((fit_salvage σ t x report, 1) ∷ []) (search (and_i)))

  pub salvage_kinds : (P : Salvaged → Type 0) → ((k : ℕ) → P record { refusal = suc k; templates = t; index = x; report = report })
      → (Sized σ t x → P (salvage_as t x report 0)) → P (salvage_of σ t x report)
  unfolding salvage_of salvage_as salvage_refusal fit_salvage
  salvage_kinds P f h = go (salvage_refusal σ t x report) refl
    where
      go : (n : ℕ) → salvage_refusal σ t x report ≡ n → P (salvage_as t x report n)
      go zero e = let y = verdict_passed ((fit_salvage σ t x report, 1) ∷ []) tt e in h (sized σ t x (search (and_l)))
      go (suc n) e = f n

  -- a call that is not refused had fit lengths
  pub salvage_passes : (salvage_of σ t x report).refusal ≡ 0 → T (fit_salvage σ t x report)
  unfolding salvage_of salvage_as salvage_refusal
  salvage_passes e = go (salvage_refusal σ t x report) refl e
    where
      go : (n : ℕ) → salvage_refusal σ t x report ≡ n → (salvage_as t x report n).refusal ≡ 0 → T (fit_salvage σ t x report)
      go zero e z = let y = verdict_passed ((fit_salvage σ t x report, 1) ∷ []) tt e in search (and_l)
      go (suc n) e z = absurd (omega arith)
