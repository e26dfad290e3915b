-- Document 02, request [9]: "Refusals: 1 for a table not C long; 3 as in document 01."
use mathlib.Core.Path.{◌≡◌, refl, ap}
use mathlib.Core.Logic.{◌↔◌}
use mathlib.Core.List.{List, [], ◌∷◌}
use Prim.Native.Nat.{ℕ, zero, suc, ◌*◌, ◌≤◌}
use native.Mathlib.Omega.{arith}
use lib.Dec.{T, eqb→eq, leb→le}
use lib.ListN.{length}
use Rattle.protocol.specs.Tests.{within}
use Rattle.protocol.specs.Index.{clear_from}
use Rattle.protocol.specs.Reader.{Guarded, Reader, capacity}
use Rattle.protocol.specs.Call.{Shape, core, sound}
use Rattle.offline.proofs.Lengths.{LibraryLengths, library_mean}
use Rattle.offline.specs.CloseGaps.{Closed, fit_closing, close_refusal, close_as, close_of}
use Rattle.protocol.proofs.Laws.Logic.{and_l, and_r, and_i, eq→eqb, verdict_passed, passed_verdict}
use Rattle.protocol.proofs.Laws.Lines.{Line, unless, Follows, follows}
use Rattle.protocol.proofs.Promises.Refusals.LegalMeans.{Settled, settled_means}

-- ---- "1 for a table not C long; 3 as in document 01"

-- the templates, the index and the table; neither notepad nor buffers are lent
pub record ClosingLengths (g : Guarded) (table : List ℕ) : Type 0 where
  pub library : LibraryLengths g.templates g.index
  pub entries : length table ≡ library.pages

abbrev pub close_lines : Reader → List ℕ → List Line
close_lines r table = unless (ClosingLengths r.guarded table) 1 ∷ unless (Settled r) 3 ∷ []

-- 0 is no refusal; a refusal leaves reader and table unchanged
abbrev pub CloseEnds : Reader → List ℕ → Closed → ℕ → Type 0
CloseEnds r table e zero = e.refusal ≡ 0
CloseEnds r table e (suc n) = (e.refusal ≡ suc n) × ((e.table ≡ table) × (e.after ≡ r))

pub closing_mean : (g : Guarded) (table : List ℕ) → T (fit_closing core g table) ↔ ClosingLengths g table
unfolding fit_closing capacity
closing_mean g table = (to, from)
  where
    to : T (fit_closing core g table) → ClosingLengths g table
    to t =
        let l : LibraryLengths g.templates g.index = (library_mean g.templates g.index).0 (search (and_l)) in
        let e : length table ≡ capacity g = eqb→eq (length table) (capacity g) (search (and_r)) in
        record { library = l; entries = omega (arith, e, l.templates) }

    from : ClosingLengths g table → T (fit_closing core g table)
    from m =
        let a = (library_mean g.templates g.index).1 m.library in
        let b = eq→eqb (length table) (capacity g) (omega (arith, m.entries, m.library.templates)) in
        search (and_i)

pub close_refusals : (r : Reader) (table : List ℕ) → Follows (close_lines r table) (CloseEnds r table (close_of core r table))
unfolding close_of close_refusal close_as
close_refusals r table =
    follows ((fit_closing core r.guarded table, 1) ∷ (sound r, 3) ∷ []) (close_lines r table) (CloseEnds r table (close_of core r table))
    (closing_mean r.guarded table, (refl, λ m. (settled_means r m.library.pages m.library.templates, (refl, λ k. tt)))) (ends (close_refusal core r table))
  where
    ends : (n : ℕ) → CloseEnds r table (close_as r table n) n
    ends zero = refl
    ends (suc n) = (refl, (refl, refl))

-- ---- refused, or not

module _ (σ : Shape) (r : Reader) (table : List ℕ) where
  -- what a call that is not refused needs
  pub record Able : Type 0 where
    pub long : length r.guarded.templates ≡ 512 * capacity r.guarded
    pub high : capacity r.guarded ≤ σ.most
    pub wide : length r.guarded.index ≡ σ.indexed
    pub clear : T (clear_from r.guarded.index (capacity r.guarded))

  pub able : T (fit_closing σ r.guarded table) → T (sound r) → Able
  unfolding fit_closing within sound
  able t u =
      let g : Guarded = r.guarded in
      record {
        long = eqb→eq (length g.templates) (512 * capacity g) (search (and_l, and_r) depth 8);
        high = leb→le (capacity g) σ.most (search (and_l, and_r) depth 8);
        wide = eqb→eq (length g.index) σ.indexed (search (and_l, and_r) depth 8);
        clear = search (and_l, and_r) depth 8;
      }

  pub close_is : T (fit_closing σ r.guarded table) → T (sound r) → close_of σ r table ≡ close_as r table 0
  unfolding close_of close_refusal
  close_is t u = ap (close_as r table) (passed_verdict ((fit_closing σ r.guarded table, 1) ∷ (sound r, 3) ∷ []) (search (and_i)))

  pub close_kinds : (P : Closed → Type 0) → ((k : ℕ) → P record { refusal = suc k; table = table; after = r })
      → (T (fit_closing σ r.guarded table) → T (sound r) → P (close_as r table 0)) → P (close_of σ r table)
  unfolding close_of close_as close_refusal
  close_kinds P f h = go (close_refusal σ r table) refl
    where
      go : (n : ℕ) → close_refusal σ r table ≡ n → P (close_as r table n)
      go zero e = let t = verdict_passed ((fit_closing σ r.guarded table, 1) ∷ (sound r, 3) ∷ []) tt e in h (search (and_l)) (search (and_l, and_r))
      go (suc n) e = f n

  -- a call that is not refused had fit lengths, and settings, index and origins that are legal
  pub record Passes : Type 0 where
    pub lengths : T (fit_closing σ r.guarded table)
    pub settings : T (sound r)

  pub passes : (close_of σ r table).refusal ≡ 0 → Passes
  passes = close_kinds (λ (e : Closed). e.refusal ≡ 0 → Passes) (λ n e. absurd (omega arith)) (λ t u e. record { lengths = t; settings = u })
