-- The lengths of templates and index that all work between two calls asks for, in document 01's numbers: "Templates: 512 × C bytes", by request [6] C from 1 to 1000 and
-- "the index becomes 128 bytes for every reader".
use mathlib.Core.Path.{◌≡◌}
use mathlib.Core.Logic.{◌↔◌}
use mathlib.Core.List.{List}
use Prim.Native.Nat.{ℕ, ◌*◌, ◌/◌, ◌≤◌}
use native.Mathlib.Omega.{arith}
use lib.Dec.{T, eqb→eq, leb→le, le→leb}
use lib.ListN.{length}
use Rattle.protocol.specs.Tests.{within}
use Rattle.protocol.specs.Call.{Shape, core}
use Rattle.protocol.proofs.Laws.Logic.{and_l, and_r, and_i, eq→eqb}
use Rattle.offline.specs.Lengths.{pages_fit}

pub record LibraryLengths (t x : List ℕ) : Type 0 where
  pub pages : ℕ
  pub templates : length t ≡ 512 * pages
  pub least : 1 ≤ pages
  pub most : pages ≤ 1000
  pub index : length x ≡ 128

pub library_mean : (t x : List ℕ) → T (pages_fit core (length t / 512) (length t) (length x)) ↔ LibraryLengths t x
unfolding core within
library_mean t x = (to, from)
  where
    to : T (pages_fit core (length t / 512) (length t) (length x)) → LibraryLengths t x
    to y =
        record {
          pages = length t / 512;
          templates = eqb→eq (length t) (512 * (length t / 512)) (search (and_l, and_r) depth 8);
          least = leb→le 1 (length t / 512) (search (and_l, and_r) depth 8);
          most = leb→le (length t / 512) 1000 (search (and_l, and_r) depth 8);
          index = eqb→eq (length x) 128 (search (and_l, and_r) depth 8);
        }

    from : LibraryLengths t x → T (pages_fit core (length t / 512) (length t) (length x))
    from m =
        let t₁ = eq→eqb (length t) (512 * (length t / 512)) (omega (arith, m.templates)) in
        let t₂ = le→leb 1 (length t / 512) (omega (arith, m.templates, m.least)) in
        let t₃ = le→leb (length t / 512) 1000 (omega (arith, m.templates, m.most)) in
        let t₄ = eq→eqb (length x) 128 m.index in
        search (and_i) depth 8

-- what they come to, of any shape
pub record Sized (σ : Shape) (t x : List ℕ) : Type 0 where
  pub long : length t ≡ 512 * (length t / 512)
  pub high : length t / 512 ≤ σ.most
  pub wide : length x ≡ σ.indexed

pub sized : (σ : Shape) (t x : List ℕ) → T (pages_fit σ (length t / 512) (length t) (length x)) → Sized σ t x
unfolding within
sized σ t x y =
    record {
      long = eqb→eq (length t) (512 * (length t / 512)) (search (and_l, and_r) depth 8);
      high = leb→le (length t / 512) σ.most (search (and_l, and_r) depth 8);
      wide = eqb→eq (length x) σ.indexed (search (and_l, and_r) depth 8);
    }
