-- The lengths of the memory that all work between two calls is lent: refusal 1's tests of them.
use Rattle.std.specs.Prelude.{Bool, ◌&&◌, ℕ, ◌*◌, eqb}
use Rattle.protocol.specs.Numbers.{page_bytes}
use Rattle.protocol.specs.Tests.{within}
use Rattle.protocol.specs.Call.{Shape}

-- as numbers: of c pages the templates and the index
abbrev pub pages_fit : Shape → ℕ → ℕ → ℕ → Bool
pages_fit σ c t i = eqb t (page_bytes * c) && within σ.least c σ.most && eqb i σ.indexed
