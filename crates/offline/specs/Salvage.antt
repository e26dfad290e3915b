-- Salvage, request [10], "over a stored index and templates: clear bits at or above C, zero the bytes of vacant pages, and touch nothing else. A report of 1024 bytes,
-- one per index bit, says 0 for unchanged, 1 for bit cleared, 2 for non-zero bytes zeroed."
use Rattle.std.specs.Prelude.{Bool, ◌&&◌, ◌||◌, cond, List, [], ◌∷◌, ℕ, zero, suc, ◌-◌, ◌*◌, ◌/◌, eqb, ltb, length}
use Rattle.protocol.specs.Numbers.{page_bytes, bad_length}
use Rattle.protocol.specs.Bytes.{part, zeros, same, lay}
use Rattle.protocol.specs.Tests.{verdict, listed}
use Rattle.protocol.specs.Index.{stored, clear_bits, bits}
use Rattle.protocol.specs.Reader.{Reader, with_library, reader}
use Rattle.protocol.specs.Call.{Shape}
use Rattle.offline.specs.Lengths.{pages_fit}

-- ---- what is left of an index x and templates t, of c pages

-- "clear bits at or above C"
abbrev pub salvaged_index : ℕ → List ℕ → List ℕ
salvaged_index c x = clear_bits x c (bits x - c)

-- "zero the bytes of vacant pages": of those below n
unfoldable pub salvaged_pages : List ℕ → List ℕ → ℕ → List ℕ
salvaged_pages t x zero = t
salvaged_pages t x (suc n) = cond (stored x n) (salvaged_pages t x n) (lay (page_bytes * n) (zeros page_bytes) (salvaged_pages t x n))

-- ---- what the report says

abbrev pub unchanged : ℕ
unchanged = 0

abbrev pub bit_cleared : ℕ
bit_cleared = 1

abbrev pub page_zeroed : ℕ
page_zeroed = 2

-- has page p no byte but zeros?
abbrev pub is_blank : List ℕ → ℕ → Bool
is_blank t p = same (part (page_bytes * p) page_bytes t) (zeros page_bytes)

-- of a page, and of any bit
unfoldable pub page_entry : List ℕ → List ℕ → ℕ → ℕ
page_entry t x p = cond (stored x p || is_blank t p) unchanged page_zeroed

unfoldable pub entry_of : ℕ → List ℕ → List ℕ → ℕ → ℕ
entry_of c t x q = cond (ltb q c) (page_entry t x q) (cond (stored x q) bit_cleared unchanged)

-- ---- the call

-- what a caller gets back: the refusal or 0, the templates, the index and the report
pub record Salvaged : Type 0 where
  pub refusal : ℕ
  pub templates : List ℕ
  pub index : List ℕ
  pub report : List ℕ

-- the lent lengths as numbers: of c pages the templates, the index and the report
abbrev pub salvage_fits : Shape → ℕ → ℕ → ℕ → ℕ → Bool
salvage_fits σ c t i n = pages_fit σ c t i && eqb n (8 * σ.indexed)

unfoldable pub fit_salvage : Shape → List ℕ → List ℕ → List ℕ → Bool
fit_salvage σ t x report = salvage_fits σ (length t / page_bytes) (length t) (length x) (length report)

-- "1 for lengths; 3 is not given here"
unfoldable pub salvage_refusal : Shape → List ℕ → List ℕ → List ℕ → ℕ
salvage_refusal σ t x report = verdict ((fit_salvage σ t x report, bad_length) ∷ [])

unfoldable pub salvage_as : List ℕ → List ℕ → List ℕ → ℕ → Salvaged
salvage_as t x report zero =
    let c = length t / page_bytes in
    record { refusal = 0; templates = salvaged_pages t x c; index = salvaged_index c x; report = listed (entry_of c t x) (bits x) }
salvage_as t x report (suc k) = record { refusal = suc k; templates = t; index = x; report = report }

-- templates, index, and the report lent for it
unfoldable pub salvage_of : Shape → List ℕ → List ℕ → List ℕ → Salvaged
salvage_of σ t x report = salvage_as t x report (salvage_refusal σ t x report)

-- ---- beside a reader: its library salvaged, and all else as it was

unfoldable pub salvaged_in : Shape → Reader → List ℕ → Reader
salvaged_in σ r report =
    let e = salvage_of σ r.guarded.templates r.guarded.index report in
    reader r.plain (with_library e.templates e.index r.guarded)
