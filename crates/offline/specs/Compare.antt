-- Comparing, request [11], "over two libraries of equal capacity, with their notepads. A lent report of C + 16 bytes says for each page: 0 both vacant or both the same,
-- 1 only the first has it, 2 only the second, 3 both but different; then for each notepad page 0 or 3. Bytes of vacant pages don't count."
use Rattle.std.specs.Prelude.{Bool, ◌&&◌, cond, List, [], ◌∷◌, ◌++◌, ℕ, zero, suc, ◌+◌, ◌*◌, ◌/◌, eqb, length}
use Rattle.protocol.specs.Numbers.{page_bytes, note_bytes, bad_length, bad_setting}
use Rattle.protocol.specs.Bytes.{part, same}
use Rattle.protocol.specs.Tests.{verdict, listed}
use Rattle.protocol.specs.Index.{stored, clear_from}
use Rattle.protocol.specs.Reader.{Reader}
use Rattle.protocol.specs.Call.{Shape, library_fits}

-- a library with its notepad; both are only read
pub record Library : Type 0 where
  pub index : List ℕ
  pub notepad : List ℕ
  pub templates : List ℕ

abbrev pub library : List ℕ → List ℕ → List ℕ → Library
library x n t = record { index = x; notepad = n; templates = t }

abbrev pub pages_in : Library → ℕ
pages_in a = length a.templates / page_bytes

-- ---- what the report says

abbrev pub no_difference : ℕ
no_difference = 0

abbrev pub only_first : ℕ
only_first = 1

abbrev pub only_second : ℕ
only_second = 2

abbrev pub different : ℕ
different = 3

-- of a page: has the first library it, has the second, and are its bytes the same?
unfoldable pub page_code : Bool → Bool → Bool → ℕ
page_code one two equal = cond one (cond two (cond equal no_difference different) only_first) (cond two only_second no_difference)

unfoldable pub page_says : Library → Library → ℕ → ℕ
page_says a b p =
    page_code (stored a.index p) (stored b.index p) (same (part (page_bytes * p) page_bytes a.templates) (part (page_bytes * p) page_bytes b.templates))

-- of a notepad page, by two notepads
unfoldable pub note_says : List ℕ → List ℕ → ℕ → ℕ
note_says n m k = cond (same (part (note_bytes * k) note_bytes n) (part (note_bytes * k) note_bytes m)) no_difference different

-- how many notepad pages there are
abbrev pub note_pages : Shape → ℕ
note_pages σ = σ.noted / note_bytes

unfoldable pub report_of : Shape → Library → Library → List ℕ
report_of σ a b = listed (page_says a b) (pages_in a) ++ listed (note_says a.notepad b.notepad) (note_pages σ)

-- ---- the call

-- what a caller gets back: the refusal or 0, and the report
pub record Compared : Type 0 where
  pub refusal : ℕ
  pub report : List ℕ

abbrev pub fits_alone : Shape → Library → Bool
fits_alone σ a = library_fits σ (pages_in a) (length a.templates) (length a.index) (length a.notepad)

-- two libraries of equal capacity, each fit by itself
unfoldable pub fits_beside : Shape → Library → Library → Bool
fits_beside σ a b = fits_alone σ a && fits_alone σ b && eqb (pages_in a) (pages_in b)

-- a report of so many bytes for them
unfoldable pub fit_compare : Shape → Library → Library → ℕ → Bool
fit_compare σ a b n = fits_beside σ a b && eqb n (pages_in a + note_pages σ)

unfoldable pub clear_beyond : Library → Library → Bool
clear_beyond a b = clear_from a.index (pages_in a) && clear_from b.index (pages_in b)

-- "1 for unequal capacities or wrong lengths; 3 for an index bit at or above C in either"
unfoldable pub compare_refusal : Shape → Library → Library → ℕ → ℕ
compare_refusal σ a b n = verdict ((fit_compare σ a b n, bad_length) ∷ (clear_beyond a b, bad_setting) ∷ [])

unfoldable pub compare_as : Shape → Library → Library → List ℕ → ℕ → Compared
compare_as σ a b report zero = record { refusal = 0; report = report_of σ a b }
compare_as σ a b report (suc k) = record { refusal = suc k; report = report }

-- two libraries, and the report lent for them
unfoldable pub compare_of : Shape → Library → Library → List ℕ → Compared
compare_of σ a b report = compare_as σ a b report (compare_refusal σ a b (length report))

-- that of a reader
abbrev pub library_at : Reader → Library
library_at r = library r.guarded.index r.guarded.notepad r.guarded.templates
