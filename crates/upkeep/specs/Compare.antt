-- Comparing: what its functions need and leave.
use Rattle.std.specs.Prelude.{Bool, ◌&&◌, cond, List, ◌≡◌, ℕ, ◌+◌, ◌*◌, ◌/◌, ◌≤◌, eqb, length}
use Rattle.protocol.specs.Numbers.{page_bytes, notepad_bytes}
use Rattle.protocol.specs.Bytes.{same}
use Rattle.protocol.specs.Tests.{listed}
use Rattle.protocol.specs.Call.{core}
use Rattle.upkeep.specs.declared.compare.Difference.{Difference}
use Rattle.upkeep.specs.declared.compare.Difference.TheVariants.{Same, OnlyFirst, OnlySecond, Different}
use Rattle.offline.specs.Compare.{no_difference, only_first, only_second, different, note_says, note_pages}
use Rattle.upkeep.specs.Lent.{fits_lent}

-- the number of a difference in the report
abbrev pub difference_number : Difference → ℕ
difference_number Same = no_difference
difference_number OnlyFirst = only_first
difference_number OnlySecond = only_second
difference_number Different = different

-- of two notepad pages
abbrev pub note_code : List ℕ → List ℕ → ℕ
note_code s t = cond (same s t) no_difference different

-- of two notepads n and m, and so many bytes for the codes
unfoldable pub fits_notes : List ℕ → List ℕ → List ℕ → Bool
fits_notes n m v = eqb (length n) notepad_bytes && eqb (length m) notepad_bytes && eqb (length v) (note_pages core)

-- what is in the codes v afterwards
unfoldable pub note_codes : List ℕ → List ℕ → List ℕ → List ℕ
note_codes n m v = cond (fits_notes n m v) (listed (note_says n m) (note_pages core)) v

-- the templates of two libraries, and a report
pub record Shelves (t u v : List ℕ) : Type 0 where
  pub long : length t ≡ page_bytes * (length t / page_bytes)
  pub alike : length u ≡ length t
  pub room : length t / page_bytes ≤ length v

-- lengths of the index, the notepad and the templates of two libraries, and of a report
unfoldable pub fits_two : ℕ → ℕ → ℕ → ℕ → ℕ → ℕ → ℕ → Bool
fits_two i n t j m u entries =
    fits_lent t i n notepad_bytes && fits_lent u j m notepad_bytes && eqb (t / page_bytes) (u / page_bytes) && eqb entries (t / page_bytes + note_pages core)
