-- Salvage: what its functions need and leave.
use Rattle.std.specs.Prelude.{true, cond, ◌≢◌, List, ◌≡◌, ℕ, ◌*◌, ◌/◌, ◌≤◌, ◌<◌, length, get_or}
use Rattle.protocol.specs.Numbers.{page_bytes}
use Rattle.protocol.specs.Bytes.{zeros, lay}
use Rattle.protocol.specs.Index.{stored}
use Rattle.upkeep.specs.declared.salvage.Entry.{Entry}
use Rattle.upkeep.specs.declared.salvage.Entry.TheVariants.{Unchanged, BitCleared, PageZeroed}
use Rattle.offline.specs.Salvage.{salvaged_pages, page_entry, bit_cleared, page_zeroed, unchanged}

-- the number of an entry in the report
abbrev pub entry_number : Entry → ℕ
entry_number Unchanged = unchanged
entry_number BitCleared = bit_cleared
entry_number PageZeroed = page_zeroed

-- templates, index and report of one library
pub record Reporting (t x v : List ℕ) : Type 0 where
  pub long : length t ≡ page_bytes * (length t / page_bytes)
  pub bits : length t / page_bytes ≤ 8 * length x
  pub entries : length v ≡ 8 * length x

-- page p, of which nothing is reported yet
pub record Reached (t x v : List ℕ) (p : ℕ) : Type 0 where
  pub library : Reporting t x v
  pub below : p < length t / page_bytes
  pub none : get_or v p 0 ≡ unchanged

-- page p salvaged, and those behind it before page r, which are stored: the templates u and the report w
pub record PageSalvaged (t x v : List ℕ) (p r : ℕ) (u w : List ℕ) : Type 0 where
  pub more : p < r
  pub rest : (q : ℕ) → p < q → q < r → stored x q ≡ true
  pub pages : u ≡ cond (stored x p) t (lay (page_bytes * p) (zeros page_bytes) t)
  pub same : length u ≡ length t
  pub entries : length w ≡ length v
  pub entry : get_or w p 0 ≡ page_entry t x p
  pub others : (j : ℕ) → j ≢ p → get_or w j 0 ≡ get_or v j 0

-- all pages: the templates u, and the report w, in which no other bit has an entry
pub record PagesSalvaged (t x u w : List ℕ) : Type 0 where
  pub pages : u ≡ salvaged_pages t x (length t / page_bytes)
  pub same : length u ≡ length t
  pub entries : length w ≡ 8 * length x
  pub reported : (j : ℕ) → j < length t / page_bytes → get_or w j 0 ≡ page_entry t x j
  pub none : (j : ℕ) → length t / page_bytes ≤ j → get_or w j 0 ≡ unchanged

-- the bits from c on: the report w after v
pub record BitsReported (c : ℕ) (x v w : List ℕ) : Type 0 where
  pub entries : length w ≡ length v
  pub before : (j : ℕ) → j < c → get_or w j 0 ≡ get_or v j 0
  pub reported : (j : ℕ) → c ≤ j → j < 8 * length x → get_or w j 0 ≡ cond (stored x j) bit_cleared unchanged
