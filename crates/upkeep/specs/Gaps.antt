-- Closing the gaps: what its functions need and leave.
use Rattle.std.specs.Prelude.{cond, List, ◌≡◌, ℕ, ◌*◌, ◌/◌, ◌≤◌, ◌<◌, ltb, length, take, get_or}
use Rattle.protocol.specs.Numbers.{page_bytes, most_pages}
use Rattle.protocol.specs.Bytes.{part, lay}
use Rattle.protocol.specs.Tests.{listed}
use Rattle.offline.specs.CloseGaps.{rank, new_page, gathered, closed_templates, closed_index}

-- page p copied over page q
unfoldable pub move_page : ℕ → ℕ → List ℕ → List ℕ
move_page p q t = lay (page_bytes * q) (part (page_bytes * p) page_bytes t) t

-- templates, index and table of one library
pub record Shelved (t x table : List ℕ) : Type 0 where
  pub long : length t ≡ page_bytes * (length t / page_bytes)
  pub few : length t / page_bytes ≤ most_pages
  pub bits : length t / page_bytes < 8 * length x
  pub entries : length table ≡ length t / page_bytes

-- of templates t and index x: so many pages are stored, they stand at the front of the templates u, and the table w says where each went
pub record Gathered (t x : List ℕ) (n : ℕ) (u w : List ℕ) : Type 0 where
  pub number : n ≡ rank x (length t / page_bytes)
  pub few : n ≤ length t / page_bytes
  pub same : length u ≡ length t
  pub front : take (page_bytes * n) u ≡ gathered t x (length t / page_bytes)
  pub table : w ≡ listed (new_page x) (length t / page_bytes)

-- of templates t and index x: the templates u, the index y and the table w after it
pub record Tidied (t x u y w : List ℕ) : Type 0 where
  pub templates : u ≡ closed_templates (length t / page_bytes) t x
  pub index : y ≡ closed_index (length t / page_bytes) x
  pub table : w ≡ listed (new_page x) (length t / page_bytes)

-- an origin's number by the table; a number that is none of its pages stays
unfoldable pub followed_in : List ℕ → ℕ → ℕ
followed_in w o = cond (ltb o (length w)) (get_or w o 0) o
