-- What was read of two files. What a file gives no contract can name; so these say that there are such bytes.
use Rattle.std.specs.Prelude.{List, ◌≡◌, ℕ, ◌*◌, ◌≤◌, ◌<◌, length, take, get_or}
use Rattle.protocol.specs.Numbers.{page_bytes, most_pages}
use Rattle.protocol.specs.Bytes.{part, same}
use Rattle.protocol.specs.Index.{stored}
use Rattle.offline.specs.Compare.{page_code}
use Rattle.offline.specs.Print.{printed_of}

-- by the indexes x and y: c pages of each file, and in v the code of each
pub record PagesRead (x y : List ℕ) (c : ℕ) (v : List ℕ) : Type 0 where
  pub few : c ≤ most_pages
  pub long : length v ≡ most_pages
  pub first : List ℕ
  pub second : List ℕ
  pub first_long : length first ≡ page_bytes * c
  pub second_long : length second ≡ page_bytes * c
  pub codes : (p : ℕ) → p < c → get_or v p 0 ≡ page_code (stored x p) (stored y p) (same (part (page_bytes * p) page_bytes first) (part (page_bytes * p) page_bytes second))

-- the first r bytes of the text are what request [11] prints of two files
pub record PrintedOfTwo (r : ℕ) (text : List ℕ) : Type 0 where
  pub within : r ≤ length text
  pub first : List ℕ
  pub second : List ℕ
  pub printed : take r text ≡ printed_of first second
