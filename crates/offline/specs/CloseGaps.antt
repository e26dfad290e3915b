-- Closing the gaps, request [9]: "moves the stored templates to pages 0, 1, 2 and up in their old order, zeroes the rest, sets the index to match, and fills a
-- table of C 16-bit numbers: each old page's new page, or FFFFh if it was vacant. Buffer origins follow their templates."
use Rattle.std.specs.Prelude.{Bool, ◌&&◌, cond, List, [], ◌∷◌, ◌++◌, ℕ, zero, suc, ◌-◌, ◌*◌, eqb, length}
use Rattle.protocol.specs.Numbers.{page_bytes, no_page, bad_length, bad_setting}
use Rattle.protocol.specs.Bytes.{part, zeros}
use Rattle.protocol.specs.Tests.{verdict, count_below, listed}
use Rattle.protocol.specs.Index.{stored, set_bit}
use Rattle.protocol.specs.Reader.{Origin, no_origin, from_page, Buffer, Guarded, Reader, capacity, contents, reader}
use Rattle.protocol.specs.Call.{Shape, sound}
use Rattle.offline.specs.Lengths.{pages_fit}

-- ---- where the pages go, by an index x

-- how many pages below p are stored: a stored page's new number
unfoldable pub rank : List ℕ → ℕ → ℕ
rank x p = count_below (stored x) p

-- a page's entry in the table
unfoldable pub new_page : List ℕ → ℕ → ℕ
new_page x p = cond (stored x p) (rank x p) no_page

-- ---- what is left

-- the stored pages below n of the templates t, one behind the other
unfoldable pub gathered : List ℕ → List ℕ → ℕ → List ℕ
gathered t x zero = []
gathered t x (suc n) = gathered t x n ++ cond (stored x n) (part (page_bytes * n) page_bytes t) []

-- those of a library of c pages, and the rest zero
unfoldable pub closed_templates : ℕ → List ℕ → List ℕ → List ℕ
closed_templates c t x = gathered t x c ++ zeros (page_bytes * (c - rank x c))

-- an index of m bytes with its first k bits set
unfoldable pub first_bits : ℕ → ℕ → List ℕ
first_bits m zero = zeros m
first_bits m (suc k) = set_bit (first_bits m k) k

abbrev pub closed_index : ℕ → List ℕ → List ℕ
closed_index c x = first_bits (length x) (rank x c)

-- an origin follows its template
unfoldable pub followed : List ℕ → Origin → Origin
followed x no_origin = no_origin
followed x (from_page p) = from_page (rank x p)

abbrev pub following : List ℕ → Buffer → Buffer
following x b = record { bytes = b.bytes; filled = b.filled; origin = followed x b.origin }

-- all else stays
unfoldable pub closed_up : Guarded → Guarded
closed_up g =
    let x = g.index in
    contents (closed_templates (capacity g) g.templates x) (closed_index (capacity g) x) g.notepad (following x g.buffer1) (following x g.buffer2) g.found

unfoldable pub table_of : Guarded → List ℕ
table_of g = listed (new_page g.index) (capacity g)

-- ---- the call

-- what a caller gets back: the refusal or 0, its table, and the reader
pub record Closed : Type 0 where
  pub refusal : ℕ
  pub table : List ℕ
  pub after : Reader

-- the lent lengths as numbers: of c pages the templates, the index and the table. Neither notepad nor buffers are lent
abbrev pub closing_fits : Shape → ℕ → ℕ → ℕ → ℕ → Bool
closing_fits σ c t i n = pages_fit σ c t i && eqb n c

unfoldable pub fit_closing : Shape → Guarded → List ℕ → Bool
fit_closing σ g table = closing_fits σ (capacity g) (length g.templates) (length g.index) (length table)

-- "1 for a table not C long; 3 as in document 01"
unfoldable pub close_refusal : Shape → Reader → List ℕ → ℕ
close_refusal σ r table = verdict ((fit_closing σ r.guarded table, bad_length) ∷ (sound r, bad_setting) ∷ [])

unfoldable pub close_as : Reader → List ℕ → ℕ → Closed
close_as r table zero = record { refusal = 0; table = table_of r.guarded; after = reader r.plain (closed_up r.guarded) }
close_as r table (suc k) = record { refusal = suc k; table = table; after = r }

-- a reader, and the table lent for it
unfoldable pub close_of : Shape → Reader → List ℕ → Closed
close_of σ r table = close_as r table (close_refusal σ r table)
