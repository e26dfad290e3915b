-- What the program of request [11] prints of two files, "each the index, the notepad and then the templates in page order": "the non-zero entries one to a line: T or N, page
-- number in decimal, space, code, newline; templates first, pages rising. Equal readers print nothing; a refusal prints only the line R1 or R3; an unreadable file counts as empty."
use Rattle.std.specs.Prelude.{cond, List, [], ◌∷◌, ◌++◌, ℕ, zero, suc, ◌+◌, ◌/◌, ◌%◌, eqb, ltb, take, drop}
use Rattle.protocol.specs.Numbers.{index_bytes, notepad_bytes}
use Rattle.protocol.specs.Bytes.{part}
use Rattle.protocol.specs.Call.{core}
use Rattle.offline.specs.Compare.{Library, library, pages_in, note_pages, page_says, note_says, compare_refusal}

-- the library in a file
unfoldable pub library_in : List ℕ → Library
library_in s = library (take index_bytes s) (part index_bytes notepad_bytes s) (drop (index_bytes + notepad_bytes) s)

-- ---- a line; its characters by their numbers

abbrev pub letter_t : ℕ
letter_t = 84

abbrev pub letter_n : ℕ
letter_n = 78

abbrev pub letter_r : ℕ
letter_r = 82

abbrev pub space : ℕ
space = 32

abbrev pub newline : ℕ
newline = 10

-- the last digit of a number
abbrev pub digit : ℕ → ℕ
digit k = 48 + k % 10

-- a number below 1000 in decimal
unfoldable pub decimal : ℕ → List ℕ
decimal n =
    cond (ltb n 10) (digit n ∷ []) (cond (ltb n 100) (digit (n / 10) ∷ digit n ∷ []) (digit (n / 100) ∷ digit (n / 10) ∷ digit n ∷ []))

-- "T or N, page number in decimal, space, code, newline"
unfoldable pub line_of : ℕ → ℕ → ℕ → List ℕ
line_of letter page code = letter ∷ (decimal page ++ (space ∷ digit code ∷ newline ∷ []))

-- "the non-zero entries one to a line", "pages rising": of n entries
unfoldable pub lines_of : ℕ → (ℕ → ℕ) → ℕ → List ℕ
lines_of letter f zero = []
lines_of letter f (suc n) = lines_of letter f n ++ cond (eqb (f n) 0) [] (line_of letter n (f n))

-- ---- the output

-- "the line R1 or R3"
abbrev pub refusal_line : ℕ → List ℕ
refusal_line k = letter_r ∷ digit k ∷ newline ∷ []

-- "templates first"; "a refusal prints only the line"
unfoldable pub printed_as : Library → Library → ℕ → List ℕ
printed_as a b zero = lines_of letter_t (page_says a b) (pages_in a) ++ lines_of letter_n (note_says a.notepad b.notepad) (note_pages core)
printed_as a b (suc k) = refusal_line (suc k)

-- of two files, an unreadable one being []. The report is the program's own, and as long as it must be
unfoldable pub printed_of : List ℕ → List ℕ → List ℕ
printed_of s u =
    let a = library_in s in
    let b = library_in u in
    printed_as a b (compare_refusal core a b (pages_in a + note_pages core))
