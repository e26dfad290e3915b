-- What is printed of c pages, each with its code, and of two notepads: what the functions of `print` need and leave.
use Rattle.std.specs.Prelude.{◌&&◌, cond, List, ◌++◌, ◌≡◌, ℕ, ◌≤◌, eqb, length, get_or}
use Rattle.protocol.specs.Numbers.{notepad_bytes, most_pages, bad_length, bad_setting}
use Rattle.protocol.specs.Index.{clear_from}
use Rattle.protocol.specs.Call.{core}
use Rattle.offline.specs.Compare.{note_says, note_pages}
use Rattle.offline.specs.Print.{letter_t, letter_n, lines_of, refusal_line}

-- the lines of the first n codes v
abbrev pub code_lines : ℕ → List ℕ → ℕ → List ℕ
code_lines letter v n = lines_of letter (λ q. get_or v q 0) n

-- two notepads, c pages and their codes
pub record Held (n m : List ℕ) (c : ℕ) (v : List ℕ) : Type 0 where
  pub first : length n ≡ notepad_bytes
  pub second : length m ≡ notepad_bytes
  pub few : c ≤ most_pages
  pub codes : length v ≡ most_pages

-- indexes x and y, notepads n and m, c pages with the codes v; no page is no library
unfoldable pub text_of : List ℕ → List ℕ → List ℕ → List ℕ → ℕ → List ℕ → List ℕ
text_of x n y m c v =
    cond (eqb c 0) (refusal_line bad_length)
    (cond (clear_from x c && clear_from y c) (code_lines letter_t v c ++ lines_of letter_n (note_says n m) (note_pages core)) (refusal_line bad_setting))
