-- Request [8], Search: "Among stored pages from start to before start + count, cut at C, with a score at or above the threshold of the level in force, answer
-- the highest score, the lowest page on a tie: 00h, page, score. None: 09h, page 0, score 0."
use Rattle.std.specs.Prelude.{Bool, true, false, ◌&&◌, ◌||◌, not, cond, List, [], ◌∷◌, Option, Some, None, ℕ, zero, suc, ◌+◌, ◌-◌, ltb, leb, get_or}
use Rattle.protocol.specs.declared.Match as code
use Rattle.protocol.specs.Numbers.{done, not_found}
use Rattle.protocol.specs.Bytes.{two, joined}
use Rattle.protocol.specs.Index.{stored}
use Rattle.protocol.specs.Reader.{Guarded, capacity}

-- "The sensor chip gives us one 16-bit score per page and a threshold for each level"
pub record Chip : Type 0 where
  pub scores : List ℕ
  pub thresholds : List ℕ

abbrev pub score_at : List ℕ → ℕ → ℕ
score_at scores q = get_or scores q 0

-- the n-th is level n's
abbrev pub threshold_of : List ℕ → ℕ → ℕ
threshold_of thresholds level = get_or thresholds (level - 1) 0

-- what is found: a page and its score; none is page 0 with the score 0
pub record Match : Type 0 where
  pub found : Bool
  pub page : ℕ
  pub score : ℕ

-- page p with the score k; and none
abbrev pub hit : ℕ → ℕ → Match
hit p k = record { found = true; page = p; score = k }

abbrev pub nobody : Match
nobody = record { found = false; page = 0; score = 0 }

-- what the code's option says
abbrev pub match_of : Option code.Match → Match
match_of (Some m) = hit m.page m.score
match_of None = nobody

-- is page q stored, with a score at or above the threshold?
unfoldable pub eligible : List ℕ → List ℕ → ℕ → ℕ → Bool
eligible index scores threshold q = stored index q && leb threshold (score_at scores q)

-- is the score k above the best so far, or the first?
unfoldable pub beats : ℕ → Match → Bool
beats k m = not m.found || ltb m.score k

-- the best of the n pages from p on that are chosen; a later page is better only with a higher score
unfoldable pub best_of : (ℕ → Bool) → (ℕ → ℕ) → ℕ → ℕ → Match
best_of chosen score p zero = nobody
best_of chosen score p (suc n) =
    let m = best_of chosen score p n in
    cond (chosen (p + n) && beats (score (p + n)) m) (hit (p + n) (score (p + n))) m

-- from start to before start + count, cut at c: so many pages
unfoldable pub pages_from : ℕ → ℕ → ℕ → ℕ
pages_from c start count = cond (leb (start + count) c) count (c - start)

-- the scores and thresholds lent with the call, the level in force, start and count
unfoldable pub search_of : Chip → ℕ → Guarded → ℕ → ℕ → Match
search_of χ level g start count =
    let s = χ.scores in
    best_of (eligible g.index s (threshold_of χ.thresholds level)) (score_at s) start (pages_from (capacity g) start count)

-- 00h or 09h; page, score
unfoldable pub match_code : Match → ℕ
match_code m = cond m.found done not_found

unfoldable pub match_bytes : Match → List ℕ
match_bytes m = joined (two m.page ∷ two m.score ∷ [])
