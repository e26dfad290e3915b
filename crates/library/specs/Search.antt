-- What the search finds in any lent index and scores.
use Rattle.std.specs.Prelude.{ℕ, ◌≤◌, cond, ◌&&◌, List, length, nat_le}
use Rattle.protocol.specs.Numbers.{most_pages}
use Rattle.protocol.specs.Index.{bits}
use Rattle.protocol.specs.Search.{Match, score_at, nobody, eligible, best_of, pages_from}

-- the best of the pages from p to before p + n, cut at the last score; none where there are more scores than a library has pages, or the index has bits for fewer
unfoldable pub best_in : List ℕ → List ℕ → ℕ → ℕ → ℕ → Match
best_in x s threshold p n =
    cond (nat_le (length s) most_pages && nat_le (length s) (bits x)) (best_of (eligible x s threshold) (score_at s) p (pages_from (length s) p n)) nobody

-- each page below c is a library's, and has a score and a bit of the index
pub record Covered (x s : List ℕ) (c : ℕ) : Type 0 where
  pub few : c ≤ most_pages
  pub scored : c ≤ length s
  pub indexed : c ≤ bits x
