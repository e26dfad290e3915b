-- The end is the sum, or the number of scores where that is smaller, so that the pages before it are those of the definition, and each has a bit and a score.
use Rattle.std.proofs.Common.{◌≡◌, ℕ, ◌+◌, ◌-◌, ◌≤◌, min, List, length, ap, ◌∙◌, arith, le-leb}
use Rattle.std.proofs.lemmas.Bool.Decides.{nat_tests}
use Rattle.std.proofs.lemmas.Grind.{common_steps}
use Rattle.protocol.specs.Numbers.{most_pages}
use Rattle.protocol.specs.Index.{bits}
use Rattle.protocol.specs.Search.{Match, score_at, eligible, best_of, pages_from}
use Rattle.library.specs.Search.{best_in}
use Rattle.library.proofs.search.best.Goals as goal

cut : (c start count : ℕ) → min c (start + count) - start ≡ pages_from c start count
unfolding pages_from
cut c start count = grind (arith, nat_tests)

searched : (x s : List ℕ) (t start count a b end : ℕ) (m : Match) → length s ≤ most_pages → length s ≤ bits x → a ≡ start → b ≡ count → end ≡ min (length s) (a + b)
    → m ≡ best_of (eligible x s t) (score_at s) a (end - a) → m ≡ best_in x s t start count
unfolding best_in
searched x s t start count a b end m few l e f g h =
    rw (le-leb _ _ few, le-leb _ _ l, ← e, ← f) (h ∙ ap (best_of (eligible x s t) (score_at s) a) (ap (λ (n : ℕ). n - a) g ∙ cut (length s) a b))

pub returns-then-pages-gt-MOST_PAGES : goal.returns-then-pages-gt-MOST_PAGES
unfolding best_in
returns-then-pages-gt-MOST_PAGES c = grind (arith, common_steps, nat_tests)

pub returns : goal.returns
returns c = let l : length c.args.scores.now ≤ bits c.args.index.now = omega arith in search searched
