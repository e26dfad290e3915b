-- Tests in order: the first that fails gives its number. Refusals and the commands' rows are lists of them.
use Rattle.std.specs.Prelude.{Bool, true, false, ◌&&◌, ◌||◌, cond, List, [], ◌∷◌, ◌++◌, ℕ, zero, suc, ◌+◌, leb, ltb}

-- is it passed?, and the number that it gives where it is not
abbrev pub Test : Type 0
Test = Bool × ℕ

-- the number of the first test that fails, 0 where all pass
unfoldable pub verdict : List Test → ℕ
verdict [] = 0
verdict (t ∷ ts) = cond t.0 (verdict ts) t.1

unfoldable pub within : ℕ → ℕ → ℕ → Bool
within low n high = leb low n && leb n high

-- is q one of the n numbers from p on?
abbrev pub among : ℕ → ℕ → ℕ → Bool
among p n q = leb p q && ltb q (p + n)

-- is f true of every number below n? of some? and of how many of them?
unfoldable pub every : (ℕ → Bool) → ℕ → Bool
every f zero = true
every f (suc n) = f n && every f n

unfoldable pub some : (ℕ → Bool) → ℕ → Bool
some f zero = false
some f (suc n) = f n || some f n

unfoldable pub count_below : (ℕ → Bool) → ℕ → ℕ
count_below f zero = 0
count_below f (suc n) = cond (f n) 1 0 + count_below f n

-- f of each number below n, in turn
unfoldable pub listed : (ℕ → ℕ) → ℕ → List ℕ
listed f zero = []
listed f (suc n) = listed f n ++ (f n ∷ [])
