-- Lists of bytes: numbers high byte first, sums, comparison, parts, and one list laid over another.
use Rattle.std.specs.Prelude.{Bool, true, false, ◌&&◌, List, [], ◌∷◌, ◌++◌, ℕ, zero, suc, ◌+◌, ◌*◌, ◌/◌, ◌%◌, ◌<◌, eqb, length, get_or, take, drop, replicate}

-- every cell of the list is a byte
unfoldable pub Bytes : List ℕ → Type 0
Bytes s = (i : ℕ) → get_or s i 0 < 256

-- a number as two bytes, and as four
unfoldable pub two : ℕ → List ℕ
two n = (n / 256 % 256) ∷ (n % 256) ∷ []

unfoldable pub four : ℕ → List ℕ
four n = (n / 16777216 % 256) ∷ (n / 65536 % 256) ∷ (n / 256 % 256) ∷ (n % 256) ∷ []

-- the byte at the place i, and the number of the two bytes there
abbrev pub byte_at : List ℕ → ℕ → ℕ
byte_at s i = get_or s i 0

unfoldable pub word_at : List ℕ → ℕ → ℕ
word_at s i = byte_at s i * 256 + byte_at s (i + 1)

-- n bytes from the place i on
abbrev pub part : ℕ → ℕ → List ℕ → List ℕ
part i n s = take n (drop i s)

abbrev pub zeros : ℕ → List ℕ
zeros n = replicate n 0

-- all bytes added
unfoldable pub total : List ℕ → ℕ
total [] = 0
total (b ∷ s) = b + total s

unfoldable pub same : List ℕ → List ℕ → Bool
same [] [] = true
same [] (b ∷ t) = false
same (a ∷ s) [] = false
same (a ∷ s) (b ∷ t) = eqb a b && same s t

-- d with s laid over it from the place i on
unfoldable pub lay : ℕ → List ℕ → List ℕ → List ℕ
lay i s d = take i d ++ (s ++ drop (i + length s) d)

-- a followed by b; where b is empty, a as it is
unfoldable pub follow : List ℕ → List ℕ → List ℕ
follow a [] = a
follow a (x ∷ b) = a ++ (x ∷ b)

-- lists one behind the other
unfoldable pub joined : List (List ℕ) → List ℕ
joined [] = []
joined (s ∷ ss) = s ++ joined ss

-- the first k parts of n bytes each
unfoldable pub split : ℕ → ℕ → List ℕ → List (List ℕ)
split zero n s = []
split (suc k) n s = take n s ∷ split k n (drop n s)
