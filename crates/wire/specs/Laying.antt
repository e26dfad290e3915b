-- Pieces of a packet as the builder lays them, and what `put` does to any two slices.
use Rattle.std.specs.Prelude.{ℕ, cond, List, ◌∷◌, ◌++◌, length, nat_le}
use Rattle.protocol.specs.Numbers.{first_mark, second_mark}
use Rattle.protocol.specs.Bytes.{two, lay}

-- src laid over the front of d, where it fits
unfoldable pub lay_front : List ℕ → List ℕ → List ℕ
lay_front src d = cond (nat_le (length src) (length d)) (lay 0 src d) d

-- the nine bytes before the content, of a packet with length field n
unfoldable pub head_of : List ℕ → ℕ → ℕ → List ℕ
head_of address identifier n = first_mark ∷ (second_mark ∷ (address ++ (identifier ∷ two n)))
