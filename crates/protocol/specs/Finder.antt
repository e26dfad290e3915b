-- Finding a packet: steps 1 to 4 of document 01. A start is a place, or none; the code answers the enum Found, and `used_of` gives the bytes used of each case.
use Rattle.std.specs.Prelude.{Bool, ◌&&◌, cond, List, [], ◌∷◌, ℕ, suc, ◌+◌, ◌-◌, eqb, ltb, length, Option, None, Some}
use Rattle.protocol.specs.declared.Found.{Found}
use Rattle.protocol.specs.declared.Found.TheVariants.{Noise, Unfinished, Unfit, Whole}
use Rattle.protocol.specs.Numbers.{first_mark, second_mark, head_bytes}
use Rattle.protocol.specs.Bytes.{byte_at}
use Rattle.protocol.specs.Packet.{accepts, identifier_at, length_at, end_at}

-- EF followed by 01 at the place p
unfoldable pub marks_at : List ℕ → ℕ → Bool
marks_at s p = eqb (byte_at s p) first_mark && eqb (byte_at s (suc p)) second_mark

unfoldable pub later : Option ℕ → Option ℕ
later None = None
later (Some p) = Some (suc p)

-- 1. the first place with EF followed by 01
unfoldable pub start_of : List ℕ → Option ℕ
start_of [] = None
start_of (b ∷ s) = cond (marks_at (b ∷ s) 0) (Some 0) (later (start_of s))

-- the whole run, less one if it ends in EF
unfoldable pub all_but : List ℕ → ℕ
all_but s = cond (eqb (byte_at s (length s - 1)) first_mark) (length s - 1) (length s)

-- 2. fewer than 9 bytes; 3. an identifier and a length that no packet has; 4. fewer than 9 + length bytes
unfoldable pub find_from : List ℕ → Option ℕ → Found
find_from s None = Noise (all_but s)
find_from s (Some p) =
    let n = length_at s p in
    cond (ltb (length s) (p + head_bytes)) (Unfinished p)
    (cond (accepts (identifier_at s p) n) (cond (ltb (length s) (end_at p n)) (Unfinished p) (Whole p n)) (Unfit p))

unfoldable pub find_of : List ℕ → Found
find_of s = find_from s (start_of s)

-- the bytes used
unfoldable pub used_of : Found → ℕ
used_of (Noise n) = n
used_of (Unfinished p) = p
used_of (Unfit p) = p + 2
used_of (Whole p n) = end_at p n
