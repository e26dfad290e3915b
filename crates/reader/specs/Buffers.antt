-- The two buffers by number: 2 is the second, any other the first.
use Rattle.std.specs.Prelude.{true, false, cond, List, ◌≡◌, ℕ, eqb, Option, None, Some, Result, MatchResult}
use Rattle.protocol.specs.declared.Settings.{Settings}
use Rattle.protocol.specs.declared.codes.Code.{Code}
use Rattle.protocol.specs.declared.codes.Code.TheVariants.{BadPacket}
use Rattle.protocol.specs.Numbers.{no_page}
use Rattle.protocol.specs.Table.{is_buffer}
use Rattle.rules.specs.Settings.{with_filled, with_origins}
use Rattle.reader.specs.declared.buffers.Buffer.{Buffer}
use Rattle.reader.specs.declared.buffers.Buffer.TheVariants.{First, Second}

abbrev pub buffer_number : Buffer → ℕ
buffer_number First = 1
buffer_number Second = 2

-- the buffer that a number names, or the code of a number that names none
abbrev pub IsNamed : ℕ → Result Buffer Code → Type 0
IsNamed n r = MatchResult r (λ b. (n ≡ buffer_number b) × (is_buffer n ≡ true)) (λ k. (k ≡ BadPacket) × (is_buffer n ≡ false))

-- the bytes of one
abbrev pub chosen_of : ℕ → List ℕ → List ℕ → List ℕ
chosen_of n b c = cond (eqb n 2) c b

-- both
pub record Buffers : Type 0 where
  pub first : List ℕ
  pub second : List ℕ

abbrev pub buffers : List ℕ → List ℕ → Buffers
buffers b c = record { first = b; second = c }

-- both, one of them changed by f
unfoldable pub changed : ℕ → (List ℕ → List ℕ) → List ℕ → List ℕ → Buffers
changed n f b c = buffers (cond (eqb n 2) b (f b)) (cond (eqb n 2) (f c) c)

-- the settings with this as the filled mark of one
abbrev pub with_fill : ℕ → ℕ → Settings → Settings
with_fill n on s = with_filled (cond (eqb n 2) s.filled1 on) (cond (eqb n 2) on s.filled2) s

-- and its origin too
abbrev pub with_held : ℕ → ℕ → ℕ → Settings → Settings
with_held n on o s = with_origins (cond (eqb n 2) s.origin1 o) (cond (eqb n 2) o s.origin2) (with_fill n on s)

-- one filled from a page, its origin, or empty
abbrev pub with_page : ℕ → Option ℕ → Settings → Settings
with_page n None s = with_held n 0 no_page s
with_page n (Some p) s = with_held n 1 p s
