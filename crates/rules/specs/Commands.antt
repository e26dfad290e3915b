-- What comes before a command's row: the length that each code fixes, and the lock.
use Rattle.std.specs.Prelude.{Bool, true, cond, ◌||◌, not, ◌≡◌, ◌≢◌, List, ℕ, eqb, Option, Result, MatchOption, MatchResult}
use Rattle.protocol.specs.declared.codes.Code.{Code}
use Rattle.protocol.specs.declared.command_codes.CommandCode.{CommandCode}
use Rattle.protocol.specs.Codes.{code_number, command_number}
use Rattle.protocol.specs.Numbers.{bad_packet, unknown_command, password_first}
use Rattle.protocol.specs.Reader.{Plain, locked}
use Rattle.protocol.specs.Commands.{hand_shake, Command, free, Known, none, some, commands, row_of}

-- the length field and the command of a code's row
unfoldable pub len_of : Known → ℕ
len_of none = 0
len_of (some e) = e.len

-- the command of a code, with the length field of the code's row; none for a code that has no row
abbrev pub Fixes : ℕ → Option (CommandCode × ℕ) → Type 0
Fixes k r = MatchOption r (row_of commands k ≡ none) (λ f. (command_number f.0 ≡ k) × (f.1 ≡ len_of (row_of commands k)))

unfoldable pub read_of : Known → List ℕ → Command
read_of none c = free hand_shake
read_of (some e) c = e.read c

-- the codes that the lock lets pass
unfoldable pub is_free : ℕ → Bool
is_free k = eqb k 0x0f || eqb k 0x13 || eqb k 0x40

-- a code that passes: its length field is its row's, and it is free or the reader is not locked
pub record Admitted (k n : ℕ) (p : Plain) : Type 0 where
  pub long : len_of (row_of commands k) ≡ n
  pub open' : (is_free k || not (locked p)) ≡ true

-- what comes before the row, in document 01's order: the code that stops it, or 0
unfoldable pub gate_of : Bool → ℕ → ℕ → Plain → ℕ
gate_of right k n p =
    cond right
    (cond (eqb (len_of (row_of commands k)) 0) unknown_command
    (cond (eqb (len_of (row_of commands k)) n) (cond (is_free k || not (locked p)) 0 password_first) bad_packet)) bad_packet

-- a code that passes is its command's; one that does not is stopped by that code
abbrev pub Gated : Bool → ℕ → ℕ → Plain → Result CommandCode Code → Type 0
Gated right k n p r = MatchResult r (λ c. (command_number c ≡ k) × (gate_of right k n p ≡ 0)) (λ e. (code_number e ≡ gate_of right k n p) × (gate_of right k n p ≢ 0))
