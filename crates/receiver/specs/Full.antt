-- The refusal of a held count above what a receiver holds: 3, behind 1 and 2.
use Rattle.std.specs.Prelude.{Bool, cond, ℕ, leb}
use Rattle.protocol.specs.Numbers.{reply_room, bad_length, bad_room, bad_setting}

-- by whether the lent lengths are right, and by that of the reply room
unfoldable pub full_refusal : Bool → ℕ → ℕ
full_refusal fit room = cond fit (cond (leb reply_room room) bad_setting bad_room) bad_length
