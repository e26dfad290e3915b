-- A piece offered to a receiver: one call, and all of them up to rest.
use Rattle.std.specs.Prelude.{Bool, false, ◌&&◌, ◌≡◌, List, ◌++◌, ℕ, ◌+◌, ◌-◌, ◌*◌, ◌≤◌, ◌<◌, eqb, length}
use Rattle.std.specs.List.{concat}
use Rattle.protocol.specs.Numbers.{holds, bench_pages, levels}
use Rattle.protocol.specs.Bytes.{zeros}
use Rattle.protocol.specs.Call.{core, Lent}
use Rattle.protocol.specs.Receiver.{bytes_in, Line, Handed, receive_of}
use Rattle.dialogues.specs.Caller.{drained}
use Rattle.protocol.specs.Records.{chip_of}

-- what the program lends for want of a chip: a score of 0 for each of its 64 pages, and five thresholds of 0
abbrev pub no_scores : List ℕ
no_scores = zeros bench_pages

abbrev pub no_thresholds : List ℕ
no_thresholds = zeros levels

-- the last call: it took nothing, and left the held count as it was before
abbrev pub is_last : ℕ → ℕ → ℕ → Bool
is_last taken before after = eqb taken 0 && eqb after before

-- what a call does: it is the receiver's call of the definitions, and keeps within the piece and the reply room; unless it is the last, twice the
-- bytes left and the held count are together less after it
pub record Offered (x : Line) (piece : List ℕ) (lent : Lent) (o : Handed) : Type 0 where
  pub call : o ≡ receive_of core x piece lent
  pub taken : o.told.used ≤ length piece
  pub written : o.told.length ≤ length lent.room
  pub nearer : o.told.refusal ≡ 0 → is_last o.told.used x.receiver.count o.after.receiver.count ≡ false
      → 2 * (length piece - o.told.used) + o.after.receiver.count < 2 * length piece + x.receiver.count
  -- and the cells are as many as their type says
  pub cells : length x.receiver.held ≡ holds

-- the line at rest: document 01's call again and again on the held bytes and the piece joined
abbrev pub Drained : Line → List ℕ → Line → Type 0
Drained x piece y = y ≡ (drained (chip_of no_scores no_thresholds) x.reader (bytes_in x.receiver ++ piece)).after

-- the replies on the way there, one behind the other
abbrev pub replies : Line → List ℕ → List ℕ
replies x piece = concat (drained (chip_of no_scores no_thresholds) x.reader (bytes_in x.receiver ++ piece)).replies
