-- Request [1]: a receiver, which takes bytes as the cable gives them and holds them between calls. Its call, and its line switch.
use Rattle.std.specs.Prelude.{List, [], ◌∷◌, ◌++◌, ℕ, zero, suc, ◌-◌, leb, length, take, drop}
use Rattle.protocol.specs.declared.Receiver.{Receiver}
use Rattle.protocol.specs.Numbers.{holds, bad_length, bad_room, bad_setting}
use Rattle.protocol.specs.Bytes.{zeros, lay}
use Rattle.protocol.specs.Tests.{verdict}
use Rattle.protocol.specs.Reader.{Reader, capacity}
use Rattle.protocol.specs.Call.{Shape, fit_lengths, fit_chip, fit_room, Lent, sound, Told, Ended, refused, call_of, switch_of}

-- ---- "a receiver that holds up to 265 bytes between calls"; by request [3] "up to 267"

-- the bytes held: so many of the cells, from the first on
unfoldable pub bytes_in : Receiver → List ℕ
bytes_in h = take h.count h.held

-- these bytes held, and zero in every cell behind them and in the spare byte
unfoldable pub holding : List ℕ → Receiver
holding s = record { held = lay 0 s (zeros holds); spare = 0; count = length s }

-- a reader and its receiver
pub record Line : Type 0 where
  pub reader : Reader
  pub receiver : Receiver

abbrev pub line : Reader → Receiver → Line
line r h = record { reader = r; receiver = h }

-- what a caller gets back, and the line after it; the bytes used are those taken of the piece, which need not be offered again
pub record Handed : Type 0 where
  pub told : Told
  pub after : Line

-- ---- "A call takes what fits of the piece, does document 01's call on all held bytes, and drops those used."

unfoldable pub fitting : Receiver → List ℕ → List ℕ
fitting h piece = take (holds - h.count) piece

-- all held bytes: those from before, and behind them what fits
unfoldable pub run_of : Receiver → List ℕ → List ℕ
run_of h piece = bytes_in h ++ fitting h piece

unfoldable pub handed : Receiver → List ℕ → Ended → Handed
handed h piece e =
    record {
      told = record { refusal = 0; used = length (fitting h piece); length = e.told.length; room = e.told.room };
      after = line e.after (holding (drop e.told.used (run_of h piece)));
    }

-- ---- "Refusals: held count above 265 is 3; a refused call takes and drops nothing." By request [3] above 267

-- document 01's order: 1, 2, 3
unfoldable pub receive_refusal : Shape → Line → Lent → ℕ
receive_refusal σ x lent =
    let g = x.reader.guarded in
    verdict
    ((fit_lengths σ g, bad_length) ∷ (fit_chip (capacity g) lent.chip, bad_length) ∷ (fit_room lent.room, bad_room) ∷ (sound x.reader, bad_setting)
    ∷ (leb x.receiver.count holds, bad_setting) ∷ [])

abbrev pub declined : ℕ → Line → List ℕ → Handed
declined k x room = record { told = (refused k x.reader room).told; after = x }

unfoldable pub receive_as : Shape → Line → List ℕ → Lent → ℕ → Handed
receive_as σ x piece lent zero = handed x.receiver piece (call_of σ x.reader (run_of x.receiver piece) lent)
receive_as σ x piece lent (suc k) = declined (suc k) x lent.room

unfoldable pub receive_of : Shape → Line → List ℕ → Lent → Handed
receive_of σ x piece lent = receive_as σ x piece lent (receive_refusal σ x lent)

-- ---- "A line switch empties the held bytes." It knows only refusal 1, whatever the held count is.

unfoldable pub line_switch_as : Line → Ended → ℕ → Handed
line_switch_as x e zero = record { told = e.told; after = line e.after (holding []) }
line_switch_as x e (suc k) = declined (suc k) x []

unfoldable pub line_switch_of : Line → Handed
line_switch_of x = let e = switch_of x.reader in line_switch_as x e e.told.refusal
