-- What a C caller hands to the doors of include/bystrodol.h and gets back, turn after turn: calls, as `Doors` of `dialogues` has them, and between them bystrodol_close_gaps and
-- bystrodol_salvage.
use Rattle.std.specs.Prelude.{◌≡◌, ◌≢◌, List, [], ◌∷◌, ℕ}
use Rattle.protocol.specs.declared.Settings.{Settings}
use Rattle.protocol.specs.Call.{core, Told}
use Rattle.dialogues.specs.Doors.{Memory, Vault, LineVault, reader_at, Entry, last_of, events_of, told_of, Until, Steps, saw, Receives, saw_on}
use Rattle.offline.specs.CloseGaps.{close_of}
use Rattle.offline.specs.Salvage.{salvage_of}
use Rattle.offline.specs.Records.{salvaged_of}
use Rattle.offline.specs.Life.{Work, closing, salvaging, Deed, calls, between, Sight, exchanged, told}

-- work between two calls, with the table or the report as it was lent; the refusal or 0 that came back, the table or the report after it, and what lies with the caller then
pub record Worked (S : Type 0) : Type 0 where
  pub work : Work
  pub refusal : ℕ
  pub written : List ℕ
  pub after : S

pub data Turn (S : Type 0) : Type 0 where
  call_turn : List (Entry S) → Turn S
  work_turn : Worked S → Turn S

-- what lies with the caller after the last
abbrev pub last_turn : {S : Type 0} → S → List (Turn S) → S
last_turn v [] = v
last_turn v (call_turn xs ∷ ts) = last_turn (last_of v xs) ts
last_turn v (work_turn y ∷ ts) = last_turn y.after ts

abbrev pub deeds_of : {S : Type 0} → List (Turn S) → List Deed
deeds_of [] = []
deeds_of (call_turn xs ∷ ts) = calls (events_of xs) ∷ deeds_of ts
deeds_of (work_turn y ∷ ts) = between y.work ∷ deeds_of ts

-- what each call got back; work tells a host nothing
abbrev pub told_turns : {S : Type 0} → List (Turn S) → List (List Told)
told_turns [] = []
told_turns (call_turn xs ∷ ts) = told_of xs ∷ told_turns ts
told_turns (work_turn y ∷ ts) = told_turns ts

-- no call leaves a verified mark of 1, where `marked` tells the mark
abbrev pub Never : {S : Type 0} → (S → ℕ) → List (Entry S) → Type 0
Never marked [] = Unit {0}
Never marked (x ∷ xs) = (marked x.after ≢ 1) × Never marked xs

abbrev pub NeverTurn : {S : Type 0} → (S → ℕ) → List (Turn S) → Type 0
NeverTurn marked [] = Unit {0}
NeverTurn marked (call_turn xs ∷ ts) = Never marked xs × NeverTurn marked ts
NeverTurn marked (work_turn y ∷ ts) = NeverTurn marked ts

-- "up to and including the first accepted password": only the last call may
abbrev pub UntilTurn : {S : Type 0} → (S → ℕ) → List (Turn S) → Type 0
UntilTurn marked [] = Unit {0}
UntilTurn marked (call_turn xs ∷ []) = Until marked xs
UntilTurn marked (call_turn xs ∷ t ∷ ts) = Never marked xs × UntilTurn marked (t ∷ ts)
UntilTurn marked (work_turn y ∷ ts) = UntilTurn marked ts

-- what is not lent to bystrodol_salvage lies as it lay
pub record Unlent (s : Settings) (m : Memory) (z : Settings) (n : Memory) : Type 0 where
  pub settings : z ≡ s
  pub notepad : n.notepad ≡ m.notepad
  pub buffer1 : n.buffer1 ≡ m.buffer1
  pub buffer2 : n.buffer2 ≡ m.buffer2

-- the door of the work went as its contract says, on these settings and this memory before it and after it, with this refusal and this list written
abbrev pub WentBy : Settings → Memory → Work → ℕ → List ℕ → Settings → Memory → Type 0
WentBy s m (closing table) k w z n = record { refusal = k; table = w; after = reader_at z n } ≡ close_of core (reader_at s m) table
WentBy s m (salvaging report) k w z n = (salvaged_of k n.templates n.index w ≡ salvage_of core m.templates m.index report) × Unlent s m z n

abbrev pub ByContract : {S : Type 0} → Settings → Memory → Worked S → Settings → Memory → Type 0
ByContract s m y z n = WentBy s m y.work y.refusal y.written z n

-- what was seen of it, before what was seen after it
abbrev pub work_saw : Work → ℕ → List ℕ → List Sight → List Sight
work_saw (closing table) k w ss = told k w ∷ ss
work_saw (salvaging report) k w ss = ss

-- ---- without a receiver

abbrev pub Turns : Vault → List (Turn Vault) → Type 0
Turns v [] = Unit {0}
Turns v (call_turn xs ∷ ts) = Steps v xs × Turns (last_of v xs) ts
Turns v (work_turn y ∷ ts) = ByContract v.settings v.memory y y.after.settings y.after.memory × Turns y.after ts

abbrev pub saw_turns : List (Turn Vault) → List Sight
saw_turns [] = []
saw_turns (call_turn xs ∷ ts) = exchanged (saw xs) ∷ saw_turns ts
saw_turns (work_turn y ∷ ts) = work_saw y.work y.refusal y.written (saw_turns ts)

-- ---- with a receiver, which is lent to no such work

abbrev pub LineTurns : LineVault → List (Turn LineVault) → Type 0
LineTurns v [] = Unit {0}
LineTurns v (call_turn xs ∷ ts) = Receives v xs × LineTurns (last_of v xs) ts
LineTurns v (work_turn y ∷ ts) =
    (ByContract v.line.settings v.memory y y.after.line.settings y.after.memory × (y.after.line.receiver ≡ v.line.receiver)) × LineTurns y.after ts

abbrev pub saw_line_turns : LineVault → List (Turn LineVault) → List Sight
saw_line_turns v [] = []
saw_line_turns v (call_turn xs ∷ ts) = exchanged (saw_on v xs) ∷ saw_line_turns (last_of v xs) ts
saw_line_turns v (work_turn y ∷ ts) = work_saw y.work y.refusal y.written (saw_line_turns y.after ts)
