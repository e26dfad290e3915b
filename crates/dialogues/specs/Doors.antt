-- What a C caller hands to the doors of include/bystrodol.h and gets back, call after call: bystrodol_step and bystrodol_line_switch on a vault, and
-- bystrodol_receive and bystrodol_receiver_switch on one with a receiver.
use Rattle.std.specs.Prelude.{◌≡◌, ◌≢◌, List, [], ◌∷◌, ◌++◌, ℕ, ◌-◌, take}
use Rattle.protocol.specs.declared.Settings.{Settings}
use Rattle.protocol.specs.declared.Line.{Line}
use Rattle.protocol.specs.Numbers.{holds}
use Rattle.protocol.specs.Reader.{Reader}
use Rattle.protocol.specs.Call.{core, Told, Ended}
use Rattle.protocol.specs.Dialogue.{Event, received, switch, on}
use Rattle.dialogues.specs.History.{Exchange}
use Rattle.protocol.specs.Receiver.{Handed}
use Rattle.protocol.specs.Receiver as receivers
use Rattle.dialogues.specs.Caller.{on_line}
use Rattle.protocol.specs.Records.{reader_of, line_of}

-- ---- what lies with the caller between two calls

-- the lent memory
pub record Memory : Type 0 where
  pub templates : List ℕ
  pub index : List ℕ
  pub notepad : List ℕ
  pub buffer1 : List ℕ
  pub buffer2 : List ℕ

-- the settings, and the memory
pub record Vault : Type 0 where
  pub settings : Settings
  pub memory : Memory

-- the settings and the receiver in one record, and the memory
pub record LineVault : Type 0 where
  pub line : Line
  pub memory : Memory

abbrev pub reader_at : Settings → Memory → Reader
reader_at s m = reader_of s m.templates m.index m.notepad m.buffer1 m.buffer2

abbrev pub reader_in : Vault → Reader
reader_in v = reader_at v.settings v.memory

abbrev pub line_in : LineVault → receivers.Line
line_in v = let m = v.memory in line_of v.line m.templates m.index m.notepad m.buffer1 m.buffer2

-- ---- a sequence of calls, each on what the one before it left

-- one call: what was handed in, what came back, and what lies with the caller after it
pub record Entry (S : Type 0) : Type 0 where
  pub event : Event
  pub told : Told
  pub after : S

-- what lies with the caller after the last
abbrev pub last_of : {S : Type 0} → S → List (Entry S) → S
last_of v [] = v
last_of v (x ∷ xs) = last_of x.after xs

abbrev pub events_of : {S : Type 0} → List (Entry S) → List Event
events_of [] = []
events_of (x ∷ xs) = x.event ∷ events_of xs

abbrev pub told_of : {S : Type 0} → List (Entry S) → List Told
told_of [] = []
told_of (x ∷ xs) = x.told ∷ told_of xs

-- "up to and including the first accepted password": only the last call may leave a verified mark of 1, where `marked` tells the mark
abbrev pub Until : {S : Type 0} → (S → ℕ) → List (Entry S) → Type 0
Until marked [] = Unit {0}
Until marked (x ∷ []) = Unit {0}
Until marked (x ∷ y ∷ xs) = (marked x.after ≢ 1) × Until marked (y ∷ xs)

-- ---- without a receiver

abbrev pub ended_in : Told → Vault → Ended
ended_in t w = record { told = t; after = reader_in w }

-- each call went as the contract of its door says
abbrev pub Steps : Vault → List (Entry Vault) → Type 0
Steps v [] = Unit {0}
Steps v (x ∷ xs) = (ended_in x.told x.after ≡ on core (reader_in v) x.event) × Steps x.after xs

-- what the host saw of each call: the run, and as many bytes of the reply room as the answer says
abbrev pub sees : Event → Told → List Exchange → List Exchange
sees (received run lent) t more = record { run = run; reply = take t.length t.room } ∷ more
sees switch t more = more

abbrev pub saw : List (Entry Vault) → List Exchange
saw [] = []
saw (x ∷ xs) = sees x.event x.told (saw xs)

-- ---- with a receiver

abbrev pub handed_in : Told → LineVault → Handed
handed_in t w = record { told = t; after = line_in w }

-- each call went as the contract of its door says
abbrev pub Receives : LineVault → List (Entry LineVault) → Type 0
Receives v [] = Unit {0}
Receives v (x ∷ xs) = (handed_in x.told x.after ≡ on_line core (line_in v) x.event) × Receives x.after xs

-- the same, and its run is what was held before and what fits of the piece
abbrev pub sees_on : LineVault → Event → Told → List Exchange → List Exchange
sees_on v (received piece lent) t more =
    let h = v.line.receiver in
    record { run = take h.count h.held ++ take (holds - h.count) piece; reply = take t.length t.room } ∷ more
sees_on v switch t more = more

abbrev pub saw_on : LineVault → List (Entry LineVault) → List Exchange
saw_on v [] = []
saw_on v (x ∷ xs) = sees_on v x.event x.told (saw_on x.after xs)
