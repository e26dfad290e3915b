-- Sequences of calls and line switches, and the dialogue up to the first accepted password.
use Rattle.std.specs.Prelude.{cond, ◌≡◌, List, [], ◌∷◌, ℕ}
use Rattle.protocol.specs.Reader.{Guarded, Reader}
use Rattle.protocol.specs.Step.{wiped}
use Rattle.protocol.specs.Call.{Shape, Lent, fit_chip, Told, Ended, call_of, switch_of}

pub data Event : Type 0 where
  -- a run, and what is lent with it
  received : List ℕ → Lent → Event
  switch : Event

unfoldable pub on : Shape → Reader → Event → Ended
on σ r (received s lent) = call_of σ r s lent
on σ r switch = switch_of r

-- the reader after some events
unfoldable pub finally : Shape → Reader → List Event → Reader
finally σ r [] = r
finally σ r (e ∷ es) = finally σ (on σ r e).after es

-- ---- up to and including the first accepted password

-- the events gone through, what each got back, and the reader after the last
pub record Dialogue : Type 0 where
  pub events : List Event
  pub told : List Told
  pub last : Reader

unfoldable pub over : Reader → Dialogue
over r = record { events = []; told = []; last = r }

unfoldable pub first : Event → Told → Dialogue → Dialogue
first e t d = record { events = e ∷ d.events; told = t ∷ d.told; last = d.last }

unfoldable pub dialogue : Shape → Reader → List Event → Dialogue
dialogue σ r [] = over r
dialogue σ r (e ∷ es) =
    let o = on σ r e in
    first e o.told (cond o.after.plain.verified (over o.after) (dialogue σ o.after es))

-- these contents stay as they were, save that a line switch wipes the two buffers and clears their filled marks; by request [7] their origins are among these
-- contents, and a line switch makes them none; and by request [8] status bit 1 is, which a line switch clears
unfoldable pub kept : Guarded → List Event → Guarded
kept g [] = g
kept g (received s lent ∷ es) = kept g es
kept g (switch ∷ es) = kept (wiped g) es

-- the same runs and line switches, and the same reply rooms. By request [8] scores and thresholds differ at will at each call: of a reader of c pages their
-- lengths are fit at both or at neither, where both are refused
abbrev pub Paired : ℕ → List Event → List Event → Type 0
Paired c [] [] = Unit {0}
Paired c [] (f ∷ fs) = ⊥
Paired c (e ∷ es) [] = ⊥
Paired c (received s l ∷ es) (received t m ∷ fs) = (s ≡ t) × ((l.room ≡ m.room) × ((fit_chip c l.chip ≡ fit_chip c m.chip) × Paired c es fs))
Paired c (received s l ∷ es) (switch ∷ fs) = ⊥
Paired c (switch ∷ es) (received t m ∷ fs) = ⊥
Paired c (switch ∷ es) (switch ∷ fs) = Paired c es fs
