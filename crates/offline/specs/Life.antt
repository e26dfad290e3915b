-- A reader's life: calls and line switches, and between them, offline, work on its library: its gaps closed (request [9]), and salvage (request [10]); and what was seen of it. Such
-- work is no event: its table or report tells of the library, and demand 3 speaks of runs and line switches.
use Rattle.std.specs.Prelude.{false, cond, ◌≡◌, List, [], ◌∷◌, ℕ, zero, suc, get_or}
use Rattle.protocol.specs.Reader.{Plain, Guarded, Reader, reader}
use Rattle.protocol.specs.Call.{Shape, Told}
use Rattle.protocol.specs.Dialogue.{Event, on, finally, dialogue, kept, Paired}
use Rattle.protocol.specs.Receiver.{Line, line}
use Rattle.dialogues.specs.History.{Exchange, exchanges, Act, moved, history}
use Rattle.dialogues.specs.Caller.{finally_on, seen}
use Rattle.offline.specs.CloseGaps.{close_of}
use Rattle.offline.specs.Salvage.{salvaged_in}

pub data Work : Type 0 where
  -- the gaps closed, with this table lent
  closing : List ℕ → Work
  -- the library salvaged, with this report lent
  salvaging : List ℕ → Work

unfoldable pub after_work : Shape → Reader → Work → Reader
after_work σ r (closing table) = (close_of σ r table).after
after_work σ r (salvaging report) = salvaged_in σ r report

pub data Deed : Type 0 where
  -- a stretch of calls and line switches; two stretches may follow one another
  calls : List Event → Deed
  between : Work → Deed

unfoldable pub deed : Shape → Reader → Deed → Reader
deed σ r (calls es) = finally σ r es
deed σ r (between w) = after_work σ r w

-- the reader after some of them
unfoldable pub lastly : Shape → Reader → List Deed → Reader
lastly σ r [] = r
lastly σ r (d ∷ ds) = lastly σ (deed σ r d) ds

-- the same with a receiver, where each event's run is a piece; work leaves the held bytes as they are
unfoldable pub deed_on : Shape → Line → Deed → Line
deed_on σ x (calls es) = finally_on σ x es
deed_on σ x (between w) = line (after_work σ x.reader w) x.receiver

unfoldable pub lastly_on : Shape → Line → List Deed → Line
lastly_on σ x [] = x
lastly_on σ x (d ∷ ds) = lastly_on σ (deed_on σ x d) ds

-- ---- what was seen: of calls the runs and the replies; of a closing the refusal or 0, and the table; of a salvage nothing, since it stores, deletes and moves no page

pub data Sight : Type 0 where
  exchanged : List Exchange → Sight
  told : ℕ → List ℕ → Sight

-- of work, before what was seen after it
unfoldable pub work_seen : Shape → Reader → Work → List Sight → List Sight
work_seen σ r (closing table) ss = (let c = close_of σ r table in told c.refusal c.table ∷ ss)
work_seen σ r (salvaging report) ss = ss

unfoldable pub sights : Shape → Reader → List Deed → List Sight
sights σ r [] = []
sights σ r (calls es ∷ ds) = exchanged (exchanges σ r es) ∷ sights σ (finally σ r es) ds
sights σ r (between w ∷ ds) = work_seen σ r w (sights σ (after_work σ r w) ds)

unfoldable pub sights_on : Shape → Line → List Deed → List Sight
sights_on σ x [] = []
sights_on σ x (calls es ∷ ds) = exchanged (seen σ x es) ∷ sights_on σ (finally_on σ x es) ds
sights_on σ x (between w ∷ ds) = work_seen σ x.reader w (sights_on σ (deed_on σ x (between w)) ds)

-- the library's history as it was seen, the newest first: a closing that was not refused moved the pages by its table
unfoldable pub life_of : List Sight → List Act → List Act
life_of [] old = old
life_of (exchanged xs ∷ ss) old = life_of ss (history xs old)
life_of (told zero table ∷ ss) old = life_of ss (moved table ∷ old)
life_of (told (suc k) table ∷ ss) old = life_of ss old

-- the number that page q has in the end, by the tables that were told
unfoldable pub where_is : List Sight → ℕ → ℕ
where_is [] q = q
where_is (exchanged xs ∷ ss) q = where_is ss q
where_is (told zero table ∷ ss) q = where_is ss (get_or table q 0)
where_is (told (suc k) table ∷ ss) q = where_is ss q

-- ---- what hosts were answered, up to and including the first accepted password: work tells them nothing

unfoldable pub answers : Shape → Reader → List Deed → List (List Told)
answers σ r [] = []
answers σ r (calls es ∷ ds) =
    let d = dialogue σ r es in
    d.told ∷ cond d.last.plain.verified [] (answers σ d.last ds)
answers σ r (between w ∷ ds) = answers σ (after_work σ r w) ds

-- "Until then these contents stay as they were, save that a line switch wipes the two buffers": what the contents g of a reader with the settings p are then, which
-- only line switches and work change
unfoldable pub kept_over : Shape → Plain → Guarded → List Deed → Guarded
kept_over σ p g [] = g
kept_over σ p g (calls es ∷ ds) = kept_over σ p (kept g es) ds
kept_over σ p g (between w ∷ ds) = kept_over σ p (after_work σ (reader p g) w).guarded ds

-- no password is accepted
abbrev pub Unopened : Shape → Reader → List Event → Type 0
Unopened σ r [] = Unit {0}
Unopened σ r (e ∷ es) = ((on σ r e).after.plain.verified ≡ false) × Unopened σ (on σ r e).after es

abbrev pub NeverOpened : Shape → Reader → List Deed → Type 0
NeverOpened σ r [] = Unit {0}
NeverOpened σ r (calls es ∷ ds) = Unopened σ r es × NeverOpened σ (finally σ r es) ds
NeverOpened σ r (between w ∷ ds) = NeverOpened σ (after_work σ r w) ds

-- the same calls, stretch by stretch, as far as demand 3 asks; between them any work on either
abbrev pub PairedDeeds : ℕ → List Deed → List Deed → Type 0
PairedDeeds c [] [] = Unit {0}
PairedDeeds c [] (calls fs ∷ gs) = ⊥
PairedDeeds c [] (between u ∷ gs) = PairedDeeds c [] gs
PairedDeeds c (calls es ∷ ds) [] = ⊥
PairedDeeds c (calls es ∷ ds) (calls fs ∷ gs) = Paired c es fs × PairedDeeds c ds gs
PairedDeeds c (calls es ∷ ds) (between u ∷ gs) = PairedDeeds c (calls es ∷ ds) gs
PairedDeeds c (between w ∷ ds) gs = PairedDeeds c ds gs
