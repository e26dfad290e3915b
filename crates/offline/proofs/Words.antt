-- What the words of a life and of a caller's turns mean, line by line.
use mathlib.Core.Bool.{true, false}
use mathlib.Core.Path.{◌≡◌, refl, ap}
use mathlib.Core.Logic.{◌↔◌, ◌≢◌}
use mathlib.Core.List.{List, [], ◌∷◌}
use Prim.Native.Nat.{ℕ, suc}
use lib.ListN.{get_or}
use Rattle.std.specs.Prelude.{Result}
use Rattle.protocol.specs.declared.Settings.{Settings}
use Rattle.protocol.specs.declared.refusals.Refusal.{Refusal}
use Rattle.protocol.specs.Codes.{outcome_number}
use Rattle.protocol.specs.Records.{reader_of, left_of}
use Rattle.protocol.specs.Reader.{Plain, Guarded, Reader, with_library}
use Rattle.protocol.specs.Call.{Shape, core}
use Rattle.protocol.specs.Dialogue.{Event, on, finally, dialogue, kept, Paired}
use Rattle.protocol.specs.Receiver.{Line}
use Rattle.dialogues.specs.History.{Exchange, exchanges, Act, moved, history}
use Rattle.dialogues.specs.Caller.{finally_on, seen}
use Rattle.dialogues.specs.Doors.{Memory, Vault, LineVault, reader_at, Entry, last_of, events_of, told_of, Until, Steps, saw, Receives, saw_on}
use Rattle.protocol.proofs.Promises.Words.OneResult.{one_reader, one_left}
use Rattle.offline.specs.CloseGaps.{Closed, close_of}
use Rattle.offline.specs.Salvage.{Salvaged, salvage_of, salvaged_in}
use Rattle.offline.specs.Compare.{library, Compared}
use Rattle.offline.specs.Records.{Moved, closed_of, moved_at, salvaged_of, compared_of}
use Rattle.offline.specs.Life.{Work, closing, salvaging, after_work, Deed, calls, between, deed, lastly, deed_on, lastly_on, Sight, exchanged, told, work_seen, sights, sights_on, life_of, where_is, answers, kept_over, Unopened, NeverOpened, PairedDeeds}
use Rattle.offline.specs.Turns.{Worked, Turn, call_turn, work_turn, last_turn, deeds_of, told_turns, Never, NeverTurn, UntilTurn, WentBy, ByContract, work_saw, Turns, saw_turns, LineTurns, saw_line_turns}

-- ---- what the call returns

-- which field, and which lent list, is which part of the outcome
pub record ClosedIs (m : Moved) (t i table n b d : List ℕ) : Type 0 where
  pub refusal : (closed_of m t i table n b d).refusal ≡ m.refusal
  pub told : (closed_of m t i table n b d).table ≡ table
  pub after : (closed_of m t i table n b d).after ≡ reader_of m.settings t i n b d

pub closed_is : (m : Moved) (t i table n b d : List ℕ) → ClosedIs m t i table n b d
closed_is m t i table n b d = record { refusal = refl; told = refl; after = refl }

-- settings lent, and the refusal returned: together what the call by value returns
pub moved_is : (s : Settings) (refusal : ℕ) → ((moved_at s refusal).settings ≡ s) × ((moved_at s refusal).refusal ≡ refusal)
moved_is s refusal = (refl, refl)

-- two results of one equation are the same record, templates, index and table
pub one_closed : (m z : Moved) (t i table t' i' table' n b d : List ℕ) → closed_of m t i table n b d ≡ closed_of z t' i' table' n b d
    → ((m ≡ z) × (table ≡ table')) × ((t ≡ t') × (i ≡ i'))
one_closed m z t i table t' i' table' n b d e =
    let o = one_reader m.settings z.settings t i n b d t' i' n b d (ap (λ (c : Closed). c.after) e) in
    ((λ j. record { settings = o.settings j; refusal = (e j).refusal }, ap (λ (c : Closed). c.table) e), (o.templates, o.index))

-- so of what the call by value gives
pub one_closing : (s : Settings) (x y : Result Settings Refusal) (t i table t' i' table' n b d : List ℕ)
    → closed_of (moved_at (left_of s x) (outcome_number x)) t i table n b d ≡ closed_of (moved_at (left_of s y) (outcome_number y)) t' i' table' n b d
    → ((x ≡ y) × (table ≡ table')) × ((t ≡ t') × (i ≡ i'))
one_closing s x y t i table t' i' table' n b d e =
    let one = one_closed (moved_at (left_of s x) (outcome_number x)) (moved_at (left_of s y) (outcome_number y)) t i table t' i' table' n b d e in
    ((one_left s x y (ap (λ (m : Moved). m.settings) one.0.0) (ap (λ (m : Moved). m.refusal) one.0.0), one.0.1), one.1)

-- the same of salvage, which returns the refusal alone
pub record SalvagedIs (refusal : ℕ) (t i report : List ℕ) : Type 0 where
  pub number : (salvaged_of refusal t i report).refusal ≡ refusal
  pub templates : (salvaged_of refusal t i report).templates ≡ t
  pub index : (salvaged_of refusal t i report).index ≡ i
  pub entries : (salvaged_of refusal t i report).report ≡ report

pub salvaged_is : (refusal : ℕ) (t i report : List ℕ) → SalvagedIs refusal t i report
salvaged_is refusal t i report = record { number = refl; templates = refl; index = refl; entries = refl }

pub one_salvaged : (k k' : ℕ) (t i report t' i' report' : List ℕ) → salvaged_of k t i report ≡ salvaged_of k' t' i' report' → ((k ≡ k') × (report ≡ report')) × ((t ≡ t') × (i ≡ i'))
one_salvaged k k' t i report t' i' report' e = (
  (ap (λ (s : Salvaged). s.refusal) e, ap (λ (s : Salvaged). s.report) e),
  (ap (λ (s : Salvaged). s.templates) e, ap (λ (s : Salvaged). s.index) e),
)

-- and of comparing, which is lent only its report to write
pub compared_is : (refusal : ℕ) (report : List ℕ) → ((compared_of refusal report).refusal ≡ refusal) × ((compared_of refusal report).report ≡ report)
compared_is refusal report = (refl, refl)

pub one_compared : (k k' : ℕ) (report report' : List ℕ) → compared_of k report ≡ compared_of k' report' → (k ≡ k') × (report ≡ report')
one_compared k k' report report' e = (ap (λ (c : Compared). c.refusal) e, ap (λ (c : Compared). c.report) e)

-- which list is which part of a library
pub record LibraryIs (x n t : List ℕ) : Type 0 where
  pub index : (library x n t).index ≡ x
  pub notepad : (library x n t).notepad ≡ n
  pub templates : (library x n t).templates ≡ t

pub library_is : (x n t : List ℕ) → LibraryIs x n t
library_is x n t = record { index = refl; notepad = refl; templates = refl }

-- ---- work on a reader's library

-- a closing leaves the reader that it says; a salvage leaves its templates and its index, and all else as it was
pub record WorkMeans (σ : Shape) (r : Reader) (table report : List ℕ) : Type 0 where
  pub closes : after_work σ r (closing table) ≡ (close_of σ r table).after
  pub salvages : after_work σ r (salvaging report)
      ≡ (let e = salvage_of σ r.guarded.templates r.guarded.index report in
      record {
        plain = r.plain;
        guarded = record {
          templates = e.templates;
          index = e.index;
          notepad = r.guarded.notepad;
          buffer1 = r.guarded.buffer1;
          buffer2 = r.guarded.buffer2;
          found = r.guarded.found;
        };
      })
  -- of a closing its refusal and its table are seen, and of a salvage nothing
  pub closing_seen : (ss : List Sight) → work_seen σ r (closing table) ss ≡ told (close_of σ r table).refusal (close_of σ r table).table ∷ ss
  pub salvaging_seen : (ss : List Sight) → work_seen σ r (salvaging report) ss ≡ ss

pub work_means : (σ : Shape) (r : Reader) (table report : List ℕ) → WorkMeans σ r table report
unfolding after_work salvaged_in with_library work_seen
work_means σ r table report = record { closes = refl; salvages = refl; closing_seen = λ ss. refl; salvaging_seen = λ ss. refl }

-- ---- a life

-- each deed finds the reader that the one before it left
pub record Lives (σ : Shape) (r : Reader) (x : Line) (es : List Event) (w : Work) (ds : List Deed) : Type 0 where
  pub lastly_none : lastly σ r [] ≡ r
  pub lastly_calls : lastly σ r (calls es ∷ ds) ≡ lastly σ (finally σ r es) ds
  pub lastly_work : lastly σ r (between w ∷ ds) ≡ lastly σ (after_work σ r w) ds
  -- with a receiver, which work leaves
  pub on_none : lastly_on σ x [] ≡ x
  pub on_calls : lastly_on σ x (calls es ∷ ds) ≡ lastly_on σ (finally_on σ x es) ds
  pub on_work : lastly_on σ x (between w ∷ ds) ≡ lastly_on σ record { reader = after_work σ x.reader w; receiver = x.receiver } ds
  -- what was seen
  pub sights_none : sights σ r [] ≡ []
  pub sights_calls : sights σ r (calls es ∷ ds) ≡ exchanged (exchanges σ r es) ∷ sights σ (finally σ r es) ds
  pub sights_work : sights σ r (between w ∷ ds) ≡ work_seen σ r w (sights σ (after_work σ r w) ds)
  pub sights_on_none : sights_on σ x [] ≡ []
  pub sights_on_calls : sights_on σ x (calls es ∷ ds) ≡ exchanged (seen σ x es) ∷ sights_on σ (finally_on σ x es) ds
  pub sights_on_work : sights_on σ x (between w ∷ ds) ≡ work_seen σ x.reader w (sights_on σ record { reader = after_work σ x.reader w; receiver = x.receiver } ds)
  -- what hosts were answered: work tells them nothing, and behind the first accepted password nothing more counts
  pub answers_none : answers σ r [] ≡ []
  pub answers_work : answers σ r (between w ∷ ds) ≡ answers σ (after_work σ r w) ds
  pub answers_stop : (dialogue σ r es).last.plain.verified ≡ true → answers σ r (calls es ∷ ds) ≡ (dialogue σ r es).told ∷ []
  pub answers_go_on : (dialogue σ r es).last.plain.verified ≡ false → answers σ r (calls es ∷ ds) ≡ (dialogue σ r es).told ∷ answers σ (dialogue σ r es).last ds

pub lives : (σ : Shape) (r : Reader) (x : Line) (es : List Event) (w : Work) (ds : List Deed) → Lives σ r x es w ds
unfolding lastly deed lastly_on deed_on sights sights_on answers
lives σ r x es w ds =
    record {
      lastly_none = refl;
      lastly_calls = refl;
      lastly_work = refl;
      on_none = refl;
      on_calls = refl;
      on_work = refl;
      sights_none = refl;
      sights_calls = refl;
      sights_work = refl;
      sights_on_none = refl;
      sights_on_calls = refl;
      sights_on_work = refl;
      answers_none = refl;
      answers_work = refl;
      answers_stop = λ v. rw v refl;
      answers_go_on = λ v. rw v refl;
    }

-- what it comes to: the acts, and the number that a page has in the end
pub record LifeMeans (xs : List Exchange) (table : List ℕ) (k : ℕ) (ss : List Sight) (old : List Act) (q : ℕ) : Type 0 where
  pub life_none : life_of [] old ≡ old
  pub life_calls : life_of (exchanged xs ∷ ss) old ≡ life_of ss (history xs old)
  pub life_closed : life_of (told 0 table ∷ ss) old ≡ life_of ss (moved table ∷ old)
  pub life_refused : life_of (told (suc k) table ∷ ss) old ≡ life_of ss old
  pub where_none : where_is [] q ≡ q
  pub where_calls : where_is (exchanged xs ∷ ss) q ≡ where_is ss q
  pub where_closed : where_is (told 0 table ∷ ss) q ≡ where_is ss (get_or table q 0)
  pub where_refused : where_is (told (suc k) table ∷ ss) q ≡ where_is ss q

pub life_means : (xs : List Exchange) (table : List ℕ) (k : ℕ) (ss : List Sight) (old : List Act) (q : ℕ) → LifeMeans xs table k ss old q
unfolding life_of where_is
life_means xs table k ss old q =
    record { life_none = refl; life_calls = refl; life_closed = refl; life_refused = refl; where_none = refl; where_calls = refl; where_closed = refl; where_refused = refl }

-- how far two lives may differ, both ways: the same calls, and work anywhere
pub record PairsOfDeeds (c : ℕ) (es fs : List Event) (t u : Work) (ds gs : List Deed) : Type 0 where
  pub none : PairedDeeds c [] []
  pub both_call : PairedDeeds c (calls es ∷ ds) (calls fs ∷ gs) ↔ (Paired c es fs × PairedDeeds c ds gs)
  pub one_works : PairedDeeds c (between t ∷ ds) gs ↔ PairedDeeds c ds gs
  pub other_works : PairedDeeds c (calls es ∷ ds) (between u ∷ gs) ↔ PairedDeeds c (calls es ∷ ds) gs
  pub other_works_last : PairedDeeds c [] (between u ∷ gs) ↔ PairedDeeds c [] gs
  pub longer : PairedDeeds c (calls es ∷ ds) [] → ⊥
  pub shorter : PairedDeeds c [] (calls fs ∷ gs) → ⊥

pub pairs_of_deeds : (c : ℕ) (es fs : List Event) (t u : Work) (ds gs : List Deed) → PairsOfDeeds c es fs t u ds gs
pairs_of_deeds c es fs t u ds gs =
    record {
      none = tt;
      both_call = (λ h. h, λ h. h);
      one_works = (λ h. h, λ h. h);
      other_works = (λ h. h, λ h. h);
      other_works_last = (λ h. h, λ h. h);
      longer = λ h. h;
      shorter = λ h. h;
    }

-- what stays while no password is accepted, and when none is
pub record StaysMean (σ : Shape) (r : Reader) (p : Plain) (g : Guarded) (e : Event) (es : List Event) (w : Work) (ds : List Deed) : Type 0 where
  pub kept_none : kept_over σ p g [] ≡ g
  pub kept_calls : kept_over σ p g (calls es ∷ ds) ≡ kept_over σ p (kept g es) ds
  pub kept_work : kept_over σ p g (between w ∷ ds) ≡ kept_over σ p (after_work σ record { plain = p; guarded = g } w).guarded ds
  pub no_event : Unopened σ r []
  pub one_event : Unopened σ r (e ∷ es) ↔ (((on σ r e).after.plain.verified ≡ false) × Unopened σ (on σ r e).after es)
  pub no_deed : NeverOpened σ r []
  pub calls_deed : NeverOpened σ r (calls es ∷ ds) ↔ (Unopened σ r es × NeverOpened σ (finally σ r es) ds)
  pub work_deed : NeverOpened σ r (between w ∷ ds) ↔ NeverOpened σ (after_work σ r w) ds

pub stays_mean : (σ : Shape) (r : Reader) (p : Plain) (g : Guarded) (e : Event) (es : List Event) (w : Work) (ds : List Deed) → StaysMean σ r p g e es w ds
unfolding kept_over
stays_mean σ r p g e es w ds =
    record {
      kept_none = refl;
      kept_calls = refl;
      kept_work = refl;
      no_event = tt;
      one_event = (λ h. h, λ h. h);
      no_deed = tt;
      calls_deed = (λ h. h, λ h. h);
      work_deed = (λ h. h, λ h. h);
    }

-- ---- a caller's turns

pub record TurnsMean {S : Type 0} (v : S) (xs : List (Entry S)) (y : Worked S) (t : Turn S) (ts : List (Turn S)) (mark : S → ℕ) : Type 0 where
  pub last_none : last_turn v [] ≡ v
  pub last_called : last_turn v (call_turn xs ∷ ts) ≡ last_turn (last_of v xs) ts
  pub last_worked : last_turn v (work_turn y ∷ ts) ≡ last_turn y.after ts
  pub deeds_called : deeds_of (call_turn xs ∷ ts) ≡ calls (events_of xs) ∷ deeds_of ts
  pub deeds_worked : deeds_of (work_turn y ∷ ts) ≡ between y.work ∷ deeds_of ts
  pub told_none : told_turns {S = S} [] ≡ []
  pub told_called : told_turns (call_turn xs ∷ ts) ≡ told_of xs ∷ told_turns ts
  pub told_worked : told_turns (work_turn y ∷ ts) ≡ told_turns ts
  -- no call leaves a mark of 1; and none but the last
  pub never_none : Never mark []
  pub never_more : (x : Entry S) → Never mark (x ∷ xs) ↔ ((mark x.after ≢ 1) × Never mark xs)
  pub no_turn : NeverTurn mark []
  pub never_called : NeverTurn mark (call_turn xs ∷ ts) ↔ (Never mark xs × NeverTurn mark ts)
  pub never_worked : NeverTurn mark (work_turn y ∷ ts) ↔ NeverTurn mark ts
  pub until_none : UntilTurn mark []
  pub until_last : UntilTurn mark (call_turn xs ∷ []) ↔ Until mark xs
  pub until_called : UntilTurn mark (call_turn xs ∷ t ∷ ts) ↔ (Never mark xs × UntilTurn mark (t ∷ ts))
  pub until_worked : UntilTurn mark (work_turn y ∷ ts) ↔ UntilTurn mark ts

pub turns_mean : {S : Type 0} (v : S) (xs : List (Entry S)) (y : Worked S) (t : Turn S) (ts : List (Turn S)) (mark : S → ℕ) → TurnsMean v xs y t ts mark
turns_mean v xs y t ts mark =
    record {
      last_none = refl;
      last_called = refl;
      last_worked = refl;
      deeds_called = refl;
      deeds_worked = refl;
      told_none = refl;
      told_called = refl;
      told_worked = refl;
      never_none = tt;
      never_more = λ x. (λ h. h, λ h. h);
      no_turn = tt;
      never_called = (λ h. h, λ h. h);
      never_worked = (λ h. h, λ h. h);
      until_none = tt;
      until_last = (λ h. h, λ h. h);
      until_called = (λ h. h, λ h. h);
      until_worked = (λ h. h, λ h. h);
    }

-- work between these settings and this memory and those: which field is what the door returned or wrote
pub by_contract : {S : Type 0} (s z : Settings) (m n : Memory) (y : Worked S) → ByContract s m y z n ↔ WentBy s m y.work y.refusal y.written z n
by_contract s z m n y = (λ q. q, λ q. q)

pub closing_went : (s z : Settings) (m n : Memory) (table w : List ℕ) (k : ℕ)
    → WentBy s m (closing table) k w z n ↔ (let c = close_of core (reader_at s m) table in (k ≡ c.refusal) × ((w ≡ c.table) × (reader_at z n ≡ c.after)))
closing_went s z m n table w k = (
  λ q. (ap (λ (c : Closed). c.refusal) q, (ap (λ (c : Closed). c.table) q, ap (λ (c : Closed). c.after) q)),
  λ q j. record { refusal = q.0 j; table = q.1.0 j; after = q.1.1 j },
)

pub salvaging_went : (s z : Settings) (m n : Memory) (report w : List ℕ) (k : ℕ)
    → WentBy s m (salvaging report) k w z n
    ↔ (let e = salvage_of core m.templates m.index report in
    ((k ≡ e.refusal) × (w ≡ e.report)) × ((n ≡ record { templates = e.templates; index = e.index; notepad = m.notepad; buffer1 = m.buffer1; buffer2 = m.buffer2 }) × (z ≡ s)))
salvaging_went s z m n report w k = (
  λ q. (
    (ap (λ (e : Salvaged). e.refusal) q.0, ap (λ (e : Salvaged). e.report) q.0),
    (λ j. record { templates = (q.0 j).templates; index = (q.0 j).index; notepad = q.1.notepad j; buffer1 = q.1.buffer1 j; buffer2 = q.1.buffer2 j }, q.1.settings),
  ),
  λ q. (
    λ j. record { refusal = q.0.0 j; templates = (q.1.0 j).templates; index = (q.1.0 j).index; report = q.0.1 j },
    record {
      settings = q.1.1;
      notepad = ap (λ (a : Memory). a.notepad) q.1.0;
      buffer1 = ap (λ (a : Memory). a.buffer1) q.1.0;
      buffer2 = ap (λ (a : Memory). a.buffer2) q.1.0;
    },
  ),
)

pub saw_means : (table report w : List ℕ) (k : ℕ) (ss : List Sight) → (work_saw (closing table) k w ss ≡ told k w ∷ ss) × (work_saw (salvaging report) k w ss ≡ ss)
saw_means table report w k ss = (refl, refl)

-- each turn went as the contract of its door says, and what was seen of it
pub record Went (v : Vault) (xs : List (Entry Vault)) (y : Worked Vault) (ts : List (Turn Vault)) : Type 0 where
  pub none : Turns v []
  pub calls_went : Turns v (call_turn xs ∷ ts) ↔ (Steps v xs × Turns (last_of v xs) ts)
  pub worked : Turns v (work_turn y ∷ ts) ↔ (ByContract v.settings v.memory y y.after.settings y.after.memory × Turns y.after ts)
  pub saw_none : saw_turns [] ≡ []
  pub saw_called : saw_turns (call_turn xs ∷ ts) ≡ exchanged (saw xs) ∷ saw_turns ts
  pub saw_worked : saw_turns (work_turn y ∷ ts) ≡ work_saw y.work y.refusal y.written (saw_turns ts)

pub went : (v : Vault) (xs : List (Entry Vault)) (y : Worked Vault) (ts : List (Turn Vault)) → Went v xs y ts
went v xs y ts = record { none = tt; calls_went = (λ h. h, λ h. h); worked = (λ h. h, λ h. h); saw_none = refl; saw_called = refl; saw_worked = refl }

-- the same with a receiver, which work leaves byte for byte
pub record WentOn (v : LineVault) (xs : List (Entry LineVault)) (y : Worked LineVault) (ts : List (Turn LineVault)) : Type 0 where
  pub none : LineTurns v []
  pub calls_went : LineTurns v (call_turn xs ∷ ts) ↔ (Receives v xs × LineTurns (last_of v xs) ts)
  pub worked : LineTurns v (work_turn y ∷ ts)
      ↔ ((ByContract v.line.settings v.memory y y.after.line.settings y.after.memory × (y.after.line.receiver ≡ v.line.receiver)) × LineTurns y.after ts)
  pub saw_none : saw_line_turns v [] ≡ []
  pub saw_called : saw_line_turns v (call_turn xs ∷ ts) ≡ exchanged (saw_on v xs) ∷ saw_line_turns (last_of v xs) ts
  pub saw_worked : saw_line_turns v (work_turn y ∷ ts) ≡ work_saw y.work y.refusal y.written (saw_line_turns y.after ts)

pub went_on : (v : LineVault) (xs : List (Entry LineVault)) (y : Worked LineVault) (ts : List (Turn LineVault)) → WentOn v xs y ts
went_on v xs y ts = record { none = tt; calls_went = (λ h. h, λ h. h); worked = (λ h. h, λ h. h); saw_none = refl; saw_called = refl; saw_worked = refl }
