-- Demand 3 at the doors for C over turns: "Until then these contents stay as they were, save that a line switch wipes the two buffers and clears their filled marks". Runs change nothing, and work
-- what it changes.
use mathlib.Core.Bool.{false}
use mathlib.Core.Path.{◌≡◌, refl, sym, ap, ◌∙◌, subst}
use mathlib.Core.Logic.{◌≢◌}
use mathlib.Core.List.{List, [], ◌∷◌}
use Prim.Native.Nat.{◌≤◌}
use borrow.Author.Tests.{ne_eqb}
use Rattle.protocol.specs.Reader.{Plain, Guarded, Reader, reader}
use Rattle.protocol.specs.Call.{core, Ended}
use Rattle.protocol.specs.Dialogue.{Event, received, switch, on, kept}
use Rattle.protocol.specs.Receiver.{Line, line, Handed, receive_of, line_switch_of}
use Rattle.dialogues.specs.Caller.{on_line, finally_on, runs}
use Rattle.dialogues.specs.Doors.{Vault, LineVault, reader_in, line_in, handed_in, Entry, last_of, events_of, Steps, Receives}
use Rattle.protocol.proofs.Promises.Refusals.LegalMeans.{core_holds}
use Rattle.dialogues.proofs.FromC.Steps.{steps_end, LegalVault}
use Rattle.dialogues.proofs.FromC.Lines.{receives_end, LegalLine}
use Rattle.dialogues.proofs.Lines.ReceiverCalls.{as_call, switch_reader, as_calls, ever_few}
use Rattle.offline.specs.Life.{Deed, calls, between, kept_over, Unopened, NeverOpened}
use Rattle.offline.specs.Turns.{Turn, call_turn, work_turn, last_turn, deeds_of, Never, NeverTurn, Turns, LineTurns}
use Rattle.offline.proofs.Life.Secrets.{contents_stay}
use Rattle.offline.proofs.Life.Lines.{run_deeds, as_deeds}
use Rattle.offline.proofs.FromC.Turns.{work_went, turns_end, line_turns_end}
use Rattle.offline.proofs.FromC.Secrets.{locks}

-- ---- without a receiver

unopened : (xs : List (Entry Vault)) (v : Vault) → Steps v xs → Never (λ (u : Vault). u.settings.verified) xs → Unopened core (reader_in v) (events_of xs)
unopened [] v q n = tt
unopened (x ∷ xs) v (p, q) (n, ns) = (
  sym (ap (λ (e : Ended). e.after.plain.verified) p) ∙ ne_eqb x.after.settings.verified 1 n,
  subst (λ (r : Reader). Unopened core r (events_of xs)) (ap (λ (e : Ended). e.after) p) (unopened xs x.after q ns),
)

never_opened : (ts : List (Turn Vault)) (v : Vault) → Turns v ts → NeverTurn (λ (u : Vault). u.settings.verified) ts → NeverOpened core (reader_in v) (deeds_of ts)
never_opened [] v q n = tt
never_opened (call_turn xs ∷ ts) v (p, q) (n, ns) =
    (unopened xs v p n, subst (λ (r : Reader). NeverOpened core r (deeds_of ts)) (steps_end xs v p) (never_opened ts (last_of v xs) q ns))
never_opened (work_turn y ∷ ts) v (p, q) n =
    subst (λ (r : Reader). NeverOpened core r (deeds_of ts)) (work_went y.work _ _ _ _ _ _ p) (never_opened ts y.after q n)

pub turns_contents_stay : (ts : List (Turn Vault)) (v : Vault) → Turns v ts → LegalVault v → v.settings.password ≢ 0 ∷ 0 ∷ 0 ∷ 0 ∷ [] → v.settings.verified ≡ 0
    → NeverTurn (λ (u : Vault). u.settings.verified) ts
    → reader_in (last_turn v ts) ≡ reader (reader_in v).plain (kept_over core (reader_in v).plain (reader_in v).guarded (deeds_of ts))
turns_contents_stay ts v q l key shut n =
    turns_end ts v q ∙ contents_stay core core_holds (deeds_of ts) (reader_in v) l (locks v.settings v.memory key shut) (never_opened ts v q n)

-- ---- with a receiver

-- what stays goes by line switches and work, and not by runs
kept_runs : (es : List Event) (x : Line) (g : Guarded) → kept g (runs core x es) ≡ kept g es
unfolding kept runs
kept_runs [] x g = refl
kept_runs (received piece lent ∷ es) x g = kept_runs es _ g
kept_runs (switch ∷ es) x g = kept_runs es _ _

kept_over_runs : (ds : List Deed) (x : Line) (p : Plain) (g : Guarded) → kept_over core p g (run_deeds core x ds) ≡ kept_over core p g ds
unfolding kept_over run_deeds
kept_over_runs [] x p g = refl
kept_over_runs (calls es ∷ ds) x p g = kept_over_runs ds (finally_on core x es) p _ ∙ ap (λ (h : Guarded). kept_over core p h ds) (kept_runs es x g)
kept_over_runs (between w ∷ ds) x p g = kept_over_runs ds _ p _

few_after : (v : LineVault) (x : Entry LineVault) → v.line.receiver.count ≤ 267 → handed_in x.told x.after ≡ on_line core (line_in v) x.event
    → x.after.line.receiver.count ≤ 267
unfolding finally_on
few_after v x few p = subst (λ (o : Handed). o.after.receiver.count ≤ 267) (sym p) (ever_few core (x.event ∷ []) (line_in v) few)

line_unopened : (xs : List (Entry LineVault)) (v : LineVault) → v.line.receiver.count ≤ 267 → Receives v xs → Never (λ (u : LineVault). u.line.settings.verified) xs
    → Unopened core (line_in v).reader (runs core (line_in v) (events_of xs))
unfolding runs on_line on
line_unopened [] v few q n = tt
line_unopened (x ∷ xs) v few (p, q) (n, ns) =
    go x.event (sym (ap (λ (o : Handed). o.after.reader.plain.verified) p) ∙ ne_eqb x.after.line.settings.verified 1 n)
    (subst (λ (o : Handed). Unopened core o.after.reader (runs core o.after (events_of xs))) p (line_unopened xs x.after (few_after v x few p) q ns))
  where
    go : (e : Event) → (on_line core (line_in v) e).after.reader.plain.verified ≡ false
        → Unopened core (on_line core (line_in v) e).after.reader (runs core (on_line core (line_in v) e).after (events_of xs))
        → Unopened core (line_in v).reader (runs core (line_in v) (e ∷ events_of xs))
    go (received piece lent) f rest =
        let same = (as_call core (line_in v) few piece lent).reader in
        (sym (ap (λ (r : Reader). r.plain.verified) same) ∙ f, subst (λ (r : Reader). Unopened core r (runs core (receive_of core (line_in v) piece lent).after (events_of xs))) same rest)
    go switch f rest =
        let same = switch_reader (line_in v) in
        (sym (ap (λ (r : Reader). r.plain.verified) same) ∙ f, subst (λ (r : Reader). Unopened core r (runs core (line_switch_of (line_in v)).after (events_of xs))) same rest)

line_never_opened : (ts : List (Turn LineVault)) (v : LineVault) → v.line.receiver.count ≤ 267 → LineTurns v ts → NeverTurn (λ (u : LineVault). u.line.settings.verified) ts
    → NeverOpened core (line_in v).reader (run_deeds core (line_in v) (deeds_of ts))
unfolding run_deeds
line_never_opened [] v few q n = tt
line_never_opened (call_turn xs ∷ ts) v few (p, q) (n, ns) = (
  line_unopened xs v few p n,
  subst (λ (r : Reader). NeverOpened core r (run_deeds core (finally_on core (line_in v) (events_of xs)) (deeds_of ts))) (as_calls core (events_of xs) (line_in v) few)
      (subst (λ (x : Line). NeverOpened core x.reader (run_deeds core x (deeds_of ts))) (receives_end xs v p)
      (line_never_opened ts (last_of v xs) (subst (λ (x : Line). x.receiver.count ≤ 267) (sym (receives_end xs v p)) (ever_few core (events_of xs) (line_in v) few)) q ns)),
)
line_never_opened (work_turn y ∷ ts) v few ((p, h), q) n =
    subst (λ (x : Line). NeverOpened core x.reader (run_deeds core x (deeds_of ts))) (λ j. line (work_went y.work _ _ _ _ _ _ p j) (h j)) (line_never_opened ts y.after (rw h few) q n)

pub line_turns_contents_stay : (ts : List (Turn LineVault)) (v : LineVault) → LineTurns v ts → LegalLine v → v.line.settings.password ≢ 0 ∷ 0 ∷ 0 ∷ 0 ∷ []
    → v.line.settings.verified ≡ 0 → NeverTurn (λ (u : LineVault). u.line.settings.verified) ts
    → (line_in (last_turn v ts)).reader ≡ reader (line_in v).reader.plain (kept_over core (line_in v).reader.plain (line_in v).reader.guarded (deeds_of ts))
line_turns_contents_stay ts v q l key shut n =
    let r : Reader = (line_in v).reader in
    ap (λ (x : Line). x.reader) (line_turns_end ts v q) ∙ as_deeds core (deeds_of ts) (line_in v) l.few
    ∙ contents_stay core core_holds (run_deeds core (line_in v) (deeds_of ts)) r l.reader (locks v.line.settings v.memory key shut) (line_never_opened ts v l.few q n)
    ∙ ap (reader r.plain) (kept_over_runs (deeds_of ts) (line_in v) r.plain r.guarded)
