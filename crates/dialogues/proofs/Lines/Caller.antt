-- Request [1]: what the words of the promises about a receiver's caller mean, in the fields of its calls: the calls of a caller, document 01's call
-- again and again, and sequences of pieces and line switches.
use mathlib.Core.Bool.{Bool, true, false, cond}
use mathlib.Core.Path.{◌≡◌, refl, sym, ap, ap₂, ◌∙◌, subst}
use mathlib.Core.Logic.{◌↔◌}
use mathlib.Core.List.{List, [], ◌∷◌, ◌++◌}
use Prim.Native.Nat.{ℕ, ◌-◌}
use lib.Dec.{T, eqb, eqb→eq}
use lib.ListN.{take, drop}
use Rattle.protocol.specs.Numbers.{holds, longest}
use Rattle.protocol.specs.Finder.{find_of, used_of}
use Rattle.protocol.specs.Reader.{Reader, capacity}
use Rattle.protocol.specs.Search.{Chip}
use Rattle.protocol.specs.Commands.{barred, search_for, command}
use Rattle.protocol.specs.Step.{Heard, order, hear, IsSearch, a_search, step_of}
use Rattle.protocol.specs.Call.{Shape, Lent, fit_lent, legal, Told, reply_of, call_of}
use Rattle.protocol.specs.Dialogue.{Event, received, switch}
use Rattle.protocol.specs.Receiver.{bytes_in, holding, Line, line, Handed, fitting, run_of, receive_of, line_switch_of}
use Rattle.dialogues.specs.Caller.{Try, Ran, replied, offers, served, SearchesSee, resting, at_rest, drained, on_line, finally_on, seen, Talk, ends_at, begins, talk}
use Rattle.protocol.proofs.Laws.Logic.{and_l, and_r, and_i, eq→eqb}
use Rattle.dialogues.proofs.Laws.Drain.{drained_rest, drained_call}
use Rattle.dialogues.proofs.Lines.Cuts.{drains_by_call}

-- a reply, unless it is silence
abbrev pub spoken : List ℕ → List (List ℕ)
spoken [] = []
spoken (b ∷ a) = (b ∷ a) ∷ []

-- a call that told this, and then all of these: its reply stands before theirs
abbrev pub before : Told → Ran → Ran
before t d = record { replies = spoken (take t.length t.room) ++ d.replies; after = d.after; left = d.left }

pub replied_is : (a : List ℕ) (d : Ran) → replied a d ≡ record { replies = spoken a ++ d.replies; after = d.after; left = d.left }
unfolding replied
replied_is [] d = refl
replied_is (b ∷ a) d = refl

-- ---- the calls of a caller

-- a caller lends these scores and thresholds at every call
abbrev pub AlwaysLends : Chip → List Try → Type 0
AlwaysLends χ [] = Unit {0}
AlwaysLends χ (t ∷ ts) = (t.lent.chip ≡ χ) × AlwaysLends χ ts

module _ (σ : Shape) where
  pub offers_none : (x : Line) (s : List ℕ) → offers σ [] x s ≡ record { replies = []; after = x; left = s }
  unfolding offers
  offers_none x s = refl

  module _ (t : Try) (ts : List Try) (x : Line) (s : List ℕ) where
    -- so many bytes of those left
    abbrev pub calls : Handed
    calls = receive_of σ x (take t.size s) t.lent

    -- and then the other calls, with all that it did not take
    pub offers_more : offers σ (t ∷ ts) x s ≡ before calls.told (offers σ ts calls.after (drop calls.told.used s))
    unfolding offers reply_of
    offers_more = replied_is (take calls.told.length calls.told.room) (offers σ ts calls.after (drop calls.told.used s))

    -- "no call is refused"
    pub served_more : T (served σ (t ∷ ts) x s) ↔ ((calls.told.refusal ≡ 0) × T (served σ ts calls.after (drop calls.told.used s)))
    unfolding served
    served_more =
        let more : Bool = served σ ts calls.after (drop calls.told.used s) in
        (λ h. (eqb→eq calls.told.refusal 0 (and_l (eqb calls.told.refusal 0) more h), and_r (eqb calls.told.refusal 0) more h), λ h. and_i (eqb calls.told.refusal 0) more (eq→eqb calls.told.refusal 0 h.0) h.1)

    -- if the held bytes, and behind them what fits of the piece, say a Search to the reader, the call lends these scores and thresholds
    abbrev pub LendsIfSearch : Chip → Type 0
    LendsIfSearch χ = (b start count : ℕ)
        → hear x.reader.plain.address (take x.receiver.count x.receiver.held ++ take (267 - x.receiver.count) (take t.size s)) ≡ order (command (barred (search_for b start count)))
        → (t.lent.chip.scores ≡ χ.scores) × (t.lent.chip.thresholds ≡ χ.thresholds)

    -- and so do the other calls
    pub sees_more : (χ : Chip) → SearchesSee σ χ (t ∷ ts) x s ↔ (LendsIfSearch χ × SearchesSee σ χ ts calls.after (drop calls.told.used s))
    unfolding SearchesSee run_of bytes_in fitting holds longest
    sees_more χ = (λ h. (λ b start count e. let same = h.0 (subst IsSearch (sym e) (a_search b start count)) in (ap (λ (κ : Chip). κ.scores) same, ap (λ (κ : Chip). κ.thresholds) same), h.1), λ h. (λ i. go _ i refl h.0, h.1))
      where
        go : (k : Heard) → IsSearch k → hear x.reader.plain.address (run_of x.receiver (take t.size s)) ≡ k → LendsIfSearch χ → t.lent.chip ≡ χ
        go _ (a_search b start count) e l = let same = l b start count e in ap₂ (λ (a d : List ℕ). record { scores = a; thresholds = d }) same.0 same.1

  pub served_none : (x : Line) (s : List ℕ) → T (served σ [] x s)
  unfolding served
  served_none x s = tt

  pub sees_none : (χ : Chip) (x : Line) (s : List ℕ) → SearchesSee σ χ [] x s
  unfolding SearchesSee
  sees_none χ x s = tt

  -- which holds of a caller who always lends them
  pub always_sees : (χ : Chip) (ts : List Try) (x : Line) (s : List ℕ) → AlwaysLends χ ts → SearchesSee σ χ ts x s
  unfolding SearchesSee
  always_sees χ [] x s a = tt
  always_sees χ (t ∷ ts) x s (e, a) = (λ i. e, always_sees χ ts _ _ a)

  -- the last call of an empty piece adds no reply, and its line is the end
  pub resting_is : (d : Ran) (lent : Lent) → resting σ d lent ≡ record { replies = d.replies; after = (receive_of σ d.after [] lent).after; left = d.left }
  unfolding resting
  resting_is d lent = refl

  -- ---- the run whole

  module _ (r : Reader) (s : List ℕ) (lent : Lent) (l : T (legal σ r)) (u : T (fit_lent (capacity r.guarded) lent)) where
    abbrev χ : Chip
    χ = lent.chip

    -- a call that uses nothing is the end: all bytes are held
    pub drained_waits : (call_of σ r s lent).told.used ≡ 0 → drained χ r s ≡ record { replies = []; after = line r (holding s); left = [] }
    unfolding at_rest
    drained_waits e = let z : used_of (find_of s) ≡ 0 = rw (drains_by_call σ r s lent l u).0 at e in drained_rest χ r s z

    -- otherwise the bytes used are dropped, and the call is done on the others
    pub drained_more : drained χ r s ≡ before (call_of σ r s lent).told (drained χ (call_of σ r s lent).after (drop (call_of σ r s lent).told.used s))
    unfolding reply_of
    drained_more =
        let by = drains_by_call σ r s lent l u in
        let a : take (call_of σ r s lent).told.length (call_of σ r s lent).told.room ≡ (step_of χ r s).reply = by.1.0 in
        rw (by.0, by.1.1, a) (drained_call χ r s ∙ replied_is (step_of χ r s).reply (drained χ (step_of χ r s).after (drop (used_of (find_of s)) s)))

-- ---- sequences of pieces and line switches

module _ (σ : Shape) where
  pub piece_is : (x : Line) (piece : List ℕ) (lent : Lent) → on_line σ x (received piece lent) ≡ receive_of σ x piece lent
  unfolding on_line
  piece_is x piece lent = refl

  pub switch_is : (x : Line) → on_line σ x switch ≡ line_switch_of x
  unfolding on_line
  switch_is x = refl

  -- each event on the line that the one before it left
  pub finally_none : (x : Line) → finally_on σ x [] ≡ x
  unfolding finally_on
  finally_none x = refl

  pub finally_next : (es : List Event) (x : Line) (e : Event) → finally_on σ x (es ++ (e ∷ [])) ≡ (on_line σ (finally_on σ x es) e).after
  unfolding finally_on
  finally_next [] x e = refl
  finally_next (d ∷ es) x e = finally_next es (on_line σ x d).after e

  -- what the host saw of a piece: the bytes that were held, what fits of the piece, and the reply that the receiver gave; of a line switch nothing
  pub seen_none : (x : Line) → seen σ x [] ≡ []
  unfolding seen
  seen_none x = refl

  pub seen_piece : (x : Line) (piece : List ℕ) (lent : Lent) (es : List Event) → seen σ x (received piece lent ∷ es)
      ≡ (let o = receive_of σ x piece lent in
      record { run = take x.receiver.count x.receiver.held ++ take (267 - x.receiver.count) piece; reply = take o.told.length o.told.room } ∷ seen σ o.after es)
  unfolding seen reply_of run_of bytes_in fitting holds longest
  seen_piece x piece lent es = refl

  pub seen_switch : (x : Line) (es : List Event) → seen σ x (switch ∷ es) ≡ seen σ (line_switch_of x).after es
  unfolding seen
  seen_switch x es = refl

  -- what each of some events gets back
  unfoldable pub tells : Line → List Event → List Told
  tells x [] = []
  tells x (e ∷ es) = (on_line σ x e).told ∷ tells (on_line σ x e).after es

  -- a talk tells what each of its events gets back, and ends with the line after them
  pub record Tells (x : Line) (d : Talk) : Type 0 where
    pub told : d.told ≡ tells x d.events
    pub last : d.last ≡ finally_on σ x d.events

  pub talk_tells : (es : List Event) (x : Line) → Tells x (talk σ x es)
  unfolding talk ends_at begins tells finally_on
  talk_tells [] x = record { told = refl; last = refl }
  talk_tells (e ∷ es) x = go (on_line σ x e).after.reader.plain.verified (talk_tells es (on_line σ x e).after)
    where
      y : Line
      y = (on_line σ x e).after

      go : (b : Bool) → Tells y (talk σ y es) → Tells x (begins e (on_line σ x e).told (cond b (ends_at y) (talk σ y es)))
      go true i = record { told = refl; last = refl }
      go false i = record { told = ap (λ (z : List Told). (on_line σ x e).told ∷ z) i.told; last = i.last }
