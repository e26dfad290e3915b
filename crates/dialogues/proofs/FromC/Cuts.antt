-- Request [1]'s cut independence at the doors for C: "After that, the replies in order, the end state and the held bytes must not depend on where a run was cut, as
-- long as no call is refused and no line switch falls inside it", of the loop that include/bystrodol.h has.
use mathlib.Core.Path.{◌≡◌, refl, sym, ap, ◌∙◌, subst}
use mathlib.Core.List.{List, [], ◌∷◌, ◌++◌}
use Prim.Native.Nat.{ℕ, ◌-◌}
use native.Mathlib.Omega.{arith}
use lib.Dec.{T}
use lib.ListN.{length, take, drop, length-drop}
use Rattle.protocol.specs.Numbers.{holds, longest}
use Rattle.protocol.specs.Search.{Chip}
use Rattle.protocol.specs.Commands.{barred, search_for, command}
use Rattle.protocol.specs.Step.{order, hear, step_of}
use Rattle.protocol.specs.Call.{core, Lent, carried}
use Rattle.protocol.specs.Dialogue.{Event, received, switch}
use Rattle.protocol.specs.Receiver.{Line, Handed, run_of, handed, receive_of}
use Rattle.dialogues.specs.Caller.{Try, Ran, offers, served, SearchesSee, Rests, resting, on_line}
use Rattle.dialogues.specs.Doors.{LineVault, line_in, Entry, last_of, handed_in, Receives}
use Rattle.protocol.proofs.Laws.Holding.{holding_sized, few_held, Carried, accepted}
use Rattle.dialogues.proofs.Lines.Cuts.{cut_free, offers_nothing, answers_nothing, stops_at_rest}
use Rattle.dialogues.proofs.Lines.Caller.{spoken, before, offers_more, served_more, sees_more}
use Rattle.dialogues.proofs.FromC.Lines.{same_line}

-- ---- the loop

-- a call's piece is the front of what is left of the run; and no line switch
abbrev pub FrontOf : List ℕ → Event → Type 0
FrontOf s (received piece lent) = take (length piece) s ≡ piece
FrontOf s switch = ⊥

-- what a call did not take is left for the next
abbrev pub Offers : List ℕ → List (Entry LineVault) → Type 0
Offers s [] = Unit {0}
Offers s (x ∷ xs) = FrontOf s x.event × Offers (drop x.told.used s) xs

abbrev pub left_of : List ℕ → List (Entry LineVault) → List ℕ
left_of s [] = s
left_of s (x ∷ xs) = left_of (drop x.told.used s) xs

-- "no call is refused"
abbrev pub Served : List (Entry LineVault) → Type 0
Served [] = Unit {0}
Served (x ∷ xs) = (x.told.refusal ≡ 0) × Served xs

-- a call whose held bytes, and behind them what fits of the piece, say a Search to the reader lends these scores and thresholds
abbrev pub LendsToSearch : Chip → LineVault → Event → Type 0
LendsToSearch χ v (received piece lent) =
    let h = v.line.receiver in
    (b start count : ℕ) → hear v.line.settings.address (take h.count h.held ++ take (267 - h.count) piece) ≡ order (command (barred (search_for b start count)))
    → (lent.chip.scores ≡ χ.scores) × (lent.chip.thresholds ≡ χ.thresholds)
LendsToSearch χ v switch = Unit {0}

abbrev pub SearchesLent : Chip → LineVault → List (Entry LineVault) → Type 0
SearchesLent χ v [] = Unit {0}
SearchesLent χ v (x ∷ xs) = LendsToSearch χ v x.event × SearchesLent χ x.after xs

-- the replies in order; silence is no reply
abbrev pub replies_of : List (Entry LineVault) → List (List ℕ)
replies_of [] = []
replies_of (x ∷ xs) = spoken (take x.told.length x.told.room) ++ replies_of xs

-- the run s offered to the line v: some calls, and at last one that is offered all that is left, takes nothing and leaves the held count
pub record Loop (χ : Chip) (v : LineVault) (s : List ℕ) (xs : List (Entry LineVault)) (z : Entry LineVault) : Type 0 where
  pub calls : Receives v xs
  pub offered : Offers s xs
  pub served : Served xs
  pub searches : SearchesLent χ v xs
  pub lent : Lent
  pub all : z.event ≡ received (left_of s xs) lent
  pub last : Receives (last_of v xs) (z ∷ [])
  pub accepted : z.told.refusal ≡ 0
  pub takes : z.told.used ≡ 0
  pub leaves : z.after.line.receiver.count ≡ (last_of v xs).line.receiver.count

-- ---- its calls are those of the definitions' caller

try_of : Event → List Try → List Try
try_of (received piece lent) ts = record { size = length piece; lent = lent } ∷ ts
try_of switch ts = ts

tries_of : List (Entry LineVault) → List Try
tries_of [] = []
tries_of (x ∷ xs) = try_of x.event (tries_of xs)

record Same (v : LineVault) (s : List ℕ) (χ : Chip) (xs : List (Entry LineVault)) : Type 0 where
  ran : offers core (tries_of xs) (line_in v) s ≡ record { replies = replies_of xs; after = line_in (last_of v xs); left = left_of s xs }
  serves : T (served core (tries_of xs) (line_in v) s)
  sees : SearchesSee core χ (tries_of xs) (line_in v) s

same : (χ : Chip) (xs : List (Entry LineVault)) (v : LineVault) (s : List ℕ) → Receives v xs → Offers s xs → Served xs → SearchesLent χ v xs → Same v s χ xs
unfolding tries_of try_of offers served SearchesSee on_line
same χ [] v s q o e l = record { ran = refl; serves = tt; sees = tt }
same χ (x ∷ xs) v s q o e l = go x.event q.0 o.0 l.0 (same χ xs x.after (drop x.told.used s) q.1 o.1 e.1 l.1)
  where
    rest : List ℕ
    rest = drop x.told.used s

    go : (a : Event) → handed_in x.told x.after ≡ on_line core (line_in v) a → FrontOf s a → LendsToSearch χ v a → Same x.after rest χ xs
        → Same v s χ (record { event = a; told = x.told; after = x.after } ∷ xs)
    go switch p f m i = absurd f
    go (received piece lent) p f m i =
        let t : Try = record { size = length piece; lent = lent } in
        let c : receive_of core (line_in v) (take (length piece) s) lent ≡ handed_in x.told x.after = ap (λ (y : List ℕ). receive_of core (line_in v) y lent) f ∙ sym p in
        record {
          ran =
              offers_more core t (tries_of xs) (line_in v) s
              ∙ ap (λ (h : Handed). before h.told (offers core (tries_of xs) h.after (drop h.told.used s))) c
              ∙ ap (before x.told) i.ran;
          serves = (served_more core t (tries_of xs) (line_in v) s).1 (subst (λ (h : Handed). (h.told.refusal ≡ 0) × T (served core (tries_of xs) h.after (drop h.told.used s))) (sym c) (e.0, i.serves));
          sees = (sees_more core t (tries_of xs) (line_in v) s χ).1 (λ b start count a. m b start count (ap (λ (y : List ℕ). hear v.line.settings.address (take v.line.receiver.count v.line.receiver.held ++ take (267 - v.line.receiver.count) y)) (sym f) ∙ a), subst (λ (h : Handed). SearchesSee core χ (tries_of xs) h.after (drop h.told.used s)) (sym c) i.sees);
        }

-- ---- the promise

-- each carried-out call leaves a receiver of 267 cells
cells : (xs : List (Entry LineVault)) (v : LineVault) → length v.line.receiver.held ≡ 267 → Receives v xs → (s : List ℕ) → Offers s xs → Served xs → length (last_of v xs).line.receiver.held ≡ 267
unfolding on_line handed carried holds longest
cells [] v z q s o e = z
cells (x ∷ xs) v z q s o e = cells xs x.after (go x.event q.0 o.0) q.1 (drop x.told.used s) o.1 e.1
  where
    go : (a : Event) → handed_in x.told x.after ≡ on_line core (line_in v) a → FrontOf s a → length x.after.line.receiver.held ≡ 267
    go switch p f = absurd f
    go (received piece lent) p f =
        let c : Carried core (line_in v) piece lent = accepted core (line_in v) piece lent (sym (ap (λ (h : Handed). h.told.refusal) p) ∙ e.0) in
        let run : List ℕ = run_of v.line.receiver piece in
        let u : ℕ = (step_of lent.chip (line_in v).reader run).used in
        ap (λ (h : Handed). length h.after.receiver.held) (p ∙ c.does)
        ∙ holding_sized (drop u run) (omega (arith, length-drop u run, few_held v.line.receiver piece c.few))

record LoopEnds (χ : Chip) (v : LineVault) (s : List ℕ) (xs : List (Entry LineVault)) (z : Entry LineVault) (lent : Lent) : Type 0 where
  serves : T (served core (tries_of xs) (line_in v) s)
  sees : SearchesSee core χ (tries_of xs) (line_in v) s
  rests : Rests core (offers core (tries_of xs) (line_in v) s) lent
  rested : resting core (offers core (tries_of xs) (line_in v) s) lent ≡ record { replies = replies_of xs; after = line_in z.after; left = [] }
  silent : z.told.length ≡ 0
  taken : left_of s xs ≡ []

ends : (χ : Chip) (v : LineVault) → length v.line.receiver.held ≡ 267 → (s : List ℕ) (xs : List (Entry LineVault)) (z : Entry LineVault) → (k : Loop χ v s xs z) → LoopEnds χ v s xs z k.lent
unfolding on_line resting
ends χ v long s xs z k =
    let c = same χ xs v s k.calls k.offered k.served k.searches in
    let x : Line = line_in (last_of v xs) in
    let left : List ℕ = left_of s xs in
    let full = cells xs v long k.calls s k.offered k.served in
    let p : handed_in z.told z.after ≡ receive_of core x left k.lent = k.last.0 ∙ ap (on_line core x) k.all in
    let e : (receive_of core x left k.lent).told.refusal ≡ 0 = sym (ap (λ (h : Handed). h.told.refusal) p) ∙ k.accepted in
    let u : (receive_of core x left k.lent).told.used ≡ 0 = sym (ap (λ (h : Handed). h.told.used) p) ∙ k.takes in
    let n : (receive_of core x left k.lent).after.receiver.count ≡ x.receiver.count = sym (ap (λ (h : Handed). h.after.receiver.count) p) ∙ k.leaves in
    let none : left ≡ [] = offers_nothing core x left k.lent full e u n in
    record {
      serves = c.serves;
      sees = c.sees;
      rests = rw c.ran (stops_at_rest core x left k.lent full e u n (replies_of xs));
      rested =
          ap (λ (d : Ran). resting core d k.lent) c.ran
          ∙ (λ j. record { replies = replies_of xs; after = (receive_of core x (sym none j) k.lent).after; left = none j })
          ∙ ap (λ (h : Handed). record { replies = replies_of xs; after = h.after; left = [] }) (sym p);
      silent = ap (λ (h : Handed). h.told.length) p ∙ answers_nothing core x left k.lent full e u n;
      taken = none;
    }

-- where a run was cut does not matter: two loops over it, from one line of 267 cells, with the same scores and thresholds wherever a call deals with a Search. The
-- replies in order are the same; settings, receiver and memory lie the same at the end; all of the run is taken, and the last call replies nothing
pub loop_cut_free : (χ : Chip) (v : LineVault) → length v.line.receiver.held ≡ 267 → (s : List ℕ) (xs ys : List (Entry LineVault)) (z w : Entry LineVault) → Loop χ v s xs z → Loop χ v s ys w
    → (replies_of xs ≡ replies_of ys) × ((z.after ≡ w.after) × (((left_of s xs ≡ []) × (left_of s ys ≡ [])) × ((z.told.length ≡ 0) × (w.told.length ≡ 0))))
loop_cut_free χ v long s xs ys z w k l =
    let a = ends χ v long s xs z k in
    let b = ends χ v long s ys w l in
    let same = cut_free core χ (line_in v) s (tries_of xs) (tries_of ys) k.lent l.lent a.serves b.serves a.sees b.sees a.rests b.rests in
    let e = sym a.rested ∙ same ∙ b.rested in
    (ap (λ (d : Ran). d.replies) e, (same_line w.after z.after (ap (λ (d : Ran). d.after) e), ((a.taken, b.taken), (a.silent, b.silent))))
