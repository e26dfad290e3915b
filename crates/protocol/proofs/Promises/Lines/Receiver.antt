-- Request [1], one call: "Add a receiver that holds up to 265 bytes between calls, takes a piece, answers at most one packet, and says how many
-- bytes of the piece it took .. A line switch empties the held bytes. A call takes what fits of the piece, does document 01's call on all
-- held bytes, and drops those used. Refusals: held count above 265 is 3; a refused call takes and drops nothing." By request [3] 267 in the place of 265.
use mathlib.Core.Path.{◌≡◌, refl, sym, ap, ◌∙◌, subst}
use mathlib.Core.Logic.{◌≢◌, ◌↔◌}
use mathlib.Core.List.{List, [], ◌∷◌, ◌++◌}
use Prim.Native.Nat.{ℕ, zero, suc, ◌+◌, ◌-◌, ◌≤◌, min}
use native.Mathlib.Omega.{arith}
use lib.Dec.{T, leb, leb→le, le→leb}
use lib.ListN.{length, take, drop, replicate, length-take, length-drop}
use Rattle.protocol.specs.declared.Found.{Found}
use Rattle.protocol.specs.declared.Found.TheVariants.{Noise, Unfinished, Unfit, Whole}
use Rattle.protocol.specs.Numbers.{holds, longest}
use Rattle.protocol.specs.Finder.{find_of, used_of}
use Rattle.protocol.specs.Reader.{Reader, capacity}
use Rattle.protocol.specs.Step.{step_of}
use Rattle.protocol.specs.Call.{core, Lent, fit_chip, fit_room, fit_lengths, fit_buffers, sound, Ended, refused, carried, call_of, switch_refusal, switch_as, switch_of}
use Rattle.protocol.specs.Receiver.{bytes_in, holding, Line, Handed, fitting, run_of, handed, receive_refusal, receive_as, receive_of, line_switch_as, line_switch_of}
use Rattle.protocol.proofs.Laws.Lines.{Line as Unless, unless, Follows, follows}
use Rattle.protocol.proofs.Laws.Answers.{call_legal}
use Rattle.protocol.proofs.Laws.Holding.{in_holding, holding_zero, Carried, accepted}
use Rattle.protocol.proofs.Promises.Packets.Finding.{WholeAt, whole, finds, found, whole_at, uses, silent_without, silently}
use Rattle.protocol.proofs.Promises.Refusals.LegalMeans.{Lengths, Settled, lengths_mean, settings_mean, Means}
use Rattle.protocol.proofs.Promises.Refusals.Refused.{Unused, ChipLengths, chip_mean, fit_room_lem, switch_lines, buffers}

-- what a receiver's call got back, and its reader after it
abbrev pub bare : Handed → Ended
bare o = record { told = o.told; after = o.after.reader }

-- ---- refusals

-- 0 is no refusal; a refused call takes 0 bytes and replies nothing, and the reader, the count and every cell are as they were
abbrev pub Hands : Line → Lent → Handed → ℕ → Type 0
Hands x lent o zero = o.told.refusal ≡ 0
Hands x lent o (suc n) = Unused lent.room (bare o) (suc n) × (o.after ≡ x)

-- document 01's, and "held count above 265 is 3", by request [3] above 267
abbrev pub receive_lines : Line → Lent → List Unless
receive_lines x lent =
    unless (Lengths x.reader.guarded) 1 ∷ unless (ChipLengths x.reader lent) 1 ∷ unless (700 ≤ length lent.room) 2 ∷ unless (Settled x.reader) 3
    ∷ unless (x.receiver.count ≤ 267) 3 ∷ []

module _ (x : Line) (piece : List ℕ) (lent : Lent) where
  hands : (n : ℕ) → Hands x lent (receive_as core x piece lent n) n
  unfolding receive_as handed refused
  hands zero = refl
  hands (suc n) = (record { refusal = refl; used = refl; length = refl; room = refl }, refl)

  few : T (leb x.receiver.count holds) ↔ (x.receiver.count ≤ 267)
  unfolding holds longest
  few = (leb→le x.receiver.count 267, le→leb x.receiver.count 267)

  -- in document 01's order
  pub receive_refusals : Follows (receive_lines x lent) (Hands x lent (receive_of core x piece lent))
  unfolding receive_of receive_refusal
  receive_refusals =
      follows
      ((fit_lengths core x.reader.guarded, 1) ∷ (fit_chip (capacity x.reader.guarded) lent.chip, 1) ∷ (fit_room lent.room, 2) ∷ (sound x.reader, 3)
      ∷ (leb x.receiver.count holds, 3) ∷ [])
      (receive_lines x lent) (Hands x lent (receive_of core x piece lent))
      (lengths_mean x.reader.guarded, (refl, λ m. (chip_mean x.reader lent m, (refl, λ h. (fit_room_lem lent, (refl, λ u. (settings_mean x.reader m, (refl, λ k. (few, (refl, λ c. tt)))))))))) (hands (receive_refusal core x lent))

  -- so, of a legal reader with at most 267 held bytes, with a score for each page, five thresholds and a fit reply room, no call is refused
  pub never_refused : Means x.reader → ChipLengths x.reader lent → 700 ≤ length lent.room → x.receiver.count ≤ 267 → (receive_of core x piece lent).told.refusal ≡ 0
  never_refused m h u c = ((((receive_refusals.0 m.lengths).0 h).0 u).0 m.settings).0 c

-- ---- a call that is carried out

-- its outcome o beside document 01's call e on all held bytes
pub record Takes (x : Line) (piece : List ℕ) (e : Ended) (o : Handed) : Type 0 where
  pub called : e.told.refusal ≡ 0
  -- "takes what fits of the piece", and says how many bytes
  pub taken : o.told.used ≡ min (267 - x.receiver.count) (length piece)
  -- how many are held then: all, but those used
  pub count : o.after.receiver.count ≡ length (take x.receiver.count x.receiver.held ++ take (267 - x.receiver.count) piece) - e.told.used
  -- "does document 01's call": its reply, and its reader after it
  pub length : o.told.length ≡ e.told.length
  pub room : o.told.room ≡ e.told.room
  pub reader : o.after.reader ≡ e.after
  -- "and drops those used"
  pub held : take o.after.receiver.count o.after.receiver.held ≡ drop e.told.used (take x.receiver.count x.receiver.held ++ take (267 - x.receiver.count) piece)
  -- every cell past the held bytes is zero, whatever it was
  pub zero : drop o.after.receiver.count o.after.receiver.held ≡ replicate (267 - o.after.receiver.count) 0
  -- and the spare byte
  pub spare : o.after.receiver.spare ≡ 0

pub takes_what_fits : (x : Line) (piece : List ℕ) (lent : Lent) → (receive_of core x piece lent).told.refusal ≡ 0
    → Takes x piece (call_of core x.reader (take x.receiver.count x.receiver.held ++ take (267 - x.receiver.count) piece) lent) (receive_of core x piece lent)
unfolding handed carried bytes_in fitting run_of holding holds longest
takes_what_fits x piece lent e =
    let c : Carried core x piece lent = accepted core x piece lent e in
    let run : List ℕ = run_of x.receiver piece in
    let rest : List ℕ = drop (step_of lent.chip x.reader run).used run in
    rw (c.does, call_legal core x.reader run lent c.legal c.roomy)
    record {
      called = refl;
      taken = length-take (267 - x.receiver.count) piece;
      count = length-drop (step_of lent.chip x.reader run).used run;
      length = refl;
      room = refl;
      reader = refl;
      held = in_holding rest;
      zero = holding_zero rest;
      spare = refl;
    }

-- "answers at most one packet": of all held bytes the first whole packet alone is dealt with, and nothing behind it is dropped; where there is
-- none, the call is silent and the reader stays
pub data Deals (run : List ℕ) (r : Reader) (lent : Lent) (o : Handed) : Type 0 where
  none : ((p n : ℕ) → WholeAt run p n → ⊥) → o.told.length ≡ 0 → o.told.room ≡ lent.room → o.after.reader ≡ r → Deals run r lent o
  one : (p n : ℕ) → WholeAt run p n → take o.after.receiver.count o.after.receiver.held ≡ drop (p + 9 + n) run → Deals run r lent o

pub deals_with_one : (x : Line) (piece : List ℕ) (lent : Lent) → (receive_of core x piece lent).told.refusal ≡ 0
    → Deals (take x.receiver.count x.receiver.held ++ take (267 - x.receiver.count) piece) x.reader lent (receive_of core x piece lent)
deals_with_one x piece lent e = go (find_of run) refl
  where
    run : List ℕ
    run = take x.receiver.count x.receiver.held ++ take (267 - x.receiver.count) piece

    call : Ended
    call = call_of core x.reader run lent

    goal : Type 0
    goal = Deals run x.reader lent (receive_of core x piece lent)

    does : Takes x piece call (receive_of core x piece lent)
    does = takes_what_fits x piece lent e

    fit : Carried core x piece lent
    fit = accepted core x piece lent e

    silent : (f : Found) → find_of run ≡ f → ((p n : ℕ) → f ≢ Whole p n) → goal
    silent f q d =
        let s : call ≡ silently x.reader (used_of (find_of run)) lent = silent_without core x.reader run lent fit.legal fit.roomy (finds run) (λ p n z. d p n (sym q ∙ z)) in
        none (λ p n w. d p n (sym q ∙ (found (whole w)).0)) (does.length ∙ ap (λ (y : Ended). y.told.length) s) (does.room ∙ ap (λ (y : Ended). y.told.room) s) (does.reader ∙ ap (λ (y : Ended). y.after) s)

    go : (f : Found) → find_of run ≡ f → goal
    go (Noise k) q = silent (Noise k) q (λ p n z. let a : ◌≡◌ {A = ℕ} 0 1 = cc in omega arith)
    go (Unfinished k) q = silent (Unfinished k) q (λ p n z. let a : ◌≡◌ {A = ℕ} 0 1 = cc in omega arith)
    go (Unfit k) q = silent (Unfit k) q (λ p n z. let a : ◌≡◌ {A = ℕ} 0 1 = cc in omega arith)
    go (Whole p n) q =
        let w : WholeAt run p n = whole_at run p n q in
        one p n w (does.held ∙ ap (λ (k : ℕ). drop k run) (uses core x.reader run lent fit.legal fit.roomy (whole w)))

-- ---- the line switch

-- 0: nothing is held, and every cell is zero; a refusal leaves the reader, the count and every cell
abbrev pub Empties : Line → Handed → ℕ → Type 0
Empties x o zero =
    Unused [] (bare o) 0
    × ((o.after.reader ≡ (switch_of x.reader).after) × ((o.after.receiver.count ≡ 0) × ((o.after.receiver.held ≡ replicate 267 0) × (o.after.receiver.spare ≡ 0))))
Empties x o (suc n) = Unused [] (bare o) (suc n) × (o.after ≡ x)

module _ (x : Line) where
  empties : (n : ℕ) → switch_refusal x.reader.guarded ≡ n → Empties x (line_switch_as x (switch_as x.reader n) n) n
  unfolding line_switch_as switch_of switch_as refused holding holds longest Rattle.protocol.specs.Bytes.lay
  empties zero e = (record { refusal = refl; used = refl; length = refl; room = refl }, (rw e refl, (refl, (refl, refl))))
  empties (suc n) e = (record { refusal = refl; used = refl; length = refl; room = refl }, refl)

  told : (n : ℕ) → (switch_as x.reader n).told.refusal ≡ n
  unfolding switch_as refused
  told zero = refl
  told (suc n) = refl

  -- "A line switch empties the held bytes", whatever the settings and the held count; it knows only refusal 1
  pub line_switch_refusals : Follows (switch_lines x.reader) (Empties x (line_switch_of x))
  unfolding line_switch_of switch_of switch_refusal
  line_switch_refusals =
      let n : ℕ = switch_refusal x.reader.guarded in
      follows ((fit_buffers x.reader.guarded, 1) ∷ []) (switch_lines x.reader) (Empties x (line_switch_of x)) (buffers x.reader, (refl, λ m. tt))
      (subst (λ (k : ℕ). Empties x (line_switch_as x (switch_as x.reader n) k) n) (sym (told n)) (empties n refl))
