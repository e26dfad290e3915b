-- Held bytes in their cells, and a receiver's call beside document 01's call on all held bytes.
use mathlib.Core.Bool.{Bool, true, false, cond}
use mathlib.Core.Path.{◌≡◌, refl, ap, ◌∙◌}
use mathlib.Core.List.{List, []}
use Prim.Native.Nat.{ℕ, zero, suc, ◌+◌, ◌-◌, ◌≤◌}
use native.Mathlib.Omega.{arith}
use lib.Dec.{T, leb, leb→le, le→leb}
use lib.ListN.{length, drop, length-append, length-take, length-replicate}
use Rattle.protocol.specs.declared.Receiver.{Receiver}
use Rattle.protocol.specs.Numbers.{holds, bad_length, bad_room, bad_setting}
use Rattle.protocol.specs.Bytes.{zeros}
use Rattle.protocol.specs.Tests.{verdict}
use Rattle.protocol.specs.Reader.{Reader, capacity}
use Rattle.protocol.specs.Step.{step_of}
use Rattle.protocol.specs.Call.{Shape, fit_lengths, fit_chip, fit_room, Lent, fit_lent, sound, legal, Ended, reply_of, refused, carried, refusal_of, call_as, call_of, switch_refusal, switch_as, switch_of}
use Rattle.protocol.specs.Receiver.{bytes_in, holding, Line, line, Handed, fitting, run_of, handed, declined, receive_refusal, receive_as, receive_of, line_switch_as, line_switch_of}
use Rattle.protocol.proofs.Laws.Logic.{T→true, and_l, and_r, and_i, verdict_passed, passed_verdict}
use Rattle.protocol.proofs.Laws.Lists.{length_lay, take_lay, drop_lay}
use Rattle.protocol.proofs.Laws.Answers.{call_legal}

-- ---- the cells

-- what their type says by itself
abbrev pub Sized : Receiver → Type 0
Sized h = length h.held ≡ holds

drop_zeros : (k n : ℕ) → drop k (zeros n) ≡ zeros (n - k)
drop_zeros zero n = let e : n - 0 ≡ n = omega arith in rw e refl
drop_zeros (suc k) zero = let e : 0 - suc k ≡ 0 = omega arith in rw e refl
drop_zeros (suc k) (suc n) = let e : suc n - suc k ≡ n - k = omega arith in rw e (drop_zeros k n)

pub in_holding : (s : List ℕ) → bytes_in (holding s) ≡ s
unfolding bytes_in holding
in_holding s = take_lay s (zeros holds)

pub holding_sized : (s : List ℕ) → length s ≤ holds → Sized (holding s)
unfolding holding
holding_sized s l = let z : length (zeros holds) ≡ holds = length-replicate holds 0 in length_lay 0 s (zeros holds) (omega arith) ∙ z

-- every cell past the count is zero
pub holding_zero : (s : List ℕ) → drop (length s) (holding s).held ≡ zeros (holds - length s)
unfolding holding
holding_zero s = drop_lay s (zeros holds) ∙ drop_zeros (length s) holds

pub few_in : (h : Receiver) → length (bytes_in h) ≤ h.count
unfolding bytes_in
few_in h = omega (arith, length-take h.count h.held)

pub all_in : (h : Receiver) → Sized h → h.count ≤ holds → length (bytes_in h) ≡ h.count
unfolding bytes_in
all_in h z l = omega (arith, length-take h.count h.held)

pub few_fit : (h : Receiver) (piece : List ℕ) → length (fitting h piece) ≤ holds - h.count
unfolding fitting
few_fit h piece = omega (arith, length-take (holds - h.count) piece)

pub length_run : (h : Receiver) (piece : List ℕ) → length (run_of h piece) ≡ length (bytes_in h) + length (fitting h piece)
unfolding run_of
length_run h piece = length-append (bytes_in h) (fitting h piece)

pub few_held : (h : Receiver) (piece : List ℕ) → h.count ≤ holds → length (run_of h piece) ≤ holds
few_held h piece l = omega (arith, length_run h piece, few_in h, few_fit h piece)

-- ---- a receiver's call: refused with nothing changed, or a legal reader's step with what is lent fit and a count that the cells have

-- the call carried out
abbrev pub taken : Line → List ℕ → Lent → Handed
taken x piece lent = handed x.receiver piece (carried (step_of lent.chip x.reader (run_of x.receiver piece)) lent.room)

-- the reply is the step's
pub reply_taken : (x : Line) (piece : List ℕ) (lent : Lent) → reply_of (taken x piece lent).told ≡ (step_of lent.chip x.reader (run_of x.receiver piece)).reply
unfolding reply_of handed carried
reply_taken x piece lent = take_lay (step_of lent.chip x.reader (run_of x.receiver piece)).reply lent.room

module _ (σ : Shape) (x : Line) (piece : List ℕ) (lent : Lent) where
  -- from a legal reader, a count that the cells have, and what is lent fit, no call is refused
  pub receive_legal : T (legal σ x.reader) → T (fit_lent (capacity x.reader.guarded) lent) → x.receiver.count ≤ holds → receive_of σ x piece lent ≡ taken x piece lent
  unfolding receive_of receive_as receive_refusal legal
  receive_legal t u l =
      let a : T (fit_lengths σ x.reader.guarded) = search (and_l) in
      let χ : T (fit_chip (capacity x.reader.guarded) lent.chip) = search (and_l) in
      let b : T (fit_room lent.room) = search (and_r) in
      let c : T (sound x.reader) = search (and_r) in
      let d : T (leb x.receiver.count holds) = le→leb x.receiver.count holds l in
      ap (receive_as σ x piece lent) (passed_verdict _ (search (and_i) depth 6)) ∙ ap (handed x.receiver piece) (call_legal σ x.reader (run_of x.receiver piece) lent t u)

  pub receive_kinds : (P : Handed → Type 0) → ((k : ℕ) → P (declined (suc k) x lent.room))
      → (T (legal σ x.reader) → T (fit_lent (capacity x.reader.guarded) lent) → x.receiver.count ≤ holds → P (taken x piece lent)) → P (receive_of σ x piece lent)
  unfolding receive_of receive_as receive_refusal legal
  receive_kinds P f g = go (receive_refusal σ x lent) refl
    where
      go : (k : ℕ) → receive_refusal σ x lent ≡ k → P (receive_as σ x piece lent k)
      go zero e =
          let t = verdict_passed _ tt e in
          let a : T (fit_lengths σ x.reader.guarded) = search (and_l, and_r) in
          let χ : T (fit_chip (capacity x.reader.guarded) lent.chip) = search (and_l, and_r) in
          let m : T (fit_room lent.room) = search (and_l, and_r) in
          let b : T (fit_lent (capacity x.reader.guarded) lent) = and_i (fit_chip (capacity x.reader.guarded) lent.chip) (fit_room lent.room) χ m in
          let c : T (sound x.reader) = search (and_l, and_r) in
          let d : T (leb x.receiver.count holds) = search (and_l, and_r) in
          let k : T (legal σ x.reader) = and_i (fit_lengths σ x.reader.guarded) (sound x.reader) a c in
          rw (call_legal σ x.reader (run_of x.receiver piece) lent k b) (g k b (leb→le x.receiver.count holds d))
      go (suc k) e = f k

  -- a call that is not refused is carried out
  pub record Carried : Type 0 where
    pub legal : T (legal σ x.reader)
    pub roomy : T (fit_lent (capacity x.reader.guarded) lent)
    pub few : x.receiver.count ≤ holds
    pub does : receive_of σ x piece lent ≡ taken x piece lent

  pub accepted : (receive_of σ x piece lent).told.refusal ≡ 0 → Carried
  unfolding refused
  accepted =
      receive_kinds (λ (o : Handed). o.told.refusal ≡ 0 → Carried) (λ k e. absurd (omega arith))
      (λ t u l e. record { legal = t; roomy = u; few = l; does = receive_legal t u l })

-- ---- beside document 01's call on all held bytes

-- from what that call got back, by its refusal
abbrev pub handed_by : Line → List ℕ → Ended → ℕ → Handed
handed_by x piece e zero = handed x.receiver piece e
handed_by x piece e (suc k) = record { told = e.told; after = line e.after x.receiver }

-- from that call's refusal, where the count is above what the cells have: 3, behind all others
abbrev pub overfull : ℕ → ℕ
overfull zero = bad_setting
overfull (suc k) = suc k

module _ (σ : Shape) (x : Line) (piece : List ℕ) (lent : Lent) where
  pub receive_call : leb x.receiver.count holds ≡ true
      → receive_of σ x piece lent ≡ handed_by x piece (call_of σ x.reader (run_of x.receiver piece) lent) (call_of σ x.reader (run_of x.receiver piece) lent).told.refusal
  unfolding receive_of receive_refusal receive_as call_of call_as refusal_of carried refused verdict
  receive_call d = rw d (go (refusal_of σ x.reader lent) refl)
    where
      go : (k : ℕ) → refusal_of σ x.reader lent ≡ k
          → receive_as σ x piece lent k ≡ handed_by x piece (call_as x.reader (run_of x.receiver piece) lent k) (call_as x.reader (run_of x.receiver piece) lent k).told.refusal
      go zero e = ap (λ (k : ℕ). handed x.receiver piece (call_as x.reader (run_of x.receiver piece) lent k)) e
      go (suc k) e = refl

  pub receive_over : leb x.receiver.count holds ≡ false → receive_of σ x piece lent ≡ declined (overfull (refusal_of σ x.reader lent)) x lent.room
  unfolding receive_of receive_refusal receive_as refusal_of refused verdict
  receive_over d = rw d (go (fit_lengths σ x.reader.guarded) (fit_chip (capacity x.reader.guarded) lent.chip) (fit_room lent.room) (sound x.reader))
    where
      go : (a χ b c : Bool)
          → receive_as σ x piece lent (cond a (cond χ (cond b (cond c bad_setting bad_setting) bad_room) bad_length) bad_length)
          ≡ declined (overfull (cond a (cond χ (cond b (cond c 0 bad_setting) bad_room) bad_length) bad_length)) x lent.room
      go false χ b c = refl
      go true false b c = refl
      go true true false c = refl
      go true true true false = refl
      go true true true true = refl

-- a legal reader's only refusals are those of what is lent anew
pub refusal_legal : (σ : Shape) (r : Reader) (lent : Lent) → T (legal σ r)
    → refusal_of σ r lent ≡ cond (fit_chip (capacity r.guarded) lent.chip) (cond (fit_room lent.room) 0 bad_room) bad_length
unfolding refusal_of legal verdict
refusal_legal σ r lent t = simp (T→true (fit_lengths σ r.guarded) (search (and_l)), T→true (sound r) (search (and_r))) refl

-- ---- a receiver's line switch: refused with nothing changed, or the reader's, and nothing held

pub switch_tells : (r : Reader) → (switch_of r).told.refusal ≡ switch_refusal r.guarded
unfolding switch_of switch_as refused
switch_tells r = go (switch_refusal r.guarded)
  where
    go : (n : ℕ) → (switch_as r n).told.refusal ≡ n
    go zero = refl
    go (suc n) = refl

pub switch_kinds : (x : Line) (P : Handed → Type 0) → ((k : ℕ) → switch_refusal x.reader.guarded ≡ suc k → P (declined (suc k) x []))
    → (switch_refusal x.reader.guarded ≡ 0 → P record { told = (switch_of x.reader).told; after = line (switch_of x.reader).after (holding []) }) → P (line_switch_of x)
unfolding line_switch_of line_switch_as switch_of switch_as refused
switch_kinds x P f g = go (switch_refusal x.reader.guarded) f g
  where
    go : (n : ℕ) → ((k : ℕ) → n ≡ suc k → P (declined (suc k) x []))
        → (n ≡ 0 → P record { told = (switch_as x.reader n).told; after = line (switch_as x.reader n).after (holding []) })
        → P (line_switch_as x (switch_as x.reader n) (switch_as x.reader n).told.refusal)
    go zero f g = g refl
    go (suc n) f g = f n refl
