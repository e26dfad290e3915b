-- Demand 1: "any settings". A mark of the settings record may be any byte, and its transfer any two numbers: a mark that is neither 0 nor 1, or numbers that
-- name no buffer, are not legal, so that refusals 1 and 2 come before them and 3 is their own (`call_refusals`, `receive_refusals`); refused, the very record
-- comes back; carried out, its marks are 0 and 1; and a line switch takes any byte and leaves 0. A contract says
-- `ended_of c .. ≡ call_of core (reader_of s ..) ..`, and so for the others: `q` is that.
use mathlib.Core.Path.{◌≡◌, refl, sym, ap, ◌∙◌, subst}
use mathlib.Core.Logic.{inl, inr, ◌≢◌}
use mathlib.Core.List.{List}
use Prim.Native.Nat.{ℕ, zero, suc, ◌≤◌}
use native.Mathlib.Omega.{arith}
use Rattle.protocol.specs.declared.Settings.{Settings}
use Rattle.protocol.specs.declared.Line.{Line}
use Rattle.protocol.specs.Reader.{Reader, with_mark, with_transfer, emptied}
use Rattle.protocol.specs.Step.{wiped, switched}
use Rattle.protocol.specs.Call.{core, Typed, Lent, Ended, refused, carried, call_of, switch_refusal, switch_as, switch_of}
use Rattle.protocol.specs.Dialogue.{received, on}
use Rattle.protocol.specs.Receiver as receivers
use Rattle.protocol.specs.Receiver.{Handed, handed, receive_of, line_switch_of}
use Rattle.protocol.specs.Records.{Called, Switched, Received, Emptied, marks_of, reader_of, line_of, ended_of, switched_of, received_of, emptied_of}
use Rattle.protocol.proofs.Laws.Answers.{call_stays, switch_stays}
use Rattle.protocol.proofs.Laws.Holding.{receive_kinds, switch_kinds}
use Rattle.protocol.proofs.Promises.Words.Words.{Marked}
use Rattle.protocol.proofs.Promises.Refusals.LegalMeans.{core_holds, Numbered, transfer_numbers, Settled, Means, legal_means, means_legal}
use Rattle.protocol.proofs.Promises.Refusals.Refused.{refuses_only}
use Rattle.protocol.proofs.Promises.Refusals.StaysLegal.{stays_legal}
use Rattle.protocol.proofs.Promises.Words.OneResult.{OneReader, one_reader, marks, bits, marked}

-- a record that is fit: each mark is 0 or 1, and the transfer's two numbers are 0 and 0, or buffer 1 or 2 and the bytes got so far
pub record FitRecord (s : Settings) : Type 0 where
  pub marks : Marked (marks_of s)
  pub which : s.transfer ≤ 2
  pub none : s.transfer ≡ 0 → s.got ≡ 0

-- ---- "3: a setting .. is not legal": so a record that is settled is fit, and any other is refused

pub settled_fit : (s : Settings) (t i n b d : List ℕ) → Settled (reader_of s t i n b d) → FitRecord s
settled_fit s t i n b d h =
    let r : Reader = reader_of s t i n b d in
    let m = (transfer_numbers r.plain r.guarded (marks_of s) s.transfer s.got).0 h.transfer in
    go m.0 m.1
  where
    go : Marked (marks_of s) → Numbered (reader_of s t i n b d).plain (reader_of s t i n b d).guarded s.transfer s.got → FitRecord s
    go m (inl (e, f)) = record { marks = m; which = omega (arith, e); none = λ z. f }
    go m (inr (inl (e, k))) = record { marks = m; which = omega (arith, e); none = λ z. absurd (omega (arith, e, z)) }
    go m (inr (inr (e, k))) = record { marks = m; which = omega (arith, e); none = λ z. absurd (omega (arith, e, z)) }

-- ---- "no byte changes": what a refused call returns is the record that it was given, whatever its bytes

module _ (s : Settings) (t i n b d t' i' n' b' d' : List ℕ) where
  pub call_returns : (c : Called) (run room : List ℕ) (lent : Lent) → (q : ended_of c t' i' n' b' d' room ≡ call_of core (reader_of s t i n b d) run lent) → c.refusal ≢ 0
      → OneReader c.settings s t' i' n' b' d' t i n b d
  call_returns c run room lent q f =
      one_reader c.settings s t' i' n' b' d' t i n b d
      (ap (λ (e : Ended). e.after) q ∙ call_stays core (reader_of s t i n b d) run lent (λ z. f (ap (λ (e : Ended). e.told.refusal) q ∙ z)))

  pub switch_returns : (c : Switched) → (q : switched_of c t' i' n' b' d' ≡ switch_of (reader_of s t i n b d)) → c.refusal ≢ 0
      → OneReader c.settings s t' i' n' b' d' t i n b d
  switch_returns c q f =
      one_reader c.settings s t' i' n' b' d' t i n b d
      (ap (λ (e : Ended). e.after) q ∙ switch_stays (reader_of s t i n b d) (λ z. f (ap (λ (e : Ended). e.told.refusal) q ∙ z)))

-- ---- and a call that is carried out leaves a record that is fit

pub call_fit : (s : Settings) (t i n b d t' i' n' b' d' : List ℕ) (c : Called) (run room : List ℕ) (lent : Lent) → Typed (reader_of s t i n b d)
    → (q : ended_of c t' i' n' b' d' room ≡ call_of core (reader_of s t i n b d) run lent) → c.refusal ≡ 0 → FitRecord c.settings
unfolding on
call_fit s t i n b d t' i' n' b' d' c run room lent y q z =
    let r : Reader = reader_of s t i n b d in
    let m : Means r = (refuses_only r run lent (sym (ap (λ (e : Ended). e.told.refusal) q) ∙ z)).0 in
    let l = stays_legal core core_holds r record { typed = y; legal = means_legal r m } (received run lent) in
    settled_fit c.settings t' i' n' b' d' (subst Settled (sym (ap (λ (e : Ended). e.after) q)) (legal_means (call_of core r run lent).after l.legal).settings)

-- ---- a line switch takes any byte, and leaves marks of 0

clear_of : (c : Settings) (r : Reader) (t i n b d : List ℕ) → reader_of c t i n b d ≡ switched r → marks_of c ≡ record { verified = 0; filled1 = 0; filled2 = 0; found = 0 }
unfolding switched wiped emptied with_transfer with_mark marks
clear_of c r t i n b d q =
    sym (marked (marks_of c) c.transfer c.got)
    ∙ ap (λ (x : Reader). marks x.plain.transfer (bits x.plain.verified x.guarded.buffer1.filled x.guarded.buffer2.filled x.guarded.found)) q

switched_at_lem : (r : Reader) (k : ℕ) → (switch_as r k).told.refusal ≡ 0 → (switch_as r k).after ≡ switched r
unfolding switch_as refused
switched_at_lem r zero z = refl
switched_at_lem r (suc k) z = absurd (omega (arith, z))

module _ (s : Settings) (t i n b d t' i' n' b' d' : List ℕ) where
  pub switch_clears : (c : Switched) → (q : switched_of c t' i' n' b' d' ≡ switch_of (reader_of s t i n b d)) → c.refusal ≡ 0
      → marks_of c.settings ≡ record { verified = 0; filled1 = 0; filled2 = 0; found = 0 }
  unfolding switch_of
  switch_clears c q z =
      clear_of c.settings (reader_of s t i n b d) t' i' n' b' d'
      (ap (λ (e : Ended). e.after) q
      ∙ switched_at_lem (reader_of s t i n b d) (switch_refusal (reader_of s t i n b d).guarded) (sym (ap (λ (e : Ended). e.told.refusal) q) ∙ z))

-- ---- the same of a line: its receiver comes back too

receive_stays : (x : receivers.Line) (piece : List ℕ) (lent : Lent) → (receive_of core x piece lent).told.refusal ≢ 0 → (receive_of core x piece lent).after ≡ x
unfolding handed carried
receive_stays x piece lent =
    receive_kinds core x piece lent (λ (e : Handed). e.told.refusal ≢ 0 → e.after ≡ x) (λ k d. refl) (λ t u l d. absurd (d refl))

empty_stays : (x : receivers.Line) → (line_switch_of x).told.refusal ≢ 0 → (line_switch_of x).after ≡ x
unfolding switch_of switch_as
empty_stays x = switch_kinds x (λ (e : Handed). e.told.refusal ≢ 0 → e.after ≡ x) (λ k e d. refl) (λ z d. absurd (d (rw z refl)))

module _ (x : Line) (t i n b d t' i' n' b' d' : List ℕ) where
  pub receive_returns : (c : Received) (piece room : List ℕ) (lent : Lent) → (q : received_of c t' i' n' b' d' room ≡ receive_of core (line_of x t i n b d) piece lent) → c.refusal ≢ 0
      → OneReader c.line.settings x.settings t' i' n' b' d' t i n b d × (c.line.receiver ≡ x.receiver)
  receive_returns c piece room lent q f =
      let e = ap (λ (o : Handed). o.after) q ∙ receive_stays (line_of x t i n b d) piece lent (λ z. f (ap (λ (o : Handed). o.told.refusal) q ∙ z)) in
      (one_reader c.line.settings x.settings t' i' n' b' d' t i n b d (ap (λ (y : receivers.Line). y.reader) e), ap (λ (y : receivers.Line). y.receiver) e)

  pub empty_returns : (c : Emptied) → (q : emptied_of c t' i' n' b' d' ≡ line_switch_of (line_of x t i n b d)) → c.refusal ≢ 0
      → OneReader c.line.settings x.settings t' i' n' b' d' t i n b d × (c.line.receiver ≡ x.receiver)
  empty_returns c q f =
      let e = ap (λ (o : Handed). o.after) q ∙ empty_stays (line_of x t i n b d) (λ z. f (ap (λ (o : Handed). o.told.refusal) q ∙ z)) in
      (one_reader c.line.settings x.settings t' i' n' b' d' t i n b d (ap (λ (y : receivers.Line). y.reader) e), ap (λ (y : receivers.Line). y.receiver) e)
