-- The one principle of a call: refused, or an answer of five kinds. What holds of each kind holds of every answer.
use mathlib.Core.Bool.{Bool, true, false, cond}
use mathlib.Core.Path.{◌≡◌, refl, ap, ◌∙◌, subst}
use mathlib.Core.Logic.{◌≢◌}
use mathlib.Core.List.{List}
use Prim.Native.Nat.{ℕ, zero, suc, ◌-◌}
use lib.Dec.{T}
use Rattle.protocol.specs.Numbers.{bad_length, bad_room, bad_packet, transfer_failed, unknown_command, password_first}
use Rattle.protocol.specs.Tests.{verdict}
use Rattle.protocol.specs.Reader.{Transfer, closed, opened, unfit, Reader, capacity, keyed, locked, with_transfer, with_buffer}
use Rattle.protocol.specs.Commands.{Free, Barred, free, barred, damaged, unknown, misfit, command}
use Rattle.protocol.specs.Search.{Chip}
use Rattle.protocol.specs.Table.{rule, free_rule, public_of}
use Rattle.protocol.specs.Step.{Heard, nothing, order, piece, hear, Said, silence, says, carry_as, carry, carry_free, obey, heed, ended, rested, fits, take_as, take_in, answer, step_of}
use Rattle.protocol.specs.Call.{Shape, Lent, fit_lengths, fit_chip, fit_room, fit_lent, sound, legal, Ended, refusal_of, refused, carried, call_as, call_of, switch_refusal, switch_as, switch_of}
use Rattle.protocol.proofs.Laws.Logic.{T→true, and_l, and_r, and_i, passed, verdict_passed, passed_verdict}
use Rattle.protocol.proofs.Laws.Commands.{tests_numbered}

-- ---- a reader whose transfer is ended keeps its library, its notepad, its status bit 1, its address, its size code and its lock

pub record Spared (r t : Reader) : Type 0 where
  pub index : t.guarded.index ≡ r.guarded.index
  pub templates : t.guarded.templates ≡ r.guarded.templates
  pub notepad : t.guarded.notepad ≡ r.guarded.notepad
  pub found : t.guarded.found ≡ r.guarded.found
  pub address : t.plain.address ≡ r.plain.address
  pub size : t.plain.size ≡ r.plain.size
  pub lock : locked t.plain ≡ locked r.plain

pub spared : (r : Reader) → Spared r (rested r)
unfolding rested ended with_transfer with_buffer locked keyed
spared r = go r.plain.transfer
  where
    go : (t : Transfer) → Spared r (ended r t)
    go closed = record { index = refl; templates = refl; notepad = refl; found = refl; address = refl; size = refl; lock = refl }
    go (opened w got) = record { index = refl; templates = refl; notepad = refl; found = refl; address = refl; size = refl; lock = refl }
    go (unfit b k m) = record { index = refl; templates = refl; notepad = refl; found = refl; address = refl; size = refl; lock = refl }

-- ---- an answer, by its kind

-- what is shown of each kind of answer that the reader r can give to what it heard
pub record Kinds (P : Said → Type 0) (χ : Chip) (r : Reader) (h : Heard) : Type 0 where
  -- silence; nothing changes
  pub silent : P (silence r)
  -- a code other than 00h, once an open transfer has ended
  pub refuses : (k : ℕ) → P (says (rested r) (suc k))
  -- a command that the lock lets pass
  pub frees : (c : Free) → h ≡ order (command (free c)) → P (carry_free (rested r) (free_rule (public_of (rested r)) c))
  -- a data packet that goes in
  pub takes : (w last right : Bool) (got : ℕ) (content : List ℕ) → r.plain.transfer ≡ opened w got → h ≡ piece last right content
      → T (fits r.plain got last right content) → P (take_as r w got content true last)
  -- any other command, not locked and its tests passed
  pub does : (c : Barred) → h ≡ order (command (barred c)) → locked (rested r).plain ≡ false → T (passed (rule χ (rested r) c).tests)
      → P (carry_as (rested r) (rule χ (rested r) c) zero)

module _ (P : Said → Type 0) (χ : Chip) (r : Reader) where
  take_kinds : (last right : Bool) (content : List ℕ) → Kinds P χ r (piece last right content)
      → (t : Transfer) → r.plain.transfer ≡ t → P (take_in r last right content t)
  unfolding take_in take_as rested
  take_kinds last right content k closed e = k.silent
  take_kinds last right content k (unfit b j m) e = k.silent
  take_kinds last right content k (opened w got) e = go (fits r.plain got last right content) refl
    where
      go : (b : Bool) → fits r.plain got last right content ≡ b → P (take_as r w got content b last)
      go true q = k.takes w last right got content e refl (rw q tt)
      go false q = subst (λ (t : Transfer). P (says (ended r t) transfer_failed)) e (k.refuses (transfer_failed - 1))

  row_kinds : (c : Barred) → Kinds P χ r (order (command (barred c))) → locked (rested r).plain ≡ false → P (carry (rested r) (rule χ (rested r) c))
  unfolding carry carry_as
  row_kinds c k f = go (verdict (rule χ (rested r) c).tests) refl
    where
      go : (n : ℕ) → verdict (rule χ (rested r) c).tests ≡ n → P (carry_as (rested r) (rule χ (rested r) c) n)
      go zero e = k.does c refl f (verdict_passed (rule χ (rested r) c).tests (tests_numbered χ (rested r) c) e)
      go (suc n) e = k.refuses n

  pub answer_kinds : (h : Heard) → Kinds P χ r h → P (answer χ r h)
  unfolding answer heed obey
  answer_kinds nothing k = k.silent
  answer_kinds (order damaged) k = k.refuses (bad_packet - 1)
  answer_kinds (order unknown) k = k.refuses (unknown_command - 1)
  answer_kinds (order misfit) k = k.refuses (bad_packet - 1)
  answer_kinds (order (command (free c))) k = k.frees c refl
  answer_kinds (order (command (barred c))) k = go (locked (rested r).plain) refl
    where
      go : (b : Bool) → locked (rested r).plain ≡ b → P (cond b (says (rested r) password_first) (carry (rested r) (rule χ (rested r) c)))
      go true e = k.refuses (password_first - 1)
      go false e = row_kinds c k e
  answer_kinds (piece last right content) k = take_kinds last right content k r.plain.transfer refl

-- ---- a command of a reader that is not locked: its row is carried out, by the verdict of its tests

pub row_answer : (χ : Chip) (r : Reader) (s : List ℕ) → locked r.plain ≡ false → (c : Barred) → hear r.plain.address s ≡ order (command (barred c)) → (k : ℕ)
    → verdict (rule χ (rested r) c).tests ≡ k → answer χ r (hear r.plain.address s) ≡ carry_as (rested r) (rule χ (rested r) c) k
unfolding answer heed obey carry
row_answer χ r s l c h k v = rw (h, (spared r).lock ∙ l, v) refl

pub obeys : (χ : Chip) (r : Reader) (s : List ℕ) → locked r.plain ≡ false → (c : Barred) → hear r.plain.address s ≡ order (command (barred c))
    → T (passed (rule χ (rested r) c).tests) → answer χ r (hear r.plain.address s) ≡ carry_as (rested r) (rule χ (rested r) c) zero
obeys χ r s l c h p = row_answer χ r s l c h zero (passed_verdict (rule χ (rested r) c).tests p)

-- ---- a call: refused with nothing changed, or a legal reader's step with what is lent anew fit

module _ (σ : Shape) (r : Reader) (s : List ℕ) (lent : Lent) where
  pub call_kinds : (P : Ended → Type 0) → ((k : ℕ) → P (refused (suc k) r lent.room))
      → (T (legal σ r) → T (fit_lent (capacity r.guarded) lent) → P (carried (step_of lent.chip r s) lent.room)) → P (call_of σ r s lent)
  unfolding call_of call_as refusal_of legal
  call_kinds P f g = go (refusal_of σ r lent) refl
    where
      go : (k : ℕ) → refusal_of σ r lent ≡ k → P (call_as r s lent k)
      go zero e =
          let t = verdict_passed _ tt e in
          let a : T (fit_lengths σ r.guarded) = search (and_l) in
          let χ : T (fit_chip (capacity r.guarded) lent.chip) = search (and_l, and_r) in
          let b : T (fit_room lent.room) = search (and_l, and_r) in
          let c : T (sound r) = search (and_l, and_r) in
          g (and_i (fit_lengths σ r.guarded) (sound r) a c) (and_i (fit_chip (capacity r.guarded) lent.chip) (fit_room lent.room) χ b)
      go (suc k) e = f k

  -- a legal reader gets no refusal where what is lent anew is fit
  pub call_legal : T (legal σ r) → T (fit_lent (capacity r.guarded) lent) → call_of σ r s lent ≡ carried (step_of lent.chip r s) lent.room
  unfolding call_of call_as refusal_of legal
  call_legal t u =
      let a : T (fit_lengths σ r.guarded) = search (and_l) in
      let χ : T (fit_chip (capacity r.guarded) lent.chip) = search (and_l) in
      let b : T (fit_room lent.room) = search (and_r) in
      let c : T (sound r) = search (and_r) in
      ap (call_as r s lent) (passed_verdict _ (search (and_i)))

  -- with scores or thresholds of another length, refusal 1
  pub call_unfit : T (legal σ r) → fit_chip (capacity r.guarded) lent.chip ≡ false → call_of σ r s lent ≡ refused bad_length r lent.room
  unfolding call_of call_as refusal_of legal verdict
  call_unfit t u = simp (T→true (fit_lengths σ r.guarded) (search (and_l)), u) refl

  -- and with a short reply room, refusal 2
  pub call_short : T (legal σ r) → T (fit_chip (capacity r.guarded) lent.chip) → fit_room lent.room ≡ false → call_of σ r s lent ≡ refused bad_room r lent.room
  unfolding call_of call_as refusal_of legal verdict
  call_short t χ u =
      simp (T→true (fit_lengths σ r.guarded) (search (and_l)), T→true (fit_chip (capacity r.guarded) lent.chip) χ, T→true (sound r) (search (and_r)), u) refl

  -- a refused call leaves the reader as it was
  pub call_stays : (call_of σ r s lent).told.refusal ≢ 0 → (call_of σ r s lent).after ≡ r
  unfolding refused carried
  call_stays = call_kinds (λ (e : Ended). e.told.refusal ≢ 0 → e.after ≡ r) (λ n d. refl) (λ t u d. absurd (d refl))

-- and so does a refused line switch
pub switch_stays : (r : Reader) → (switch_of r).told.refusal ≢ 0 → (switch_of r).after ≡ r
unfolding switch_of switch_as refused
switch_stays r = go (switch_refusal r.guarded)
  where
    go : (n : ℕ) → (switch_as r n).told.refusal ≢ 0 → (switch_as r n).after ≡ r
    go zero d = absurd (d refl)
    go (suc n) d = refl
