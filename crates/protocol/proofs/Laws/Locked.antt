-- A legal locked reader: what it answers, and the settings after it, go by what is public alone; its guarded contents stay.
use mathlib.Core.Bool.{Bool, true, false, ◌&&◌, not, cond}
use mathlib.Core.Path.{◌≡◌, refl, sym, ap, ap₂, ◌∙◌}
use mathlib.Core.List.{List, []}
use Prim.Native.Nat.{ℕ}
use lib.Dec.{T, T_not}
use lib.ListN.{length}
use Rattle.protocol.specs.Numbers.{bad_packet, unknown_command, password_first, bad_length, bad_room}
use Rattle.protocol.specs.Bytes.{lay}
use Rattle.protocol.specs.Finder.{find_of, used_of}
use Rattle.protocol.specs.Reader.{Transfer, closed, opened, unfit, Plain, Guarded, Reader, capacity, keyed, locked, with_mark, with_transfer, reader, emptied}
use Rattle.protocol.specs.Commands.{read_sys_para, verify_password, hand_shake, free, barred, damaged, unknown, misfit, command}
use Rattle.protocol.specs.Data.{acknowledge}
use Rattle.protocol.specs.Search.{Chip}
use Rattle.protocol.specs.Table.{rule, Public, free_rule, public_of}
use Rattle.protocol.specs.Step.{Heard, nothing, order, piece, hear, Said, silence, says, carry, carry_free, obey, heed, ended, rested, take_in, answer, step_of, wiped, switched}
use Rattle.protocol.specs.Call.{Shape, Lent, fit_buffers, fit_chip, fit_room, fit_transfer, fit_origin, fit_origins, fit_library, fit_lengths, sound, legal, Told, Ended, refused, carried, call_of, switch_refusal, switch_as, switch_of}
use Rattle.protocol.proofs.Laws.Logic.{T→true, T→false, and_l, and_r, and_i}
use Rattle.protocol.proofs.Laws.Answers.{call_legal, call_unfit, call_short}
use Rattle.protocol.proofs.Laws.Legal.{fit_closed}

-- ---- by what is public

-- of a locked reader of c pages: status bit 1 does not show
abbrev pub veiled : Plain → ℕ → Public
veiled p c = record { plain = p; capacity = c; shown = false }

unfoldable pub tells : Public → Heard → List ℕ
tells v nothing = []
tells v (order damaged) = acknowledge v.plain.address bad_packet []
tells v (order unknown) = acknowledge v.plain.address unknown_command []
tells v (order misfit) = acknowledge v.plain.address bad_packet []
tells v (order (command (free c))) = let w = free_rule v c in acknowledge w.plain.address w.code w.bytes
tells v (order (command (barred c))) = acknowledge v.plain.address password_first []
tells v (piece last right content) = []

unfoldable pub turns : Public → Heard → Plain
turns v nothing = v.plain
turns v (order damaged) = v.plain
turns v (order unknown) = v.plain
turns v (order misfit) = v.plain
turns v (order (command (free c))) = (free_rule v c).plain
turns v (order (command (barred c))) = v.plain
turns v (piece last right content) = v.plain

-- what a call gets back, and the settings after it: of scores and thresholds, by whether their lengths are fit
unfoldable pub told_by : Public → List ℕ → Bool → List ℕ → Told
told_by v s fit room =
    let reply = tells v (hear v.plain.address s) in
    cond fit
    (cond (fit_room room) record { refusal = 0; used = used_of (find_of s); length = length reply; room = lay 0 reply room }
    record { refusal = bad_room; used = 0; length = 0; room = room })
    record { refusal = bad_length; used = 0; length = 0; room = room }

unfoldable pub plain_by : Public → List ℕ → Bool → List ℕ → Plain
plain_by v s fit room = cond (fit && fit_room room) (turns v (hear v.plain.address s)) v.plain

-- ---- a locked reader with no transfer

pub record Shut (p : Plain) : Type 0 where
  pub locks : locked p ≡ true
  pub unverified : p.verified ≡ false
  pub still : p.transfer ≡ closed

pub rested_still : (r : Reader) → r.plain.transfer ≡ closed → rested r ≡ r
unfolding rested ended
rested_still r z = ap (ended r) z

-- what is public of it
pub veils : (r : Reader) → Shut r.plain → public_of r ≡ veiled r.plain (capacity r.guarded)
unfolding public_of locked
veils r k = let a = k.locks in let b = k.unverified in cc

shut_answer : (χ : Chip) (r : Reader) → Shut r.plain → (h : Heard)
    → answer χ r h ≡ record { reply = tells (veiled r.plain (capacity r.guarded)) h; after = reader (turns (veiled r.plain (capacity r.guarded)) h) r.guarded }
unfolding answer heed obey silence says carry_free take_in tells turns public_of
shut_answer χ r k nothing = refl
shut_answer χ r k (order damaged) = ap (λ (x : Reader). heed χ x damaged) (rested_still r k.still)
shut_answer χ r k (order unknown) = ap (λ (x : Reader). heed χ x unknown) (rested_still r k.still)
shut_answer χ r k (order misfit) = ap (λ (x : Reader). heed χ x misfit) (rested_still r k.still)
shut_answer χ r k (order (command (free c))) =
    ap (λ (x : Reader). heed χ x (command (free c))) (rested_still r k.still)
    ∙ ap (λ (v : Public). carry_free r (free_rule v c)) (veils r k)
shut_answer χ r k (order (command (barred c))) =
    ap (λ (x : Reader). heed χ x (command (barred c))) (rested_still r k.still) ∙ ap (λ (b : Bool). cond b (says r password_first) (carry r (rule χ r c))) k.locks
shut_answer χ r k (piece last right content) = ap (take_in r last right content) k.still

still_locked : (p : Plain) (g : Guarded) (t : Transfer) → T (locked p) → T (fit_transfer p g t) → t ≡ closed
unfolding fit_transfer
still_locked p g closed l f = refl
still_locked p g (unfit b k m) l f = absurd f
still_locked p g (opened w got) l f = absurd (T_not (locked p) (search (and_r)) l)

pub shut_of : (σ : Shape) (r : Reader) → T (legal σ r) → T (locked r.plain) → Shut r.plain
unfolding legal sound locked
shut_of σ r f l =
    record {
      locks = T→true (locked r.plain) l;
      unverified = T→false r.plain.verified (and_r (keyed r.plain) (not r.plain.verified) l);
      still = still_locked r.plain r.guarded r.plain.transfer l (search (and_l, and_r));
    }

-- ---- a call

pub locked_call : (σ : Shape) (r : Reader) → T (legal σ r) → T (locked r.plain) → (s : List ℕ) (lent : Lent)
    → call_of σ r s lent
    ≡ record {
      told = told_by (veiled r.plain (capacity r.guarded)) s (fit_chip (capacity r.guarded) lent.chip) lent.room;
      after = reader (plain_by (veiled r.plain (capacity r.guarded)) s (fit_chip (capacity r.guarded) lent.chip) lent.room) r.guarded;
    }
unfolding told_by plain_by carried refused step_of
locked_call σ r f l s lent = go (fit_chip (capacity r.guarded) lent.chip) (fit_room lent.room) refl refl
  where
    v : Public
    v = veiled r.plain (capacity r.guarded)

    out : Said → Ended
    out a = carried record { used = used_of (find_of s); reply = a.reply; after = a.after } lent.room

    go : (a b : Bool) → fit_chip (capacity r.guarded) lent.chip ≡ a → fit_room lent.room ≡ b
        → call_of σ r s lent ≡ record { told = told_by v s a lent.room; after = reader (plain_by v s a lent.room) r.guarded }
    go true true d e = rw e (call_legal σ r s lent f (rw (d, e) tt) ∙ ap out (shut_answer lent.chip r (shut_of σ r f l) (hear r.plain.address s)))
    go true false d e = rw e (call_short σ r s lent f (rw d tt) e)
    go false b d e = call_unfit σ r s lent f d

-- the settings stay, but for a right password
pub turns_or : (v : Public) → v.plain.verified ≡ false → (h : Heard) → (turns v h).verified ≡ false → turns v h ≡ v.plain
unfolding turns free_rule with_mark
turns_or v e nothing z = refl
turns_or v e (order damaged) z = refl
turns_or v e (order unknown) z = refl
turns_or v e (order misfit) z = refl
turns_or v e (order (command (free read_sys_para))) z = cc
turns_or v e (order (command (free (verify_password w)))) z = ap (λ (b : Bool). with_mark b v.plain) (z ∙ sym e)
turns_or v e (order (command (free hand_shake))) z = refl
turns_or v e (order (command (barred c))) z = refl
turns_or v e (piece last right content) z = refl

pub plain_or : (v : Public) → v.plain.verified ≡ false → (s : List ℕ) (fit : Bool) (room : List ℕ) → (plain_by v s fit room).verified ≡ false → plain_by v s fit room ≡ v.plain
unfolding plain_by
plain_or v e s fit room = go (fit && fit_room room)
  where
    go : (b : Bool) → (cond b (turns v (hear v.plain.address s)) v.plain).verified ≡ false → cond b (turns v (hear v.plain.address s)) v.plain ≡ v.plain
    go true z = turns_or v e (hear v.plain.address s) z
    go false z = refl

-- ---- a line switch

pub locked_switch : (σ : Shape) (r : Reader) → T (legal σ r) → T (locked r.plain)
    → switch_of r ≡ record { told = record { refusal = 0; used = 0; length = 0; room = [] }; after = reader r.plain (wiped r.guarded) }
unfolding switch_of switch_as switch_refusal switched with_mark with_transfer legal fit_lengths Rattle.protocol.specs.Tests.verdict
locked_switch σ r f l =
    let b : T (fit_buffers r.guarded) = search (and_l, and_r) in
    let k : Shut r.plain = shut_of σ r f l in
    rw (T→true (fit_buffers r.guarded) b)
    (ap₂ (λ (v : Bool) (t : Transfer). record { told = record { refusal = 0; used = 0; length = 0; room = [] }; after = reader (with_transfer t (with_mark v r.plain)) (wiped r.guarded) })
    (sym k.unverified) (sym k.still))

fit_wiped : (g : Guarded) → T (fit_buffers (wiped g))
unfolding fit_buffers wiped emptied
fit_wiped g = tt

wiped_origins : (g : Guarded) → T (fit_origins (wiped g))
unfolding fit_origins fit_origin wiped emptied
wiped_origins g = tt

pub wiped_legal : (σ : Shape) (r : Reader) → T (legal σ r) → T (locked r.plain) → T (legal σ (reader r.plain (wiped r.guarded)))
unfolding legal sound fit_lengths fit_library wiped capacity
wiped_legal σ r f l =
    let m = fit_closed r.plain (wiped r.guarded) r.plain.transfer (shut_of σ r f l).still in
    let w = fit_wiped r.guarded in
    let o = wiped_origins r.guarded in
    search (and_i, and_l, and_r) depth 9
