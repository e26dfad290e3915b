-- A call of the receiver by the reader's call that it makes, and its line switch by the reader's.
use mathlib.Core.Bool.{Bool, true, false, ◌&&◌, cond}
use mathlib.Core.Path.{◌≡◌, refl, sym, ap, ◌∙◌}
use mathlib.Core.Logic.{◌≢◌}
use mathlib.Core.List.{List, []}
use Prim.Native.Nat.{ℕ, zero, suc, ◌≤◌, ◌<◌}
use native.Mathlib.Omega.{arith}
use lib.Dec.{leb}
use lib.ListN.{length, take, drop, length-take}
use borrow.Author.Tests.{le-leb, lt-leb}
use Rattle.protocol.specs.declared.Settings.{Settings}
use Rattle.protocol.specs.declared.Receiver.{Receiver}
use Rattle.protocol.specs.declared.refusals.Refusal.{Refusal}
use Rattle.protocol.specs.declared.refusals.Refusal.TheVariants.{BadLength, BadRoom, BadSetting, BadContent}
use Rattle.protocol.specs.Codes.{refusal_number}
use Rattle.protocol.specs.Numbers.{holds, reply_room, bad_length, bad_room, bad_setting}
use Rattle.protocol.specs.Tests.{verdict}
use Rattle.protocol.specs.Reader.{Reader, capacity}
use Rattle.protocol.specs.Step.{step_of}
use Rattle.protocol.specs.Call.{Shape, shaped, fit_lengths, fit_chip, fit_room, sound, Lent, Told, Ended, refused, carried, call_of, switch_refusal, switch_as, switch_of}
use Rattle.protocol.specs.Receiver.{holding, Line, line, fitting, run_of, handed, declined, receive_refusal, receive_as, receive_of, line_switch_as, line_switch_of}
use Rattle.protocol.specs.Records.{reader_of, chip_of, lent_of, switched_of, switched_at, emptied_of, emptied_at}
use Rattle.protocol.proofs.Laws.Answers.{call_kinds}
use Rattle.protocol.proofs.Laws.Finder.{used_in}
use Rattle.protocol.proofs.Laws.Holding.{handed_by, receive_call}
use Rattle.receiver.specs.Full.{full_refusal}

-- a call uses no more than its run has
pub used_within : (σ : Shape) (r : Reader) (n : ℕ) (s : List ℕ) (lent : Lent) (e : Ended) → e ≡ call_of σ r (take n s) lent → e.told.used ≤ n
unfolding refused carried step_of
used_within σ r n s lent e q =
    let u : e.told.used ≤ length (take n s) = rw q (call_kinds σ r (take n s) lent (λ (y : Ended). y.told.used ≤ length (take n s)) (λ k. omega arith) (λ t v. used_in (take n s))) in
    omega (arith, length-take n s)

-- ---- a count above what a receiver holds: refused by the lengths alone

pub full : (v : ℕ) (h : Receiver) (r : Reader) (c o piece room : List ℕ) (k : ℕ) (fit : Bool)
    → holds < h.count → (fit_lengths (shaped v) r.guarded && fit_chip (capacity r.guarded) (chip_of c o)) ≡ fit → k ≡ full_refusal fit (length room)
    → declined k (line r h) room ≡ receive_of (shaped v) (line r h) piece (lent_of c o room)
unfolding full_refusal receive_of receive_as receive_refusal verdict fit_room refused
full v h r c o piece room k fit l f e =
    rw (e, ← f, lt-leb _ _ l) (go (fit_lengths (shaped v) r.guarded) (fit_chip (capacity r.guarded) (chip_of c o)) (leb reply_room (length room)) (sound r))
  where
    go : (f χ l w : Bool) → declined (cond (f && χ) (cond l bad_setting bad_room) bad_length) (line r h) room
        ≡ receive_as (shaped v) (line r h) piece (lent_of c o room) (cond f (cond χ (cond l (cond w bad_setting bad_setting) bad_room) bad_length) bad_length)
    go false χ l w = refl
    go true false l w = refl
    go true true false w = refl
    go true true true false = refl
    go true true true true = refl

-- no refusal is 0
pub refuses : (k : Refusal) → refusal_number k ≡ 0 → ⊥
refuses BadLength e = omega arith
refuses BadRoom e = omega arith
refuses BadSetting e = omega arith
refuses BadContent e = omega arith

-- ---- a count that it holds: the reader's call on all held bytes decides

module _ (σ : Shape) (x : Line) (piece : List ℕ) (lent : Lent) (few : x.receiver.count ≤ holds) (run : List ℕ) (w : run ≡ run_of x.receiver piece) (e : Ended) (q : e ≡ call_of σ x.reader run lent) where
  by_call : receive_of σ x piece lent ≡ handed_by x piece e e.told.refusal
  by_call =
      receive_call σ x piece lent (le-leb _ _ few)
      ∙ ap (λ (y : Ended). handed_by x piece y y.told.refusal) (sym (q ∙ ap (λ (s : List ℕ). call_of σ x.reader s lent) w))

  -- refused, it used and answered nothing
  unused : e.told.refusal ≢ 0 → e.told ≡ record { refusal = e.told.refusal; used = 0; length = 0; room = e.told.room }
  unfolding refused carried
  unused =
      rw q
      (call_kinds σ x.reader run lent (λ (y : Ended). y.told.refusal ≢ 0 → y.told ≡ record { refusal = y.told.refusal; used = 0; length = 0; room = y.told.room })
      (λ k d. refl) (λ t u d. absurd (d refl)))

  pub stops : e.told.refusal ≢ 0
      → record { told = record { refusal = e.told.refusal; used = 0; length = 0; room = e.told.room }; after = line e.after x.receiver } ≡ receive_of σ x piece lent
  stops z = sym (by_call ∙ go e.told.refusal z ∙ ap (λ (t : Told). record { told = t; after = line e.after x.receiver }) (unused z))
    where
      go : (k : ℕ) → k ≢ 0 → handed_by x piece e k ≡ record { told = e.told; after = line e.after x.receiver }
      go zero d = absurd (d refl)
      go (suc k) d = refl

  -- the receiver h holds what was not used
  pub goes : (taken : ℕ) (h : Receiver) → e.told.refusal ≡ 0 → taken ≡ length (fitting x.receiver piece) → h ≡ holding (drop e.told.used run)
      → record { told = record { refusal = 0; used = taken; length = e.told.length; room = e.told.room }; after = line e.after h } ≡ receive_of σ x piece lent
  unfolding handed
  goes taken h z n k = rw (n, k, w) (sym (by_call ∙ ap (handed_by x piece e) z))

-- ---- the line switch

module _ (h : Receiver) (s q : Settings) (b d b' d' : List ℕ) (k : ℕ) (e : (t i n : List ℕ) → switched_of (switched_at q k) t i n b' d' ≡ switch_of (reader_of s t i n b d)) where
  pub empties : (v : Receiver) → v ≡ holding [] → k ≡ 0
      → (t i n : List ℕ) → emptied_of (emptied_at record { settings = q; receiver = v } k) t i n b' d' ≡ line_switch_of (line (reader_of s t i n b d) h)
  unfolding line_switch_of line_switch_as
  empties v z p t i n = rw (← e t i n, p, z) (ap (λ (j : ℕ). record { told = record { refusal = j; used = 0; length = 0; room = [] }; after = line (reader_of q t i n b' d') (holding []) }) (sym p))

  pub leaves : (k ≡ 0 → ⊥) → (t i n : List ℕ) → emptied_of (emptied_at record { settings = q; receiver = h } k) t i n b' d' ≡ line_switch_of (line (reader_of s t i n b d) h)
  unfolding line_switch_of line_switch_as switch_of switch_as refused
  leaves m t i n = go (switch_refusal (reader_of s t i n b d).guarded) (e t i n)
    where
      x : Line
      x = line (reader_of s t i n b d) h

      go : (j : ℕ) → switched_of (switched_at q k) t i n b' d' ≡ switch_as x.reader j
          → emptied_of (emptied_at record { settings = q; receiver = h } k) t i n b' d' ≡ line_switch_as x (switch_as x.reader j) (switch_as x.reader j).told.refusal
      go zero f = absurd (m (ap (λ (y : Ended). y.told.refusal) f))
      go (suc j) f = ap (λ (y : Ended). record { told = y.told; after = line y.after h }) f
