-- What opens the lock: VfyPwd with the right password, and nothing else. So a dialogue of a locked reader goes through every event, or stops
-- at the first accepted password.
use mathlib.Core.Bool.{Bool, true, false, true≢false, ◌&&◌, cond}
use mathlib.Core.Path.{◌≡◌, refl, sym, ap, ◌∙◌, subst}
use mathlib.Core.Logic.{◌≢◌}
use mathlib.Core.List.{List, [], ◌∷◌, ◌++◌}
use Prim.Native.Nat.{ℕ}
use lib.Dec.{T}
use Rattle.protocol.specs.Numbers.{done, wrong_password}
use Rattle.protocol.specs.Bytes.{same}
use Rattle.protocol.specs.Reader.{Plain, Guarded, Reader, keyed, locked, with_mark, reader, capacity}
use Rattle.protocol.specs.Commands.{read_sys_para, verify_password, hand_shake, free, barred, damaged, unknown, misfit, command}
use Rattle.protocol.specs.Data.{acknowledge}
use Rattle.protocol.specs.Table.{Public, free_rule, public_of}
use Rattle.protocol.specs.Step.{Heard, nothing, order, piece, hear, carry_free, obey, heed, rested, answer, wiped}
use Rattle.protocol.specs.Call.{Shape, Lent, fit_lent, legal, Told, Ended, reply_of, call_of, switch_of, fit_chip, fit_room}
use Rattle.protocol.specs.Dialogue.{Event, received, switch, on, Dialogue, over, first, dialogue, kept}
use Rattle.protocol.proofs.Laws.Logic.{T→true, and_l, and_i}
use Rattle.protocol.proofs.Laws.Lists.{take_lay, same_eq, same_refl, same_no}
use Rattle.protocol.proofs.Promises.Words.Told.{Gives, answered}
use Rattle.protocol.proofs.Laws.Locked.{veiled, tells, turns, told_by, plain_by, shut_of, locked_call, plain_or, locked_switch, wiped_legal}

-- ---- VfyPwd and HandShake, locked or not

-- p and g: settings and contents of the reader once an open transfer has ended
module _ (σ : Shape) (r : Reader) (s : List ℕ) (lent : Lent) (f : T (legal σ r)) (u : T (fit_lent (capacity r.guarded) lent)) where
  abbrev p : Plain
  p = (rested r).plain

  abbrev g : Guarded
  g = (rested r).guarded

  -- the call gave a code alone, and left the settings with this mark and all else as it was
  abbrev pub Marks : ℕ → Bool → Type 0
  Marks code mark =
      Gives (acknowledge p.address code [])
      record {
        plain = record { password = p.password; address = p.address; level = p.level; size = p.size; baud = p.baud; sensor = p.sensor; verified = mark; transfer = p.transfer };
        guarded = g;
      }
      s lent (call_of σ r s lent)

  verified : (w : List ℕ) → hear r.plain.address s ≡ order (command (free (verify_password w))) → (b : Bool) → same w p.password ≡ b → Marks (cond b 0x00 0x13) b
  unfolding answer heed obey carry_free free_rule public_of with_mark
  verified w h b e = answered σ r s lent f u _ (rw (h, e) refl)

  -- equal: 00h, the mark set
  pub right_password : (w : List ℕ) → hear r.plain.address s ≡ order (command (free (verify_password w))) → w ≡ p.password → Marks 0x00 true
  right_password w h e = verified w h true (ap (λ (x : List ℕ). same x p.password) e ∙ same_refl p.password)

  -- not equal: 13h, the mark cleared
  pub wrong_password_lem : (w : List ℕ) → hear r.plain.address s ≡ order (command (free (verify_password w))) → w ≢ p.password → Marks 0x13 false
  wrong_password_lem w h d = verified w h false (same_no w p.password d)

  -- HandShake: 00h; nothing changes
  pub shakes_hands : hear r.plain.address s ≡ order (command (free hand_shake)) → Gives (acknowledge p.address 0x00 []) (rested r) s lent (call_of σ r s lent)
  unfolding answer heed obey carry_free free_rule public_of
  shakes_hands h = answered σ r s lent f u _ (rw h refl)

-- ---- nothing else opens a locked reader

-- the run asked for VfyPwd with the reader's password, and was answered 00h
pub record Accepted (r : Reader) (s : List ℕ) (e : Ended) : Type 0 where
  pub asked : hear r.plain.address s ≡ order (command (free (verify_password r.plain.password)))
  pub reply : reply_of e.told ≡ acknowledge r.plain.address 0x00 []

pub keyed_locked : (p : Plain) → T (locked p) → T (keyed p)
unfolding locked
keyed_locked p l = search (and_l)

-- a mark that opens keyed settings is set
opening : (p : Plain) (b : Bool) → T (keyed p) → locked (with_mark b p) ≡ false → b ≡ true
unfolding locked keyed with_mark
opening p true k e = refl
opening p false k e = absurd (true≢false (sym (T→true (keyed p && true) (and_i (keyed p) true k tt)) ∙ e))

pub unlocked_marked : (p : Plain) → p.verified ≡ true → locked p ≡ false
unfolding locked keyed
unlocked_marked p e = rw e (go (keyed p))
  where
    go : (b : Bool) → (b && false) ≡ false
    go true = refl
    go false = refl

module _ (σ : Shape) (r : Reader) (f : T (legal σ r)) (l : T (locked r.plain)) (s : List ℕ) (lent : Lent) where
  abbrev v : Public
  v = veiled r.plain (capacity r.guarded)

  -- the settings as they were do not open
  shut : {A : Type 0} → locked r.plain ≡ false → A
  shut e = absurd (true≢false (sym (T→true (locked r.plain) l) ∙ e))

  heard_right : (h : Heard) → locked (turns v h) ≡ false
      → (h ≡ order (command (free (verify_password r.plain.password)))) × (tells v h ≡ acknowledge r.plain.address done [])
  unfolding turns tells free_rule with_mark
  heard_right nothing e = shut e
  heard_right (order damaged) e = shut e
  heard_right (order unknown) e = shut e
  heard_right (order misfit) e = shut e
  heard_right (order (command (free read_sys_para))) e = shut e
  heard_right (order (command (free (verify_password w)))) e =
      let b : same w r.plain.password ≡ true = opening r.plain (same w r.plain.password) (keyed_locked r.plain l) e in
      (ap (λ (x : List ℕ). order (command (free (verify_password x)))) (same_eq w r.plain.password b), ap (λ (x : Bool). acknowledge r.plain.address (cond x done wrong_password) []) b)
  heard_right (order (command (free hand_shake))) e = shut e
  heard_right (order (command (barred c))) e = shut e
  heard_right (piece last right content) e = shut e

  pub opens_only : locked (call_of σ r s lent).after.plain ≡ false → Accepted r s (call_of σ r s lent)
  unfolding plain_by told_by reply_of
  opens_only = rw (locked_call σ r f l s lent) (go (fit_chip (capacity r.guarded) lent.chip) (fit_room lent.room) refl)
    where
      go : (a b : Bool) → fit_room lent.room ≡ b → locked (plain_by v s a lent.room) ≡ false
          → Accepted r s record { told = told_by v s a lent.room; after = reader (plain_by v s a lent.room) r.guarded }
      go true true q =
          rw q
          (λ e.
          let h = heard_right (hear r.plain.address s) e in
          record { asked = h.0; reply = take_lay (tells v (hear r.plain.address s)) lent.room ∙ h.1 })
      go true false q = rw q (λ e. shut e)
      go false b q = λ e. shut e

  -- a line switch opens nothing
  pub switch_opens_nothing : locked (switch_of r).after.plain ≡ true
  switch_opens_nothing = rw (locked_switch σ r f l) (T→true (locked r.plain) l)

-- ---- a dialogue

-- it goes through every event, settings as they were; or some events, and then the first accepted password
pub data Course (σ : Shape) (p : Plain) (g : Guarded) (es : List Event) (d : Dialogue) : Type 0 where
  through : d.events ≡ es → d.last ≡ reader p (kept g es) → Course σ p g es d
  stops : (before : List Event) (s : List ℕ) (lent : Lent) (rest : List Event) → es ≡ before ++ (received s lent ∷ rest)
      → d.events ≡ before ++ (received s lent ∷ []) → Accepted (reader p (kept g before)) s (call_of σ (reader p (kept g before)) s lent) → Course σ p g es d

module _ (σ : Shape) (p : Plain) (l : T (locked p)) where
  pub course : (es : List Event) (g : Guarded) → T (legal σ (reader p g)) → Course σ p g es (dialogue σ (reader p g) es)
  unfolding dialogue on over first kept
  course [] g f = through refl refl
  course (received s lent ∷ es) g f = go q.verified refl (course es g f)
    where
      fit : Bool
      fit = fit_chip (capacity g) lent.chip

      w : Public
      w = veiled p (capacity g)

      q : Plain
      q = plain_by w s fit lent.room

      e : call_of σ (reader p g) s lent ≡ record { told = told_by w s fit lent.room; after = reader q g }
      e = locked_call σ (reader p g) f l s lent

      d : Bool → Plain → Dialogue
      d b x = first (received s lent) (told_by w s fit lent.room) (cond b (over (reader x g)) (dialogue σ (reader x g) es))

      on_with : Course σ p g es (dialogue σ (reader p g) es) → Course σ p g (received s lent ∷ es) (d false p)
      on_with (through a b) = through (ap (λ (x : List Event). received s lent ∷ x) a) b
      on_with (stops before t y rest a b c) =
          stops (received s lent ∷ before) t y rest (ap (λ (x : List Event). received s lent ∷ x) a) (ap (λ (x : List Event). received s lent ∷ x) b) c

      go : (b : Bool) → q.verified ≡ b → Course σ p g es (dialogue σ (reader p g) es) → Course σ p g (received s lent ∷ es) (dialogue σ (reader p g) (received s lent ∷ es))
      go true v i =
          stops [] s lent es refl (rw (e, v) refl) (opens_only σ (reader p g) f l s lent (ap (λ (x : Ended). locked x.after.plain) e ∙ unlocked_marked q v))
      go false v i =
          let same_plain : q ≡ p = plain_or w (shut_of σ (reader p g) f l).unverified s fit lent.room v in
          let here : dialogue σ (reader p g) (received s lent ∷ es) ≡ d q.verified q = ap (λ (x : Ended). first (received s lent) x.told (cond x.after.plain.verified (over x.after) (dialogue σ x.after es))) e in
          subst (Course σ p g (received s lent ∷ es)) (sym (here ∙ ap (λ (b : Bool). d b q) v ∙ ap (d false) same_plain)) (on_with i)
  course (switch ∷ es) g f = subst (Course σ p g (switch ∷ es)) (sym (here ∙ ap d (shut_of σ (reader p g) f l).unverified)) (on_with (course es (wiped g) (wiped_legal σ (reader p g) f l)))
    where
      quiet : Told
      quiet = record { refusal = 0; used = 0; length = 0; room = [] }

      d : Bool → Dialogue
      d b = first switch quiet (cond b (over (reader p (wiped g))) (dialogue σ (reader p (wiped g)) es))

      here : dialogue σ (reader p g) (switch ∷ es) ≡ d p.verified
      here = ap (λ (x : Ended). first switch x.told (cond x.after.plain.verified (over x.after) (dialogue σ x.after es))) (locked_switch σ (reader p g) f l)

      on_with : Course σ p (wiped g) es (dialogue σ (reader p (wiped g)) es) → Course σ p g (switch ∷ es) (d false)
      on_with (through a b) = through (ap (λ (x : List Event). switch ∷ x) a) b
      on_with (stops before t y rest a b c) = stops (switch ∷ before) t y rest (ap (λ (x : List Event). switch ∷ x) a) (ap (λ (x : List Event). switch ∷ x) b) c
