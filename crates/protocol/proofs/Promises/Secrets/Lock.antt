-- Demand 3. "Take a legal reader, password not zero, no transfer open, and its copy with only the verified mark changed. On any received
-- run, the locked one answers 21h and changes nothing, or both answer the same bytes and end alike but for that mark. Further, two legal
-- locked readers of equal capacity and, but for the filled marks, equal settings, whose templates, index, notepad, buffers and filled marks
-- differ at will, answer any sequence of runs alike, line switches among them, up to and including the first accepted password. Until then
-- these contents stay as they were, save that a line switch wipes the two buffers and clears their filled marks." Request [7]: the origin is "guarded in demand 3,
-- but for the line switch", so the two may differ in their buffers' origins too, which stay as well, save that a line switch makes them none (Switch).
-- Request [8]: status bit 1, "the scores and the thresholds are guarded contents in demand 3, but for the line switch", so the two may differ in that bit and be lent
-- other scores and thresholds at every call; "that they stay as they were means that no call writes them", and the bit stays, save that a line switch clears it.
-- Request [13]: "ReadSysPara becomes open while locked. Its status word tells whether the mark is set, so demand 3's first half now reads: the same bytes, except
-- status bits 1 and 2 and the check sum of that reply. Status bit 1 from [8] shows as 0 while locked, so that the second half stays true."
use mathlib.Core.Bool.{Bool, true, false, true≢false, cond}
use mathlib.Core.Path.{◌≡◌, refl, sym, ap, ◌∙◌, subst}
use mathlib.Core.Logic.{◌⊎◌, inl, inr, ◌≢◌, ◌↔◌}
use mathlib.Core.List.{List, [], ◌∷◌, ◌++◌}
use Prim.Native.Nat.{ℕ, ◌+◌, ◌/◌, ◌%◌, ◌≤◌, ◌<◌}
use native.Mathlib.Omega.{arith}
use native.Mathlib.Decide.{dec_lt}
use lib.Dec.{T, eqb, lit<, leb→le, eqb→eq}
use borrow.Author.Tests.{ne_eqb, eqb-false}
use lib.ListN.{length, drop, get_or, length-append}
use Rattle.protocol.specs.Numbers.{reply_room}
use Rattle.protocol.specs.Bytes.{two, lay, joined}
use Rattle.protocol.specs.Packet.{length_of, sum_of, packet}
use Rattle.protocol.specs.Finder.{find_of, used_of}
use Rattle.protocol.specs.Reader.{closed, Plain, Guarded, Reader, capacity, keyed, locked, with_mark, reader}
use Rattle.protocol.specs.Search.{Chip}
use Rattle.protocol.specs.Commands.{read_sys_para, verify_password, hand_shake, free, barred, Order, damaged, unknown, misfit, command}
use Rattle.protocol.specs.Data.{acknowledge}
use Rattle.protocol.specs.Table.{status_of, parameters_of, free_rule, public_of, Public}
use Rattle.protocol.specs.Step.{Heard, nothing, order, piece, hear, Said, silence, says, carry_free, obey, heed, ended, rested, take_in, answer, step_of, wiped}
use Rattle.protocol.specs.Call.{Shape, Lent, fit_lent, fit_plain, sound, legal, Told, Ended, reply_of, refused, carried, call_of, chip_fits, fit_chip, fit_room}
use Rattle.protocol.specs.Dialogue.{Event, received, switch, on, Dialogue, over, first, dialogue, kept, Paired}
use Rattle.protocol.proofs.Laws.Logic.{T→true, and_l, and_r, and_i, and_false}
use Rattle.protocol.proofs.Laws.Lists.{by_four, length_lay, at_inside, at_behind, but_one, take_lay}
use Rattle.protocol.proofs.Laws.Answers.{call_legal, call_unfit, call_short}
use Rattle.protocol.proofs.Laws.Legal.{fit_closed}
use Rattle.protocol.proofs.Laws.Locked.{veiled, told_by, plain_by, shut_of, locked_call, plain_or, locked_switch, wiped_legal}
use Rattle.protocol.proofs.Promises.Commands.Parameters.{AsksParameters, asks_parameters, four_bytes_lem}

-- ---- the first half

-- the reader with its verified mark b, all else as it was
abbrev pub mark : Bool → Reader → Reader
mark b r =
    let p = r.plain in
    record {
      plain = record { password = p.password; address = p.address; level = p.level; size = p.size; baud = p.baud; sensor = p.sensor; verified = b; transfer = p.transfer };
      guarded = r.guarded;
    }

-- the call answered 21h and changed nothing but the front of the reply room
pub record Bars (r : Reader) (lent : Lent) (e : Ended) : Type 0 where
  pub reply : reply_of e.told ≡ acknowledge r.plain.address 0x21 []
  pub room : e.told.room ≡ lay 0 (acknowledge r.plain.address 0x21 []) lent.room
  pub after : e.after ≡ r

-- both replies are 28 bytes long; and every byte of the reply rooms is the same, but for byte 11, the status word's low byte, which is the same in bit 0 and in bits
-- 3 to 7, and for bytes 26 and 27, the check sum
pub record ButStatus (l u : Told) : Type 0 where
  pub long_one : l.length ≡ 28
  pub long_other : u.length ≡ 28
  pub wide : length l.room ≡ length u.room
  pub bytes : (i : ℕ) → i ≢ 11 → i ≢ 26 → i ≢ 27 → get_or l.room i 0 ≡ get_or u.room i 0
  pub bit_0 : get_or l.room 11 0 % 2 ≡ get_or u.room 11 0 % 2
  pub bits_3_to_7 : get_or l.room 11 0 / 8 ≡ get_or u.room 11 0 / 8

-- both calls got back the same, but for that status and sum where the run asks for ReadSysPara; and end alike but for the mark
pub record Alike (a s : List ℕ) (l u : Ended) : Type 0 where
  pub told : (l.told ≡ u.told) ⊎ (AsksParameters a s × ButStatus l.told u.told)
  pub after : (b : Bool) → mark b l.after ≡ mark b u.after

-- the locked reader's call l on the run s beside its verified copy's u
pub record FirstHalf (r : Reader) (s : List ℕ) (lent : Lent) (l u : Ended) : Type 0 where
  pub refusal : l.told.refusal ≡ u.told.refusal
  pub used : l.told.used ≡ u.told.used
  pub answers : Bars r lent l ⊎ Alike r.plain.address s l u

-- ---- its proof

-- two replies with the status words 0 and y, laid in the room
module _ (y : ℕ) (even : 0 ≡ y % 2) (small : 0 ≡ y / 8) (rest : List ℕ) (long : length rest ≡ 14) (room : List ℕ) (wide : 28 ≤ length room) (used : ℕ) where
  abbrev laid : List ℕ → Told
  laid reply = record { refusal = 0; used = used; length = length reply; room = lay 0 reply room }

  -- of an address of these four bytes: what is before the status word's low byte, and the reply where that byte is x
  module _ (i j k l : ℕ) where
    abbrev head : List ℕ
    head = let n = length_of (0 ∷ 0 ∷ 0 ∷ rest) in 0xef ∷ 0x01 ∷ i ∷ j ∷ k ∷ l ∷ 0x07 ∷ (n / 256 % 256) ∷ (n % 256) ∷ 0x00 ∷ 0x00 ∷ []

    abbrev reply : ℕ → List ℕ
    reply x = head ++ (x ∷ (rest ++ two (sum_of 7 (0 ∷ 0 ∷ x ∷ rest))))

    reply_long : (x : ℕ) → length (reply x) ≡ 28
    unfolding two
    reply_long x = simp length-append (omega arith)

    fits : (x : ℕ) → 0 + length (reply x) ≤ length room
    fits x = omega (arith, reply_long x)

    inside : (x b : ℕ) → b < 28 → get_or (lay 0 (reply x) room) b 0 ≡ get_or (reply x) b 0
    inside x b h =
        let e : b ≡ 0 + b = omega arith in
        ap (λ (n : ℕ). get_or (lay 0 (reply x) room) n 0) e ∙ at_inside 0 (reply x) room (fits x) b (omega (arith, reply_long x))

    outside : (x b : ℕ) → 28 ≤ b → get_or (lay 0 (reply x) room) b 0 ≡ get_or room b 0
    outside x b h = at_behind 0 (reply x) room (fits x) b (omega (arith, reply_long x))

    laid_status : ButStatus (laid (reply 0)) (laid (reply y))
    laid_status =
        record {
          long_one = reply_long 0;
          long_other = reply_long y;
          wide = length_lay 0 (reply 0) room (fits 0) ∙ sym (length_lay 0 (reply y) room (fits y));
          bytes = λ b d e f. go b d e f (dec_lt b 28);
          bit_0 = ap (λ (n : ℕ). n % 2) (inside 0 11 (lit< tt)) ∙ even ∙ sym (ap (λ (n : ℕ). n % 2) (inside y 11 (lit< tt)));
          bits_3_to_7 = ap (λ (n : ℕ). n / 8) (inside 0 11 (lit< tt)) ∙ small ∙ sym (ap (λ (n : ℕ). n / 8) (inside y 11 (lit< tt)));
        }
      where
        go : (b : ℕ) → b ≢ 11 → b ≢ 26 → b ≢ 27 → Dec (b < 28) → get_or (lay 0 (reply 0) room) b 0 ≡ get_or (lay 0 (reply y) room) b 0
        go b d e f (yes h) =
            inside 0 b h ∙ but_one head rest (two (sum_of 7 (0 ∷ 0 ∷ 0 ∷ rest))) (two (sum_of 7 (0 ∷ 0 ∷ y ∷ rest))) 0 y b d (omega arith) ∙ sym (inside y b h)
        go b d e f (no h) = outside 0 b (omega arith) ∙ sym (outside y b (omega arith))

  acknowledged : (a : List ℕ) → length a ≡ 4 → ButStatus (laid (acknowledge a 0x00 (0 ∷ 0 ∷ rest))) (laid (acknowledge a 0x00 (0 ∷ y ∷ rest)))
  unfolding acknowledge packet two
  acknowledged a four = by_four a four (λ (b : List ℕ). ButStatus (laid (acknowledge b 0x00 (0 ∷ 0 ∷ rest))) (laid (acknowledge b 0x00 (0 ∷ y ∷ rest)))) laid_status

-- the two answers to what was heard
data Beside (r : Reader) (h : Heard) (l u : Said) : Type 0 where
  barring : l ≡ says (mark false r) 0x21 → Beside r h l u
  equally : l.reply ≡ u.reply → ((b : Bool) → mark b l.after ≡ mark b u.after) → Beside r h l u
  telling : h ≡ order (command (free read_sys_para)) → (y : ℕ) (rest : List ℕ) → 0 ≡ y % 2 → 0 ≡ y / 8 → (length r.plain.address ≡ 4 → length rest ≡ 14)
      → l.reply ≡ acknowledge r.plain.address 0x00 (0 ∷ 0 ∷ rest) → u.reply ≡ acknowledge r.plain.address 0x00 (0 ∷ y ∷ rest)
      → ((b : Bool) → mark b l.after ≡ mark b u.after) → Beside r h l u

module _ (χ : Chip) (r : Reader) (key : T (keyed r.plain)) (z : r.plain.transfer ≡ closed) where
  still : (b : Bool) → rested (mark b r) ≡ mark b r
  unfolding rested ended with_mark
  still b = ap (ended (mark b r)) z

  -- what ReadSysPara tells behind the status word
  behind : List ℕ
  behind = drop 2 (parameters_of record { plain = r.plain; capacity = capacity r.guarded; shown = false })

  behind_long : length r.plain.address ≡ 4 → length behind ≡ 14
  unfolding behind parameters_of joined two
  behind_long a = simp length-append (omega arith)

  tells_status : (f : Bool) → Beside r (order (command (free read_sys_para)))
      record { reply = acknowledge r.plain.address 0x00 (0 ∷ 0 ∷ behind); after = mark false r } record { reply = acknowledge r.plain.address 0x00 (two (status_of true f) ++ behind); after = mark true r }
  unfolding status_of two with_mark
  tells_status true = telling refl 6 behind refl refl behind_long refl refl (λ b. refl)
  tells_status false = telling refl 4 behind refl refl behind_long refl refl (λ b. refl)

  -- what is public of the locked reader, and of its copy
  covered : public_of (mark false r) ≡ record { plain = with_mark false r.plain; capacity = capacity r.guarded; shown = false }
  unfolding public_of locked keyed with_mark
  covered = let e : keyed r.plain ≡ true = T→true (keyed r.plain) key in cc

  bared : public_of (mark true r) ≡ record { plain = with_mark true r.plain; capacity = capacity r.guarded; shown = r.guarded.found }
  unfolding public_of locked keyed with_mark
  bared = let e : keyed r.plain ≡ true = T→true (keyed r.plain) key in cc

  parameters_told : Beside r (order (command (free read_sys_para))) (obey χ (mark false r) (free read_sys_para)) (obey χ (mark true r) (free read_sys_para))
  unfolding obey carry_free free_rule parameters_of status_of two joined behind with_mark
  parameters_told = rw (covered, bared) (tells_status r.guarded.found)

  unlike : (o : Order) → Beside r (order o) (heed χ (mark false r) o) (heed χ (mark true r) o)
  unfolding heed obey says carry_free free_rule public_of with_mark locked keyed
  unlike damaged = equally refl (λ b. refl)
  unlike unknown = equally refl (λ b. refl)
  unlike misfit = equally refl (λ b. refl)
  unlike (command (free read_sys_para)) = parameters_told
  unlike (command (free (verify_password w))) = equally refl (λ b. refl)
  unlike (command (free hand_shake)) = equally refl (λ b. refl)
  unlike (command (barred c)) = let e : keyed r.plain ≡ true = T→true (keyed r.plain) key in barring (rw e refl)

  beside : (h : Heard) → Beside r h (answer χ (mark false r) h) (answer χ (mark true r) h)
  unfolding answer silence take_in with_mark
  beside nothing = equally refl (λ b. refl)
  beside (order o) = rw (still false, still true) (unlike o)
  beside (piece last right content) =
      let quiet : (b : Bool) → take_in (mark b r) last right content r.plain.transfer ≡ silence (mark b r) = λ b. ap (take_in (mark b r) last right content) z in
      rw (quiet false, quiet true) (equally refl (λ b. refl))

module _ (r : Reader) (key : T (keyed r.plain)) (z : r.plain.transfer ≡ closed) where
  pub marked_legal : (σ : Shape) (b : Bool) → T (legal σ r) → T (legal σ (mark b r))
  unfolding legal sound fit_plain with_mark
  marked_legal σ b t =
      let m = fit_closed (with_mark b r.plain) r.guarded r.plain.transfer z in
      search (and_i, and_l, and_r) depth 9

  module _ (σ : Shape) (f : T (legal σ r)) (s : List ℕ) (lent : Lent) where
    wide : T (fit_room lent.room) → 28 ≤ length lent.room
    unfolding fit_room
    wide w = omega (arith, leb→le reply_room (length lent.room) w)

    -- both carried out
    fit_half : T (fit_room lent.room) → (a b : Said) → Beside r (hear r.plain.address s) a b
        → FirstHalf (mark false r) s lent (carried record { used = used_of (find_of s); reply = a.reply; after = a.after } lent.room)
        (carried record { used = used_of (find_of s); reply = b.reply; after = b.after } lent.room)
    unfolding carried reply_of says with_mark
    fit_half w a b (barring e) =
        record {
          refusal = refl;
          used = refl;
          answers =
              inl record {
                reply = ap (λ (x : Said). reply_of (carried record { used = used_of (find_of s); reply = x.reply; after = x.after } lent.room).told) e ∙ take_lay (acknowledge r.plain.address 0x21 []) lent.room;
                room = ap (λ (x : Said). lay 0 x.reply lent.room) e;
                after = ap (λ (x : Said). x.after) e;
              };
        }
    fit_half w a b (equally e k) =
        record {
          refusal = refl;
          used = refl;
          answers = inr record { told = inl (ap (λ (x : List ℕ). (carried record { used = used_of (find_of s); reply = x; after = r } lent.room).told) e); after = k };
        }
    fit_half w a b (telling h y rest i j long l u k) =
        let asks : AsksParameters r.plain.address s = asks_parameters r.plain.address s h in
        record { refusal = refl; used = refl; answers = inr record { told = inr (asks, rw (l, u) (acknowledged y i j rest (long (four_bytes_lem asks)) lent.room (wide w) (used_of (find_of s)) r.plain.address (four_bytes_lem asks))); after = k } }

    pub first_half : FirstHalf (mark false r) s lent (call_of σ (mark false r) s lent) (call_of σ (mark true r) s lent)
    unfolding refused step_of with_mark
    first_half = go (fit_chip (capacity r.guarded) lent.chip) (fit_room lent.room) refl refl
      where
        χ : Chip
        χ = lent.chip

        go : (a b : Bool) → fit_chip (capacity r.guarded) lent.chip ≡ a → fit_room lent.room ≡ b
            → FirstHalf (mark false r) s lent (call_of σ (mark false r) s lent) (call_of σ (mark true r) s lent)
        go true true d e =
            let t : T (fit_lent (capacity r.guarded) lent) = rw (d, e) tt in
            rw (call_legal σ (mark false r) s lent (marked_legal σ false f) t, call_legal σ (mark true r) s lent (marked_legal σ true f) t)
            (fit_half (rw e tt) (answer χ (mark false r) (hear r.plain.address s)) (answer χ (mark true r) (hear r.plain.address s)) (beside χ r key z (hear r.plain.address s)))
        go true false d e =
            rw (call_short σ (mark false r) s lent (marked_legal σ false f) (rw d tt) e, call_short σ (mark true r) s lent (marked_legal σ true f) (rw d tt) e)
            record { refusal = refl; used = refl; answers = inr record { told = inl refl; after = λ b. refl } }
        go false b d e =
            rw (call_unfit σ (mark false r) s lent (marked_legal σ false f) d, call_unfit σ (mark true r) s lent (marked_legal σ true f) d)
            record { refusal = refl; used = refl; answers = inr record { told = inl refl; after = λ b. refl } }

-- ---- the second half

-- scores and thresholds differ at will, as long as both have as many scores as pages and five thresholds, or neither has
pub data AtWill (c : ℕ) (χ ψ : Chip) : Type 0 where
  both_fit : length χ.scores ≡ c → length χ.thresholds ≡ 5 → length ψ.scores ≡ c → length ψ.thresholds ≡ 5 → AtWill c χ ψ
  neither_fits : (length χ.scores ≢ c) ⊎ (length χ.thresholds ≢ 5) → (length ψ.scores ≢ c) ⊎ (length ψ.thresholds ≢ 5) → AtWill c χ ψ

-- how far two sequences may differ, both ways: at each call in scores and thresholds, and in nothing else
pub record Pairs (c : ℕ) (es fs : List Event) : Type 0 where
  pub none : Paired c [] []
  pub call : (s t : List ℕ) (l m : Lent) → Paired c (received s l ∷ es) (received t m ∷ fs)
      ↔ ((s ≡ t) × ((l.room ≡ m.room) × (AtWill c l.chip m.chip × Paired c es fs)))
  pub switched : Paired c (switch ∷ es) (switch ∷ fs) ↔ Paired c es fs
  pub call_or_switch : (s : List ℕ) (l : Lent) → Paired c (received s l ∷ es) (switch ∷ fs) → ⊥
  pub switch_or_call : (t : List ℕ) (m : Lent) → Paired c (switch ∷ es) (received t m ∷ fs) → ⊥
  pub longer : (e : Event) → Paired c (e ∷ es) [] → ⊥
  pub shorter : (f : Event) → Paired c [] (f ∷ fs) → ⊥

-- a scores and b thresholds
chip_fits_lem : (c a b : ℕ) → chip_fits c a b ≡ true → (a ≡ c) × (b ≡ 5)
chip_fits_lem c a b e = let t : T (chip_fits c a b) = rw e tt in (eqb→eq a c (search (and_l)), eqb→eq b 5 (search (and_r)))

chip_misfits : (c a b : ℕ) → (chip_fits c a b ≡ false) ↔ ((a ≢ c) ⊎ (b ≢ 5))
chip_misfits c a b = (go (eqb a c) (eqb b 5) refl refl, back)
  where
    go : (x y : Bool) → eqb a c ≡ x → eqb b 5 ≡ y → chip_fits c a b ≡ false → (a ≢ c) ⊎ (b ≢ 5)
    go false y e f h = inl (eqb-false a c e)
    go true false e f h = inr (eqb-false b 5 f)
    go true true e f h = absurd (true≢false (rw (e, f) at h))

    back : (a ≢ c) ⊎ (b ≢ 5) → chip_fits c a b ≡ false
    back (inl n) = rw (ne_eqb a c n) refl
    back (inr n) = and_false (eqb a c) (eqb b 5) (ne_eqb b 5 n)

at_will : (c : ℕ) (χ ψ : Chip) → (fit_chip c χ ≡ fit_chip c ψ) ↔ AtWill c χ ψ
unfolding fit_chip
at_will c χ ψ = (to (fit_chip c ψ) refl, from)
  where
    to : (b : Bool) → fit_chip c ψ ≡ b → fit_chip c χ ≡ fit_chip c ψ → AtWill c χ ψ
    to true e h = let x = chip_fits_lem c _ _ (h ∙ e) in let y = chip_fits_lem c _ _ e in both_fit x.0 x.1 y.0 y.1
    to false e h = neither_fits ((chip_misfits c _ _).0 (h ∙ e)) ((chip_misfits c _ _).0 e)

    from : AtWill c χ ψ → fit_chip c χ ≡ fit_chip c ψ
    from (both_fit a b d e) = rw (a, b, d, e) refl
    from (neither_fits a b) = (chip_misfits c _ _).1 a ∙ sym ((chip_misfits c _ _).1 b)

pub pairs : (c : ℕ) (es fs : List Event) → Pairs c es fs
pairs c es fs =
    record {
      none = tt;
      call = λ s t l m. (
        λ h. (h.0, (h.1.0, ((at_will c l.chip m.chip).0 h.1.1.0, h.1.1.1))),
        λ h. (h.0, (h.1.0, ((at_will c l.chip m.chip).1 h.1.1.0, h.1.1.1))),
      );
      switched = (λ h. h, λ h. h);
      call_or_switch = λ s l h. h;
      switch_or_call = λ t m h. h;
      longer = λ e h. h;
      shorter = λ f h. h;
    }

-- two dialogues that got back the same, over events that are paired, from readers of c pages with the contents g and h
pub record Blind (c : ℕ) (g h : Guarded) (d e : Dialogue) : Type 0 where
  pub events : Paired c d.events e.events
  pub told : d.told ≡ e.told
  pub settings : d.last.plain ≡ e.last.plain
  pub kept_one : d.last.guarded ≡ kept g d.events
  pub kept_other : e.last.guarded ≡ kept h e.events

module _ (σ : Shape) (c : ℕ) (p : Plain) (l : T (locked p)) where
  unverified : (g : Guarded) → T (legal σ (reader p g)) → p.verified ≡ false
  unverified g f = (shut_of σ (reader p g) f l).unverified

  -- what is public of both
  v : Public
  v = veiled p c

  -- a call on the contents g, by the run, whether scores and thresholds are fit, and the reply room
  ends : List ℕ → Bool → List ℕ → Guarded → Ended
  ends s fit room g = record { told = told_by v s fit room; after = reader (plain_by v s fit room) g }

  call_ends : (g : Guarded) → capacity g ≡ c → T (legal σ (reader p g)) → (s : List ℕ) (lent : Lent) → call_of σ (reader p g) s lent ≡ ends s (fit_chip c lent.chip) lent.room g
  unfolding v ends
  call_ends g e f s lent =
      locked_call σ (reader p g) f l s lent
      ∙ ap (λ (n : ℕ). record { told = told_by (veiled p n) s (fit_chip n lent.chip) lent.room; after = reader (plain_by (veiled p n) s (fit_chip n lent.chip) lent.room) g }) e

  blind : (es fs : List Event) → Paired c es fs → (g h : Guarded) → capacity g ≡ c → capacity h ≡ c → T (legal σ (reader p g)) → T (legal σ (reader p h))
      → Blind c g h (dialogue σ (reader p g) es) (dialogue σ (reader p h) fs)
  unfolding dialogue on over first kept wiped capacity v ends
  blind [] [] q g h m n f k = record { events = tt; told = refl; settings = refl; kept_one = refl; kept_other = refl }
  blind [] (e ∷ fs) q g h m n f k = absurd q
  blind (e ∷ es) [] q g h m n f k = absurd q
  blind (received s one ∷ es) (switch ∷ fs) q g h m n f k = absurd q
  blind (switch ∷ es) (received s other ∷ fs) q g h m n f k = absurd q
  blind (received s one ∷ es) (received s' other ∷ fs) (run, (room, (chip, more))) g h m n f k =
      rw (call_ends g m f s one, same) (go q.verified refl (blind es fs more g h m n f k))
    where
      fit : Bool
      fit = fit_chip c one.chip

      q : Plain
      q = plain_by v s fit one.room

      t : Told
      t = told_by v s fit one.room

      same : call_of σ (reader p h) s' other ≡ ends s fit one.room h
      same = call_ends h n k s' other ∙ (λ j. ends (sym run j) (sym chip j) (sym room j) h)

      rest : List Event → Bool → Plain → Guarded → Dialogue
      rest xs b x y = cond b (over (reader x y)) (dialogue σ (reader x y) xs)

      go : (b : Bool) → q.verified ≡ b → Blind c g h (dialogue σ (reader p g) es) (dialogue σ (reader p h) fs)
          → Blind c g h (first (received s one) t (rest es b q g)) (first (received s' other) t (rest fs b q h))
      go true e i = record { events = (run, (room, (chip, tt))); told = refl; settings = refl; kept_one = refl; kept_other = refl }
      go false e i =
          subst (λ (x : Plain). Blind c g h (first (received s one) t (rest es false x g)) (first (received s' other) t (rest fs false x h)))
          (sym (plain_or v (unverified g f) s fit one.room e))
          record {
            events = (run, (room, (chip, i.events)));
            told = ap (λ (x : List Told). t ∷ x) i.told;
            settings = i.settings;
            kept_one = i.kept_one;
            kept_other = i.kept_other;
          }
  blind (switch ∷ es) (switch ∷ fs) q g h m n f k =
      rw (locked_switch σ (reader p g) f l, locked_switch σ (reader p h) k l)
      (go p.verified (unverified g f) (blind es fs q (wiped g) (wiped h) m n (wiped_legal σ (reader p g) f l) (wiped_legal σ (reader p h) k l)))
    where
      quiet : Told
      quiet = record { refusal = 0; used = 0; length = 0; room = [] }

      rest : List Event → Bool → Guarded → Dialogue
      rest xs b y = cond b (over (reader p (wiped y))) (dialogue σ (reader p (wiped y)) xs)

      go : (b : Bool) → b ≡ false → Blind c (wiped g) (wiped h) (dialogue σ (reader p (wiped g)) es) (dialogue σ (reader p (wiped h)) fs)
          → Blind c g h (first switch quiet (rest es b g)) (first switch quiet (rest fs b h))
      go true e i = absurd (true≢false e)
      go false e i =
          record {
            events = i.events;
            told = ap (λ (x : List Told). quiet ∷ x) i.told;
            settings = i.settings;
            kept_one = i.kept_one;
            kept_other = i.kept_other;
          }

-- legal locked readers of equal capacity and equal settings but for the filled marks, the origins and status bit 1
pub second_half : (σ : Shape) (r t : Reader) → T (legal σ r) → T (legal σ t) → T (locked r.plain) → r.plain ≡ t.plain → capacity r.guarded ≡ capacity t.guarded
    → (es fs : List Event) → Paired (capacity r.guarded) es fs → Blind (capacity r.guarded) r.guarded t.guarded (dialogue σ r es) (dialogue σ t fs)
second_half σ r t f k l e c es fs paired =
    let copy : Reader = reader r.plain t.guarded in
    let same : copy ≡ t = ap (λ (p : Plain). reader p t.guarded) e in
    subst (λ (x : Reader). Blind (capacity r.guarded) r.guarded t.guarded (dialogue σ r es) (dialogue σ x fs)) same
    (blind σ (capacity r.guarded) r.plain l es fs paired r.guarded t.guarded refl (sym c) f (subst (λ (x : Reader). T (legal σ x)) (sym same) k))
