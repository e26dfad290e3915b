-- Demand 3 for a reader with its receiver: a locked one and its copy on any piece; and two locked ones with equal held bytes, over any sequence
-- of pieces, line switches among them, up to and including the first accepted password.
use mathlib.Core.Bool.{Bool, true, false, true≢false, cond}
use mathlib.Core.Path.{◌≡◌, refl, sym, ap, ◌∙◌, subst}
use mathlib.Core.Logic.{◌⊎◌, inl, inr}
use mathlib.Core.List.{List, [], ◌∷◌, ◌++◌}
use Prim.Native.Nat.{ℕ, zero, suc, ◌-◌}
use native.Mathlib.Omega.{arith}
use lib.Dec.{T, leb}
use lib.ListN.{length, take, drop}
use Rattle.protocol.specs.declared.Receiver.{Receiver}
use Rattle.protocol.specs.Numbers.{holds, bad_length, bad_room}
use Rattle.protocol.specs.Reader.{closed, Plain, Guarded, Reader, capacity, keyed, locked, with_mark, reader}
use Rattle.protocol.specs.Table.{Public}
use Rattle.protocol.specs.Step.{wiped}
use Rattle.protocol.specs.Call.{Shape, Lent, legal, Told, Ended, reply_of, refused, refusal_of, call_of, switch_of, fit_chip, fit_room}
use Rattle.protocol.specs.Dialogue.{Event, received, switch, kept, Paired}
use Rattle.protocol.specs.Receiver.{bytes_in, holding, Line, line, Handed, fitting, run_of, handed, declined, receive_of, line_switch_of}
use Rattle.dialogues.specs.Caller.{on_line, Talk, ends_at, begins, talk}
use Rattle.protocol.proofs.Laws.Locked.{veiled, told_by, plain_by, shut_of, locked_call, plain_or, locked_switch, wiped_legal}
use Rattle.protocol.proofs.Laws.Holding.{handed_by, overfull, receive_call, receive_over, refusal_legal, switch_tells, switch_kinds}
use Rattle.protocol.proofs.Promises.Secrets.Lock.{mark, Bars, ButStatus, Alike, FirstHalf, marked_legal, first_half}
use Rattle.protocol.proofs.Promises.Commands.Parameters.{AsksParameters}
use Rattle.protocol.proofs.Promises.Lines.Receiver.{bare}

-- ---- the first half

-- the locked receiver's call l beside its verified copy's u, s being the run on which document 01's call is done: as of a call, and the held bytes end alike
pub record ReceiverHalf (r : Reader) (s : List ℕ) (lent : Lent) (l u : Handed) : Type 0 where
  pub half : FirstHalf r s lent (bare l) (bare u)
  pub receiver : l.after.receiver ≡ u.after.receiver

module _ (r : Reader) (h : Receiver) (piece : List ℕ) (lent : Lent) where
  half_by : (x y : Reader) (l u : Ended) → FirstHalf r (run_of h piece) lent l u → (k : ℕ) → ReceiverHalf r (run_of h piece) lent (handed_by (line x h) piece l k) (handed_by (line y h) piece u k)
  unfolding handed reply_of
  half_by x y l u f zero =
      record {
        half = record { refusal = refl; used = refl; answers = go f.answers };
        receiver = ap (λ (n : ℕ). holding (drop n (run_of h piece))) f.used;
      }
    where
      went : Ended → Ended
      went e = record { told = record { refusal = 0; used = length (fitting h piece); length = e.told.length; room = e.told.room }; after = e.after }

      same : (l.told ≡ u.told) ⊎ (AsksParameters r.plain.address (run_of h piece) × ButStatus l.told u.told)
          → ((went l).told ≡ (went u).told) ⊎ (AsksParameters r.plain.address (run_of h piece) × ButStatus (went l).told (went u).told)
      same (inl e) = inl (ap (λ (t : Told). record { refusal = 0; used = length (fitting h piece); length = t.length; room = t.room }) e)
      same (inr (asks, b)) =
          inr (asks, record { long_one = b.long_one; long_other = b.long_other; wide = b.wide; bytes = b.bytes; bit_0 = b.bit_0; bits_3_to_7 = b.bits_3_to_7 })

      go : Bars r lent l ⊎ Alike r.plain.address (run_of h piece) l u → Bars r lent (went l) ⊎ Alike r.plain.address (run_of h piece) (went l) (went u)
      go (inl b) = inl record { reply = b.reply; room = b.room; after = b.after }
      go (inr a) = inr record { told = same a.told; after = a.after }
  half_by x y l u f (suc k) = record { half = f; receiver = refl }

module _ (σ : Shape) (r : Reader) (key : T (keyed r.plain)) (z : r.plain.transfer ≡ closed) (f : T (legal σ r)) (h : Receiver) (piece : List ℕ) (lent : Lent) where
  pub receiver_first_half : ReceiverHalf (mark false r) (run_of h piece) lent (receive_of σ (line (mark false r) h) piece lent) (receive_of σ (line (mark true r) h) piece lent)
  unfolding refused with_mark
  receiver_first_half = go (leb h.count holds) refl
    where
      x : Bool → Line
      x b = line (mark b r) h

      call : Bool → Ended
      call b = call_of σ (mark b r) (run_of h piece) lent

      refusal : (b : Bool) → refusal_of σ (mark b r) lent ≡ cond (fit_chip (capacity r.guarded) lent.chip) (cond (fit_room lent.room) 0 bad_room) bad_length
      refusal b = refusal_legal σ (mark b r) lent (marked_legal r key z σ b f)

      go : (b : Bool) → leb h.count holds ≡ b → ReceiverHalf (mark false r) (run_of h piece) lent (receive_of σ (x false) piece lent) (receive_of σ (x true) piece lent)
      go true e =
          let half : FirstHalf (mark false r) (run_of h piece) lent (call false) (call true) = first_half r key z σ f (run_of h piece) lent in
          rw (receive_call σ (x false) piece lent e, receive_call σ (x true) piece lent e)
          (subst (λ (k : ℕ). ReceiverHalf (mark false r) (run_of h piece) lent (handed_by (x false) piece (call false) (call false).told.refusal) (handed_by (x true) piece (call true) k)) half.refusal
          (half_by (mark false r) h piece lent (mark false r) (mark true r) (call false) (call true) half (call false).told.refusal))
      go false e =
          rw (receive_over σ (x false) piece lent e, receive_over σ (x true) piece lent e, refusal false, refusal true)
          record { half = record { refusal = refl; used = refl; answers = inr record { told = inl refl; after = λ b. refl } }; receiver = refl }

-- ---- a locked receiver: what its caller gets back, its settings and its held bytes go by what is public alone; its guarded contents stay

record Shown : Type 0 where
  told : Told
  plain : Plain
  receiver : Receiver

-- by the count, the run of the call, the bytes taken, and the receiver for where nothing changes
shown_by : List ℕ → ℕ → Receiver → Told → Plain → ℕ → Shown
shown_by run n h t p zero =
    record { told = record { refusal = 0; used = n; length = t.length; room = t.room }; plain = p; receiver = holding (drop t.used run) }
shown_by run n h t p (suc k) = record { told = t; plain = p; receiver = h }

over_shown : Public → Receiver → Bool → List ℕ → Shown
over_shown v h fit room =
    record { told = record { refusal = overfull (cond fit (cond (fit_room room) 0 bad_room) bad_length); used = 0; length = 0; room = room }; plain = v.plain; receiver = h }

-- and of scores and thresholds by whether their lengths are fit
shown_as : Public → ℕ → List ℕ → ℕ → Receiver → Bool → List ℕ → Shown
shown_as v count run n h fit room =
    let t = told_by v run fit room in
    cond (leb count holds) (shown_by run n h t (plain_by v run fit room) t.refusal) (over_shown v h fit room)

shown : Public → Receiver → List ℕ → Bool → List ℕ → Shown
shown v h piece fit room = shown_as v h.count (run_of h piece) (length (fitting h piece)) h fit room

showing : Shown → Guarded → Handed
showing s g = record { told = s.told; after = line (reader s.plain g) s.receiver }

locked_receive : (σ : Shape) (r : Reader) (h : Receiver) → T (legal σ r) → T (locked r.plain) → (piece : List ℕ) (lent : Lent)
    → receive_of σ (line r h) piece lent ≡ showing (shown (veiled r.plain (capacity r.guarded)) h piece (fit_chip (capacity r.guarded) lent.chip) lent.room) r.guarded
unfolding shown shown_as shown_by over_shown showing handed refused
locked_receive σ r h f l piece lent = go (leb h.count holds) refl
  where
    x : Line
    x = line r h

    v : Public
    v = veiled r.plain (capacity r.guarded)

    fit : Bool
    fit = fit_chip (capacity r.guarded) lent.chip

    by : (t : Told) (p : Plain) (k : ℕ)
        → handed_by x piece record { told = t; after = reader p r.guarded } k ≡ showing (shown_by (run_of h piece) (length (fitting h piece)) h t p k) r.guarded
    by t p zero = refl
    by t p (suc k) = refl

    go : (b : Bool) → leb h.count holds ≡ b → receive_of σ x piece lent ≡ showing (shown v h piece fit lent.room) r.guarded
    go true e =
        let run : List ℕ = run_of h piece in
        let t : Told = told_by v run fit lent.room in
        rw e (receive_call σ x piece lent e ∙ ap (λ (c : Ended). handed_by x piece c c.told.refusal) (locked_call σ r f l run lent) ∙ by t (plain_by v run fit lent.room) t.refusal)
    go false e = rw e (receive_over σ x piece lent e ∙ ap (λ (k : ℕ). declined (overfull k) x lent.room) (refusal_legal σ r lent f))

-- the settings stay, but for a right password
shown_or : (v : Public) → v.plain.verified ≡ false → (h : Receiver) (piece : List ℕ) (fit : Bool) (room : List ℕ) → (shown v h piece fit room).plain.verified ≡ false
    → (shown v h piece fit room).plain ≡ v.plain
unfolding shown shown_as shown_by over_shown
shown_or v e h piece fit room = go (leb h.count holds)
  where
    t : Told
    t = told_by v (run_of h piece) fit room

    p : Plain
    p = plain_by v (run_of h piece) fit room

    shows : ℕ → Shown
    shows k = shown_by (run_of h piece) (length (fitting h piece)) h t p k

    by : (k : ℕ) → (shows k).plain ≡ p
    by zero = refl
    by (suc k) = refl

    go : (b : Bool) → (cond b (shows t.refusal) (over_shown v h fit room)).plain.verified ≡ false → (cond b (shows t.refusal) (over_shown v h fit room)).plain ≡ v.plain
    go true z = by t.refusal ∙ plain_or v e (run_of h piece) fit room (ap (λ (q : Plain). q.verified) (sym (by t.refusal)) ∙ z)
    go false z = refl

-- equal held bytes, whatever lies in the cells past them
pub record SameHeld (y z : Receiver) : Type 0 where
  pub count : y.count ≡ z.count
  pub bytes : bytes_in y ≡ bytes_in z

record SameShown (a b : Shown) : Type 0 where
  told : a.told ≡ b.told
  plain : a.plain ≡ b.plain
  receiver : SameHeld a.receiver b.receiver

same_shown : (v : Public) (y z : Receiver) → SameHeld y z → (piece : List ℕ) (fit : Bool) (room : List ℕ) → SameShown (shown v y piece fit room) (shown v z piece fit room)
unfolding shown shown_as shown_by over_shown fitting run_of
same_shown v y z h piece fit room =
    let fits : ℕ → List ℕ = λ n. take (holds - n) piece in
    subst (λ (a : ℕ × (List ℕ × ℕ)). SameShown (shown_as v a.0 a.1.0 a.1.1 y fit room) (shown v z piece fit room))
    (λ j. (sym h.count j, (sym h.bytes j ++ fits (sym h.count j), length (fits (sym h.count j))))) (go (leb z.count holds))
  where
    shows : Receiver → ℕ → Shown
    shows x k = shown_by (run_of z piece) (length (fitting z piece)) x (told_by v (run_of z piece) fit room) (plain_by v (run_of z piece) fit room) k

    same : (k : ℕ) → SameShown (shows y k) (shows z k)
    same zero = record { told = refl; plain = refl; receiver = record { count = refl; bytes = refl } }
    same (suc k) = record { told = refl; plain = refl; receiver = h }

    go : (b : Bool) → SameShown (cond b (shows y (told_by v (run_of z piece) fit room).refusal) (over_shown v y fit room)) (cond b (shows z (told_by v (run_of z piece) fit room).refusal) (over_shown v z fit room))
    go true = same (told_by v (run_of z piece) fit room).refusal
    go false = record { told = refl; plain = refl; receiver = h }

quiet : Told
quiet = record { refusal = 0; used = 0; length = 0; room = [] }

locked_switched : (σ : Shape) (r : Reader) (h : Receiver) → T (legal σ r) → T (locked r.plain)
    → line_switch_of (line r h) ≡ record { told = quiet; after = line (reader r.plain (wiped r.guarded)) (holding []) }
unfolding refused quiet
locked_switched σ r h f l =
    switch_kinds (line r h) (λ (o : Handed). o ≡ record { told = quiet; after = line (reader r.plain (wiped r.guarded)) (holding []) })
    (λ k e. let z : (switch_of r).told.refusal ≡ 0 = ap (λ (c : Ended). c.told.refusal) (locked_switch σ r f l) in absurd (omega (arith, switch_tells r)))
    (λ e. ap (λ (c : Ended). record { told = c.told; after = line c.after (holding []) }) (locked_switch σ r f l))

-- ---- the second half

-- two talks that got back the same, over events that are paired, from readers of c pages with the contents g and h
pub record ReceiverBlind (c : ℕ) (g h : Guarded) (d e : Talk) : Type 0 where
  pub events : Paired c d.events e.events
  pub told : d.told ≡ e.told
  pub settings : d.last.reader.plain ≡ e.last.reader.plain
  pub held : SameHeld d.last.receiver e.last.receiver
  pub kept_one : d.last.reader.guarded ≡ kept g d.events
  pub kept_other : e.last.reader.guarded ≡ kept h e.events

module _ (σ : Shape) (c : ℕ) (p : Plain) (l : T (locked p)) where
  unverified : (g : Guarded) → T (legal σ (reader p g)) → p.verified ≡ false
  unverified g f = (shut_of σ (reader p g) f l).unverified

  -- what is public of both
  v : Public
  v = veiled p c

  call_shows : (g : Guarded) → capacity g ≡ c → T (legal σ (reader p g)) → (h : Receiver) (piece : List ℕ) (lent : Lent)
      → receive_of σ (line (reader p g) h) piece lent ≡ showing (shown v h piece (fit_chip c lent.chip) lent.room) g
  unfolding v
  call_shows g e f h piece lent =
      locked_receive σ (reader p g) h f l piece lent ∙ ap (λ (n : ℕ). showing (shown (veiled p n) h piece (fit_chip n lent.chip) lent.room) g) e

  blind : (es fs : List Event) → Paired c es fs → (y z : Receiver) → SameHeld y z → (g h : Guarded) → capacity g ≡ c → capacity h ≡ c → T (legal σ (reader p g)) → T (legal σ (reader p h))
      → ReceiverBlind c g h (talk σ (line (reader p g) y) es) (talk σ (line (reader p h) z) fs)
  unfolding talk on_line ends_at begins kept wiped capacity showing v
  blind [] [] q y z w g h m n f k = record { events = tt; told = refl; settings = refl; held = w; kept_one = refl; kept_other = refl }
  blind [] (e ∷ fs) q y z w g h m n f k = absurd q
  blind (e ∷ es) [] q y z w g h m n f k = absurd q
  blind (received piece one ∷ es) (switch ∷ fs) q y z w g h m n f k = absurd q
  blind (switch ∷ es) (received piece other ∷ fs) q y z w g h m n f k = absurd q
  blind (received piece one ∷ es) (received piece' other ∷ fs) (run, (room, (chip, more))) y z w g h m n f k =
      rw (call_shows g m f y piece one, there, ← same.told, ← same.plain) (go s.plain.verified refl (blind es fs more s.receiver u.receiver same.receiver g h m n f k))
    where
      fit : Bool
      fit = fit_chip c one.chip

      s : Shown
      s = shown v y piece fit one.room

      u : Shown
      u = shown v z piece fit one.room

      same : SameShown s u
      same = same_shown v y z w piece fit one.room

      there : receive_of σ (line (reader p h) z) piece' other ≡ showing u h
      there = call_shows h n k z piece' other ∙ (λ j. showing (shown v z (sym run j) (sym chip j) (sym room j)) h)

      rest : List Event → Bool → Plain → Guarded → Receiver → Talk
      rest xs b q c x = cond b (ends_at (line (reader q c) x)) (talk σ (line (reader q c) x) xs)

      go : (b : Bool) → s.plain.verified ≡ b → ReceiverBlind c g h (talk σ (line (reader p g) s.receiver) es) (talk σ (line (reader p h) u.receiver) fs)
          → ReceiverBlind c g h (begins (received piece one) s.told (rest es b s.plain g s.receiver)) (begins (received piece' other) s.told (rest fs b s.plain h u.receiver))
      go true e i = record { events = (run, (room, (chip, tt))); told = refl; settings = refl; held = same.receiver; kept_one = refl; kept_other = refl }
      go false e i =
          subst (λ (q : Plain). ReceiverBlind c g h (begins (received piece one) s.told (rest es false q g s.receiver)) (begins (received piece' other) s.told (rest fs false q h u.receiver)))
          (sym (shown_or v (unverified g f) y piece fit one.room e))
          record {
            events = (run, (room, (chip, i.events)));
            told = ap (λ (x : List Told). s.told ∷ x) i.told;
            settings = i.settings;
            held = i.held;
            kept_one = i.kept_one;
            kept_other = i.kept_other;
          }
  blind (switch ∷ es) (switch ∷ fs) q y z w g h m n f k =
      rw (locked_switched σ (reader p g) y f l, locked_switched σ (reader p h) z k l)
      (go p.verified (unverified g f)
      (blind es fs q (holding []) (holding []) record { count = refl; bytes = refl } (wiped g) (wiped h) m n (wiped_legal σ (reader p g) f l) (wiped_legal σ (reader p h) k l)))
    where
      next : Guarded → Line
      next c = line (reader p (wiped c)) (holding [])

      go : (b : Bool) → b ≡ false → ReceiverBlind c (wiped g) (wiped h) (talk σ (next g) es) (talk σ (next h) fs)
          → ReceiverBlind c g h (begins switch quiet (cond b (ends_at (next g)) (talk σ (next g) es))) (begins switch quiet (cond b (ends_at (next h)) (talk σ (next h) fs)))
      go true e i = absurd (true≢false e)
      go false e i =
          record {
            events = i.events;
            told = ap (λ (x : List Told). quiet ∷ x) i.told;
            settings = i.settings;
            held = i.held;
            kept_one = i.kept_one;
            kept_other = i.kept_other;
          }

-- legal locked readers of equal capacity and equal settings but for the filled marks, the origins and status bit 1, with equal held bytes
pub receiver_second_half : (σ : Shape) (r t : Reader) (y z : Receiver) → T (legal σ r) → T (legal σ t) → T (locked r.plain) → r.plain ≡ t.plain → capacity r.guarded ≡ capacity t.guarded
    → SameHeld y z → (es fs : List Event) → Paired (capacity r.guarded) es fs
    → ReceiverBlind (capacity r.guarded) r.guarded t.guarded (talk σ (line r y) es) (talk σ (line t z) fs)
receiver_second_half σ r t y z f k l e c w es fs paired =
    let copy : Reader = reader r.plain t.guarded in
    let same : copy ≡ t = ap (λ (p : Plain). reader p t.guarded) e in
    subst (λ (x : Reader). ReceiverBlind (capacity r.guarded) r.guarded t.guarded (talk σ (line r y) es) (talk σ (line x z) fs)) same
    (blind σ (capacity r.guarded) r.plain l es fs paired y z w r.guarded t.guarded refl (sym c) f (subst (λ (x : Reader). T (legal σ x)) (sym same) k))
