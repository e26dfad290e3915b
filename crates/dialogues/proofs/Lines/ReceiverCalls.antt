-- A receiver's pieces are document 01's calls on its held bytes: so what is promised of any sequence of calls is promised of pieces.
use mathlib.Core.Bool.{Bool, true, false, cond}
use mathlib.Core.Path.{◌≡◌, refl, sym, ap, ◌∙◌, subst}
use mathlib.Core.Logic.{◌⊎◌}
use mathlib.Core.List.{List, [], ◌∷◌, ◌++◌}
use Prim.Native.Nat.{ℕ, zero, suc, ◌*◌, ◌≤◌}
use native.Mathlib.Omega.{arith}
use lib.Dec.{T, leb, le→leb}
use lib.ListN.{length, take, drop, get_or, length-drop}
use Rattle.protocol.specs.Numbers.{holds, longest}
use Rattle.protocol.specs.Bytes.{Bytes, zeros}
use Rattle.protocol.specs.Index.{set_bits}
use Rattle.protocol.specs.Reader.{from_page, Reader, capacity, locked}
use Rattle.protocol.specs.Commands.{templete_num, barred, command}
use Rattle.protocol.specs.Data.{acknowledge}
use Rattle.protocol.specs.Step.{order, hear, rested, step_of}
use Rattle.protocol.specs.Call.{Shape, Lent, fit_lent, Ended, reply_of, carried, call_of, switch_of}
use Rattle.protocol.specs.Dialogue.{Event, received, switch, on, finally, Dialogue, over, first, dialogue}
use Rattle.dialogues.specs.History.{Exchange, exchanges}
use Rattle.protocol.specs.Receiver.{holding, Line, Handed, run_of, handed, receive_of, line_switch_of}
use Rattle.dialogues.specs.Caller.{on_line, finally_on, runs, seen, Talk, ends_at, begins, talk}
use Rattle.protocol.proofs.Laws.Logic.{T→true}
use Rattle.protocol.proofs.Laws.Answers.{switch_stays}
use Rattle.protocol.proofs.Laws.Holding.{few_held, handed_by, receive_kinds, receive_call, switch_tells, switch_kinds}
use Rattle.protocol.proofs.Promises.Words.Told.{Gives, has, buffer, word}
use Rattle.protocol.proofs.Promises.Refusals.StaysLegal.{Legal, ever_legal}
use Rattle.protocol.proofs.Promises.Refusals.ReplyFits.{reply_fits}
use Rattle.dialogues.proofs.Library.ValidCount.{live_pages, valid_count, count_told}
use Rattle.dialogues.proofs.Library.Untouched.{SawDeleted, Untouched, only_by_deletion}
use Rattle.dialogues.proofs.Library.Faithful.{Faithful, Holds, ever_faithful}
use Rattle.protocol.proofs.Promises.Commands.Searches.{Other, code, bit_kept}
use Rattle.protocol.proofs.Promises.Lines.Receiver.{bare}
use Rattle.dialogues.proofs.Library.SizeCode.{Unset, code_kept}

-- ---- one call

-- a receiver's call o has the refusal, the reply, its room and the reader after it of document 01's call e on all held bytes, refused or not
pub record AsCall (e : Ended) (o : Handed) : Type 0 where
  pub refusal : o.told.refusal ≡ e.told.refusal
  pub length : o.told.length ≡ e.told.length
  pub room : o.told.room ≡ e.told.room
  pub reader : o.after.reader ≡ e.after

as_handed : (x : Line) (piece : List ℕ) (e : Ended) (k : ℕ) → e.told.refusal ≡ k → AsCall e (handed_by x piece e k)
unfolding handed
as_handed x piece e zero z = record { refusal = sym z; length = refl; room = refl; reader = refl }
as_handed x piece e (suc k) z = record { refusal = refl; length = refl; room = refl; reader = refl }

module _ (σ : Shape) (x : Line) (few : x.receiver.count ≤ 267) (piece : List ℕ) (lent : Lent) where
  pub as_call : AsCall (call_of σ x.reader (run_of x.receiver piece) lent) (receive_of σ x piece lent)
  unfolding holds longest
  as_call =
      let e : Ended = call_of σ x.reader (run_of x.receiver piece) lent in
      rw (receive_call σ x piece lent (T→true (leb x.receiver.count 267) (le→leb x.receiver.count 267 few))) (as_handed x piece e e.told.refusal refl)

  -- and no more is held than the cells have
  pub stays_few : (receive_of σ x piece lent).after.receiver.count ≤ 267
  unfolding handed carried holding holds longest
  stays_few =
      receive_kinds σ x piece lent (λ (o : Handed). o.after.receiver.count ≤ 267) (λ k. few)
      (λ t u l.
      let run : List ℕ = run_of x.receiver piece in
      omega (arith, length-drop (step_of lent.chip x.reader run).used run, few_held x.receiver piece l))

module _ (x : Line) where
  switch_few : x.receiver.count ≤ 267 → (line_switch_of x).after.receiver.count ≤ 267
  unfolding holding
  switch_few few = switch_kinds x (λ (o : Handed). o.after.receiver.count ≤ 267) (λ k e. few) (λ e. omega arith)

  pub switch_reader : (line_switch_of x).after.reader ≡ (switch_of x.reader).after
  switch_reader =
      switch_kinds x (λ (o : Handed). o.after.reader ≡ (switch_of x.reader).after)
      (λ k e. sym (switch_stays x.reader (λ z. let t = switch_tells x.reader in absurd (omega arith)))) (λ e. refl)

-- ---- any sequence of pieces and line switches

pub as_calls : (σ : Shape) (es : List Event) (x : Line) → x.receiver.count ≤ 267 → (finally_on σ x es).reader ≡ finally σ x.reader (runs σ x es)
unfolding finally_on on_line runs finally on
as_calls σ [] x few = refl
as_calls σ (received piece lent ∷ es) x few =
    let y : Line = (receive_of σ x piece lent).after in
    as_calls σ es y (stays_few σ x few piece lent) ∙ ap (λ (r : Reader). finally σ r (runs σ y es)) (as_call σ x few piece lent).reader
as_calls σ (switch ∷ es) x few =
    let y : Line = (line_switch_of x).after in
    as_calls σ es y (switch_few x few) ∙ ap (λ (r : Reader). finally σ r (runs σ y es)) (switch_reader x)

pub ever_few : (σ : Shape) (es : List Event) (x : Line) → x.receiver.count ≤ 267 → (finally_on σ x es).receiver.count ≤ 267
unfolding finally_on on_line
ever_few σ [] x few = few
ever_few σ (received piece lent ∷ es) x few = ever_few σ es (receive_of σ x piece lent).after (stays_few σ x few piece lent)
ever_few σ (switch ∷ es) x few = ever_few σ es (line_switch_of x).after (switch_few x few)

-- up to and including the first accepted password too: a talk goes as far as the dialogue of its runs, so `course` says where it stops
pub record AsDialogue (σ : Shape) (x : Line) (d : Talk) (e : Dialogue) : Type 0 where
  pub events : runs σ x d.events ≡ e.events
  pub last : d.last.reader ≡ e.last

pub as_dialogue : (σ : Shape) (es : List Event) (x : Line) → x.receiver.count ≤ 267 → AsDialogue σ x (talk σ x es) (dialogue σ x.reader (runs σ x es))
unfolding talk on_line ends_at begins runs dialogue on over first
as_dialogue σ [] x few = record { events = refl; last = refl }
as_dialogue σ (received piece lent ∷ es) x few =
    subst (AsDialogue σ x (talk σ x (received piece lent ∷ es))) here (go o.after.reader.plain.verified (as_dialogue σ es o.after (stays_few σ x few piece lent)))
  where
    o : Handed
    o = receive_of σ x piece lent

    run : Event
    run = received (run_of x.receiver piece) lent

    rest : Bool → Reader → Dialogue
    rest b r = first run (call_of σ x.reader (run_of x.receiver piece) lent).told (cond b (over r) (dialogue σ r (runs σ o.after es)))

    here : rest o.after.reader.plain.verified o.after.reader ≡ dialogue σ x.reader (run ∷ runs σ o.after es)
    here = ap (λ (r : Reader). rest r.plain.verified r) (as_call σ x few piece lent).reader

    go : (b : Bool) → AsDialogue σ o.after (talk σ o.after es) (dialogue σ o.after.reader (runs σ o.after es))
        → AsDialogue σ x (begins (received piece lent) o.told (cond b (ends_at o.after) (talk σ o.after es))) (rest b o.after.reader)
    go true i = record { events = refl; last = refl }
    go false i = record { events = ap (λ (y : List Event). run ∷ y) i.events; last = i.last }
as_dialogue σ (switch ∷ es) x few =
    subst (AsDialogue σ x (talk σ x (switch ∷ es))) here (go o.after.reader.plain.verified (as_dialogue σ es o.after (switch_few x few)))
  where
    o : Handed
    o = line_switch_of x

    rest : Bool → Reader → Dialogue
    rest b r = first switch (switch_of x.reader).told (cond b (over r) (dialogue σ r (runs σ o.after es)))

    here : rest o.after.reader.plain.verified o.after.reader ≡ dialogue σ x.reader (switch ∷ runs σ o.after es)
    here = ap (λ (r : Reader). rest r.plain.verified r) (switch_reader x)

    go : (b : Bool) → AsDialogue σ o.after (talk σ o.after es) (dialogue σ o.after.reader (runs σ o.after es))
        → AsDialogue σ x (begins switch o.told (cond b (ends_at o.after) (talk σ o.after es))) (rest b o.after.reader)
    go true i = record { events = refl; last = refl }
    go false i = record { events = ap (λ (y : List Event). switch ∷ y) i.events; last = i.last }

-- ---- what its host saw: the replies that the receiver gave

pub seen_is : (σ : Shape) (es : List Event) (x : Line) → x.receiver.count ≤ 267 → exchanges σ x.reader (runs σ x es) ≡ seen σ x es
unfolding seen runs exchanges reply_of
seen_is σ [] x few = refl
seen_is σ (received piece lent ∷ es) x few =
    let y : Line = (receive_of σ x piece lent).after in
    let c = as_call σ x few piece lent in
    (λ j. record { run = run_of x.receiver piece; reply = take (sym c.length j) (sym c.room j) } ∷ exchanges σ (sym c.reader j) (runs σ y es))
    ∙ ap (λ (z : List Exchange). record { run = run_of x.receiver piece; reply = reply_of (receive_of σ x piece lent).told } ∷ z) (seen_is σ es y (stays_few σ x few piece lent))
seen_is σ (switch ∷ es) x few =
    let y : Line = (line_switch_of x).after in
    ap (λ (r : Reader). exchanges σ r (runs σ y es)) (sym (switch_reader x)) ∙ seen_is σ es y (switch_few x few)

module _ (σ : Shape) (ok : σ.most ≤ 8 * σ.indexed) (x : Line) (few : x.receiver.count ≤ 267) where
  -- a legal reader is legal after any sequence
  pub line_legal : Legal σ ok x.reader → (es : List Event) → Legal σ ok (finally_on σ x es).reader
  line_legal l es = subst (Legal σ ok) (sym (as_calls σ es x few)) (ever_legal σ ok x.reader l (runs σ x es))

  -- demand 2's valid count: from an empty library the pages that the host saw stored and not deleted since
  pub line_count : x.reader.guarded.index ≡ zeros σ.indexed → (es : List Event) → set_bits (finally_on σ x es).reader.guarded.index ≡ live_pages σ.indexed (seen σ x es)
  line_count z es =
      ap (λ (r : Reader). set_bits r.guarded.index) (as_calls σ es x few) ∙ valid_count σ ok x.reader z (runs σ x es) ∙ ap (live_pages σ.indexed) (seen_is σ es x few)

  -- request [5]'s stored pages: each stays as it was, or the host saw it deleted
  pub line_only_by_deletion : Bytes x.reader.guarded.index → (q : ℕ) → has x.reader q ≡ true → (es : List Event)
      → Untouched q x.reader (finally_on σ x es).reader ⊎ SawDeleted q (seen σ x es)
  line_only_by_deletion y q s es =
      subst (λ (r : Reader). Untouched q x.reader r ⊎ SawDeleted q (seen σ x es)) (sym (as_calls σ es x few))
      (subst (λ (z : List Exchange). Untouched q x.reader (finally σ x.reader (runs σ x es)) ⊎ SawDeleted q z) (seen_is σ es x few)
      (only_by_deletion σ ok x.reader y q s (runs σ x es)))

  -- request [7]'s buffers: one with an origin is filled and holds the bytes of that page, which is stored
  pub line_faithful : Legal σ ok x.reader → Faithful x.reader → (es : List Event) (b p : ℕ) → (buffer b (finally_on σ x es).reader.guarded).origin ≡ from_page p
      → Holds σ ok (finally_on σ x es).reader b p
  line_faithful l f es b p =
      subst (λ (r : Reader). (buffer b r.guarded).origin ≡ from_page p → Holds σ ok r b p) (sym (as_calls σ es x few)) (ever_faithful σ ok x.reader l f (runs σ x es) b p)

  -- the reply never exceeds the reply room that is asked for
  pub line_fits : Legal σ ok x.reader → (piece : List ℕ) (lent : Lent) → (receive_of σ x piece lent).told.length ≤ 700
  line_fits l piece lent = rw (as_call σ x few piece lent).length (reply_fits σ ok x.reader l (run_of x.receiver piece) lent)

-- a receiver's call that replies this, at the front of the room and no more, and leaves this reader
pub record LineGives (reply : List ℕ) (t : Reader) (lent : Lent) (o : Handed) : Type 0 where
  pub refusal : o.told.refusal ≡ 0
  pub long : o.told.length ≡ length reply
  pub room : o.told.room ≡ reply ++ drop (length reply) lent.room
  pub after : o.after.reader ≡ t

pub line_gives : (σ : Shape) (x : Line) → x.receiver.count ≤ 267 → (piece : List ℕ) (lent : Lent) (reply : List ℕ) (t : Reader)
    → Gives reply t (run_of x.receiver piece) lent (call_of σ x.reader (run_of x.receiver piece) lent) → LineGives reply t lent (receive_of σ x piece lent)
line_gives σ x few piece lent reply t g =
    let c = as_call σ x few piece lent in
    record { refusal = c.refusal ∙ g.told.refusal; long = c.length ∙ g.told.long; room = c.room ∙ g.told.room; after = c.reader ∙ g.after }

module _ (σ : Shape) (ok : σ.most ≤ 8 * σ.indexed) where
  -- TempleteNum tells the valid count, at any time that the reader is not locked
  pub line_count_told : (x : Line) → x.receiver.count ≤ 267 → Legal σ ok x.reader → x.reader.guarded.index ≡ zeros σ.indexed → (es : List Event) (piece : List ℕ) (lent : Lent)
      → (let y = finally_on σ x es in
      T (fit_lent (capacity x.reader.guarded) lent) → locked y.reader.plain ≡ false → hear y.reader.plain.address (run_of y.receiver piece) ≡ order (command (barred templete_num))
      → LineGives (acknowledge y.reader.plain.address 0x00 (word (live_pages σ.indexed (seen σ x es)))) (rested y.reader) lent (receive_of σ y piece lent))
  line_count_told x few l z es piece lent u free asks =
      let y : Line = finally_on σ x es in
      let run : List ℕ = run_of y.receiver piece in
      let told = subst
      (λ (a : Reader × List Exchange). locked a.0.plain ≡ false → hear a.0.plain.address run ≡ order (command (barred templete_num))
      → Gives (acknowledge a.0.plain.address 0x00 (word (live_pages σ.indexed a.1))) (rested a.0) run lent (call_of σ a.0 run lent))
      (λ j. (sym (as_calls σ es x few) j, seen_is σ es x few j)) (count_told σ ok x.reader l z (runs σ x es) run lent u) free asks
      in
      line_gives σ y (ever_few σ es x few) piece lent _ _ told

-- request [8]'s status bit 1, by the reply that the receiver gave: unless that is 00h or 09h of a Search, the bit is what it was
pub line_bit_kept : (σ : Shape) (x : Line) → x.receiver.count ≤ 267 → length x.reader.plain.address ≡ 4 → (piece : List ℕ) (lent : Lent)
    → Other (hear x.reader.plain.address (run_of x.receiver piece)) (code (bare (receive_of σ x piece lent)))
    → (receive_of σ x piece lent).after.reader.guarded.found ≡ x.reader.guarded.found
unfolding reply_of
line_bit_kept σ x few four piece lent o =
    let run : List ℕ = run_of x.receiver piece in
    let c = as_call σ x few piece lent in
    ap (λ (r : Reader). r.guarded.found) c.reader
    ∙ bit_kept σ x.reader four run lent (subst (λ (a : ℕ × List ℕ). Other (hear x.reader.plain.address run) (get_or (take a.0 a.1) 9 0xff)) (λ j. (c.length j, c.room j)) o)

-- request [2]'s "Stored settings keep their own code", where no run that was held asks for parameter 6
pub line_code : (σ : Shape) (x : Line) → x.receiver.count ≤ 267 → (es : List Event) → Unset σ x.reader (runs σ x es)
    → (finally_on σ x es).reader.plain.size ≡ x.reader.plain.size
line_code σ x few es u = ap (λ (r : Reader). r.plain.size) (as_calls σ es x few) ∙ code_kept σ (runs σ x es) x.reader u
