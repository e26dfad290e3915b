-- What a receiver's call keeps within, and a piece offered up to rest.
use Rattle.std.proofs.Common.{true, false, Option, None, Some, ◌≡◌, refl, sym, ap, ◌∙◌, subst, List, [], ◌∷◌, ◌++◌, ℕ, ◌+◌, ◌-◌, ◌*◌, ◌≤◌, ◌<◌, arith, eqb, eqb→eq, leb→le, length, get_or, take, drop, length-take, length-drop, take_all, append_assoc, append-nil, w8, Fits, eq-eqb}
use Rattle.std.proofs.lemmas.Bool.{true≢false}
use Rattle.std.proofs.Math.Decide.{dec_le}
use Rattle.std.proofs.Math.Seq.{take-nil}
use Rattle.std.specs.List.{concat}
use Rattle.std.proofs.lemmas.List.Folds.{concat-append}
use Rattle.std.specs.Io.KnownBytes.{Appends, Consumes}
use Rattle.protocol.specs.declared.Settings.{Settings}
use Rattle.protocol.specs.declared.Receiver.{Receiver}
use Rattle.protocol.specs.Numbers.{reply_room, four_bytes, holds, longest}
use Rattle.protocol.specs.Bytes.{Bytes}
use Rattle.protocol.specs.Finder.{find_of, used_of}
use Rattle.protocol.specs.Reader.{capacity}
use Rattle.protocol.specs.Search.{Chip}
use Rattle.protocol.specs.Call.{core, Lent, fit_chip, fit_room, Typed, refused, reply_of}
use Rattle.protocol.specs.Receiver.{bytes_in, Line, line, Handed, fitting, run_of, handed, receive_of}
use Rattle.dialogues.specs.Caller.{Ran, replied, at_rest, drain, drained}
use Rattle.dialogues.specs.Bench.{started}
use Rattle.protocol.specs.Records.{Received, reader_of, chip_of, lent_of, received_of}
use Rattle.protocol.proofs.Laws.Logic.{and_l, and_r}
use Rattle.protocol.proofs.Laws.Finder.{used_in}
use Rattle.protocol.proofs.Laws.Holding.{in_holding, receive_kinds, receive_legal}
use Rattle.protocol.proofs.Promises.Refusals.LegalMeans.{core_holds}
use Rattle.dialogues.proofs.Lines.Cuts.{offered, count_after, took_is, length_held, offers_nothing, answers_nothing, all_drained}
use Rattle.dialogues.proofs.Laws.Drain.{drained_rest, gone_on, drained_joined}
use Rattle.dialogues.proofs.Lines.ReceiverCalls.{line_fits}
use Rattle.bench.specs.Offer.{no_scores, no_thresholds, is_last, Offered, Drained, replies}

-- ---- one call

module _ (x : Line) (piece : List ℕ) (lent : Lent) where
  taken_within : (receive_of core x piece lent).told.used ≤ length piece
  unfolding refused handed fitting
  taken_within =
      receive_kinds core x piece lent (λ (o : Handed). o.told.used ≤ length piece) (λ n. omega arith)
      (λ t u l. omega (arith, length-take (holds - x.receiver.count) piece))

  reply_within : Typed x.reader → (receive_of core x piece lent).told.length ≤ length lent.room
  unfolding refused fit_room holds longest
  reply_within h =
      receive_kinds core x piece lent (λ (o : Handed). o.told.length ≤ length lent.room) (λ n. omega arith)
      (λ t u l.
      subst (λ (o : Handed). o.told.length ≤ length lent.room) (receive_legal core x piece lent t u l)
      (omega (arith, line_fits core core_holds x l record { typed = h; legal = t } piece lent, leb→le reply_room (length lent.room) (and_r (fit_chip (capacity x.reader.guarded) lent.chip) (fit_room lent.room) u))))

  -- what is taken and what is used bring the end nearer
  brings_nearer : length x.receiver.held ≡ holds → (receive_of core x piece lent).told.refusal ≡ 0
      → is_last (receive_of core x piece lent).told.used x.receiver.count (receive_of core x piece lent).after.receiver.count ≡ false
      → 2 * (length piece - (receive_of core x piece lent).told.used) + (receive_of core x piece lent).after.receiver.count < 2 * length piece + x.receiver.count
  unfolding holds longest
  brings_nearer z e n = go (dec_le 1 (length (fitting x.receiver piece) + used_of (find_of run)))
    where
      run : List ℕ
      run = run_of x.receiver piece

      go : Dec (1 ≤ length (fitting x.receiver piece) + used_of (find_of run))
          → 2 * (length piece - (receive_of core x piece lent).told.used) + (receive_of core x piece lent).after.receiver.count < 2 * length piece + x.receiver.count
      go (yes h) = omega (arith, taken_within, took_is core x piece lent e, count_after core x piece lent e, length_held core x piece lent z e, used_in run)
      go (no h) =
          let u : (receive_of core x piece lent).told.used ≡ 0 = omega (arith, took_is core x piece lent e) in
          let c : (receive_of core x piece lent).after.receiver.count ≡ x.receiver.count = omega (arith, count_after core x piece lent e, length_held core x piece lent z e) in
          absurd (true≢false (sym (rw (eq-eqb _ _ u, eq-eqb _ _ c) refl) ∙ n))

pub offer_within : (h : Receiver) (s : Settings) (t i n b d piece room : List ℕ) (q : Received) (t' i' n' b' d' room' : List ℕ) → length s.password ≡ four_bytes → length s.address ≡ four_bytes
    → length h.held ≡ holds → ((k : ℕ) → Fits w8 (get_or i k 0))
    → received_of q t' i' n' b' d' room' ≡ receive_of core (line (reader_of s t i n b d) h) piece (lent_of no_scores no_thresholds room)
    → Offered (line (reader_of s t i n b d) h) piece (lent_of no_scores no_thresholds room) (received_of q t' i' n' b' d' room')
unfolding Bytes holds longest
offer_within h s t i n b d piece room q t' i' n' b' d' room' p a z f e =
    let x : Line = line (reader_of s t i n b d) h in
    subst (Offered x piece (lent_of no_scores no_thresholds room)) (sym e)
    record {
      call = refl;
      taken = taken_within x piece (lent_of no_scores no_thresholds room);
      written = reply_within x piece (lent_of no_scores no_thresholds room) record { password = p; address = a; index = λ k. (f k).fits };
      nearer = brings_nearer x piece (lent_of no_scores no_thresholds room) z;
      cells = z;
    }

-- ---- a piece offered, with a rest of it: the rest gives the whole

-- the chip at every call
abbrev χ : Chip
χ = chip_of no_scores no_thresholds

-- o₀ and o are the bytes of the output, where they are known: what was written of the replies, and then those to the rest
pub record Offering (x₀ : Line) (piece : List ℕ) (o₀ : Option (List ℕ)) (x : Line) (rest : List ℕ) (o : Option (List ℕ)) : Type 0 where
  pub left : (drained χ x₀.reader (bytes_in x₀.receiver ++ piece)).after ≡ (drained χ x.reader (bytes_in x.receiver ++ rest)).after
  pub sent : List ℕ
  pub written : Appends o₀ o sent
  pub still : replies x₀ piece ≡ sent ++ replies x rest

appends_none : (o : Option (List ℕ)) → Appends o o []
appends_none None = tt
appends_none (Some s) = sym (append-nil s)

appends_more : (a b c : Option (List ℕ)) (s t : List ℕ) → Appends a b s → Appends b c t → Appends a c (s ++ t)
appends_more None b c s t e f = tt
appends_more (Some a) None c s t e f = elim e [ ]
appends_more (Some a) (Some b) None s t e f = elim f [ ]
appends_more (Some a) (Some b) (Some c) s t e f = f ∙ ap (λ (y : List ℕ). y ++ t) e ∙ append_assoc a s t

pub begins : (x : Line) (piece : List ℕ) (o : Option (List ℕ)) → Offering x piece o x piece o
begins x piece o = record { left = refl; sent = []; written = appends_none o; still = refl }

-- a slice up to its end
to_end : (a : ℕ) (s : List ℕ) → take (length s - a) (drop a s) ≡ drop a s
to_end a s = take_all (length s - a) (drop a s) (simp length-drop (omega arith))

after_replied : (a : List ℕ) (d : Ran) → (replied a d).after ≡ d.after
unfolding replied
after_replied [] d = refl
after_replied (b ∷ a) d = refl

replies_replied : (a : List ℕ) (d : Ran) → concat (replied a d).replies ≡ a ++ concat d.replies
unfolding replied
replies_replied [] d = refl
replies_replied (b ∷ a) d = refl

module _ (x₀ : Line) (piece : List ℕ) (o₀ : Option (List ℕ)) (x : Line) (s : List ℕ) (w : Option (List ℕ)) (k : Offering x₀ piece o₀ x s w) (room : List ℕ) (o : Handed)
    (f : Offered x s (lent_of no_scores no_thresholds room) o) (e : o.told.refusal ≡ 0) where
  abbrev lent : Lent
  lent = lent_of no_scores no_thresholds room

  -- the drain of the rest begins with this call
  next : drained χ x.reader (bytes_in x.receiver ++ s)
      ≡ replied (reply_of o.told) (drained χ o.after.reader (bytes_in o.after.receiver ++ drop o.told.used s))
  next =
      let all : take (length s) s ≡ s = take_all (length s) s (omega arith) in
      let whole : o ≡ receive_of core x (take (length s) s) lent = f.call ∙ ap (λ (y : List ℕ). receive_of core x y lent) (sym all) in
      subst
      (λ (y : Handed). drained χ x.reader (bytes_in x.receiver ++ s) ≡ replied (reply_of y.told) (drained χ y.after.reader (bytes_in y.after.receiver ++ drop y.told.used s)))
      (sym whole)
      (offered core χ x (length s) s lent (λ i. refl) (subst (λ (y : Handed). y.told.refusal ≡ 0) whole e))

  -- one call more, whose reply is written
  pub again : (v : Option (List ℕ)) → Appends w v (reply_of o.told) → Offering x₀ piece o₀ o.after (take (length s - o.told.used) (drop o.told.used s)) v
  again v a =
      subst (λ (y : List ℕ). Offering x₀ piece o₀ o.after y v) (sym (to_end o.told.used s))
      record {
        left = k.left ∙ ap (λ (d : Ran). d.after) next ∙ after_replied _ _;
        sent = k.sent ++ reply_of o.told;
        written = appends_more o₀ w v k.sent (reply_of o.told) k.written a;
        still =
            k.still ∙ ap (λ (y : List ℕ). k.sent ++ y) (ap (λ (d : Ran). concat d.replies) next ∙ replies_replied _ _)
            ∙ sym (append_assoc k.sent (reply_of o.told) _);
      }

  -- and the last
  module _ (n : is_last o.told.used x.receiver.count o.after.receiver.count ≡ true) where
    took : o.told.used ≡ 0
    took = eqb→eq o.told.used 0 (and_l (eqb o.told.used 0) (eqb o.after.receiver.count x.receiver.count) (rw n tt))

    stayed : o.after.receiver.count ≡ x.receiver.count
    stayed = eqb→eq o.after.receiver.count x.receiver.count (and_r (eqb o.told.used 0) (eqb o.after.receiver.count x.receiver.count) (rw n tt))

    pub over : Drained x₀ piece o.after
    unfolding holds longest
    over =
        let u = took in
        let c = stayed in
        ap (λ (y : Handed). y.after) f.call ∙ all_drained core x s lent f.cells (rw f.call at e) (rw f.call at u) (rw f.call at c) χ ∙ sym k.left

    none_left : s ≡ []
    unfolding holds longest
    none_left =
        let u = took in
        let c = stayed in
        offers_nothing core x s lent f.cells (rw f.call at e) (rw f.call at u) (rw f.call at c)

    -- it answers nothing, and so does the drain
    silent : reply_of o.told ≡ []
    unfolding holds longest reply_of
    silent =
        let u = took in
        let c = stayed in
        let l : o.told.length ≡ 0 = ap (λ (y : Handed). y.told.length) f.call ∙ answers_nothing core x s lent f.cells (rw f.call at e) (rw f.call at u) (rw f.call at c) in
        rw l refl

    unused : used_of (find_of (bytes_in x.receiver)) ≡ 0
    unfolding holds longest fitting run_of
    unused =
        let c = stayed in
        let one : o ≡ receive_of core x [] lent = f.call ∙ ap (λ (y : List ℕ). receive_of core x y lent) none_left in
        let z : (receive_of core x [] lent).told.refusal ≡ 0 = rw one at e in
        let m : (receive_of core x [] lent).after.receiver.count ≡ x.receiver.count = rw one at c in
        let run : run_of x.receiver [] ≡ bytes_in x.receiver = ap (λ (y : List ℕ). bytes_in x.receiver ++ y) (take-nil (holds - x.receiver.count)) ∙ append-nil (bytes_in x.receiver) in
        let g : length (fitting x.receiver []) ≡ 0 = ap (λ (y : List ℕ). length y) (take-nil {A = ℕ} (holds - x.receiver.count)) in
        let u : used_of (find_of (run_of x.receiver [])) ≡ 0 = omega (arith, m, count_after core x [] lent z, length_held core x [] lent f.cells z, used_in (run_of x.receiver [])) in
        rw run at u

    none_answered : replies x s ≡ []
    unfolding at_rest
    none_answered =
        ap (replies x) none_left ∙ ap (λ (y : List ℕ). concat (drained χ x.reader y).replies) (append-nil (bytes_in x.receiver))
        ∙ ap (λ (d : Ran). concat d.replies) (drained_rest χ x.reader (bytes_in x.receiver) unused)

    pub written : (v : Option (List ℕ)) → Appends w v (reply_of o.told) → Appends o₀ v (replies x₀ piece)
    written v a =
        let all : k.sent ++ reply_of o.told ≡ replies x₀ piece = ap (λ (y : List ℕ). k.sent ++ y) (silent ∙ sym none_answered) ∙ sym k.still in
        subst (Appends o₀ v) all (appends_more o₀ w v k.sent (reply_of o.told) k.written a)

-- ---- piece after piece, from the start

consumes_none : (i : Option (List ℕ)) → Consumes i i []
consumes_none None = tt
consumes_none (Some s) = refl

consumes_more : (a b c : Option (List ℕ)) (s t : List ℕ) → Consumes a b s → Consumes b c t → Consumes a c (s ++ t)
consumes_more None b c s t e f = tt
consumes_more (Some a) None c s t e f = elim e [ ]
consumes_more (Some a) (Some b) None s t e f = elim f [ ]
consumes_more (Some a) (Some b) (Some c) s t e f = e ∙ ap (λ (y : List ℕ). s ++ y) f ∙ sym (append_assoc s t c)

-- what was taken and written so far, and the line, which is at rest on it
pub record Talking (i j o p : Option (List ℕ)) (x : Line) : Type 0 where
  pub taken : List ℕ
  pub consumed : Consumes i j taken
  pub written : Appends o p (replies started taken)
  pub line : Drained started taken x

at_start : drained χ started.reader (bytes_in started.receiver ++ []) ≡ at_rest started.reader []
unfolding started drained drain
at_start = ap (λ (s : List ℕ). drained χ started.reader (s ++ [])) (in_holding [])

pub starts : (i o : Option (List ℕ)) (x : Line) → x ≡ started → Talking i i o o x
unfolding started at_rest
starts i o x e =
    record {
      taken = [];
      consumed = consumes_none i;
      written = subst (Appends o o) (sym (ap (λ (d : Ran). concat d.replies) at_start)) (appends_none o);
      line = e ∙ sym (ap (λ (d : Ran). d.after) at_start);
    }

module _ (x₀ : Line) (s t : List ℕ) (x : Line) (d : Drained x₀ s x) where
  abbrev first : Ran
  first = drained χ x₀.reader (bytes_in x₀.receiver ++ s)

  whole : drained χ x₀.reader (bytes_in x₀.receiver ++ (s ++ t)) ≡ gone_on χ t first
  whole = ap (drained χ x₀.reader) (sym (append_assoc (bytes_in x₀.receiver) s t)) ∙ drained_joined χ x₀.reader (bytes_in x₀.receiver ++ s) t

  drained_on : (y : Line) → Drained x t y → Drained x₀ (s ++ t) y
  drained_on y e = e ∙ ap (λ (z : Line). (drained χ z.reader (bytes_in z.receiver ++ t)).after) d ∙ sym (ap (λ (r : Ran). r.after) whole)

  replies_on : replies x₀ (s ++ t) ≡ replies x₀ s ++ replies x t
  replies_on =
      ap (λ (r : Ran). concat r.replies) whole
      ∙ concat-append first.replies (drained χ first.after.reader (bytes_in first.after.receiver ++ t)).replies
      ∙ ap (λ (z : Line). concat first.replies ++ replies z t) (sym d)

pub talks_on : (i j k o p q : Option (List ℕ)) (x y : Line) (piece : List ℕ) → Talking i j o p x → Consumes j k piece → Drained x piece y → Appends p q (replies x piece) → Talking i k o q y
talks_on i j k o p q x y piece a c d w =
    record {
      taken = a.taken ++ piece;
      consumed = consumes_more i j k a.taken piece a.consumed c;
      written = subst (Appends o q) (sym (replies_on started a.taken piece x a.line)) (appends_more o p q (replies started a.taken) (replies x piece) a.written w);
      line = drained_on started a.taken piece x a.line y d;
    }
