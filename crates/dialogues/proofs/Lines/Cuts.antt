-- Request [1], its caller: "the caller offers the rest, then an empty piece, until a call takes nothing, answers nothing and leaves the held
-- bytes as they are. After that, the replies in order, the end state and the held bytes must not depend on where a run was cut, as long as
-- no call is refused and no line switch falls inside it."
use mathlib.Core.Bool.{Bool}
use mathlib.Core.Path.{◌≡◌, refl, sym, ap, ◌∙◌, subst}
use mathlib.Core.Logic.{inl, inr, ◌↔◌}
use mathlib.Core.List.{List, [], ◌∷◌, ◌++◌, append_assoc, append-nil}
use Prim.Native.Nat.{ℕ, zero, suc, ◌+◌, ◌-◌, ◌≤◌, ◌<◌}
use native.Mathlib.Omega.{arith}
use native.Mathlib.Decide.{dec_le}
use lib.Dec.{T, eqb, eqb→eq}
use lib.ListN.{length, take, drop, length-drop, length-take}
use lib.Seq.{take-nil}
use Rattle.protocol.specs.declared.Receiver.{Receiver}
use Rattle.protocol.specs.Numbers.{holds, longest}
use Rattle.protocol.specs.Finder.{find_of, used_of}
use Rattle.protocol.specs.Reader.{Reader, capacity}
use Rattle.protocol.specs.Search.{Chip}
use Rattle.protocol.specs.Step.{nothing, hear, IsSearch, step_of}
use Rattle.protocol.specs.Call.{Shape, Lent, fit_lent, legal, reply_of, carried, call_of}
use Rattle.protocol.specs.Receiver.{bytes_in, holding, Line, line, Handed, fitting, run_of, handed, receive_of}
use Rattle.dialogues.specs.Caller.{Try, Ran, replied, offers, served, SearchesSee, Rests, resting, at_rest, drained}
use Rattle.protocol.proofs.Laws.Logic.{and_l, and_r}
use Rattle.protocol.proofs.Laws.Lists.{take_lay, lay_nothing}
use Rattle.protocol.proofs.Laws.Answers.{call_legal}
use Rattle.protocol.proofs.Laws.ChipFree.{chip_free}
use Rattle.protocol.proofs.Laws.Finder.{used_in}
use Rattle.dialogues.proofs.Laws.Growth.{Grows, settled, goes_on, grows, zero_silent}
use Rattle.dialogues.proofs.Laws.Drain.{drained_rest, others, settled_left, goes_on_left, drained_more, step_rest}
use Rattle.protocol.proofs.Laws.Holding.{in_holding, all_in, few_held, length_run, reply_taken, receive_legal, Carried, accepted}
use Rattle.protocol.proofs.Promises.Packets.ZeroUsed.{Waiting, empty_run, found_waits}

-- ---- one call

-- what is taken of a piece, and then all that is left of the run, is the run
prefix : (k n : ℕ) (s : List ℕ) → take k (take n s) ++ drop (length (take k (take n s))) s ≡ s
prefix zero n s = refl
prefix (suc k) zero s = refl
prefix (suc k) (suc n) [] = refl
prefix (suc k) (suc n) (x ∷ s) = ap (λ (t : List ℕ). x ∷ t) (prefix k n s)

-- the run of a call, and then all that is left, is the held bytes and the run
pub run_left : (h : Receiver) (n : ℕ) (s : List ℕ) → run_of h (take n s) ++ drop (length (fitting h (take n s))) s ≡ bytes_in h ++ s
unfolding run_of fitting
run_left h n s =
    let c : List ℕ = take (holds - h.count) (take n s) in
    append_assoc (bytes_in h) c (drop (length c) s) ∙ ap (λ (z : List ℕ). bytes_in h ++ z) (prefix (holds - h.count) n s)

pub fits_nil : (h : Receiver) → fitting h [] ≡ []
unfolding fitting
fits_nil h = take-nil (holds - h.count)

-- of a piece of which nothing fits, nothing is new: the held bytes are the run
pub run_same : (h : Receiver) (piece : List ℕ) → fitting h piece ≡ [] → run_of h piece ≡ bytes_in h
unfolding run_of
run_same h piece e = rw e (append-nil (bytes_in h))

module _ (σ : Shape) (x : Line) (piece : List ℕ) (lent : Lent) where
  -- where nothing fits and nothing is used, nothing happens, but that cells past the count are zeroed
  pub idle : T (legal σ x.reader) → T (fit_lent (capacity x.reader.guarded) lent) → x.receiver.count ≤ holds → fitting x.receiver piece ≡ [] → used_of (find_of (bytes_in x.receiver)) ≡ 0
      → receive_of σ x piece lent ≡ record { told = record { refusal = 0; used = 0; length = 0; room = lent.room }; after = line x.reader (holding (bytes_in x.receiver)) }
  unfolding handed carried
  idle t u l e z =
      rw (receive_legal σ x piece lent t u l, run_same x.receiver piece e, step_rest lent.chip x.reader (bytes_in x.receiver) z, e, lay_nothing 0 lent.room) refl

  module _ (e : (receive_of σ x piece lent).told.refusal ≡ 0) where
    -- what a call leaves of the held bytes
    pub count_after : (receive_of σ x piece lent).after.receiver.count ≡ length (run_of x.receiver piece) - used_of (find_of (run_of x.receiver piece))
    unfolding handed carried step_of holding
    count_after = rw (accepted σ x piece lent e).does (length-drop (used_of (find_of (run_of x.receiver piece))) (run_of x.receiver piece))

    pub took_is : (receive_of σ x piece lent).told.used ≡ length (fitting x.receiver piece)
    unfolding handed
    took_is = ap (λ (o : Handed). o.told.used) (accepted σ x piece lent e).does

    pub bytes_after : bytes_in (receive_of σ x piece lent).after.receiver ≡ drop (used_of (find_of (run_of x.receiver piece))) (run_of x.receiver piece)
    unfolding handed carried step_of
    bytes_after = rw (accepted σ x piece lent e).does (in_holding (drop (used_of (find_of (run_of x.receiver piece))) (run_of x.receiver piece)))

-- ---- the calls of a caller are the drain of the held bytes and the run

-- the replies so far, and then what is still to come
ends : Chip → Ran → Ran
ends χ d =
    let e = drained χ d.after.reader (bytes_in d.after.receiver ++ d.left) in
    record { replies = d.replies ++ e.replies; after = e.after; left = e.left }

replied_ends : (χ : Chip) (a : List ℕ) (d : Ran) → replied a (ends χ d) ≡ ends χ (replied a d)
unfolding replied ends
replied_ends χ [] d = refl
replied_ends χ (b ∷ a) d = refl

module _ (σ : Shape) (χ : Chip) where
  -- one call, not refused, that lends these scores and thresholds if it deals with a Search
  pub offered : (x : Line) (n : ℕ) (s : List ℕ) (lent : Lent) → (IsSearch (hear x.reader.plain.address (run_of x.receiver (take n s))) → lent.chip ≡ χ)
      → (receive_of σ x (take n s) lent).told.refusal ≡ 0
      → drained χ x.reader (bytes_in x.receiver ++ s)
      ≡ replied (reply_of (receive_of σ x (take n s) lent).told)
      (drained χ (receive_of σ x (take n s) lent).after.reader (bytes_in (receive_of σ x (take n s) lent).after.receiver ++ drop (receive_of σ x (take n s) lent).told.used s))
  unfolding handed carried step_of
  offered x n s lent same e =
      let r : Reader = x.reader in
      let c : List ℕ = fitting x.receiver (take n s) in
      let run : List ℕ = run_of x.receiver (take n s) in
      rw ((accepted σ x (take n s) lent e).does, reply_taken x (take n s) lent, in_holding (drop (used_of (find_of run)) run))
      (rw (chip_free lent.chip χ r (hear r.plain.address run) same) (ap (drained χ r) (sym (run_left x.receiver n s)) ∙ drained_more χ r run (drop (length c) s)))

  offers_drain : (ts : List Try) (x : Line) (s : List ℕ) → T (served σ ts x s) → SearchesSee σ χ ts x s → drained χ x.reader (bytes_in x.receiver ++ s) ≡ ends χ (offers σ ts x s)
  unfolding offers served SearchesSee ends
  offers_drain [] x s t see = refl
  offers_drain (c ∷ ts) x s t (see, sees) =
      let o : Handed = receive_of σ x (take c.size s) c.lent in
      let more : Bool = served σ ts o.after (drop o.told.used s) in
      offered x c.size s c.lent see (eqb→eq o.told.refusal 0 (and_l (eqb o.told.refusal 0) more t))
      ∙ ap (replied (reply_of o.told)) (offers_drain ts o.after (drop o.told.used s) (and_r (eqb o.told.refusal 0) more t) sees)
      ∙ replied_ends χ (reply_of o.told) (offers σ ts o.after (drop o.told.used s))

  -- held bytes that stay as they are: none of them were used
  unused : (u : ℕ) (h : List ℕ) → u ≤ length h → drop u h ≡ h → u ≡ 0
  unused u h l e = let d : length (drop u h) ≡ length h = ap (λ (y : List ℕ). length y) e in omega (arith, length-drop u h)

  rest_used : (x : Line) (lent : Lent) → (receive_of σ x [] lent).told.refusal ≡ 0 → bytes_in (receive_of σ x [] lent).after.receiver ≡ bytes_in x.receiver
      → used_of (find_of (bytes_in x.receiver)) ≡ 0
  rest_used x lent e k =
      let b : List ℕ = bytes_in x.receiver in
      let same : run_of x.receiver [] ≡ b = run_same x.receiver [] (fits_nil x.receiver) in
      let k' : drop (used_of (find_of (run_of x.receiver []))) (run_of x.receiver []) ≡ b = sym (bytes_after σ x [] lent e) ∙ k in
      unused (used_of (find_of b)) b (used_in b) (rw same at k')

  rests_ends : (d : Ran) (lent : Lent) → Rests σ d lent → resting σ d lent ≡ ends χ d
  unfolding resting ends at_rest
  rests_ends d lent f =
      let x : Line = d.after in
      let c : Carried σ x [] lent = accepted σ x [] lent f.accepted in
      let z : used_of (find_of (bytes_in x.receiver)) ≡ 0 = rest_used x lent f.accepted f.leaves in
      rw (idle σ x [] lent c.legal c.roomy c.few (fits_nil x.receiver) z, f.all, append-nil (bytes_in x.receiver), drained_rest χ x.reader (bytes_in x.receiver) z, append-nil d.replies)
      refl

  -- what any caller comes to: document 01's call, again and again, on the held bytes and the run joined
  pub rests_drained : (ts : List Try) (x : Line) (s : List ℕ) (lent : Lent) → T (served σ ts x s) → SearchesSee σ χ ts x s → Rests σ (offers σ ts x s) lent
      → resting σ (offers σ ts x s) lent ≡ drained χ x.reader (bytes_in x.receiver ++ s)
  rests_drained ts x s lent t see f = rests_ends (offers σ ts x s) lent f ∙ sym (offers_drain ts x s t see)

  -- WHERE A RUN WAS CUT DOES NOT MATTER: two ways to offer it, no call refused, every Search with the same scores and thresholds, both through to rest; the same
  -- replies in order, the same reader, the same held bytes, and the same cells
  pub cut_free : (x : Line) (s : List ℕ) (ts us : List Try) (one other : Lent) → T (served σ ts x s) → T (served σ us x s) → SearchesSee σ χ ts x s → SearchesSee σ χ us x s
      → Rests σ (offers σ ts x s) one → Rests σ (offers σ us x s) other → resting σ (offers σ ts x s) one ≡ resting σ (offers σ us x s) other
  cut_free x s ts us one other t u see saw f g = rests_drained ts x s one t see f ∙ sym (rests_drained us x s other u saw g)

-- ---- a run without a Search

-- of the packets that document 01's call finds in these bytes, one after the other, none is a Search, whatever its address
pub data Searchless : List ℕ → Type 0 where
  none_left : {s : List ℕ} → used_of (find_of s) ≡ 0 → Searchless s
  and_next : {s : List ℕ} → ((address : List ℕ) → IsSearch (hear address s) → ⊥) → Searchless (drop (used_of (find_of s)) s) → Searchless s

silent_none : (a s : List ℕ) → hear a s ≡ nothing → IsSearch (hear a s) → ⊥
silent_none a s e i = elim (subst IsSearch e i) [ ]

searchless_call : (s : List ℕ) → Searchless s → ((a : List ℕ) → IsSearch (hear a s) → ⊥) × Searchless (drop (used_of (find_of s)) s)
searchless_call s (none_left z) = (λ a. silent_none a s (zero_silent a s z), rw z (none_left z))
searchless_call s (and_next d n) = (d, n)

-- of a run s and the bytes t behind it: none in s, and none in all that the call on s leaves
pub searchless_more : (s t : List ℕ) → Searchless (s ++ t) ↔ (((a : List ℕ) → IsSearch (hear a s) → ⊥) × Searchless (others s t))
searchless_more s t = (λ n. from (searchless_call (s ++ t) n) (grows s t), λ n. to n.0 n.1 (grows s t))
  where
    from : ((a : List ℕ) → IsSearch (hear a (s ++ t)) → ⊥) × Searchless (drop (used_of (find_of (s ++ t))) (s ++ t)) → Grows s t
        → ((a : List ℕ) → IsSearch (hear a s) → ⊥) × Searchless (others s t)
    from (d, n) (settled p q) = (λ a i. d a (subst IsSearch (sym (q a)) i), subst Searchless (settled_left s t p) n)
    from (d, n) (goes_on p q k) = (λ a. silent_none a s (p a), and_next (λ a i. d a (subst IsSearch (sym (k a)) i)) (subst Searchless (goes_on_left s t q) n))

    to : ((a : List ℕ) → IsSearch (hear a s) → ⊥) → Searchless (others s t) → Grows s t → Searchless (s ++ t)
    to d n (settled p q) = and_next (λ a i. d a (subst IsSearch (q a) i)) (rw (settled_left s t p) n)
    to d n (goes_on p q k) = let m = searchless_call (others s t) n in and_next (λ a i. m.0 a (subst IsSearch (k a) i)) (rw (goes_on_left s t q) m.1)

module _ (σ : Shape) where
  -- then no call deals with one, so that each may lend what scores and thresholds it will
  pub none_sees : (χ : Chip) (ts : List Try) (x : Line) (s : List ℕ) → Searchless (bytes_in x.receiver ++ s) → T (served σ ts x s) → SearchesSee σ χ ts x s
  unfolding served SearchesSee
  none_sees χ [] x s n t = tt
  none_sees χ (c ∷ ts) x s n t =
      let piece : List ℕ = take c.size s in
      let o : Handed = receive_of σ x piece c.lent in
      let more : Bool = served σ ts o.after (drop o.told.used s) in
      let e : o.told.refusal ≡ 0 = eqb→eq o.told.refusal 0 (and_l (eqb o.told.refusal 0) more t) in
      let run : List ℕ = run_of x.receiver piece in
      let left : List ℕ = drop (length (fitting x.receiver piece)) s in
      let none = (searchless_more run left).0 (rw (run_left x.receiver c.size s) n) in (
        λ i. absurd (none.0 x.reader.plain.address i),
        none_sees χ ts o.after (drop o.told.used s) (rw (bytes_after σ x piece c.lent e, took_is σ x piece c.lent e) none.1) (and_r (eqb o.told.refusal 0) more t),
      )

  -- where a run was cut does not matter, whatever scores and thresholds each call lends
  pub cut_free_without_search : (x : Line) (s : List ℕ) → Searchless (bytes_in x.receiver ++ s) → (ts us : List Try) (one other : Lent) → T (served σ ts x s) → T (served σ us x s)
      → Rests σ (offers σ ts x s) one → Rests σ (offers σ us x s) other → resting σ (offers σ ts x s) one ≡ resting σ (offers σ us x s) other
  cut_free_without_search x s n ts us one other t u = let χ : Chip = one.chip in cut_free σ χ x s ts us one other t u (none_sees χ ts x s n t) (none_sees χ us x s n u)

  -- each step of the drain is that call: its bytes used, its reply and its reader after it
  pub drains_by_call : (r : Reader) (s : List ℕ) (lent : Lent) → T (legal σ r) → T (fit_lent (capacity r.guarded) lent)
      → ((call_of σ r s lent).told.used ≡ used_of (find_of s)) × ((reply_of (call_of σ r s lent).told ≡ (step_of lent.chip r s).reply) × ((call_of σ r s lent).after ≡ (step_of lent.chip r s).after))
  unfolding carried reply_of step_of
  drains_by_call r s lent f u = rw (call_legal σ r s lent f u) (refl, (take_lay (step_of lent.chip r s).reply lent.room, refl))

  -- ---- 267 cells are enough: a full receiver drops something, and a call that is offered a byte takes or drops one

  waits_few : (s : List ℕ) → used_of (find_of s) ≡ 0 → length s < 267
  waits_few s z = go (found_waits s z)
    where
      go : Waiting s → length s < 267
      go (inl e) = let m : length s ≡ 0 = ap (λ (y : List ℕ). length y) e in omega arith
      go (inr (inl e)) = let m : length s ≡ 1 = ap (λ (y : List ℕ). length y) e in omega arith
      go (inr (inr w)) = omega (arith, w.few)

  -- a call that is carried out leaves room for a byte
  pub leaves_room : (x : Line) (piece : List ℕ) (lent : Lent) → (receive_of σ x piece lent).told.refusal ≡ 0 → (receive_of σ x piece lent).after.receiver.count ≤ 266
  unfolding holds longest
  leaves_room x piece lent e = go (dec_le 1 (used_of (find_of run)))
    where
      run : List ℕ
      run = run_of x.receiver piece

      few : length run ≤ 267
      few = few_held x.receiver piece (accepted σ x piece lent e).few

      go : Dec (1 ≤ used_of (find_of run)) → (receive_of σ x piece lent).after.receiver.count ≤ 266
      go (yes h) = omega (arith, few, count_after σ x piece lent e)
      go (no h) = let u : used_of (find_of run) ≡ 0 = omega arith in omega (arith, count_after σ x piece lent e, waits_few run u)

  -- of a piece that has a byte, nothing fits: the receiver is full
  pub none_fits : (h : Receiver) (piece : List ℕ) → h.count ≤ 267 → 1 ≤ length piece → length (fitting h piece) ≡ 0 → h.count ≡ 267
  unfolding fitting holds longest
  none_fits h piece l m e = omega (arith, length-take (267 - h.count) piece)

  module _ (x : Line) (piece : List ℕ) (lent : Lent) (z : length x.receiver.held ≡ 267) (e : (receive_of σ x piece lent).told.refusal ≡ 0) where
    few : x.receiver.count ≤ 267
    unfolding holds longest
    few = (accepted σ x piece lent e).few

    pub length_held : length (run_of x.receiver piece) ≡ x.receiver.count + length (fitting x.receiver piece)
    unfolding holds longest
    length_held = omega (arith, length_run x.receiver piece, all_in x.receiver z few)

    -- a full receiver always drops something
    pub full_drops : x.receiver.count ≡ 267 → (receive_of σ x piece lent).after.receiver.count < 267
    full_drops full = omega (arith, leaves_room x piece lent e)

    -- how a caller sees the end by two numbers: a call that takes nothing and leaves the held count
    module _ (k : (receive_of σ x piece lent).told.used ≡ 0) (same : (receive_of σ x piece lent).after.receiver.count ≡ x.receiver.count) where
      none : fitting x.receiver piece ≡ []
      none = empty_run (fitting x.receiver piece) (sym (took_is σ x piece lent e) ∙ k)

      still : used_of (find_of (bytes_in x.receiver)) ≡ 0
      still =
          let run : List ℕ = run_of x.receiver piece in
          let f : length (fitting x.receiver piece) ≡ 0 = ap (λ (y : List ℕ). length y) none in
          let z : used_of (find_of run) ≡ 0 = omega (arith, count_after σ x piece lent e, length_held, same, used_in run) in
          ap (λ (y : List ℕ). used_of (find_of y)) (sym (run_same x.receiver piece none)) ∙ z

      does : receive_of σ x piece lent ≡ record { told = record { refusal = 0; used = 0; length = 0; room = lent.room }; after = line x.reader (holding (bytes_in x.receiver)) }
      does = let c : Carried σ x piece lent = accepted σ x piece lent e in idle σ x piece lent c.legal c.roomy c.few none still

      -- it was offered nothing
      pub offers_nothing : piece ≡ []
      offers_nothing = empty_run piece (go (dec_le 1 (length piece)))
        where
          go : Dec (1 ≤ length piece) → length piece ≡ 0
          go (yes h) =
              let full : x.receiver.count ≡ 267 = none_fits x.receiver piece few h (ap (λ (y : List ℕ). length y) none) in
              absurd (omega (arith, full_drops full))
          go (no h) = omega arith

      -- answers nothing, and leaves the held bytes
      pub answers_nothing : (receive_of σ x piece lent).told.length ≡ 0
      answers_nothing = ap (λ (o : Handed). o.told.length) does

      pub leaves_held : bytes_in (receive_of σ x piece lent).after.receiver ≡ bytes_in x.receiver
      leaves_held = ap (λ (o : Handed). bytes_in o.after.receiver) does ∙ in_holding (bytes_in x.receiver)

      -- so it is the last call
      pub all_drained : (χ : Chip) → (receive_of σ x piece lent).after ≡ (drained χ x.reader (bytes_in x.receiver ++ piece)).after
      unfolding at_rest
      all_drained χ = rw (does, offers_nothing, append-nil (bytes_in x.receiver), drained_rest χ x.reader (bytes_in x.receiver) still) refl

      -- and the caller, who offered all that was left, is at rest: what he tests by two numbers is what `Rests` says
      pub stops_at_rest : (replies : List (List ℕ)) → Rests σ record { replies = replies; after = x; left = piece } lent
      stops_at_rest replies =
          let c : Carried σ x piece lent = accepted σ x piece lent e in
          let o = idle σ x [] lent c.legal c.roomy c.few (fits_nil x.receiver) still in
          record {
            all = offers_nothing;
            accepted = ap (λ (y : Handed). y.told.refusal) o;
            takes = ap (λ (y : Handed). y.told.used) o;
            answers = ap (λ (y : Handed). y.told.length) o;
            leaves = ap (λ (y : Handed). bytes_in y.after.receiver) o ∙ in_holding (bytes_in x.receiver);
          }

      -- what stays held is nothing, a lone EF, or an unfinished packet of at most 266 bytes
      pub holds_waiting : Waiting (take x.receiver.count x.receiver.held)
      unfolding bytes_in
      holds_waiting = found_waits (bytes_in x.receiver) still
