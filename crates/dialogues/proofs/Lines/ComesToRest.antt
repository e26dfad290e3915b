-- Request [1], from a legal reader: no call with fit scores, thresholds and reply room is refused, and the caller comes to rest.
use mathlib.Core.Bool.{Bool, true, ◌&&◌}
use mathlib.Core.Path.{◌≡◌, refl, sym, ap, ◌∙◌, subst}
use mathlib.Core.List.{List, [], ◌∷◌}
use Prim.Native.Nat.{ℕ, ◌+◌, ◌*◌, ◌/◌, ◌≤◌}
use native.Mathlib.Omega.{arith}
use native.Mathlib.Decide.{dec_le}
use lib.Dec.{T, eqb, leb, leb→le}
use lib.ListN.{length, take, drop, length-append, length-drop, length-take}
use lib.Seq.{take-nil}
use Rattle.protocol.specs.Numbers.{holds, longest}
use Rattle.protocol.specs.Finder.{find_of, used_of}
use Rattle.protocol.specs.Reader.{Reader, capacity}
use Rattle.protocol.specs.Search.{Chip}
use Rattle.protocol.specs.Step.{step_of}
use Rattle.protocol.specs.Call.{Shape, Lent, fit_lent, Ended, reply_of, carried}
use Rattle.protocol.specs.Dialogue.{Event, received, switch, on, finally}
use Rattle.protocol.specs.Receiver.{bytes_in, holding, Line, line, Handed, fitting, run_of, handed, receive_of, line_switch_of}
use Rattle.dialogues.specs.Caller.{Try, Ran, replied, offers, served, SearchesSee, Rests, resting, on_line, finally_on}
use Rattle.protocol.proofs.Laws.Logic.{and_l, and_r, and_i, eq→eqb}
use Rattle.protocol.proofs.Laws.Answers.{call_legal}
use Rattle.protocol.proofs.Laws.Finder.{used_in}
use Rattle.protocol.proofs.Laws.Holding.{in_holding, holding_sized, few_in, few_held, receive_kinds, receive_legal, switch_kinds}
use Rattle.dialogues.proofs.Laws.History.{call_capacity, ever_capacity}
use Rattle.protocol.proofs.Promises.Refusals.StaysLegal.{Legal, stays_legal}
use Rattle.protocol.proofs.Promises.Packets.ZeroUsed.{empty_run}
use Rattle.dialogues.proofs.Lines.Cuts.{run_left, idle, run_same, fits_nil, cut_free, none_fits, length_held, full_drops, count_after, took_is}

-- every call of a caller lends scores, thresholds and a reply room that are fit for a reader of c pages; and none offers nothing while bytes are left
unfoldable pub lends_fit : ℕ → List Try → Bool
lends_fit c [] = true
lends_fit c (t ∷ ts) = fit_lent c t.lent && lends_fit c ts

unfoldable pub eager : List Try → Bool
eager [] = true
eager (t ∷ ts) = leb 1 t.size && eager ts

module _ (σ : Shape) (ok : σ.most ≤ 8 * σ.indexed) where
  -- a legal reader of c pages, and a receiver of 267 cells with at most as many held bytes
  pub record Ready (c : ℕ) (x : Line) : Type 0 where
    pub pages : length x.reader.guarded.templates / 512 ≡ c
    pub legal : Legal σ ok x.reader
    pub cells : length x.receiver.held ≡ 267
    pub few : x.receiver.count ≤ 267

  module _ (c : ℕ) (x : Line) (k : Ready c x) where
    few_holds : x.receiver.count ≤ holds
    unfolding holds longest
    few_holds = k.few

    pub fit_ready : (lent : Lent) → T (fit_lent c lent) → T (fit_lent (capacity x.reader.guarded) lent)
    unfolding capacity
    fit_ready lent u = rw k.pages u

    -- no call is refused where what is lent anew is fit
    pub ready_accepted : (piece : List ℕ) (lent : Lent) → T (fit_lent c lent) → (receive_of σ x piece lent).told.refusal ≡ 0
    unfolding handed
    ready_accepted piece lent u = ap (λ (o : Handed). o.told.refusal) (receive_legal σ x piece lent k.legal.legal (fit_ready lent u) few_holds)

  has_pages : (c : ℕ) (x : Line) → Ready c x → capacity x.reader.guarded ≡ c
  unfolding capacity
  has_pages c x k = k.pages

  ready_holding : (c : ℕ) (r : Reader) → capacity r.guarded ≡ c → Legal σ ok r → (s : List ℕ) → length s ≤ holds → Ready c (line r (holding s))
  unfolding holding holds longest capacity
  ready_holding c r e l s h = record { pages = e; legal = l; cells = holding_sized s h; few = h }

  -- and what is ready stays ready, refused or not
  ready_receive : (c : ℕ) (x : Line) → Ready c x → (piece : List ℕ) (lent : Lent) → Ready c (receive_of σ x piece lent).after
  unfolding handed carried on
  ready_receive c x k piece lent =
      receive_kinds σ x piece lent (λ (o : Handed). Ready c o.after) (λ n. k)
      (λ t u l.
      let run : List ℕ = run_of x.receiver piece in
      let call = call_legal σ x.reader run lent t u in
      let next : Legal σ ok (step_of lent.chip x.reader run).after =
      subst (λ (e : Ended). Legal σ ok e.after) call (stays_legal σ ok x.reader k.legal (received run lent))
      in
      let same : capacity (step_of lent.chip x.reader run).after.guarded ≡ c =
      subst (λ (e : Ended). capacity e.after.guarded ≡ c) call (call_capacity σ ok x.reader run lent ∙ has_pages c x k)
      in
      ready_holding c (step_of lent.chip x.reader run).after same next (drop (step_of lent.chip x.reader run).used run)
      (omega (arith, length-drop (step_of lent.chip x.reader run).used run, few_held x.receiver piece l)))

  ready_switch : (c : ℕ) (x : Line) → Ready c x → Ready c (line_switch_of x).after
  unfolding on finally
  ready_switch c x k =
      switch_kinds x (λ (o : Handed). Ready c o.after) (λ n e. k)
      (λ e. ready_holding c (on σ x.reader switch).after (ever_capacity σ ok x.reader (switch ∷ []) ∙ has_pages c x k) (stays_legal σ ok x.reader k.legal switch) [] (omega arith))

  -- over any pieces and line switches
  pub ever_ready : (c : ℕ) (es : List Event) (x : Line) → Ready c x → Ready c (finally_on σ x es)
  unfolding finally_on on_line
  ever_ready c [] x k = k
  ever_ready c (received piece lent ∷ es) x k = ever_ready c es (receive_of σ x piece lent).after (ready_receive c x k piece lent)
  ever_ready c (switch ∷ es) x k = ever_ready c es (line_switch_of x).after (ready_switch c x k)

  -- over the calls of a caller
  pub offers_ready : (c : ℕ) (ts : List Try) (x : Line) (s : List ℕ) → Ready c x → Ready c (offers σ ts x s).after
  unfolding offers replied
  offers_ready c [] x s k = k
  offers_ready c (t ∷ ts) x s k =
      let o : Handed = receive_of σ x (take t.size s) t.lent in
      go (reply_of o.told) (offers σ ts o.after (drop o.told.used s)) (offers_ready c ts o.after (drop o.told.used s) (ready_receive c x k (take t.size s) t.lent))
    where
      go : (a : List ℕ) (d : Ran) → Ready c d.after → Ready c (replied a d).after
      go [] d k = k
      go (b ∷ a) d k = record { pages = k.pages; legal = k.legal; cells = k.cells; few = k.few }

  -- of c pages
  module _ (c : ℕ) where
    pub ready_served : (ts : List Try) (x : Line) (s : List ℕ) → Ready c x → T (lends_fit c ts) → T (served σ ts x s)
    unfolding served lends_fit
    ready_served [] x s k u = tt
    ready_served (t ∷ ts) x s k u =
        let o : Handed = receive_of σ x (take t.size s) t.lent in
        and_i (eqb o.told.refusal 0) (served σ ts o.after (drop o.told.used s))
        (eq→eqb o.told.refusal 0 (ready_accepted c x k (take t.size s) t.lent (and_l (fit_lent c t.lent) (lends_fit c ts) u)))
        (ready_served ts o.after (drop o.told.used s) (ready_receive c x k (take t.size s) t.lent) (and_r (fit_lent c t.lent) (lends_fit c ts) u))

    -- so, from a legal start, where a run was cut does not matter, if each Search sees the same scores and thresholds
    pub cuts_alike : (χ : Chip) (x : Line) → Ready c x → (s : List ℕ) (ts us : List Try) (one other : Lent) → T (lends_fit c ts) → T (lends_fit c us) → SearchesSee σ χ ts x s → SearchesSee σ χ us x s
        → Rests σ (offers σ ts x s) one → Rests σ (offers σ us x s) other → resting σ (offers σ ts x s) one ≡ resting σ (offers σ us x s) other
    cuts_alike χ x k s ts us one other u v = cut_free σ χ x s ts us one other (ready_served ts x s k u) (ready_served us x s k v)

    -- ---- the caller comes to rest

    rests_replied : (a : List ℕ) (d : Ran) (lent : Lent) → Rests σ d lent → Rests σ (replied a d) lent
    unfolding replied
    rests_replied [] d lent f = f
    rests_replied (b ∷ a) d lent f = record { all = f.all; accepted = f.accepted; takes = f.takes; answers = f.answers; leaves = f.leaves }

    module _ (lent : Lent) (u : T (fit_lent c lent)) where
      rests_now : (x : Line) → Ready c x → (s : List ℕ) → s ≡ [] → used_of (find_of (bytes_in x.receiver)) ≡ 0 → Rests σ record { replies = []; after = x; left = s } lent
      rests_now x k s n z =
          let o = idle σ x [] lent k.legal.legal (fit_ready c x k lent u) (few_holds c x k) (fits_nil x.receiver) z in
          record {
            all = n;
            accepted = ap (λ (y : Handed). y.told.refusal) o;
            takes = ap (λ (y : Handed). y.told.used) o;
            answers = ap (λ (y : Handed). y.told.length) o;
            leaves = ap (λ (y : Handed). bytes_in y.after.receiver) o ∙ in_holding (bytes_in x.receiver);
          }

      -- a line that holds the same bytes, with zero in the other cells
      neat : Line → Line
      neat x = line x.reader (holding (bytes_in x.receiver))

      ready_neat : (x : Line) → Ready c x → Ready c (neat x)
      unfolding neat
      ready_neat x k = ready_holding c x.reader (has_pages c x k) k.legal (bytes_in x.receiver) (omega (arith, few_in x.receiver, few_holds c x k))

      -- with nothing left and nothing to use, further calls change nothing
      idles : (ts : List Try) (x : Line) → Ready c x → T (lends_fit c ts) → used_of (find_of (bytes_in x.receiver)) ≡ 0 → Rests σ (offers σ ts x []) lent
      unfolding offers lends_fit replied reply_of neat
      idles [] x k v z = rests_now x k [] refl z
      idles (t ∷ ts) x k v z =
          let o : receive_of σ x [] t.lent ≡ record { told = record { refusal = 0; used = 0; length = 0; room = t.lent.room }; after = neat x } =
          idle σ x [] t.lent k.legal.legal (fit_ready c x k t.lent (and_l (fit_lent c t.lent) (lends_fit c ts) v)) (few_holds c x k) (fits_nil x.receiver) z
          in
          rw (take-nil t.size, o) (idles ts (neat x) (ready_neat x k) (and_r (fit_lent c t.lent) (lends_fit c ts) v) (rw (in_holding (bytes_in x.receiver)) z))

      -- THE CALLER COMES TO REST within twice the run's bytes and the held count, however it cuts: each call that offers something takes or drops a byte
      pub comes_to_rest : (ts : List Try) (x : Line) (s : List ℕ) → Ready c x → T (lends_fit c ts) → T (eager ts) → 2 * length s + x.receiver.count ≤ length ts → Rests σ (offers σ ts x s) lent
      unfolding offers lends_fit eager neat
      comes_to_rest [] x s k v w m =
          let none : length (bytes_in x.receiver) ≤ 0 = omega (arith, few_in x.receiver) in
          rests_now x k s (empty_run s (omega arith)) (omega (arith, used_in (bytes_in x.receiver)))
      comes_to_rest (t ∷ ts) x s k v w m =
          rests_replied (reply_of o.told) (offers σ ts o.after (drop o.told.used s)) lent
          (go (dec_le 1 (length (fitting x.receiver piece) + n)) (comes_to_rest ts o.after (drop o.told.used s) (ready_receive c x k piece t.lent) more (and_r (leb 1 t.size) (eager ts) w)))
        where
          piece : List ℕ
          piece = take t.size s

          o : Handed
          o = receive_of σ x piece t.lent

          run : List ℕ
          run = run_of x.receiver piece

          n : ℕ
          n = used_of (find_of run)

          more : T (lends_fit c ts)
          more = and_r (fit_lent c t.lent) (lends_fit c ts) v

          fits : T (fit_lent c t.lent)
          fits = and_l (fit_lent c t.lent) (lends_fit c ts) v

          e : o.told.refusal ≡ 0
          e = ready_accepted c x k piece t.lent fits

          took : o.told.used ≡ length (fitting x.receiver piece)
          took = took_is σ x piece t.lent e

          goal : Type 0
          goal = Rests σ (offers σ ts o.after (drop o.told.used s)) lent

          -- no byte is left to offer, and none was used
          still : length (fitting x.receiver piece) ≡ 0 → n ≡ 0 → s ≡ [] → goal
          still a z p =
              let f : fitting x.receiver piece ≡ [] = empty_run (fitting x.receiver piece) a in
              let z' : used_of (find_of (bytes_in x.receiver)) ≡ 0 = ap (λ (y : List ℕ). used_of (find_of y)) (sym (run_same x.receiver piece f)) ∙ z in
              let i = idle σ x piece t.lent k.legal.legal (fit_ready c x k t.lent fits) (few_holds c x k) f z' in
              let d : drop o.told.used s ≡ [] = ap (λ (j : ℕ). drop j s) (took ∙ a) ∙ p in
              subst (λ (y : Line). Rests σ (offers σ ts y (drop o.told.used s)) lent) (sym (ap (λ (y : Handed). y.after) i))
              (subst (λ (y : List ℕ). Rests σ (offers σ ts (neat x) y) lent) (sym d) (idles ts (neat x) (ready_neat x k) more (rw (in_holding (bytes_in x.receiver)) z')))

          -- a byte is left, and the call neither takes nor drops one
          stuck : length (fitting x.receiver piece) ≡ 0 → n ≡ 0 → 1 ≤ length s → goal
          stuck a z h =
              let big : 1 ≤ length piece = omega (arith, length-take t.size s, leb→le 1 t.size (and_l (leb 1 t.size) (eager ts) w)) in
              let full : x.receiver.count ≡ 267 = none_fits σ x.receiver piece k.few big a in
              absurd (omega (arith, full_drops σ x piece t.lent k.cells e full, count_after σ x piece t.lent e, length_held σ x piece t.lent k.cells e))

          rest : length (fitting x.receiver piece) ≡ 0 → n ≡ 0 → Dec (1 ≤ length s) → goal
          rest a z (yes h) = stuck a z h
          rest a z (no h) = still a z (empty_run s (omega arith))

          go : Dec (1 ≤ length (fitting x.receiver piece) + n) → (2 * length (drop o.told.used s) + o.after.receiver.count ≤ length ts → goal) → goal
          go (yes h) ih =
              let left : List ℕ = drop (length (fitting x.receiver piece)) s in
              let parts : length run + length left ≡ length (bytes_in x.receiver) + length s =
              sym (length-append run left) ∙ ap (λ (y : List ℕ). length y) (run_left x.receiver t.size s) ∙ length-append (bytes_in x.receiver) s
              in
              let d : length (drop o.told.used s) ≡ length left = ap (λ (j : ℕ). length (drop j s)) took in
              ih (omega (arith, count_after σ x piece t.lent e, length_held σ x piece t.lent k.cells e, few_in x.receiver, used_in run))
          go (no h) ih = rest (omega arith) (omega arith) (dec_le 1 (length s))
