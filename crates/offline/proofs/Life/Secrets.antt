-- Demand 3 over any life: no host learns more because gaps were closed or a library was salvaged between its runs, nor whether that was done. "two legal locked readers of equal capacity and, but for the filled marks,
-- equal settings, whose templates, index, notepad, buffers and filled marks differ at will, answer any sequence of runs alike, line switches among them, up to and
-- including the first accepted password": with work between them, each reader's own, whatever is lent for it, refused or not.
use mathlib.Core.Bool.{Bool, true, false, ◌&&◌, cond}
use mathlib.Core.Path.{◌≡◌, refl, sym, ap, ap₂, ◌∙◌, subst}
use mathlib.Core.List.{List, [], ◌∷◌}
use Prim.Native.Nat.{ℕ, zero, suc, ◌*◌, ◌≤◌}
use lib.Dec.{T}
use Rattle.protocol.specs.Numbers.{bad_length, bad_setting}
use Rattle.protocol.specs.Tests.{verdict}
use Rattle.protocol.specs.Index.{clear_from}
use Rattle.protocol.specs.Reader.{Transfer, closed, Plain, Guarded, Reader, capacity, locked, reader}
use Rattle.protocol.specs.Call.{Shape, fit_plain, fit_transfer, fit_origins, sound, legal, Told, Ended}
use Rattle.protocol.specs.Dialogue.{Event, received, switch, on, finally, Dialogue, over, first, dialogue, kept}
use Rattle.protocol.proofs.Laws.Locked.{veiled, shut_of, locked_call, plain_or, locked_switch}
use Rattle.protocol.proofs.Promises.Refusals.StaysLegal.{Legal, stays_legal, ever_legal}
use Rattle.protocol.proofs.Promises.Secrets.Lock.{mark, Blind, second_half}
use Rattle.dialogues.proofs.Laws.History.{ever_capacity}
use Rattle.offline.specs.CloseGaps.{fit_closing, close_refusal, close_as, close_of}
use Rattle.offline.specs.Salvage.{salvaged_in}
use Rattle.offline.specs.Life.{after_work, Deed, calls, between, deed, lastly, answers, kept_over, Unopened, NeverOpened, PairedDeeds}
use Rattle.offline.proofs.Life.Work.{work_legal, work_plain, work_capacity}

-- ---- the first half: "its copy with only the verified mark changed" is one after a closing and after a salvage, too

-- without a transfer the marks make no difference
same_transfer : (p q : Plain) (g : Guarded) (t : Transfer) → t ≡ closed → fit_transfer p g t ≡ fit_transfer q g t
unfolding fit_transfer
same_transfer p q g t z = rw z refl

same_refusal : (σ : Shape) (r : Reader) → r.plain.transfer ≡ closed → (b : Bool) (table : List ℕ) → close_refusal σ (mark b r) table ≡ close_refusal σ r table
unfolding close_refusal sound fit_plain
same_refusal σ r z b table =
    let g = r.guarded in
    ap (λ (x : Bool). verdict ((fit_closing σ g table, bad_length) ∷ (fit_plain r.plain && x && clear_from g.index (capacity g) && fit_origins g, bad_setting) ∷ []))
    (same_transfer (mark b r).plain r.plain g r.plain.transfer z)

pub closed_copy : (σ : Shape) (r : Reader) → r.plain.transfer ≡ closed → (b : Bool) (table : List ℕ)
    → close_of σ (mark b r) table ≡ (let e = close_of σ r table in record { refusal = e.refusal; table = e.table; after = mark b e.after })
unfolding close_of close_as
closed_copy σ r z b table = ap (close_as (mark b r) table) (same_refusal σ r z b table) ∙ go (close_refusal σ r table)
  where
    go : (n : ℕ) → close_as (mark b r) table n ≡ (let e = close_as r table n in record { refusal = e.refusal; table = e.table; after = mark b e.after })
    go zero = refl
    go (suc n) = refl

pub salvaged_copy : (σ : Shape) (r : Reader) (b : Bool) (report : List ℕ) → salvaged_in σ (mark b r) report ≡ mark b (salvaged_in σ r report)
unfolding salvaged_in
salvaged_copy σ r b report = refl

-- ---- the second half

module _ (σ : Shape) (ok : σ.most ≤ 8 * σ.indexed) where
  -- a locked reader keeps its settings, but for a right password
  pub still_locked : (r : Reader) → T (legal σ r) → T (locked r.plain) → (e : Event) → (on σ r e).after.plain.verified ≡ false → (on σ r e).after.plain ≡ r.plain
  unfolding on
  still_locked r f l (received s lent) = rw (locked_call σ r f l s lent) (plain_or (veiled r.plain (capacity r.guarded)) (shut_of σ r f l).unverified s _ lent.room)
  still_locked r f l switch = rw (locked_switch σ r f l) (λ v. refl)

  event_stays : (r : Reader) → T (legal σ r) → T (locked r.plain) → (e : Event) → (on σ r e).after.guarded ≡ kept r.guarded (e ∷ [])
  unfolding on kept
  event_stays r f l (received s lent) = ap (λ (e : Ended). e.after.guarded) (locked_call σ r f l s lent)
  event_stays r f l switch = ap (λ (e : Ended). e.after.guarded) (locked_switch σ r f l)

  kept_more : (e : Event) (es : List Event) (g : Guarded) → kept g (e ∷ es) ≡ kept (kept g (e ∷ [])) es
  unfolding kept
  kept_more (received s lent) es g = refl
  kept_more switch es g = refl

  events_stay : (es : List Event) (r : Reader) → Legal σ ok r → T (locked r.plain) → Unopened σ r es → finally σ r es ≡ reader r.plain (kept r.guarded es)
  unfolding finally kept
  events_stay [] r l k n = refl
  events_stay (e ∷ es) r l k (n, ns) =
      let t : Reader = (on σ r e).after in
      let p : t.plain ≡ r.plain = still_locked r l.legal k e n in
      events_stay es t (stays_legal σ ok r l e) (subst (λ (x : Plain). T (locked x)) (sym p) k) ns
      ∙ (λ j. reader (p j) (kept (event_stays r l.legal k e j) es)) ∙ ap (reader r.plain) (sym (kept_more e es r.guarded))

  -- where a dialogue leaves off
  record LeavesOff (r : Reader) (d : Dialogue) : Type 0 where
    legally : Legal σ ok d.last
    pages : capacity d.last.guarded ≡ capacity r.guarded
    settings : d.last.plain.verified ≡ false → d.last.plain ≡ r.plain

  leaves_off : (es : List Event) (r : Reader) → Legal σ ok r → T (locked r.plain) → LeavesOff r (dialogue σ r es)
  unfolding dialogue over first finally
  leaves_off [] r l k = record { legally = l; pages = refl; settings = λ v. refl }
  leaves_off (e ∷ es) r l k = go t.plain.verified refl (leaves_off es t m)
    where
      t : Reader
      t = (on σ r e).after

      m : Legal σ ok t
      m = stays_legal σ ok r l e

      same : capacity t.guarded ≡ capacity r.guarded
      same = ever_capacity σ ok r (e ∷ [])

      go : (b : Bool) → t.plain.verified ≡ b → (T (locked t.plain) → LeavesOff t (dialogue σ t es))
          → LeavesOff r (first e (on σ r e).told (cond b (over t) (dialogue σ t es)))
      go true v ih = record { legally = m; pages = same; settings = λ w. still_locked r l.legal k e w }
      go false v ih =
          let p : t.plain ≡ r.plain = still_locked r l.legal k e v in
          let i = ih (subst (λ (x : Plain). T (locked x)) (sym p) k) in
          record { legally = i.legally; pages = i.pages ∙ same; settings = λ w. i.settings w ∙ p }

  pub answer_alike : (ds gs : List Deed) (r t : Reader) → PairedDeeds (capacity r.guarded) ds gs → Legal σ ok r → Legal σ ok t → T (locked r.plain) → r.plain ≡ t.plain
      → capacity r.guarded ≡ capacity t.guarded → answers σ r ds ≡ answers σ t gs
  unfolding answers
  answer_alike [] [] r t q l m k e c = refl
  answer_alike [] (calls fs ∷ gs) r t q l m k e c = absurd q
  answer_alike [] (between u ∷ gs) r t q l m k e c =
      answer_alike [] gs r (after_work σ t u) q l (work_legal σ ok u t m) k (e ∙ sym (work_plain σ ok u t)) (c ∙ sym (work_capacity σ ok u t))
  answer_alike (calls es ∷ ds) [] r t q l m k e c = absurd q
  answer_alike (calls es ∷ ds) (between u ∷ gs) r t q l m k e c =
      answer_alike (calls es ∷ ds) gs r (after_work σ t u) q l (work_legal σ ok u t m) k (e ∙ sym (work_plain σ ok u t)) (c ∙ sym (work_capacity σ ok u t))
  answer_alike (between u ∷ ds) gs r t q l m k e c =
      answer_alike ds gs (after_work σ r u) t (subst (λ (n : ℕ). PairedDeeds n ds gs) (sym (work_capacity σ ok u r)) q) (work_legal σ ok u r l) m
      (subst (λ (p : Plain). T (locked p)) (sym (work_plain σ ok u r)) k) (work_plain σ ok u r ∙ e) (work_capacity σ ok u r ∙ c)
  answer_alike (calls es ∷ ds) (calls fs ∷ gs) r t (p, q) l m k e c =
      ap₂ (λ (a : List Told) (b : List (List Told)). a ∷ b) blind.told
      (go x.last.plain.verified y.last.plain.verified refl (sym (ap (λ (p : Plain). p.verified) blind.settings))
      (answer_alike ds gs x.last y.last (subst (λ (n : ℕ). PairedDeeds n ds gs) (sym one.pages) q) one.legally other.legally))
    where
      x : Dialogue
      x = dialogue σ r es

      y : Dialogue
      y = dialogue σ t fs

      blind : Blind (capacity r.guarded) r.guarded t.guarded x y
      blind = second_half σ r t l.legal m.legal k e c es fs p

      one : LeavesOff r x
      one = leaves_off es r l k

      other : LeavesOff t y
      other = leaves_off fs t m (subst (λ (p : Plain). T (locked p)) e k)

      go : (a b : Bool) → x.last.plain.verified ≡ a → b ≡ a
          → (T (locked x.last.plain) → x.last.plain ≡ y.last.plain → capacity x.last.guarded ≡ capacity y.last.guarded → answers σ x.last ds ≡ answers σ y.last gs)
          → cond a [] (answers σ x.last ds) ≡ cond b [] (answers σ y.last gs)
      go true b v w ih = rw w refl
      go false b v w ih =
          rw w
          (ih (subst (λ (p : Plain). T (locked p)) (sym (one.settings v)) k) blind.settings (one.pages ∙ c ∙ sym other.pages))

  -- ---- "Until then these contents stay as they were, save that a line switch wipes the two buffers and clears their filled marks": runs change nothing, and work what
  -- it changes

  pub contents_stay : (ds : List Deed) (r : Reader) → Legal σ ok r → T (locked r.plain) → NeverOpened σ r ds → lastly σ r ds ≡ reader r.plain (kept_over σ r.plain r.guarded ds)
  unfolding lastly deed kept_over
  contents_stay [] r l k n = refl
  contents_stay (calls es ∷ ds) r l k (n, u) =
      let same : finally σ r es ≡ reader r.plain (kept r.guarded es) = events_stay es r l k n in
      contents_stay ds (finally σ r es) (ever_legal σ ok r l es) (subst (λ (x : Reader). T (locked x.plain)) (sym same) k) u
      ∙ ap (λ (x : Reader). reader x.plain (kept_over σ x.plain x.guarded ds)) same
  contents_stay (between w ∷ ds) r l k u =
      let t : Reader = after_work σ r w in
      contents_stay ds t (work_legal σ ok w r l) (subst (λ (p : Plain). T (locked p)) (sym (work_plain σ ok w r)) k) u
      ∙ ap (λ (p : Plain). reader p (kept_over σ p t.guarded ds)) (work_plain σ ok w r)
