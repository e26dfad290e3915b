-- The same with a receiver: over any life of pieces, line switches and work between them, by what its host saw and the tables that were told.
use mathlib.Core.Bool.{true, false}
use mathlib.Core.Path.{◌≡◌, refl, sym, ap, ◌∙◌, subst}
use mathlib.Core.List.{List, [], ◌∷◌}
use Prim.Native.Nat.{ℕ, ◌*◌, ◌≤◌, ◌<◌}
use lib.Dec.{T}
use Rattle.protocol.specs.Bytes.{Bytes, zeros}
use Rattle.protocol.specs.Index.{set_bits}
use Rattle.protocol.specs.Reader.{from_page, Reader, capacity, locked}
use Rattle.protocol.specs.Commands.{templete_num, barred, command}
use Rattle.protocol.specs.Data.{acknowledge}
use Rattle.protocol.specs.Step.{order, hear, rested}
use Rattle.protocol.specs.Call.{Shape, Lent, fit_lent, call_of}
use Rattle.protocol.specs.Receiver.{Line, line, run_of, receive_of}
use Rattle.dialogues.specs.Caller.{finally_on, runs, seen}
use Rattle.protocol.proofs.Promises.Words.Told.{Gives, word, pages, has, buffer}
use Rattle.protocol.proofs.Promises.Refusals.StaysLegal.{Legal}
use Rattle.dialogues.proofs.Library.Faithful.{Faithful, Holds}
use Rattle.dialogues.proofs.Lines.ReceiverCalls.{as_calls, ever_few, seen_is, LineGives, line_gives}
use Rattle.offline.specs.Life.{after_work, Deed, calls, between, deed, lastly, deed_on, lastly_on, Sight, exchanged, work_seen, sights, sights_on}
use Rattle.offline.proofs.Life.Library.{live_pages, ever_legal, valid_count, count_told, life_faithful}
use Rattle.offline.proofs.Life.Deleted.{StandsOrLost, lost_by_deletion}

-- ---- pieces are document 01's calls on the held bytes

module _ (σ : Shape) where
  -- the same life, with each call's run: the bytes that were held and what fitted of the piece
  unfoldable pub run_deeds : Line → List Deed → List Deed
  run_deeds x [] = []
  run_deeds x (calls es ∷ ds) = calls (runs σ x es) ∷ run_deeds (finally_on σ x es) ds
  run_deeds x (between w ∷ ds) = between w ∷ run_deeds (line (after_work σ x.reader w) x.receiver) ds

  pub life_few : (ds : List Deed) (x : Line) → x.receiver.count ≤ 267 → (lastly_on σ x ds).receiver.count ≤ 267
  unfolding lastly_on deed_on
  life_few [] x few = few
  life_few (calls es ∷ ds) x few = life_few ds (finally_on σ x es) (ever_few σ es x few)
  life_few (between w ∷ ds) x few = life_few ds (line (after_work σ x.reader w) x.receiver) few

  pub as_deeds : (ds : List Deed) (x : Line) → x.receiver.count ≤ 267 → (lastly_on σ x ds).reader ≡ lastly σ x.reader (run_deeds x ds)
  unfolding lastly_on deed_on lastly deed run_deeds
  as_deeds [] x few = refl
  as_deeds (calls es ∷ ds) x few =
      as_deeds ds (finally_on σ x es) (ever_few σ es x few) ∙ ap (λ (r : Reader). lastly σ r (run_deeds (finally_on σ x es) ds)) (as_calls σ es x few)
  as_deeds (between w ∷ ds) x few = as_deeds ds (line (after_work σ x.reader w) x.receiver) few

  pub sights_is : (ds : List Deed) (x : Line) → x.receiver.count ≤ 267 → sights σ x.reader (run_deeds x ds) ≡ sights_on σ x ds
  unfolding sights_on deed_on sights run_deeds
  sights_is [] x few = refl
  sights_is (calls es ∷ ds) x few =
      let y : Line = finally_on σ x es in
      (λ j. exchanged (seen_is σ es x few j) ∷ sights σ (sym (as_calls σ es x few) j) (run_deeds y ds))
      ∙ ap (λ (ss : List Sight). exchanged (seen σ x es) ∷ ss) (sights_is ds y (ever_few σ es x few))
  sights_is (between w ∷ ds) x few = ap (work_seen σ x.reader w) (sights_is ds (line (after_work σ x.reader w) x.receiver) few)

-- ---- the promises

module _ (σ : Shape) (ok : σ.most ≤ 8 * σ.indexed) (x : Line) (few : x.receiver.count ≤ 267) (ds : List Deed) where
  abbrev y : Line
  y = lastly_on σ x ds

  -- a legal reader is legal
  pub line_legal : Legal σ ok x.reader → Legal σ ok y.reader
  line_legal l = subst (Legal σ ok) (sym (as_deeds σ ds x few)) (ever_legal σ ok (run_deeds σ x ds) x.reader l)

  -- demand 2's valid count, and TempleteNum tells it at any time that the reader is not locked
  pub line_count : x.reader.guarded.index ≡ zeros σ.indexed → set_bits y.reader.guarded.index ≡ live_pages σ.indexed (sights_on σ x ds)
  line_count z =
      ap (λ (r : Reader). set_bits r.guarded.index) (as_deeds σ ds x few) ∙ valid_count σ ok x.reader z (run_deeds σ x ds) ∙ ap (live_pages σ.indexed) (sights_is σ ds x few)

  pub line_count_told : Legal σ ok x.reader → x.reader.guarded.index ≡ zeros σ.indexed → (piece : List ℕ) (lent : Lent) → T (fit_lent (capacity x.reader.guarded) lent)
      → locked y.reader.plain ≡ false → hear y.reader.plain.address (run_of y.receiver piece) ≡ order (command (barred templete_num))
      → LineGives (acknowledge y.reader.plain.address 0x00 (word (live_pages σ.indexed (sights_on σ x ds)))) (rested y.reader) lent (receive_of σ y piece lent)
  line_count_told l z piece lent u free asks =
      let run : List ℕ = run_of y.receiver piece in
      let told = subst
      (λ (a : Reader × List Sight). locked a.0.plain ≡ false → hear a.0.plain.address run ≡ order (command (barred templete_num))
      → Gives (acknowledge a.0.plain.address 0x00 (word (live_pages σ.indexed a.1))) (rested a.0) run lent (call_of σ a.0 run lent))
      (λ j. (sym (as_deeds σ ds x few) j, sights_is σ ds x few j)) (count_told σ ok x.reader l z (run_deeds σ x ds) run lent u) free asks
      in
      line_gives σ y (life_few σ ds x few) piece lent _ _ told

  -- request [5]'s stored pages
  pub line_lost_by_deletion : Bytes x.reader.guarded.index → (q : ℕ) → q < pages x.reader → has x.reader q ≡ true → StandsOrLost q x.reader (sights_on σ x ds) y.reader
  line_lost_by_deletion b q l h =
      subst (λ (a : Reader × List Sight). StandsOrLost q x.reader a.1 a.0) (λ j. (sym (as_deeds σ ds x few) j, sights_is σ ds x few j))
      (lost_by_deletion σ ok (run_deeds σ x ds) x.reader b q l h)

  -- request [7]'s buffers
  pub line_faithful : Legal σ ok x.reader → Faithful x.reader → (b p : ℕ) → (buffer b y.reader.guarded).origin ≡ from_page p → Holds σ ok y.reader b p
  line_faithful l f b p =
      subst (λ (r : Reader). (buffer b r.guarded).origin ≡ from_page p → Holds σ ok r b p) (sym (as_deeds σ ds x few)) (life_faithful σ ok x.reader l f (run_deeds σ x ds) b p)
