-- The promises at the doors for C over sequences of calls, line switches and work between them, without a receiver and with one: over what a caller hands in, what it gets back,
-- and what lies in its settings and its memory after each.
use mathlib.Core.Bool.{true}
use mathlib.Core.Path.{◌≡◌, refl, sym, ap, ◌∙◌, subst}
use mathlib.Core.List.{List, [], ◌∷◌}
use Prim.Native.Nat.{ℕ, ◌≤◌, ◌<◌}
use lib.ListN.{replicate}
use Rattle.protocol.specs.declared.Settings.{Settings}
use Rattle.protocol.specs.Bytes.{Bytes}
use Rattle.protocol.specs.Tests.{count_below}
use Rattle.protocol.specs.Reader.{from_page, Reader, with_library}
use Rattle.protocol.specs.Call.{core}
use Rattle.protocol.specs.Records.{reader_of}
use Rattle.protocol.specs.Services.{count_service}
use Rattle.protocol.specs.Receiver as receivers
use Rattle.dialogues.specs.History.{live}
use Rattle.dialogues.specs.Doors.{Memory, Vault, LineVault, reader_at, reader_in, line_in, last_of, saw, saw_on}
use Rattle.protocol.proofs.Promises.Words.Told.{pages, has, buffer}
use Rattle.protocol.proofs.Promises.Refusals.LegalMeans.{core_holds}
use Rattle.protocol.proofs.Promises.Refusals.StaysLegal.{Legal}
use Rattle.dialogues.proofs.Library.ValidCount.{Tells, tells_none}
use Rattle.dialogues.proofs.Library.Faithful.{Faithful, Holds}
use Rattle.dialogues.proofs.FromC.Steps.{steps_end, steps_saw, LegalVault, count_of, HeldPages, pages_held}
use Rattle.dialogues.proofs.FromC.Lines.{receives_end, receives_saw, LegalLine}
use Rattle.offline.specs.CloseGaps.{Closed}
use Rattle.offline.specs.Salvage.{salvaged_in}
use Rattle.offline.specs.Life.{Work, closing, salvaging, after_work, deed, lastly, deed_on, lastly_on, Sight, exchanged, told, work_seen, sights, sights_on, life_of}
use Rattle.offline.specs.Turns.{Turn, call_turn, work_turn, last_turn, deeds_of, WentBy, work_saw, Turns, saw_turns, LineTurns, saw_line_turns}
use Rattle.offline.proofs.Life.Library.{ever_legal, deeds_tell, none_below, life_faithful}
use Rattle.offline.proofs.Life.Deleted.{StandsOrLost, lost_by_deletion}
use Rattle.offline.proofs.Life.Lines.{run_deeds, life_few, as_deeds, sights_is, line_legal, line_lost_by_deletion, line_faithful}

-- ---- turns from C are the definitions' deeds

-- work as its door's contract has it leaves the reader that the definitions have, and was seen as they say
pub work_went : (w : Work) (s : Settings) (m : Memory) (k : ℕ) (list : List ℕ) (z : Settings) (n : Memory) → WentBy s m w k list z n → reader_at z n ≡ after_work core (reader_at s m) w
unfolding after_work salvaged_in with_library
work_went (closing table) s m k list z n q = ap (λ (e : Closed). e.after) q
work_went (salvaging report) s m k list z n (q, u) = λ j. reader_of (u.settings j) (q j).templates (q j).index (u.notepad j) (u.buffer1 j) (u.buffer2 j)

work_saw_lem : (w : Work) (s : Settings) (m : Memory) (k : ℕ) (list : List ℕ) (z : Settings) (n : Memory) → WentBy s m w k list z n → (ss : List Sight)
    → work_saw w k list ss ≡ work_seen core (reader_at s m) w ss
unfolding work_seen
work_saw_lem (closing table) s m k list z n q ss = ap (λ (e : Closed). told e.refusal e.table ∷ ss) q
work_saw_lem (salvaging report) s m k list z n q ss = refl

pub turns_end : (ts : List (Turn Vault)) (v : Vault) → Turns v ts → reader_in (last_turn v ts) ≡ lastly core (reader_in v) (deeds_of ts)
unfolding lastly deed
turns_end [] v q = refl
turns_end (call_turn xs ∷ ts) v (p, q) = turns_end ts (last_of v xs) q ∙ ap (λ (r : Reader). lastly core r (deeds_of ts)) (steps_end xs v p)
turns_end (work_turn y ∷ ts) v (p, q) = turns_end ts y.after q ∙ ap (λ (r : Reader). lastly core r (deeds_of ts)) (work_went y.work _ _ _ _ _ _ p)

turns_saw : (ts : List (Turn Vault)) (v : Vault) → Turns v ts → saw_turns ts ≡ sights core (reader_in v) (deeds_of ts)
unfolding sights
turns_saw [] v q = refl
turns_saw (call_turn xs ∷ ts) v (p, q) =
    ap (λ (ss : List Sight). exchanged (saw xs) ∷ ss) (turns_saw ts (last_of v xs) q)
    ∙ (λ j. exchanged (steps_saw xs v p j) ∷ sights core (steps_end xs v p j) (deeds_of ts))
turns_saw (work_turn y ∷ ts) v (p, q) =
    ap (work_saw y.work y.refusal y.written) (turns_saw ts y.after q ∙ ap (λ (r : Reader). sights core r (deeds_of ts)) (work_went y.work _ _ _ _ _ _ p)) ∙ work_saw_lem y.work _ _ _ _ _ _ p _

pub line_turns_end : (ts : List (Turn LineVault)) (v : LineVault) → LineTurns v ts → line_in (last_turn v ts) ≡ lastly_on core (line_in v) (deeds_of ts)
unfolding lastly_on deed_on
line_turns_end [] v q = refl
line_turns_end (call_turn xs ∷ ts) v (p, q) = line_turns_end ts (last_of v xs) q ∙ ap (λ (x : receivers.Line). lastly_on core x (deeds_of ts)) (receives_end xs v p)
line_turns_end (work_turn y ∷ ts) v ((p, h), q) =
    line_turns_end ts y.after q ∙ (λ j. lastly_on core (receivers.line (work_went y.work _ _ _ _ _ _ p j) (h j)) (deeds_of ts))

line_turns_saw : (ts : List (Turn LineVault)) (v : LineVault) → LineTurns v ts → saw_line_turns v ts ≡ sights_on core (line_in v) (deeds_of ts)
unfolding sights_on deed_on
line_turns_saw [] v q = refl
line_turns_saw (call_turn xs ∷ ts) v (p, q) =
    ap (λ (ss : List Sight). exchanged (saw_on v xs) ∷ ss) (line_turns_saw ts (last_of v xs) q)
    ∙ (λ j. exchanged (receives_saw xs v p j) ∷ sights_on core (receives_end xs v p j) (deeds_of ts))
line_turns_saw (work_turn y ∷ ts) v ((p, h), q) =
    ap (work_saw y.work y.refusal y.written) (line_turns_saw ts y.after q ∙ (λ j. sights_on core (receivers.line (work_went y.work _ _ _ _ _ _ p j) (h j)) (deeds_of ts))) ∙ work_saw_lem y.work _ _ _ _ _ _ p _

-- ---- without a receiver

module _ (v : Vault) (ts : List (Turn Vault)) (q : Turns v ts) where
  abbrev w : Vault
  w = last_turn v ts

  -- demand 1: a legal vault is legal
  pub turns_legal : LegalVault v → LegalVault w
  turns_legal l = subst (Legal core core_holds) (sym (turns_end ts v q)) (ever_legal core core_holds (deeds_of ts) (reader_in v) l)

  -- demand 2: what bystrodol_count gives of the index is the number of pages that were seen stored and not deleted since, under the numbers that the tables told
  pub turns_count : v.memory.index ≡ replicate 128 0 → count_service w.memory.index ≡ count_below (live (life_of (saw_turns ts) [])) 1024
  unfolding core
  turns_count z =
      count_of w.memory.index (life_of (saw_turns ts) [])
      (subst (λ (a : Reader × List Sight). Tells 128 a.0.guarded.index (life_of a.1 [])) (λ j. (sym (turns_end ts v q) j, sym (turns_saw ts v q) j))
      (deeds_tell core core_holds (deeds_of ts) (reader_in v) [] (none_below core core_holds (reader_in v) z) (rw z (tells_none 128))))

  -- request [5]: a stored page stands where the tables tell, with its 512 bytes, or was seen deleted
  pub turns_lost_by_deletion : Bytes v.memory.index → (p : ℕ) → p < pages (reader_in v) → has (reader_in v) p ≡ true → StandsOrLost p (reader_in v) (saw_turns ts) (reader_in w)
  turns_lost_by_deletion y p l h =
      subst (λ (a : Reader × List Sight). StandsOrLost p (reader_in v) a.1 a.0) (λ j. (sym (turns_end ts v q) j, sym (turns_saw ts v q) j))
      (lost_by_deletion core core_holds (deeds_of ts) (reader_in v) y p l h)

  -- request [7]: a buffer with an origin holds the template of the page that its origin names now
  pub turns_faithful : LegalVault v → Faithful (reader_in v) → HeldPages w.settings w.memory
  turns_faithful l f =
      pages_held w.settings w.memory
      (λ b p.
      subst (λ (r : Reader). (buffer b r.guarded).origin ≡ from_page p → Holds core core_holds r b p) (sym (turns_end ts v q))
      (life_faithful core core_holds (reader_in v) l f (deeds_of ts) b p))

-- ---- the same with a receiver

module _ (v : LineVault) (few : v.line.receiver.count ≤ 267) (ts : List (Turn LineVault)) (q : LineTurns v ts) where
  abbrev u : LineVault
  u = last_turn v ts

  reads : (lastly_on core (line_in v) (deeds_of ts)).reader ≡ reader_at u.line.settings u.memory
  reads = ap (λ (x : receivers.Line). x.reader) (sym (line_turns_end ts v q))

  pub line_turns_legal : LegalLine v → LegalLine u
  line_turns_legal l =
      record {
        reader = subst (Legal core core_holds) reads (line_legal core core_holds (line_in v) few (deeds_of ts) l.reader);
        few = subst (λ (x : receivers.Line). x.receiver.count ≤ 267) (sym (line_turns_end ts v q)) (life_few core (deeds_of ts) (line_in v) few);
      }

  pub line_turns_count : v.memory.index ≡ replicate 128 0 → count_service u.memory.index ≡ count_below (live (life_of (saw_line_turns v ts) [])) 1024
  unfolding core
  line_turns_count z =
      count_of u.memory.index (life_of (saw_line_turns v ts) [])
      (subst (λ (a : Reader × List Sight). Tells 128 a.0.guarded.index (life_of a.1 []))
      (λ j. ((sym (as_deeds core (deeds_of ts) (line_in v) few) ∙ reads) j, (sights_is core (deeds_of ts) (line_in v) few ∙ sym (line_turns_saw ts v q)) j))
      (deeds_tell core core_holds (run_deeds core (line_in v) (deeds_of ts)) (line_in v).reader [] (none_below core core_holds (line_in v).reader z) (rw z (tells_none 128))))

  pub line_turns_lost_by_deletion : Bytes v.memory.index → (p : ℕ) → p < pages (line_in v).reader → has (line_in v).reader p ≡ true → StandsOrLost p (line_in v).reader (saw_line_turns v ts) (line_in u).reader
  line_turns_lost_by_deletion y p l h =
      subst (λ (a : Reader × List Sight). StandsOrLost p (line_in v).reader a.1 a.0) (λ j. (reads j, sym (line_turns_saw ts v q) j))
      (line_lost_by_deletion core core_holds (line_in v) few (deeds_of ts) y p l h)

  pub line_turns_faithful : LegalLine v → Faithful (line_in v).reader → HeldPages u.line.settings u.memory
  line_turns_faithful l f =
      pages_held u.line.settings u.memory
      (λ b p.
      subst (λ (r : Reader). (buffer b r.guarded).origin ≡ from_page p → Holds core core_holds r b p) reads
      (line_faithful core core_holds (line_in v) few (deeds_of ts) l.reader f b p))
