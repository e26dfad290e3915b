-- Demand 2: "From an empty library, the valid count always equals the pages stored and not deleted since."
-- The host knows what it sent and what it was answered: a Store, DeletChar or Empty that was answered 00h counts.
use mathlib.Core.Bool.{Bool, false, ◌&&◌, ◌||◌, not}
use mathlib.Core.Path.{◌≡◌, ap, ap₂, ◌∙◌, subst}
use mathlib.Core.List.{List, []}
use Prim.Native.Nat.{ℕ, ◌*◌, ◌≤◌}
use native.Mathlib.Omega.{arith}
use lib.Dec.{T, eqb}
use lib.ListN.{length}
use Rattle.protocol.specs.Bytes.{zeros}
use Rattle.protocol.specs.Tests.{among, count_below}
use Rattle.protocol.specs.Index.{stored, set_bits}
use Rattle.protocol.specs.Reader.{Reader, locked, capacity}
use Rattle.protocol.specs.Commands.{templete_num, barred, command}
use Rattle.protocol.specs.Data.{acknowledge}
use Rattle.protocol.specs.Step.{order, hear, rested}
use Rattle.protocol.specs.Call.{Shape, Lent, fit_lent, legal, call_of}
use Rattle.protocol.specs.Dialogue.{Event, finally}
use Rattle.dialogues.specs.History.{Exchange, exchanges, Act, history, live}
use Rattle.protocol.proofs.Laws.Index.{Fine, stored_with, stored_span, stored_zeros, fine_with, fine_span, fine_zeros}
use Rattle.protocol.proofs.Laws.Count.{count_ext}
use Rattle.dialogues.proofs.Laws.History.{ever_capacity, Keeps, events_keep}
use Rattle.protocol.proofs.Laws.Answers.{spared}
use Rattle.protocol.proofs.Promises.Words.Told.{Gives, word}
use Rattle.protocol.proofs.Promises.Refusals.StaysLegal.{Legal, ever_legal}
use Rattle.protocol.proofs.Promises.Commands.Settings.{tells_number}

-- an index of m bytes tells of the same pages as the acts so far
pub record Tells (m : ℕ) (x : List ℕ) (acts : List Act) : Type 0 where
  pub fine : Fine m x
  pub pages : (q : ℕ) → stored x q ≡ live acts q

-- each act that the host saw keeps that
tells_kept : (m : ℕ) → Keeps m (λ t x acts. Tells m x acts)
unfolding live
tells_kept m =
    record {
      puts =
          λ t x old k c a p b l e v.
          record {
            fine = fine_with x p k.fine;
            pages = λ q. stored_with x k.fine.bytes p (omega (arith, a.wide, a.small)) q ∙ ap (λ (y : Bool). eqb p q || y) (k.pages q);
          };
      cuts =
          λ t x old k c a p n l.
          record {
            fine = fine_span x p n k.fine;
            pages = λ q. stored_span x p n k.fine (omega (arith, a.small)) q ∙ ap (λ (y : Bool). not (among p n q) && y) (k.pages q);
          };
      clears =
          λ t x old k.
          record { fine = subst (λ (n : ℕ). Fine n (zeros (length x))) k.fine.long (fine_zeros (length x)); pages = λ q. stored_zeros (length x) q };
    }

-- an empty one tells of no act
pub tells_none : (m : ℕ) → Tells m (zeros m) []
unfolding live
tells_none m = record { fine = fine_zeros m; pages = λ q. stored_zeros m q }

-- its set bits are those pages
pub tells_count : (m : ℕ) (x : List ℕ) (acts : List Act) → Tells m x acts → set_bits x ≡ count_below (live acts) (8 * m)
unfolding set_bits
tells_count m x acts k = ap (λ (n : ℕ). count_below (stored x) (8 * n)) k.fine.long ∙ count_ext (stored x) (live acts) (8 * m) (λ q l. k.pages q)

-- the pages that a host saw stored and not deleted since, of an index of m bytes
abbrev pub live_pages : ℕ → List Exchange → ℕ
live_pages m seen = count_below (live (history seen [])) (8 * m)

module _ (σ : Shape) (ok : σ.most ≤ 8 * σ.indexed) where
  -- whatever reader, runs, reply rooms and line switches
  pub tells_ever : (r : Reader) (acts : List Act) → Tells σ.indexed r.guarded.index acts → (es : List Event)
      → Tells σ.indexed (finally σ r es).guarded.index (history (exchanges σ r es) acts)
  tells_ever r acts k es = events_keep σ ok (λ t y acts. Tells σ.indexed y acts) (tells_kept σ.indexed) es r acts k

  -- from an empty library, the set bits are those pages
  pub valid_count : (r : Reader) → r.guarded.index ≡ zeros σ.indexed → (es : List Event) → set_bits (finally σ r es).guarded.index ≡ live_pages σ.indexed (exchanges σ r es)
  valid_count r z es = tells_count σ.indexed (finally σ r es).guarded.index (history (exchanges σ r es) []) (tells_ever r [] (rw z (tells_none σ.indexed)) es)

  -- TempleteNum answers the pages of the acts that an index tells of
  pub tells_told : (t : Reader) (acts : List Act) → Tells σ.indexed t.guarded.index acts → T (legal σ t) → (s : List ℕ) (lent : Lent) → T (fit_lent (capacity t.guarded) lent)
      → locked t.plain ≡ false → hear t.plain.address s ≡ order (command (barred templete_num))
      → Gives (acknowledge t.plain.address 0x00 (word (count_below (live acts) (8 * σ.indexed)))) (rested t) s lent (call_of σ t s lent)
  tells_told t acts k f s lent u l h =
      let same = ap₂ (λ (a : List ℕ) (n : ℕ). acknowledge a 0x00 (word n)) (spared t).address (ap set_bits (spared t).index ∙ tells_count σ.indexed t.guarded.index acts k) in
      subst (λ (x : List ℕ). Gives x (rested t) s lent (call_of σ t s lent)) same (tells_number σ t s lent f u l h)

  -- so the host gets those pages, at any time that the reader is not locked
  pub count_told : (r : Reader) → Legal σ ok r → r.guarded.index ≡ zeros σ.indexed → (es : List Event) (s : List ℕ) (lent : Lent) → T (fit_lent (capacity r.guarded) lent)
      → locked (finally σ r es).plain ≡ false → hear (finally σ r es).plain.address s ≡ order (command (barred templete_num))
      → Gives (acknowledge (finally σ r es).plain.address 0x00 (word (live_pages σ.indexed (exchanges σ r es)))) (rested (finally σ r es)) s lent (call_of σ (finally σ r es) s lent)
  count_told r f z es s lent u =
      tells_told (finally σ r es) _ (tells_ever r [] (rw z (tells_none σ.indexed)) es) (ever_legal σ ok r f es).legal s lent (rw (ever_capacity σ ok r es) u)
