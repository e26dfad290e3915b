-- Document 02, request [6]: "C goes up to 1000 .. The index becomes 128 bytes for every reader, and ReadIndexTable answers pages 0 to 3, each 32 bytes. A stored
-- 32-byte index is brought over by adding 96 zero bytes; the bits keep their places. .. Refusals: 1 for an index that is not 128 bytes; 0Bh from index page 4."
-- C from 1 to 1000 and the index's 128 bytes are two fields of `Lengths`, and `new_vault` has a reader of each C. All index facts are laws over any index.
use mathlib.Core.Bool.{false}
use mathlib.Core.Path.{◌≡◌, refl, ap, ◌∙◌}
use mathlib.Core.Logic.{◌≢◌}
use mathlib.Core.List.{List, [], ◌∷◌, ◌++◌}
use Prim.Native.Nat.{ℕ, zero, suc, ◌*◌, ◌/◌, ◌%◌, ◌^◌, ◌≤◌}
use native.Mathlib.Omega.{arith}
use lib.Dec.{T, eqb, eqb→eq}
use lib.ListN.{length, take, drop, get_or, replicate, length-drop}
use lib.Seq.{length-take-le, get_or-take, get_or-drop}
use Rattle.protocol.specs.Index.{set_bits}
use Rattle.protocol.specs.BringOver.{brought_over, Brought, bring_refusal, bring_as, bring_over}
use Rattle.protocol.specs.Reader.{Reader, locked, capacity}
use Rattle.protocol.specs.Commands.{read_index_table, barred, command}
use Rattle.protocol.specs.Data.{acknowledge}
use Rattle.protocol.specs.Step.{order, hear, rested}
use Rattle.protocol.specs.Call.{core, Lent, fit_lent, legal, call_of}
use Rattle.protocol.proofs.Laws.Index.{length_over, byte_over}
use Rattle.protocol.proofs.Laws.Count.{count_over}
use Rattle.protocol.proofs.Laws.Answers.{spared}
use Rattle.protocol.proofs.Laws.Lines.{Line, unless, Follows, follows}
use Rattle.protocol.proofs.Laws.Logic.{eq→eqb}
use Rattle.protocol.proofs.Promises.Words.Told.{Says, Gives}
use Rattle.protocol.proofs.Promises.Refusals.LegalMeans.{Lengths, legal_means}
use Rattle.protocol.proofs.Promises.Refusals.Refused.{Unused, call_refusals}
use Rattle.protocol.proofs.Promises.Commands.Rows.{rows}
use Rattle.protocol.proofs.Promises.Commands.Settings.{reads_index}

-- ---- "1 for an index that is not 128 bytes"

pub refuses_index : (r : Reader) (s : List ℕ) (lent : Lent) → length r.guarded.index ≢ 128
    → Unused lent.room (call_of core r s lent) 1 × ((call_of core r s lent).after ≡ r)
refuses_index r s lent d = (call_refusals r s lent).1 (λ (m : Lengths r.guarded). d m.index)

-- ---- "ReadIndexTable answers pages 0 to 3, each 32 bytes"; "0Bh from index page 4"

-- page n of an index
abbrev index_page : List ℕ → ℕ → List ℕ
index_page x n = take 32 (drop (32 * n) x)

module _ (r : Reader) (s : List ℕ) (lent : Lent) (f : T (legal core r)) (u : T (fit_lent (capacity r.guarded) lent)) (l : locked r.plain ≡ false) (n : ℕ)
    (h : hear r.plain.address s ≡ order (command (barred (read_index_table n)))) where
  pub record TellsPage : Type 0 where
    pub gives : Gives (acknowledge r.plain.address 0x00 (index_page r.guarded.index n)) (rested r) s lent (call_of core r s lent)
    pub long : length (index_page r.guarded.index n) ≡ 32
    -- page q of the library, of those that n tells of, is the bit of weight 2^(q mod 8) in byte q mod 256 / 8
    pub places : (q : ℕ) → q / 256 ≡ n → get_or (index_page r.guarded.index n) (q % 256 / 8) 0 ≡ get_or r.guarded.index (q / 8) 0

  pub tells_pages : n ≤ 3 → TellsPage
  tells_pages m =
      let x : List ℕ = r.guarded.index in
      let long : length x ≡ 128 = (legal_means r f).lengths.index in
      let g = reads_index core r s lent f u l n h (rw ((spared r).index, long) (omega arith)) in
      record {
        gives = rw ((spared r).index, (spared r).address) at g;
        long = length-take-le 32 (drop (32 * n) x) (omega (arith, length-drop (32 * n) x));
        places = λ q e.
            get_or-take 32 (drop (32 * n) x) (q % 256 / 8) 0 (omega arith)
            ∙ get_or-drop (32 * n) x (q % 256 / 8) 0
            ∙ ap (λ (i : ℕ). get_or x i 0) (omega arith);
      }

  pub tells_no_more : 4 ≤ n → Says (rested r) 0x0b s lent (call_of core r s lent)
  tells_no_more m = (rows r s lent f u l (read_index_table n) h).1 (λ k. omega arith)

-- ---- "A stored 32-byte index is brought over by adding 96 zero bytes"

-- 1 for another length
abbrev pub bring_lines : List ℕ → List ℕ → List Line
bring_lines old index = unless (length old ≡ 32) 1 ∷ unless (length index ≡ 128) 1 ∷ []

-- 0 is no refusal; a refusal leaves the lent index as it was
abbrev pub Brings : List ℕ → List ℕ → Brought → ℕ → Type 0
Brings old index b zero = (b.refusal ≡ 0) × (b.index ≡ old ++ replicate 96 0)
Brings old index b (suc k) = (b.refusal ≡ suc k) × (b.index ≡ index)

pub bring_refusals : (old index : List ℕ) → Follows (bring_lines old index) (Brings old index (bring_over old index))
unfolding bring_over bring_refusal bring_as brought_over
bring_refusals old index =
    follows ((eqb (length old) 32, 1) ∷ (eqb (length index) 128, 1) ∷ []) (bring_lines old index) (Brings old index (bring_over old index))
    ((eqb→eq (length old) 32, eq→eqb (length old) 32), (refl, λ e. ((eqb→eq (length index) 128, eq→eqb (length index) 128), (refl, λ d. tt)))) (brings (bring_refusal old index))
  where
    brings : (k : ℕ) → Brings old index (bring_as old index k) k
    brings zero = (refl, refl)
    brings (suc k) = (refl, refl)

-- "the bits keep their places", and no other is set, so that the count is the same
pub record Kept (old index : List ℕ) : Type 0 where
  pub long : length index ≡ 128
  pub bits : (q : ℕ) → get_or index (q / 8) 0 / 2 ^ (q % 8) % 2 ≡ get_or old (q / 8) 0 / 2 ^ (q % 8) % 2
  pub count : set_bits index ≡ set_bits old

pub keeps_bits : (old index : List ℕ) → length old ≡ 32 → length index ≡ 128 → Kept old (bring_over old index).index
keeps_bits old index e d =
    rw (((bring_refusals old index).0 e).0 d).1
    record {
      long = omega (arith, length_over old 96);
      bits = λ q. ap (λ (b : ℕ). b / 2 ^ (q % 8) % 2) (byte_over old 96 (q / 8));
      count = count_over old 96;
    }
