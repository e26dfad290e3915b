-- bystrodol_salvage at the door for C: over the bytes that lie in a caller's memory and report before it and after it.
use mathlib.Core.Path.{◌≡◌, refl, sym, ap, ◌∙◌, subst}
use mathlib.Core.List.{List, [], ◌∷◌}
use Prim.Native.Nat.{ℕ, zero, suc, ◌+◌, ◌<◌}
use native.Mathlib.Omega.{arith}
use lib.Dec.{eqb}
use borrow.Author.Tests.{eq-eqb}
use lib.ListN.{length, get_or, replicate}
use Rattle.protocol.specs.declared.Settings.{Settings}
use Rattle.protocol.specs.Bytes.{Bytes}
use Rattle.protocol.specs.Call.{core}
use Rattle.protocol.specs.Tests.{count_below}
use Rattle.protocol.specs.Reader.{Reader, with_library}
use Rattle.protocol.specs.Services.{count_service}
use Rattle.dialogues.specs.Doors.{Memory, Vault, LineVault, reader_at}
use Rattle.protocol.proofs.Laws.Lines.{Follows}
use Rattle.protocol.proofs.Promises.Words.Told.{has_bit}
use Rattle.protocol.proofs.Promises.Refusals.LegalMeans.{core_holds}
use Rattle.protocol.proofs.Promises.Refusals.StaysLegal.{Legal}
use Rattle.offline.specs.Salvage.{Salvaged, salvage_of}
use Rattle.offline.specs.Records.{salvaged_of}
use Rattle.offline.specs.Life.{salvaging, after_work}
use Rattle.offline.specs.Turns.{work_turn, Unlent, WentBy, Turns, LineTurns}
use Rattle.offline.proofs.Salvage.Refusals.{SalvageLengths, salvage_lines, SalvageEnds, salvage_refusals, salvage_means, salvage_passes}
use Rattle.offline.proofs.Salvage.Salvages.{Salvages, salvages}
use Rattle.offline.proofs.Salvage.StaysLegal.{otherwise_legal, legal_index}
use Rattle.offline.proofs.FromC.Turns.{work_went}
use Rattle.offline.proofs.Salvage.Again.{SameStored, comes_to_the_same, CleanAlready, clean_already}

-- ---- the contract is a turn: what the header's names stand for. Of a vault only templates and index are lent, so all else lies as it lay

pub salvage_door : (v : Vault) (refusal : ℕ) (report t i report' : List ℕ) → salvaged_of refusal t i report' ≡ salvage_of core v.memory.templates v.memory.index report
    → Turns v
    (work_turn
    record {
      work = salvaging report;
      refusal = refusal;
      written = report';
      after = record { settings = v.settings; memory = record { templates = t; index = i; notepad = v.memory.notepad; buffer1 = v.memory.buffer1; buffer2 = v.memory.buffer2 } };
    }
    ∷ [])
salvage_door v refusal report t i report' q = ((q, record { settings = refl; notepad = refl; buffer1 = refl; buffer2 = refl }), tt)

-- the same with a receiver
pub line_salvage_door : (v : LineVault) (refusal : ℕ) (report t i report' : List ℕ) → salvaged_of refusal t i report' ≡ salvage_of core v.memory.templates v.memory.index report
    → LineTurns v
    (work_turn
    record {
      work = salvaging report;
      refusal = refusal;
      written = report';
      after = record { line = v.line; memory = record { templates = t; index = i; notepad = v.memory.notepad; buffer1 = v.memory.buffer1; buffer2 = v.memory.buffer2 } };
    }
    ∷ [])
line_salvage_door v refusal report t i report' q = (((q, record { settings = refl; notepad = refl; buffer1 = refl; buffer2 = refl }), refl), tt)

-- ---- what it leaves

-- 0 is no refusal; a refused call returns its number, and settings, memory and report lie as they lay, byte for byte
abbrev pub SalvagingEnds : Settings → Memory → List ℕ → ℕ → List ℕ → Settings → Memory → ℕ → Type 0
SalvagingEnds s m report refusal written z n zero = refusal ≡ 0
SalvagingEnds s m report refusal written z n (suc k) = (refusal ≡ suc k) × ((written ≡ report) × ((z ≡ s) × (n ≡ m)))

-- settings and memory before it, the report lent, the refusal and the report after it, and settings and memory then
module _ (s : Settings) (m : Memory) (report : List ℕ) (refusal : ℕ) (written : List ℕ) (z : Settings) (n : Memory) (q : WentBy s m (salvaging report) refusal written z n) where
  pub salvaging_refusal : Follows (salvage_lines m.templates m.index report) (SalvagingEnds s m report refusal written z n)
  salvaging_refusal =
      let c = salvage_refusals m.templates m.index report in
      (λ a. end 0 (c.0 a), λ f. end 1 (c.1 f))
    where
      end : (k : ℕ) → SalvageEnds m.templates m.index report (salvage_of core m.templates m.index report) k → SalvagingEnds s m report refusal written z n k
      end zero e = ap (λ (x : Salvaged). x.refusal) q.0 ∙ e
      end (suc k) e = (
        ap (λ (x : Salvaged). x.refusal) q.0 ∙ e.0,
        (
          ap (λ (x : Salvaged). x.report) q.0 ∙ e.1.1.1,
          (
            q.1.settings,
            λ j. record {
              templates = (ap (λ (x : Salvaged). x.templates) q.0 ∙ e.1.0) j;
              index = (ap (λ (x : Salvaged). x.index) q.0 ∙ e.1.1.0) j;
              notepad = q.1.notepad j;
              buffer1 = q.1.buffer1 j;
              buffer2 = q.1.buffer2 j;
            },
          ),
        ),
      )

  module _ (done : refusal ≡ 0) where
    pub lengths : SalvageLengths m.templates m.index report
    lengths = (salvage_means m.templates m.index report).0 (salvage_passes core m.templates m.index report (sym (ap (λ (x : Salvaged). x.refusal) q.0) ∙ done))

    -- settings that are legal with another index, which has the same bits below C, are legal with what lies there
    pub salvaging_legal : Bytes m.index → (i : List ℕ) → ((p : ℕ) → p < lengths.library.pages → has_bit m.index p ≡ has_bit i p)
        → Legal core core_holds (reader_at s record { templates = m.templates; index = i; notepad = m.notepad; buffer1 = m.buffer1; buffer2 = m.buffer2 })
        → Legal core core_holds (reader_at z n)
    unfolding after_work with_library
    salvaging_legal y i b l =
        subst (Legal core core_holds) (sym (work_went (salvaging report) s m refusal written z n q))
        (otherwise_legal core core_holds (reader_at s m) report y i (λ p a. b p (omega (arith, lengths.library.templates))) l (sym (ap (λ (x : Salvaged). x.refusal) q.0) ∙ done))

    -- of a legal vault the index is as it was, and so is what bystrodol_count gives; of any, that is fewer by the entries that are 1
    pub salvaging_index : Legal core core_holds (reader_at s m) → n.index ≡ m.index
    unfolding after_work
    salvaging_index l = ap (λ (r : Reader). r.guarded.index) (work_went (salvaging report) s m refusal written z n q) ∙ legal_index core core_holds (reader_at s m) report l

    pub salvaging_count : Legal core core_holds (reader_at s m) → count_service n.index ≡ count_service m.index
    salvaging_count l = ap count_service (salvaging_index l)

    module _ (y : Bytes m.index) where
      -- not refused: what lies in templates, index and report; and all else lies as it lay
      pub salvaging_salvages : Salvages m.templates m.index lengths.library.pages (salvaged_of refusal n.templates n.index written) × Unlent s m z n
      salvaging_salvages = (subst (Salvages m.templates m.index lengths.library.pages) (sym q.0) (salvages m.templates m.index report lengths y), q.1)

      pub salvaging_fewer : count_service m.index ≡ count_service n.index + count_below (λ p. eqb (get_or written p 0) 1) 1024
      unfolding count_service core
      salvaging_fewer =
          let k = salvaging_salvages.0 in
          rw (eq-eqb (length m.index) 128 lengths.library.index, eq-eqb (length n.index) 128 k.index) k.count

      -- called again, on these templates and this index or on others with the same stored pages, as power that failed leaves them: it is not refused, and templates and index come to
      -- the same
      pub salvaging_same : (s' z' : Settings) (m' n' : Memory) (next written' : List ℕ) (refusal' : ℕ) → WentBy s' m' (salvaging next) refusal' written' z' n' → length next ≡ 1024
          → SameStored lengths.library.pages m.templates m.index m'.templates m'.index → (refusal' ≡ 0) × ((n'.templates ≡ n.templates) × (n'.index ≡ n.index))
      salvaging_same s' z' m' n' next written' refusal' p l k =
          let c = comes_to_the_same m.templates m.index report lengths y m'.templates m'.index next k l in (
            ap (λ (x : Salvaged). x.refusal) p.0 ∙ c.refusal,
            (
              ap (λ (x : Salvaged). x.templates) p.0 ∙ c.templates ∙ sym (ap (λ (x : Salvaged). x.templates) q.0),
              ap (λ (x : Salvaged). x.index) p.0 ∙ c.index ∙ sym (ap (λ (x : Salvaged). x.index) q.0),
            ),
          )

      -- called again on what it left: it is not refused, settings and memory lie as they lay, byte for byte, and the report is all zero
      pub salvaging_again : (z' : Settings) (n' : Memory) (next written' : List ℕ) (refusal' : ℕ) → WentBy z n (salvaging next) refusal' written' z' n' → length next ≡ 1024
          → ((refusal' ≡ 0) × (written' ≡ replicate 1024 0)) × ((z' ≡ z) × (n' ≡ n))
      salvaging_again z' n' next written' refusal' p l =
          let c : CleanAlready n.templates n.index (salvage_of core n.templates n.index next) =
          subst (λ (e : Salvaged). CleanAlready e.templates e.index (salvage_of core e.templates e.index next)) (sym q.0) (clean_already m.templates m.index report lengths y next l)
          in (
            (ap (λ (x : Salvaged). x.refusal) p.0 ∙ c.refusal, ap (λ (x : Salvaged). x.report) p.0 ∙ c.report),
            (
              p.1.settings,
              λ j. record {
                templates = (ap (λ (x : Salvaged). x.templates) p.0 ∙ c.templates) j;
                index = (ap (λ (x : Salvaged). x.index) p.0 ∙ c.index) j;
                notepad = p.1.notepad j;
                buffer1 = p.1.buffer1 j;
                buffer2 = p.1.buffer2 j;
              },
            ),
          )
