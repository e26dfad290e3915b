-- bystrodol_close_gaps at the door for C: over the bytes that lie in a caller's settings, memory and table before it and after it.
use mathlib.Core.Bool.{true, false}
use mathlib.Core.Path.{◌≡◌, refl, sym, ap, ◌∙◌, subst}
use mathlib.Core.Logic.{◌≢◌}
use mathlib.Core.List.{List, [], ◌∷◌}
use Prim.Native.Nat.{ℕ, zero, suc, ◌≤◌, ◌<◌}
use native.Mathlib.Omega.{arith}
use lib.Dec.{T}
use borrow.Author.Tests.{ne_eqb}
use lib.ListN.{length, get_or}
use Rattle.protocol.specs.declared.Settings.{Settings}
use Rattle.protocol.specs.Tests.{count_below}
use Rattle.protocol.specs.Reader.{from_page, Buffer, Reader}
use Rattle.protocol.specs.Call.{core, sound}
use Rattle.protocol.specs.Records.{origin_of, reader_of}
use Rattle.dialogues.specs.Doors.{Memory, Vault, LineVault, reader_at}
use Rattle.protocol.proofs.Laws.Lines.{Line, unless, Follows}
use Rattle.protocol.proofs.Promises.Words.Told.{pages, has}
use Rattle.protocol.proofs.Promises.Words.OneResult.{same_origin}
use Rattle.protocol.proofs.Promises.Refusals.LegalMeans.{core_holds, LegalOrigin, Settled, settled_means}
use Rattle.protocol.proofs.Promises.Refusals.Marks.{FitRecord, settled_fit}
use Rattle.dialogues.proofs.FromC.Steps.{same_vault}
use Rattle.dialogues.proofs.FromC.Secrets.{SameOpen, plain_open, mark_bytes}
use Rattle.offline.specs.CloseGaps.{Closed, close_of}
use Rattle.offline.specs.Records.{closed_of, moved_at}
use Rattle.offline.specs.Life.{closing}
use Rattle.offline.specs.Turns.{work_turn, WentBy, Turns, LineTurns}
use Rattle.offline.proofs.Gaps.Refusals.{ClosingLengths, closing_mean, CloseEnds, close_refusals, close_is, Passes, passes}
use Rattle.offline.proofs.Gaps.Closes.{Closes, closes, Followed, goes_down}
use Rattle.offline.proofs.Gaps.Again.{MovesNothing, sound_closed, moves_nothing}

-- ---- the contract is a turn: what the header's names stand for. Neither notepad nor buffers are lent, so they lie as they lay

pub close_door : (v : Vault) (z : Settings) (refusal : ℕ) (table t i table' : List ℕ)
    → ((n b d : List ℕ) → closed_of (moved_at z refusal) t i table' n b d ≡ close_of core (reader_of v.settings v.memory.templates v.memory.index n b d) table)
    → Turns v
    (work_turn
    record {
      work = closing table;
      refusal = refusal;
      written = table';
      after = record { settings = z; memory = record { templates = t; index = i; notepad = v.memory.notepad; buffer1 = v.memory.buffer1; buffer2 = v.memory.buffer2 } };
    }
    ∷ [])
close_door v z refusal table t i table' q = (q v.memory.notepad v.memory.buffer1 v.memory.buffer2, tt)

-- the same with a receiver, which is not lent either
pub line_close_door : (v : LineVault) (z : Settings) (refusal : ℕ) (table t i table' : List ℕ)
    → ((n b d : List ℕ) → closed_of (moved_at z refusal) t i table' n b d ≡ close_of core (reader_of v.line.settings v.memory.templates v.memory.index n b d) table)
    → LineTurns v
    (work_turn
    record {
      work = closing table;
      refusal = refusal;
      written = table';
      after = record {
        line = record { settings = z; receiver = v.line.receiver };
        memory = record { templates = t; index = i; notepad = v.memory.notepad; buffer1 = v.memory.buffer1; buffer2 = v.memory.buffer2 };
      };
    }
    ∷ [])
line_close_door v z refusal table t i table' q = ((q v.memory.notepad v.memory.buffer1 v.memory.buffer2, refl), tt)

-- ---- the refusals, with an unfit record as a line of its own

abbrev pub closing_lines : Settings → Memory → List ℕ → List Line
closing_lines s m table = let r = reader_at s m in unless (ClosingLengths r.guarded table) 1 ∷ unless (FitRecord s) 3 ∷ unless (Settled r) 3 ∷ []

-- 0 is no refusal; a refused call returns its number, and settings, memory and table lie as they lay, byte for byte
abbrev pub ClosingEnds : Settings → Memory → List ℕ → ℕ → List ℕ → Settings → Memory → ℕ → Type 0
ClosingEnds s m lent refusal table z n zero = refusal ≡ 0
ClosingEnds s m lent refusal table z n (suc k) = (refusal ≡ suc k) × ((table ≡ lent) × ((z ≡ s) × (n ≡ m)))

-- a buffer's origin by the table: none stays none, and a page becomes its new page
pub record FollowsBy (table : List ℕ) (o p : ℕ) : Type 0 where
  pub none : o ≡ 65535 → p ≡ 65535
  pub page : o ≢ 65535 → p ≡ get_or table o 0

-- what a closing that is not refused leaves of the settings, and of the memory that was not lent
pub record LeftAlone (table : List ℕ) (s : Settings) (m : Memory) (z : Settings) (n : Memory) : Type 0 where
  pub settings : SameOpen z s
  pub filled1 : z.filled1 ≡ s.filled1
  pub filled2 : z.filled2 ≡ s.filled2
  pub found : z.found ≡ s.found
  pub origin1 : FollowsBy table s.origin1 z.origin1
  pub origin2 : FollowsBy table s.origin2 z.origin2
  pub notepad : n.notepad ≡ m.notepad
  pub buffer1 : n.buffer1 ≡ m.buffer1
  pub buffer2 : n.buffer2 ≡ m.buffer2

-- settings and memory before it, the table lent, the refusal and the table after it, and settings and memory then
module _ (s : Settings) (m : Memory) (lent : List ℕ) (refusal : ℕ) (table : List ℕ) (z : Settings) (n : Memory) (q : WentBy s m (closing lent) refusal table z n) where
  pub closing_refusal : Follows (closing_lines s m lent) (ClosingEnds s m lent refusal table z n)
  closing_refusal =
      let c = close_refusals (reader_at s m) lent in
      (λ a. (λ k. (λ h. end 0 ((c.0 a).0 h), λ f. end 3 ((c.0 a).1 f)), λ f. end 3 ((c.0 a).1 (λ h. f (fit h)))), λ f. end 1 (c.1 f))
    where
      fit : Settled (reader_at s m) → FitRecord s
      fit = settled_fit s m.templates m.index m.notepad m.buffer1 m.buffer2

      end : (k : ℕ) → CloseEnds (reader_at s m) lent (close_of core (reader_at s m) lent) k → ClosingEnds s m lent refusal table z n k
      end zero e = ap (λ (x : Closed). x.refusal) q ∙ e
      end (suc k) e = (
        ap (λ (x : Closed). x.refusal) q ∙ e.0,
        (ap (λ (x : Closed). x.table) q ∙ e.1.0, same_vault z s n m (ap (λ (x : Closed). x.after) q ∙ e.1.1)),
      )

  -- not refused: what lies in templates, index and table, as `Closes` has it
  pub closing_closes : refusal ≡ 0
      → (let r = reader_at s m in
      Closes r (count_below (has r) (pages r)) record { refusal = refusal; table = table; after = reader_at z n })
  closing_closes e =
      let r : Reader = reader_at s m in
      subst (Closes r (count_below (has r) (pages r))) (sym q) (closes core core_holds r lent (sym (ap (λ (x : Closed). x.refusal) q) ∙ e))

  pub closing_leaves : refusal ≡ 0 → LeftAlone table s m z n
  unfolding origin_of
  closing_leaves e =
      record {
        settings = plain_open z s fit' fit (ap (λ (x : Reader). x.plain) after ∙ c.settings);
        filled1 = mark_bytes _ _ fit'.marks.filled1 fit.marks.filled1 (ap (λ (x : Reader). x.guarded.buffer1.filled) after ∙ c.buffer1.filled);
        filled2 = mark_bytes _ _ fit'.marks.filled2 fit.marks.filled2 (ap (λ (x : Reader). x.guarded.buffer2.filled) after ∙ c.buffer2.filled);
        found = mark_bytes _ _ fit'.marks.found fit.marks.found (ap (λ (x : Reader). x.guarded.found) after ∙ c.found);
        origin1 = follows s.origin1 z.origin1 r.guarded.buffer1 refl (close_of core r lent).after.guarded.buffer1 (ap (λ (x : Reader). x.guarded.buffer1.origin) after) c.buffer1 settled.origin1;
        origin2 = follows s.origin2 z.origin2 r.guarded.buffer2 refl (close_of core r lent).after.guarded.buffer2 (ap (λ (x : Reader). x.guarded.buffer2.origin) after) c.buffer2 settled.origin2;
        notepad = ap (λ (x : Reader). x.guarded.notepad) after ∙ c.notepad;
        buffer1 = ap (λ (x : Reader). x.guarded.buffer1.bytes) after ∙ c.buffer1.bytes;
        buffer2 = ap (λ (x : Reader). x.guarded.buffer2.bytes) after ∙ c.buffer2.bytes;
      }
    where
      r : Reader
      r = reader_at s m

      zero_refusal : (close_of core r lent).refusal ≡ 0
      zero_refusal = sym (ap (λ (x : Closed). x.refusal) q) ∙ e

      after : reader_at z n ≡ (close_of core r lent).after
      after = ap (λ (x : Closed). x.after) q

      told : table ≡ (close_of core r lent).table
      told = ap (λ (x : Closed). x.table) q

      c : Closes r (count_below (has r) (pages r)) (close_of core r lent)
      c = closes core core_holds r lent zero_refusal

      pass : Passes core r lent
      pass = passes core r lent zero_refusal

      lengths : ClosingLengths r.guarded lent
      lengths = (closing_mean r.guarded lent).0 pass.lengths

      settled : Settled r
      settled = (settled_means r lengths.library.pages lengths.library.templates).0 pass.settings

      fit : FitRecord s
      fit = settled_fit s m.templates m.index m.notepad m.buffer1 m.buffer2 settled

      fit' : FitRecord z
      fit' =
          let long = ap (λ (x : Reader). length x.guarded.templates) after ∙ c.templates ∙ lengths.library.templates in
          let sounds = subst (λ (x : Reader). T (sound x)) (sym (after ∙ ap (λ (x : Closed). x.after) (close_is core r lent pass.lengths pass.settings))) (sound_closed core core_holds r lent pass.lengths pass.settings) in
          settled_fit z n.templates n.index n.notepad n.buffer1 n.buffer2 ((settled_means (reader_at z n) lengths.library.pages long).0 sounds)

      -- a buffer b with the origin o before it, and the buffer d with the origin p after it
      follows : (o p : ℕ) (b : Buffer) → b.origin ≡ origin_of o → (d : Buffer) → origin_of p ≡ d.origin → Followed r b d
          → ((k : ℕ) → b.origin ≡ from_page k → LegalOrigin r.guarded.templates r.guarded.index b k) → FollowsBy table o p
      follows o p b before d then f l = record { none = none; page = page }
        where
          none : o ≡ 65535 → p ≡ 65535
          none h = same_origin p 65535 (then ∙ f.none (before ∙ ap origin_of h))

          page : o ≢ 65535 → p ≡ get_or table o 0
          page h =
              let from : b.origin ≡ from_page o = before ∙ rw (ne_eqb o 65535 h) refl in
              let legal = l o from in
              let most = lengths.library.most in
              let below : o < pages r = omega (arith, legal.below lengths.library.pages lengths.library.templates, lengths.library.templates) in
              let there : has r o ≡ true = rw legal.there refl in
              let new : ℕ = count_below (has r) o in
              let low : new ≤ o = goes_down r o in
              let small : new ≢ 65535 = λ k. omega (arith, lengths.library.templates) in
              same_origin p new (then ∙ f.page o from ∙ rw (ne_eqb new 65535 small) refl) ∙ sym (ap (λ (w : List ℕ). get_or w o 0) told ∙ c.moved o below there)

-- called again on what it left, with a table of as many pages: it is not refused, settings and memory lie as they lay, byte for byte, and the table has each stored page's
-- own number
pub closing_again : (s z z' : Settings) (m n n' : Memory) (lent next table table' : List ℕ) (refusal : ℕ) → WentBy s m (closing lent) 0 table z n
    → WentBy z n (closing next) refusal table' z' n' → length next ≡ pages (reader_at s m)
    → ((refusal ≡ 0) × ((z' ≡ z) × (n' ≡ n)))
    × ((p : ℕ) → p < pages (reader_at z n) → (has (reader_at z n) p ≡ true → get_or table' p 0 ≡ p) × (has (reader_at z n) p ≡ false → get_or table' p 0 ≡ 0xffff))
closing_again s z z' m n n' lent next table table' refusal p q l =
    let r : Reader = reader_at s m in
    let after : (close_of core r lent).after ≡ reader_at z n = sym (ap (λ (x : Closed). x.after) p) in
    let k : MovesNothing core (reader_at z n) next =
    subst (λ (t : Reader). MovesNothing core t next) after (moves_nothing core core_holds r lent (sym (ap (λ (x : Closed). x.refusal) p)) next l)
    in
    let told = ap (λ (x : Closed). x.table) q in (
      (ap (λ (x : Closed). x.refusal) q ∙ k.refusal, same_vault z' z n' n (ap (λ (x : Closed). x.after) q ∙ k.after)),
      λ i b. (λ h. ap (λ (t : List ℕ). get_or t i 0) told ∙ k.own i b h, λ h. ap (λ (t : List ℕ). get_or t i 0) told ∙ k.vacant i b h),
    )
