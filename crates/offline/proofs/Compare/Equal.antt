-- Document 02, request [11]: "Replacing a reader, the fitter wants to know that the new one has it all." The report is all zeros just where both have the same pages stored, with the same
-- bytes, and the same notepads, whatever lies in vacant pages. And then no host can tell two legal readers apart by their libraries.
use mathlib.Core.Bool.{true, true≢false}
use mathlib.Core.Path.{◌≡◌, sym, ap, ◌∙◌}
use mathlib.Core.Logic.{◌↔◌, inl, inr}
use mathlib.Core.List.{List}
use Prim.Native.Nat.{ℕ, ◌+◌, ◌-◌, ◌*◌, ◌/◌, ◌%◌, ◌≤◌, ◌<◌}
use native.Mathlib.Omega.{arith}
use native.Mathlib.Decide.{dec_lt}
use lib.ListN.{length, get_or, replicate}
use lib.Seq.{ext_get_or}
use Rattle.protocol.specs.Bytes.{part}
use Rattle.protocol.specs.Index.{bit, stored}
use Rattle.protocol.specs.Reader.{Reader}
use Rattle.protocol.specs.Call.{core}
use Rattle.protocol.specs.Dialogue.{Event, on, finally}
use Rattle.dialogues.specs.History.{exchanges}
use Rattle.protocol.proofs.Laws.Index.{byte_zeros}
use Rattle.protocol.proofs.Laws.Legal.{fine_of}
use Rattle.protocol.proofs.Promises.Refusals.StaysLegal.{Legal, good, ever_legal}
use Rattle.offline.specs.Compare.{Library, library_at, compare_of}
use Rattle.offline.proofs.Laws.Salvage.{cell, all_zero, same_index}
use Rattle.offline.proofs.Laws.Vacant.{AlikeStored, told_alike}
use Rattle.offline.proofs.Compare.Refusals.{CompareLengths, NoneBeyond, compare_passes}
use Rattle.offline.proofs.Compare.Compares.{has_page, page_in, note_in, SamePage, Compares, compares}
use Rattle.offline.proofs.Salvage.Unnoticed.{ever_alike, exchanges_alike}

-- of c pages: each both vacant or both the same, and the same notepads
pub record SameLibraries (a b : Library) (c : ℕ) : Type 0 where
  pub pages : (q : ℕ) → q < c → SamePage a b q
  pub notepads : a.notepad ≡ b.notepad

module _ (a b : Library) (report : List ℕ) (m : CompareLengths a b report) (k : NoneBeyond a b) where
  abbrev c : ℕ
  c = m.libraries.pages

  told : Compares a b c (compare_of core a b report)
  told = compares a b report m k

  -- all zeros for equal libraries, and for them alone
  pub equal_libraries : ((compare_of core a b report).report ≡ replicate (c + 16) 0) ↔ SameLibraries a b c
  equal_libraries = (
    λ e.
        (let zero : (i : ℕ) → get_or (compare_of core a b report).report i 0 ≡ 0 = λ i. ap (λ (s : List ℕ). get_or s i 0) e ∙ byte_zeros (c + 16) i in
        record { pages = λ q l. (told.says_0 q l).0 (zero q); notepads = whole (λ n l. (told.note_0 n l).0 (zero (c + n))) }),
    λ h. all_zero (c + 16) (compare_of core a b report).report told.entries (λ i l. each h i l (dec_lt i c)),
  )
    where
      each : SameLibraries a b c → (i : ℕ) → i < c + 16 → Dec (i < c) → get_or (compare_of core a b report).report i 0 ≡ 0
      each h i l (yes d) = (told.says_0 i d).1 (h.pages i d)
      each h i l (no d) =
          let at : c + (i - c) ≡ i = omega arith in
          ap (λ (j : ℕ). get_or (compare_of core a b report).report j 0) (sym at)
          ∙ (told.note_0 (i - c) (omega arith)).1 (ap (λ (s : List ℕ). part (32 * (i - c)) 32 s) h.notepads)

      -- notepads whose pages are all the same
      whole : ((n : ℕ) → n < 16 → note_in a n ≡ note_in b n) → a.notepad ≡ b.notepad
      whole h =
          ext_get_or 0 a.notepad b.notepad (m.libraries.first.notepad ∙ sym m.libraries.second.notepad)
          (λ i l.
          let low : i < 512 = omega (arith, m.libraries.first.notepad) in
          let at : 32 * (i / 32) + i % 32 ≡ i = omega arith in
          ap (λ (j : ℕ). get_or a.notepad j 0) (sym at)
          ∙ sym (cell a.notepad (32 * (i / 32)) 32 (i % 32) (omega arith))
          ∙ ap (λ (s : List ℕ). get_or s (i % 32) 0) (h (i / 32) (omega arith))
          ∙ cell b.notepad (32 * (i / 32)) 32 (i % 32) (omega arith)
          ∙ ap (λ (j : ℕ). get_or b.notepad j 0) at)

-- ---- two legal readers with such libraries, and all else the same

pub record SameElse (r s : Reader) : Type 0 where
  pub plain : r.plain ≡ s.plain
  pub buffer1 : r.guarded.buffer1 ≡ s.guarded.buffer1
  pub buffer2 : r.guarded.buffer2 ≡ s.guarded.buffer2
  pub found : r.guarded.found ≡ s.guarded.found

module _ (ok : core.most ≤ 8 * core.indexed) (r s : Reader) (l : Legal core ok r) (n : Legal core ok s) (h : SameElse r s) where
  module _ (report : List ℕ) (z : (compare_of core (library_at r) (library_at s) report).refusal ≡ 0)
      (e : (compare_of core (library_at r) (library_at s) report).report ≡ replicate (length report) 0) where
    abbrev p : CompareLengths (library_at r) (library_at s) report × NoneBeyond (library_at r) (library_at s)
    p = compare_passes (library_at r) (library_at s) report z

    same_libraries : SameLibraries (library_at r) (library_at s) p.0.libraries.pages
    same_libraries =
        (equal_libraries (library_at r) (library_at s) report p.0 p.1).0
        (e ∙ ap (λ (i : ℕ). replicate i 0) p.0.entries)

    same_stored : (q : ℕ) → has_page (library_at r) q ≡ has_page (library_at s) q
    same_stored q = go (dec_lt q p.0.libraries.pages)
      where
        one : SamePage (library_at r) (library_at s) q → has_page (library_at r) q ≡ has_page (library_at s) q
        one (inl k) = k.0 ∙ sym k.1
        one (inr k) = k.0 ∙ sym k.1.0

        go : Dec (q < p.0.libraries.pages) → has_page (library_at r) q ≡ has_page (library_at s) q
        go (yes d) = one (same_libraries.pages q d)
        go (no d) =
            p.1.first p.0.libraries.pages q p.0.libraries.first.templates (omega arith)
            ∙ sym (p.1.second p.0.libraries.pages q p.0.libraries.second.templates (omega arith))

    alike : AlikeStored r s
    unfolding stored bit
    alike =
        record {
          plain = h.plain;
          index = same_index r.guarded.index s.guarded.index (fine_of core ok r (good core ok r l)) (fine_of core ok s (good core ok s n)) same_stored;
          notepad = same_libraries.notepads;
          buffer1 = h.buffer1;
          buffer2 = h.buffer2;
          found = h.found;
          long = p.0.libraries.first.templates ∙ sym p.0.libraries.second.templates;
          pages = λ q t. go q t (dec_lt q p.0.libraries.pages);
        }
      where
        one : (q : ℕ) → has_page (library_at s) q ≡ true → SamePage (library_at r) (library_at s) q → page_in (library_at r) q ≡ page_in (library_at s) q
        one q t (inl k) = absurd (true≢false (sym t ∙ k.1))
        one q t (inr k) = k.1.1

        go : (q : ℕ) → has_page (library_at s) q ≡ true → Dec (q < p.0.libraries.pages) → page_in (library_at r) q ≡ page_in (library_at s) q
        go q t (yes d) = one q t (same_libraries.pages q d)
        go q t (no d) =
            absurd (true≢false (sym t ∙ p.1.second p.0.libraries.pages q p.0.libraries.second.templates (omega arith)))

    -- what a host sees of any sequence of calls and line switches
    pub has_it_all : (es : List Event) → exchanges core r es ≡ exchanges core s es
    has_it_all es = exchanges_alike core ok es r s n alike

    -- and all that its caller is told by any call or line switch behind such a sequence
    pub told_the_same : (es : List Event) (v : Event) → (on core (finally core r es) v).told ≡ (on core (finally core s es) v).told
    told_the_same es v =
        (told_alike core ok (finally core r es) (finally core s es) (ever_legal core ok s n es) (ever_alike core ok es r s n alike) v).told
