-- Document 02, request [11]: "A lent report of C + 16 bytes says for each page: 0 both vacant or both the same, 1 only the first has it, 2 only the second, 3 both but
-- different; then for each notepad page 0 or 3. Bytes of vacant pages don't count."
use mathlib.Core.Bool.{Bool, true, false, true≢false, cond}
use mathlib.Core.Path.{◌≡◌, refl, sym, ap, ap₂, ◌∙◌}
use mathlib.Core.Logic.{◌↔◌, ◌≢◌, ◌⊎◌, inl, inr}
use mathlib.Core.List.{List, ◌++◌}
use Prim.Native.Nat.{ℕ, ◌+◌, ◌*◌, ◌≤◌, ◌<◌}
use native.Mathlib.Omega.{arith}
use lib.ListN.{length, take, drop, get_or, get_or-append, length-append}
use lib.Seq.{get_or-append-add}
use Rattle.protocol.specs.Bytes.{same}
use Rattle.protocol.specs.Tests.{listed}
use Rattle.protocol.specs.Index.{bit, stored}
use Rattle.protocol.specs.Call.{core}
use Rattle.protocol.proofs.Laws.Lists.{same_refl, same_eq}
use Rattle.protocol.proofs.Laws.Below.{length_listed, at_listed}
use Rattle.protocol.proofs.Promises.Words.Told.{page_of, has_bit}
use Rattle.offline.specs.Compare.{Library, page_code, page_says, note_says, report_of, Compared, compare_as, compare_of}
use Rattle.offline.proofs.Compare.Refusals.{CompareLengths, NoneBeyond, pages_are, compare_is}

-- whether a library has page q, and that page; notepad page n
abbrev pub has_page : Library → ℕ → Bool
has_page a q = has_bit a.index q

abbrev pub page_in : Library → ℕ → List ℕ
page_in a q = page_of a.templates q

abbrev pub note_in : Library → ℕ → List ℕ
note_in a n = take 32 (drop (32 * n) a.notepad)

-- both vacant, or both the same
abbrev pub SamePage : Library → Library → ℕ → Type 0
SamePage a b q = ((has_page a q ≡ false) × (has_page b q ≡ false)) ⊎ ((has_page a q ≡ true) × ((has_page b q ≡ true) × (page_in a q ≡ page_in b q)))

-- of two libraries of c pages, and a call that was not refused
pub record Compares (a b : Library) (c : ℕ) (e : Compared) : Type 0 where
  pub refusal : e.refusal ≡ 0
  pub entries : length e.report ≡ c + 16
  pub says : (q : ℕ) → q < c → get_or e.report q 0 ≤ 3
  pub says_0 : (q : ℕ) → q < c → (get_or e.report q 0 ≡ 0) ↔ SamePage a b q
  pub says_1 : (q : ℕ) → q < c → (get_or e.report q 0 ≡ 1) ↔ ((has_page a q ≡ true) × (has_page b q ≡ false))
  pub says_2 : (q : ℕ) → q < c → (get_or e.report q 0 ≡ 2) ↔ ((has_page a q ≡ false) × (has_page b q ≡ true))
  pub says_3 : (q : ℕ) → q < c → (get_or e.report q 0 ≡ 3) ↔ ((has_page a q ≡ true) × ((has_page b q ≡ true) × (page_in a q ≢ page_in b q)))
  pub note_says_lem : (n : ℕ) → n < 16 → (get_or e.report (c + n) 0 ≡ 0) ⊎ (get_or e.report (c + n) 0 ≡ 3)
  pub note_0 : (n : ℕ) → n < 16 → (get_or e.report (c + n) 0 ≡ 0) ↔ (note_in a n ≡ note_in b n)
  pub note_3 : (n : ℕ) → n < 16 → (get_or e.report (c + n) 0 ≡ 3) ↔ (note_in a n ≢ note_in b n)

-- ---- an entry k

not_same : (s t : List ℕ) → same s t ≡ false → s ≢ t
not_same s t e d = true≢false (sym (ap (same s) (sym d) ∙ same_refl s) ∙ e)

record PageCodes (x y : Bool) (s t : List ℕ) (k : ℕ) : Type 0 where
  most : k ≤ 3
  code_0 : (k ≡ 0) ↔ (((x ≡ false) × (y ≡ false)) ⊎ ((x ≡ true) × ((y ≡ true) × (s ≡ t))))
  code_1 : (k ≡ 1) ↔ ((x ≡ true) × (y ≡ false))
  code_2 : (k ≡ 2) ↔ ((x ≡ false) × (y ≡ true))
  code_3 : (k ≡ 3) ↔ ((x ≡ true) × ((y ≡ true) × (s ≢ t)))

page_codes : (x y : Bool) (s t : List ℕ) → PageCodes x y s t (page_code x y (same s t))
unfolding page_code
page_codes false false s t =
    record {
      most = omega arith;
      code_0 = (λ e. inl (refl, refl), λ k. refl);
      code_1 = (λ e. absurd (omega arith), λ k. absurd (true≢false (sym k.0)));
      code_2 = (λ e. absurd (omega arith), λ k. absurd (true≢false (sym k.1)));
      code_3 = (λ e. absurd (omega arith), λ k. absurd (true≢false (sym k.0)));
    }
page_codes true false s t =
    record {
      most = omega arith;
      code_0 = (λ e. absurd (omega arith), λ k. absurd (one k));
      code_1 = (λ e. (refl, refl), λ k. refl);
      code_2 = (λ e. absurd (omega arith), λ k. absurd (true≢false k.0));
      code_3 = (λ e. absurd (omega arith), λ k. absurd (true≢false (sym k.1.0)));
    }
  where
    one : ((true ≡ false) × (false ≡ false)) ⊎ ((true ≡ true) × ((false ≡ true) × (s ≡ t))) → ⊥
    one (inl k) = true≢false k.0
    one (inr k) = true≢false (sym k.1.0)
page_codes false true s t =
    record {
      most = omega arith;
      code_0 = (λ e. absurd (omega arith), λ k. absurd (one k));
      code_1 = (λ e. absurd (omega arith), λ k. absurd (true≢false k.1));
      code_2 = (λ e. (refl, refl), λ k. refl);
      code_3 = (λ e. absurd (omega arith), λ k. absurd (true≢false (sym k.0)));
    }
  where
    one : ((false ≡ false) × (true ≡ false)) ⊎ ((false ≡ true) × ((true ≡ true) × (s ≡ t))) → ⊥
    one (inl k) = true≢false k.1
    one (inr k) = true≢false (sym k.0)
page_codes true true s t = go (same s t) refl
  where
    go : (z : Bool) → same s t ≡ z → PageCodes true true s t (page_code true true z)
    go true e =
        record {
          most = omega arith;
          code_0 = (λ f. inr (refl, (refl, same_eq s t e)), λ k. refl);
          code_1 = (λ f. absurd (omega arith), λ k. absurd (true≢false k.1));
          code_2 = (λ f. absurd (omega arith), λ k. absurd (true≢false k.0));
          code_3 = (λ f. absurd (omega arith), λ k. absurd (k.1.1 (same_eq s t e)));
        }
    go false e =
        record {
          most = omega arith;
          code_0 = (λ f. absurd (omega arith), λ k. absurd (one k));
          code_1 = (λ f. absurd (omega arith), λ k. absurd (true≢false k.1));
          code_2 = (λ f. absurd (omega arith), λ k. absurd (true≢false k.0));
          code_3 = (λ f. (refl, (refl, not_same s t e)), λ k. refl);
        }
      where
        one : ((true ≡ false) × (true ≡ false)) ⊎ ((true ≡ true) × ((true ≡ true) × (s ≡ t))) → ⊥
        one (inl k) = true≢false k.0
        one (inr k) = not_same s t e k.1.1

record NoteCodes (s t : List ℕ) (k : ℕ) : Type 0 where
  either : (k ≡ 0) ⊎ (k ≡ 3)
  code_0 : (k ≡ 0) ↔ (s ≡ t)
  code_3 : (k ≡ 3) ↔ (s ≢ t)

note_codes_lem : (s t : List ℕ) → NoteCodes s t (cond (same s t) 0 3)
note_codes_lem s t = go (same s t) refl
  where
    go : (z : Bool) → same s t ≡ z → NoteCodes s t (cond z 0 3)
    go true e = record { either = inl refl; code_0 = (λ f. same_eq s t e, λ f. refl); code_3 = (λ f. absurd (omega arith), λ f. absurd (f (same_eq s t e))) }
    go false e = record { either = inr refl; code_0 = (λ f. absurd (omega arith), λ f. absurd (not_same s t e f)); code_3 = (λ f. not_same s t e, λ f. refl) }

-- ---- the report, place by place

module _ (f g : ℕ → ℕ) (c : ℕ) where
  pub entry_front : (q : ℕ) → q < c → get_or (listed f c ++ listed g 16) q 0 ≡ f q
  entry_front q l = get_or-append (listed f c) (listed g 16) 0 q (omega (arith, length_listed f c)) ∙ at_listed f c q l

  pub entry_behind : (n : ℕ) → n < 16 → get_or (listed f c ++ listed g 16) (c + n) 0 ≡ g n
  entry_behind n l =
      let at : c + n ≡ length (listed f c) + n = omega (arith, length_listed f c) in
      ap (λ (i : ℕ). get_or (listed f c ++ listed g 16) i 0) at ∙ get_or-append-add (listed f c) (listed g 16) n 0 ∙ at_listed g 16 n l

  pub entries_long : length (listed f c ++ listed g 16) ≡ c + 16
  entries_long = length-append (listed f c) (listed g 16) ∙ ap₂ (λ (i j : ℕ). i + j) (length_listed f c) (length_listed g 16)

module _ (a b : Library) (report : List ℕ) (m : CompareLengths a b report) (k : NoneBeyond a b) where
  abbrev c : ℕ
  c = m.libraries.pages

  -- what is not refused, page by page
  pub compared_is : compare_of core a b report ≡ record { refusal = 0; report = listed (page_says a b) c ++ listed (note_says a.notepad b.notepad) 16 }
  unfolding compare_as report_of core
  compared_is =
      compare_is a b report m k
      ∙ ap (λ (n : ℕ). record { refusal = 0; report = listed (page_says a b) n ++ listed (note_says a.notepad b.notepad) 16 }) (pages_are a c m.libraries.first)

  abbrev f : ℕ → ℕ
  f = page_says a b

  abbrev g : ℕ → ℕ
  g = note_says a.notepad b.notepad

  codes : (q : ℕ) → q < c → PageCodes (stored a.index q) (stored b.index q) (page_in a q) (page_in b q) (get_or (listed f c ++ listed g 16) q 0)
  unfolding page_says
  codes q l = rw (entry_front f g c q l) (page_codes (stored a.index q) (stored b.index q) (page_in a q) (page_in b q))

  note : (n : ℕ) → n < 16 → NoteCodes (note_in a n) (note_in b n) (get_or (listed f c ++ listed g 16) (c + n) 0)
  unfolding note_says
  note n l = rw (entry_behind f g c n l) (note_codes_lem (note_in a n) (note_in b n))

  pub compares : Compares a b c (compare_of core a b report)
  unfolding stored bit
  compares =
      rw compared_is
      record {
        refusal = refl;
        entries = entries_long f g c;
        says = λ q l. (codes q l).most;
        says_0 = λ q l. (codes q l).code_0;
        says_1 = λ q l. (codes q l).code_1;
        says_2 = λ q l. (codes q l).code_2;
        says_3 = λ q l. (codes q l).code_3;
        note_says_lem = λ n l. (note n l).either;
        note_0 = λ n l. (note n l).code_0;
        note_3 = λ n l. (note n l).code_3;
      }
