-- Document 02, request [11]: "A small program reads two files, each the index, the notepad and then the templates in page order, .. and prints the non-zero entries one to a line ..
-- templates first, pages rising. Equal readers print nothing; a refusal prints only the line R1 or R3; an unreadable file counts as empty."
use mathlib.Core.Bool.{Bool, true, false, cond}
use mathlib.Core.Path.{◌≡◌, refl, sym, ap, ap₂, ◌∙◌}
use mathlib.Core.Logic.{◌↔◌}
use mathlib.Core.List.{List, [], ◌∷◌, ◌++◌}
use Prim.Native.Nat.{ℕ, zero, suc, ◌+◌, ◌-◌, ◌*◌, ◌≤◌, ◌<◌}
use native.Mathlib.Omega.{arith}
use native.Mathlib.Decide.{dec_lt}
use lib.Dec.{T, eqb}
use lib.ListN.{length, take, drop, get_or, length-drop, length-append, length-replicate}
use lib.Seq.{length-take-le, drop-drop, take-append_seam, drop-append_seam}
use Rattle.protocol.specs.Bytes.{zeros}
use Rattle.protocol.specs.Tests.{verdict, listed}
use Rattle.protocol.specs.Call.{core}
use Rattle.protocol.proofs.Laws.Logic.{T→true, and_l, and_i, eq→eqb}
use Rattle.protocol.proofs.Laws.Lines.{Line, unless, Follows, follows}
use Rattle.offline.specs.Compare.{Library, library, pages_in, page_says, note_says, fit_compare, clear_beyond, compare_refusal, Compared, compare_of}
use Rattle.offline.specs.Print.{library_in, line_of, lines_of, refusal_line, printed_as, printed_of}
use Rattle.protocol.proofs.Laws.Index.{byte_zeros}
use Rattle.offline.proofs.Laws.Salvage.{all_zero}
use Rattle.offline.proofs.Compare.Refusals.{WithNotepad, EqualCapacity, CompareLengths, NoneBeyond, pages_are, beside_mean, beyond_mean}
use Rattle.offline.proofs.Compare.Compares.{entry_front, entry_behind, compared_is, compares}
use Rattle.offline.proofs.Compare.Equal.{SameLibraries, equal_libraries}
use Rattle.offline.proofs.Compare.Lines.{none_printed}

-- a file: the index, the notepad, the templates
abbrev pub file_of : Library → List ℕ
file_of a = a.index ++ (a.notepad ++ a.templates)

-- two files of as many pages
pub record TwoFiles (s u : List ℕ) : Type 0 where
  pub pages : ℕ
  pub first : length s ≡ 128 + 512 + 512 * pages
  pub second : length u ≡ 128 + 512 + 512 * pages
  pub least : 1 ≤ pages
  pub most : pages ≤ 1000

abbrev pub print_lines : List ℕ → List ℕ → List Line
print_lines s u = unless (TwoFiles s u) 1 ∷ unless (NoneBeyond (library_in s) (library_in u)) 3 ∷ []

-- a refusal is R, its number and a newline; otherwise T and N lines of the call's report, whatever report is lent to it
abbrev pub PrintEnds : List ℕ → List ℕ → ℕ → Type 0
PrintEnds s u zero =
    (c : ℕ) (report : List ℕ) → length s ≡ 128 + 512 + 512 * c → length report ≡ c + 16
    → (let e = compare_of core (library_in s) (library_in u) report in
    printed_of s u ≡ lines_of 84 (λ p. get_or e.report p 0) c ++ lines_of 78 (λ n. get_or e.report (c + n) 0) 16)
PrintEnds s u (suc n) = printed_of s u ≡ 82 ∷ (48 + suc n) ∷ 10 ∷ []

-- ---- the files as libraries

long : (s : List ℕ) (c : ℕ) → 1 ≤ c → length (drop 640 s) ≡ 512 * c → length s ≡ 640 + 512 * c
long s c l e = let d : length (drop 640 s) ≡ length s - 640 = length-drop 640 s in omega arith

in_file : (s : List ℕ) (c : ℕ) → length s ≡ 640 + 512 * c → 1 ≤ c → c ≤ 1000 → WithNotepad (library_in s) c
unfolding library_in
in_file s c e l h =
    let d : length (drop 128 s) ≡ length s - 128 = length-drop 128 s in
    record {
      templates = length-drop 640 s ∙ omega arith;
      least = l;
      most = h;
      index = length-take-le 128 s (omega arith);
      notepad = length-take-le 512 (drop 128 s) (omega arith);
    }

pub same_lines : (letter : ℕ) (f g : ℕ → ℕ) (n : ℕ) → ((i : ℕ) → i < n → f i ≡ g i) → lines_of letter f n ≡ lines_of letter g n
unfolding lines_of
same_lines letter f g zero h = refl
same_lines letter f g (suc n) h =
    ap₂ (λ (v : List ℕ) (k : ℕ). v ++ cond (eqb k 0) [] (line_of letter n k)) (same_lines letter f g n (λ i l. h i (omega arith))) (h n (omega arith))

module _ (s u : List ℕ) where
  abbrev a : Library
  a = library_in s

  abbrev b : Library
  b = library_in u

  files_mean : EqualCapacity a b ↔ TwoFiles s u
  unfolding library_in
  files_mean = (
    λ m.
        record {
          pages = m.pages;
          first = long s m.pages m.first.least m.first.templates;
          second = long u m.pages m.first.least m.second.templates;
          least = m.first.least;
          most = m.first.most;
        },
    λ m. record { pages = m.pages; first = in_file s m.pages m.first m.least m.most; second = in_file u m.pages m.second m.least m.most },
  )

  -- the program's own report fits
  own_fits : T (fit_compare core a b (pages_in a + 16)) ↔ TwoFiles s u
  unfolding fit_compare core
  own_fits = (
    λ t. files_mean.0 ((beside_mean a b).0 (search (and_l))),
    λ m.
        (let t₁ = (beside_mean a b).1 (files_mean.1 m) in
        let t₂ = eq→eqb (pages_in a + 16) (pages_in a + 16) refl in
        search (and_i)),
  )

  -- the lines of two libraries are those of the call's report
  report_lines : TwoFiles s u → NoneBeyond a b → (c : ℕ) (report : List ℕ) → length s ≡ 640 + 512 * c → length report ≡ c + 16
      → (let e = compare_of core a b report in
      printed_as a b 0 ≡ lines_of 84 (λ p. get_or e.report p 0) c ++ lines_of 78 (λ n. get_or e.report (c + n) 0) 16)
  unfolding printed_as core files_mean
  report_lines m k c report e n =
      let same : m.pages ≡ c = omega (arith, m.first) in
      let lengths : CompareLengths a b report = record { libraries = files_mean.1 m; entries = n ∙ ap (λ (i : ℕ). i + 16) (sym same) } in
      let pages : pages_in a ≡ c = pages_are a m.pages (files_mean.1 m).first ∙ same in
      let f : ℕ → ℕ = page_says a b in
      let g : ℕ → ℕ = note_says a.notepad b.notepad in
      let said : (compare_of core a b report).report ≡ listed f c ++ listed g 16 =
      ap (λ (z : Compared). z.report) (compared_is a b report lengths k) ∙ ap (λ (i : ℕ). listed f i ++ listed g 16) same
      in
      rw (pages, said)
      (ap₂ (λ (x y : List ℕ). x ++ y)
      (same_lines 84 f (λ p. get_or (listed f c ++ listed g 16) p 0) c (λ i l. sym (entry_front f g c i l)))
      (same_lines 78 g (λ n. get_or (listed f c ++ listed g 16) (c + n) 0) 16 (λ i l. sym (entry_behind f g c i l))))

  by_refusal : Follows (print_lines s u) (λ n. printed_of s u ≡ printed_as a b n)
  unfolding printed_of compare_refusal core
  by_refusal =
      follows ((fit_compare core a b (pages_in a + 16), 1) ∷ (clear_beyond a b, 3) ∷ []) (print_lines s u) (λ n. printed_of s u ≡ printed_as a b n)
      (own_fits, (refl, λ m. (beyond_mean a b (files_mean.1 m), (refl, λ k. tt)))) refl

  pub prints : Follows (print_lines s u) (PrintEnds s u)
  unfolding printed_as
  prints = (λ m. (λ k c report e n. (by_refusal.0 m).0 k ∙ report_lines m k c report e n, λ k. (by_refusal.0 m).1 k), λ m. by_refusal.1 m)

-- ---- what follows

-- of two files of so many pages: the lines, or R3
pub printed_by_bits : (s u : List ℕ) → TwoFiles s u → printed_of s u ≡ cond (clear_beyond (library_in s) (library_in u)) (printed_as (library_in s) (library_in u) 0) (refusal_line 3)
unfolding printed_of compare_refusal verdict core printed_as
printed_by_bits s u m = let t = T→true (fit_compare core (library_in s) (library_in u) (pages_in (library_in s) + 16)) ((own_fits s u).1 m) in rw t (go (clear_beyond (library_in s) (library_in u)))
  where
    go : (b : Bool) → printed_as (library_in s) (library_in u) (cond b 0 3) ≡ cond b (printed_as (library_in s) (library_in u) 0) (refusal_line 3)
    go true = refl
    go false = refl

-- a file that holds a library is read as that library
pub holds : (a : Library) → length a.index ≡ 128 → length a.notepad ≡ 512 → library_in (file_of a) ≡ a
unfolding library_in
holds a x n =
    let s : List ℕ = a.index ++ (a.notepad ++ a.templates) in
    let front : take 128 s ≡ a.index = ap (λ (k : ℕ). take k s) (sym x) ∙ take-append_seam a.index (a.notepad ++ a.templates) in
    let behind : drop 128 s ≡ a.notepad ++ a.templates = ap (λ (k : ℕ). drop k s) (sym x) ∙ drop-append_seam a.index (a.notepad ++ a.templates) in
    let notes : take 512 (drop 128 s) ≡ a.notepad =
    ap (take 512) behind ∙ ap (λ (k : ℕ). take k (a.notepad ++ a.templates)) (sym n) ∙ take-append_seam a.notepad a.templates
    in
    let last : drop 640 s ≡ a.templates =
    sym (drop-drop 512 128 s) ∙ ap (drop 512) behind ∙ ap (λ (k : ℕ). drop k (a.notepad ++ a.templates)) (sym n) ∙ drop-append_seam a.notepad a.templates
    in
    λ i. library (front i) (notes i) (last i)

-- "an unreadable file counts as empty": R1, whatever the other is
pub unreadable_first : (u : List ℕ) → printed_of [] u ≡ 82 ∷ 49 ∷ 10 ∷ []
unreadable_first u = (prints [] u).1 (λ m. omega (arith, m.first))

pub unreadable_second : (s : List ℕ) → printed_of s [] ≡ 82 ∷ 49 ∷ 10 ∷ []
unreadable_second s = (prints s []).1 (λ m. omega (arith, m.second))

-- "Equal readers print nothing", and only they
pub equal_print : (s u : List ℕ) (m : TwoFiles s u) → NoneBeyond (library_in s) (library_in u) → (printed_of s u ≡ []) ↔ SameLibraries (library_in s) (library_in u) m.pages
unfolding files_mean
equal_print s u m k = (
  λ e.
      (let z : lines_of 84 f c ++ lines_of 78 g 16 ≡ [] = sym shown ∙ e in
      let front : length (lines_of 84 f c ++ lines_of 78 g 16) ≡ 0 = ap length z in
      let long : length (lines_of 84 f c ++ lines_of 78 g 16) ≡ length (lines_of 84 f c) + length (lines_of 78 g 16) = length-append (lines_of 84 f c) (lines_of 78 g 16) in
      (equal_libraries (library_in s) (library_in u) (zeros (c + 16)) lengths k).0
      (all_zero (c + 16) e₀.report (compares (library_in s) (library_in u) (zeros (c + 16)) lengths k).entries
      (each ((none_printed 84 f c).0 (nothing (lines_of 84 f c) (omega arith))) ((none_printed 78 g 16).0 (nothing (lines_of 78 g 16) (omega arith)))))),
  λ h.
      (let z : (i : ℕ) → get_or e₀.report i 0 ≡ 0 = λ i. ap (λ (v : List ℕ). get_or v i 0) ((equal_libraries (library_in s) (library_in u) (zeros (c + 16)) lengths k).1 h) ∙ byte_zeros (c + 16) i in
      shown ∙ ap₂ (λ (x y : List ℕ). x ++ y) ((none_printed 84 f c).1 (λ q l. z q)) ((none_printed 78 g 16).1 (λ q l. z (c + q)))),
)
  where
    c : ℕ
    c = m.pages

    e₀ : Compared
    e₀ = compare_of core (library_in s) (library_in u) (zeros (m.pages + 16))

    f : ℕ → ℕ
    f p = get_or e₀.report p 0

    g : ℕ → ℕ
    g n = get_or e₀.report (c + n) 0

    lengths : CompareLengths (library_in s) (library_in u) (zeros (m.pages + 16))
    lengths = record { libraries = (files_mean s u).1 m; entries = length-replicate (m.pages + 16) 0 }

    shown : printed_of s u ≡ lines_of 84 f c ++ lines_of 78 g 16
    shown = ((prints s u).0 m).0 k c (zeros (c + 16)) m.first (length-replicate (c + 16) 0)

    nothing : (v : List ℕ) → length v ≡ 0 → v ≡ []
    nothing [] e = refl
    nothing (x ∷ v) e = absurd (omega arith)

    each : ((q : ℕ) → q < c → f q ≡ 0) → ((q : ℕ) → q < 16 → g q ≡ 0) → (i : ℕ) → i < c + 16 → get_or e₀.report i 0 ≡ 0
    each x y i l = go (dec_lt i c)
      where
        go : Dec (i < c) → get_or e₀.report i 0 ≡ 0
        go (yes d) = x i d
        go (no d) = let at : i ≡ c + (i - c) = omega arith in ap (λ (j : ℕ). get_or e₀.report j 0) at ∙ y (i - c) (omega arith)
