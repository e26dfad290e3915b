-- What was read, page by page; and the text of it is what request [11] prints of two files.
use mathlib.Core.Path.{◌≡◌, refl, sym, ap, ap₂, ◌∙◌}
use mathlib.Core.Logic.{◌≢◌}
use mathlib.Core.Bool.{Bool, true, false}
use mathlib.Core.List.{List, [], ◌++◌}
use Prim.Native.Nat.{ℕ, ◌+◌, ◌*◌, ◌≤◌, ◌<◌}
use Rattle.std.proofs.Common.{Option, None}
use native.Mathlib.Omega.{arith}
use native.Mathlib.Decide.{ℕ_discrete}
use lib.ListN.{length, take, get_or, set, length-set, length-append}
use lib.Seq.{get_or-set_same, get_or-set_other, take_all}
use borrow.Author.Tests.{eq-eqb, ne_eqb}
use Rattle.std.specs.Bool.{then_some}
use Rattle.std.specs.Option.{unwrap_or}
use Rattle.protocol.specs.Bytes.{part, same}
use Rattle.protocol.specs.Index.{stored}
use Rattle.protocol.specs.Call.{core}
use Rattle.protocol.proofs.Laws.Lists.{part_left, part_right}
use Rattle.offline.specs.Compare.{Library, library, pages_in, page_code, page_says, clear_beyond}
use Rattle.offline.specs.Print.{lines_of, printed_as, printed_of}
use Rattle.offline.proofs.Compare.Prints.{file_of, TwoFiles, holds, unreadable_first, printed_by_bits, same_lines}
use Rattle.compare.specs.Print.{code_lines, text_of}
use Rattle.compare.specs.Reading.{PagesRead, PrintedOfTwo}

-- ---- page by page

pub none_read : (x y v : List ℕ) → length v ≡ 1000 → PagesRead x y 0 v
none_read x y v h = record { few = omega arith; long = h; first = []; second = []; first_long = refl; second_long = refl; codes = λ p l. absurd (omega arith) }

-- a page behind others
page_before : (t a : List ℕ) (c p : ℕ) → length t ≡ 512 * c → p < c → part (512 * p) 512 (t ++ a) ≡ part (512 * p) 512 t
page_before t a c p e l = part_left t a (512 * p) 512 (omega arith)

page_last : (t a : List ℕ) (c : ℕ) → length t ≡ 512 * c → 512 ≡ length a → part (512 * c) 512 (t ++ a) ≡ a
page_last t a c e l =
    let at : 512 * c ≡ length t + 0 = omega arith in
    ap (λ (i : ℕ). part i 512 (t ++ a)) at ∙ part_right t a 0 512 ∙ take_all 512 a (omega arith)

module _ (x y v a b : List ℕ) (p : ℕ) (h : PagesRead x y p v) where
  pub one_read : p < 1000 → 512 ≡ length a → 512 ≡ length b → (k : ℕ) → k ≡ page_code (stored x p) (stored y p) (same a b) → PagesRead x y (p + 1) (set v p k)
  one_read l d e k f =
      record {
        few = omega arith;
        long = length-set v p k ∙ h.long;
        first = h.first ++ a;
        second = h.second ++ b;
        first_long = length-append h.first a ∙ omega (arith, h.first_long);
        second_long = length-append h.second b ∙ omega (arith, h.second_long);
        codes = λ j m. code j m (ℕ_discrete j p);
      }
    where
      code : (j : ℕ) → j < p + 1 → Dec (j ≡ p)
          → get_or (set v p k) j 0 ≡ page_code (stored x j) (stored y j) (same (part (512 * j) 512 (h.first ++ a)) (part (512 * j) 512 (h.second ++ b)))
      code j m (yes q) =
          rw q
          (get_or-set_same v p k 0 (omega (arith, h.long)) ∙ f
          ∙ ap₂ (λ (s t : List ℕ). page_code (stored x p) (stored y p) (same s t)) (sym (page_last h.first a p h.first_long d)) (sym (page_last h.second b p h.second_long e)))
      code j m (no q) =
          let low : j < p = omega arith in
          get_or-set_other v p j k 0 q ∙ h.codes j low
          ∙ ap₂ (λ (s t : List ℕ). page_code (stored x j) (stored y j) (same s t)) (sym (page_before h.first a p j h.first_long low)) (sym (page_before h.second b p j h.second_long low))

-- where they are not as they must be, none count
pub unread : (x y v : List ℕ) (c : ℕ) → PagesRead x y c v → (r : Option ℕ) → r ≡ None → PagesRead x y (unwrap_or r 0) v
unread x y v c h r e = rw e (none_read x y v h.long)

-- all pages there can be were read; they count where the files end there
pub at_end : (x y v : List ℕ) (c : ℕ) → PagesRead x y c v → 1000 ≤ c → (b : Bool) (r : Option ℕ) → r ≡ then_some b 1000 → PagesRead x y (unwrap_or r 0) v
at_end x y v c h m true r e = let few = h.few in let f : c ≡ 1000 = omega arith in rw e (rw f at h)
at_end x y v c h m false r e = unread x y v c h r e

-- ---- the text of what was read

module _ (x n y m v : List ℕ) (c : ℕ) (h : PagesRead x y c v) (i : length x ≡ 128) (j : length y ≡ 128) (k : length n ≡ 512) (l : length m ≡ 512) where
  abbrev a : Library
  a = library x n h.first

  abbrev b : Library
  b = library y m h.second

  long : (z : Library) → length z.index ≡ 128 → length z.notepad ≡ 512 → length z.templates ≡ 512 * c → length (file_of z) ≡ 128 + 512 + 512 * c
  long z p q r = length-append z.index (z.notepad ++ z.templates) ∙ omega (arith, length-append z.notepad z.templates)

  -- where there is a page, those are two libraries of equal capacity
  text_held : c ≢ 0 → text_of x n y m c v ≡ printed_of (file_of a) (file_of b)
  unfolding text_of clear_beyond printed_as core page_says
  text_held z =
      let files : TwoFiles (file_of a) (file_of b) =
      record { pages = c; first = long a i k h.first_long; second = long b j l h.second_long; least = omega arith; most = h.few }
      in
      let one : pages_in a ≡ c = omega (arith, h.first_long) in
      let two : pages_in b ≡ c = omega (arith, h.second_long) in
      let pages : lines_of 84 (page_says a b) c ≡ code_lines 84 v c = same_lines 84 (page_says a b) (λ p. get_or v p 0) c (λ p d. sym (said p d)) in
      rw (ne_eqb c 0 z, printed_by_bits (file_of a) (file_of b) files, holds a i k, holds b j l, one, two, pages) refl
    where
      said : (p : ℕ) → p < c → get_or v p 0 ≡ page_says a b p
      said p d = h.codes p d

  pub printed : (w : List ℕ) → w ≡ text_of x n y m c v → PrintedOfTwo (length w) w
  unfolding text_of
  printed w f = go (ℕ_discrete c 0)
    where
      all : take (length w) w ≡ w
      all = take_all (length w) w (omega arith)

      go : Dec (c ≡ 0) → PrintedOfTwo (length w) w
      go (yes z) = record { within = omega arith; first = []; second = []; printed = all ∙ f ∙ rw (eq-eqb c 0 z) (sym (unreadable_first [])) }
      go (no z) = record { within = omega arith; first = file_of a; second = file_of b; printed = all ∙ f ∙ text_held z }
