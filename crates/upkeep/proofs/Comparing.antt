-- Comparing: two runs of bytes place by place, a page's code at each way out, codes put one behind the other, and the call at each way out.
use mathlib.Core.Path.{◌≡◌, refl, sym, ap, ap₂, ◌∙◌}
use mathlib.Core.Bool.{Bool, true, false, ◌&&◌}
use mathlib.Core.Logic.{◌≢◌}
use mathlib.Core.List.{List, [], ◌∷◌, ◌++◌}
use Prim.Native.Nat.{ℕ, ◌+◌, ◌-◌, ◌*◌, ◌/◌, ◌≤◌, ◌<◌}
use native.Mathlib.Omega.{arith}
use lib.Dec.{T, eqb, eqb→eq}
use lib.Bits.{bit_and, bit_or, bit_xor, xor_add_and, and_self, and_le_l, and_le_r}
use lib.ListN.{length, take, drop, get_or, set, length-set, length-append, length-take, length-drop}
use lib.Seq.{take_all}
use borrow.Rule.Slice.PartMut.{put_mid}
use borrow.Author.Tests.{eq-eqb, ne_eqb, eqb-true, eqb-false}
use Rattle.std.specs.List.{fold, zip}
use Rattle.protocol.specs.Bytes.{part, same, lay}
use Rattle.protocol.specs.Tests.{listed}
use Rattle.protocol.specs.Index.{stored}
use Rattle.protocol.proofs.Laws.Lists.{same_no, length_lay, lay_lay, lay_nothing, lay_more, lay_whole}
use Rattle.protocol.specs.Call.{core}
use Rattle.protocol.proofs.Laws.Logic.{and_l, and_r}
use Rattle.protocol.proofs.Laws.Below.{length_listed, at_listed}
use Rattle.library.proofs.Bits.{or_none}
use Rattle.library.proofs.Parts.{part_laid}
use Rattle.protocol.specs.Index.{clear_from}
use Rattle.protocol.specs.Tests.{verdict}
use Rattle.offline.specs.Compare.{library, page_code, page_says, note_says, report_of, Compared, fits_beside, fit_compare, clear_beyond, compare_refusal, compare_as, compare_of}
use Rattle.offline.specs.Records.{compared_of}
use Rattle.upkeep.specs.declared.compare.Difference.{Difference}
use Rattle.upkeep.specs.Compare.{difference_number, note_code, fits_notes, note_codes, Shelves, fits_two}
use Rattle.upkeep.specs.Lent.{fits_pages}

-- ---- two runs of bytes

-- two numbers are the same where no bit of theirs differs
xor_none : (a b : ℕ) → eqb (bit_xor a b) 0 ≡ eqb a b
xor_none a b = go (eqb a b) refl
  where
    go : (s : Bool) → eqb a b ≡ s → eqb (bit_xor a b) 0 ≡ s
    go true e =
        let f : a ≡ b = eqb-true a b e in
        let g : bit_and a b ≡ a = ap (bit_and a) (sym f) ∙ and_self a in
        eq-eqb (bit_xor a b) 0 (omega (arith, xor_add_and a b))
    go false e = ne_eqb (bit_xor a b) 0 (λ z. eqb-false a b e (omega (arith, xor_add_and a b, and_le_l a b, and_le_r a b)))

-- what is found in two runs of equally many bytes is 0 just where nothing was found before and they are the same
pub none_differ : (found : ℕ) (a b : List ℕ) → length a ≡ length b
    → eqb (fold (λ found p. bit_or found (bit_xor p.0 p.1)) found (zip a b)) 0 ≡ (eqb found 0 && same a b)
unfolding same
none_differ found [] [] l = go (eqb found 0)
  where
    go : (p : Bool) → p ≡ (p && true)
    go true = refl
    go false = refl
none_differ found [] (y ∷ b) l = absurd (omega arith)
none_differ found (x ∷ a) [] l = absurd (omega arith)
none_differ found (x ∷ a) (y ∷ b) l =
    none_differ (bit_or found (bit_xor x y)) a b (omega arith)
    ∙ ap (λ (p : Bool). p && same a b) (or_none found (bit_xor x y) ∙ ap (λ (p : Bool). eqb found 0 && p) (xor_none x y))
    ∙ sym (assoc (eqb found 0) (eqb x y) (same a b))
  where
    assoc : (p q r : Bool) → (p && (q && r)) ≡ ((p && q) && r)
    assoc true q r = refl
    assoc false q r = refl

pub not_long : (a b : List ℕ) → length a ≢ length b → eqb (length a) (length b) ≡ same a b
not_long a b n = ne_eqb (length a) (length b) n ∙ sym (same_no a b (λ e. n (ap length e)))

-- ---- the codes

-- of a page that both libraries have, d being what is found of its bytes
pub both_there : (x y : Bool) → true ≡ x → true ≡ y → (s t : List ℕ) (d e : Difference) (k : ℕ) → difference_number d ≡ note_code s t → e ≡ d → k ≡ difference_number e
    → k ≡ page_code x y (same s t)
unfolding page_code
both_there x y a b s t d e k f g h = rw (sym a, sym b) (h ∙ ap difference_number g ∙ f)

-- ---- codes put one behind the other

-- of the codes f of n pages the first p stand at the front of w, which was v
pub record Listing (f : ℕ → ℕ) (n : ℕ) (v w : List ℕ) (p : ℕ) : Type 0 where
  pub low : p ≤ n
  pub room : n ≤ length v
  pub long : length w ≡ length v
  pub codes : w ≡ lay 0 (take p (listed f n)) v

module _ (f : ℕ → ℕ) (n : ℕ) (v : List ℕ) where
  none_listed : n ≤ length v → Listing f n v v 0
  none_listed h = record { low = omega arith; room = h; long = refl; codes = sym (lay_nothing 0 v) }

  one_listed : (w : List ℕ) (p : ℕ) → Listing f n v w p → p < n → (k : ℕ) → k ≡ f p → Listing f n v (set w p k) (p + 1)
  one_listed w p h l k e =
      let all : length (listed f n) ≡ n = length_listed f n in
      let at : 0 + p ≡ p = omega arith in
      let code : k ≡ get_or (listed f n) p 0 = e ∙ sym (at_listed f n p l) in
      record {
        low = omega arith;
        room = h.room;
        long = length-set w p k ∙ h.long;
        codes =
            ap₂ (λ (d : List ℕ) (c : ℕ). set d p c) h.codes code
            ∙ ap (λ (i : ℕ). set (lay 0 (take p (listed f n)) v) i (get_or (listed f n) p 0)) (sym at)
            ∙ lay_more 0 p (listed f n) v (omega arith) (omega (arith, h.room));
      }

  all_listed : (w : List ℕ) (p : ℕ) → Listing f n v w p → n ≤ p → w ≡ lay 0 (listed f n) v
  all_listed w p h l = h.codes ∙ ap (λ (s : List ℕ). lay 0 s v) (take_all p (listed f n) (omega (arith, length_listed f n)))

-- ---- of every page

-- by indexes x and y and templates t and u, whatever the notepads are
pub record PagesListed (x t y u v : List ℕ) (end : ℕ) (w : List ℕ) (p : ℕ) : Type 0 where
  pub low : p ≤ end
  pub long : length w ≡ length v
  pub codes : (n m : List ℕ) → Listing (page_says (library x n t) (library y m u)) end v w p

module _ (x t y u v : List ℕ) (s : Shelves t u v) where
  pub none_said : PagesListed x t y u v (length t / 512) v 0
  none_said =
      record { low = omega arith; long = refl; codes = λ n m. none_listed (page_says (library x n t) (library y m u)) (length t / 512) v s.room }

  pub one_said : (w : List ℕ) (p : ℕ) → PagesListed x t y u v (length t / 512) w p → p < length t / 512 → (k : ℕ)
      → k ≡ page_code (stored x p) (stored y p) (same (take (512 * p + 512 - 512 * p) (drop (512 * p) t)) (take (512 * p + 512 - 512 * p) (drop (512 * p) u)))
      → PagesListed x t y u v (length t / 512) (set w p k) (p + 1)
  unfolding page_says
  one_said w p h l k e =
      let a : 512 * p + 512 - 512 * p ≡ 512 = omega arith in
      let f : k ≡ page_code (stored x p) (stored y p) (same (part (512 * p) 512 t) (part (512 * p) 512 u)) =
      e ∙ ap (λ (i : ℕ). page_code (stored x p) (stored y p) (same (take i (drop (512 * p) t)) (take i (drop (512 * p) u)))) a
      in
      record {
        low = omega arith;
        long = length-set w p k ∙ h.long;
        codes = λ n m. one_listed (page_says (library x n t) (library y m u)) (length t / 512) v w p (h.codes n m) l k f;
      }

  pub all_said : (w : List ℕ) (p : ℕ) → PagesListed x t y u v (length t / 512) w p → length t / 512 ≤ p
      → (n m : List ℕ) → w ≡ lay 0 (listed (page_says (library x n t) (library y m u)) (length t / 512)) v
  all_said w p h l n m = all_listed (page_says (library x n t) (library y m u)) (length t / 512) v w p (h.codes n m) l

-- ---- of every notepad page

pub notes_fit : (n m v : List ℕ) → length n ≡ 512 → length m ≡ 512 → length v ≡ 16 → note_codes n m v ≡ listed (note_says n m) 16
unfolding note_codes fits_notes core
notes_fit n m v a b c = rw (a, b, c) refl

module _ (n m v : List ℕ) where
  pub other_first : length n ≢ 512 → v ≡ note_codes n m v
  unfolding note_codes fits_notes
  other_first h = rw (ne_eqb (length n) 512 h) refl

  module _ (a : length n ≡ 512) where
    pub other_second : length m ≢ 512 → v ≡ note_codes n m v
    unfolding note_codes fits_notes
    other_second h = rw (a, ne_eqb (length m) 512 h) refl

    module _ (b : length m ≡ 512) where
      pub other_codes : length v ≢ 16 → v ≡ note_codes n m v
      unfolding note_codes fits_notes core
      other_codes h = rw (a, b, ne_eqb (length v) 16 h) refl

      module _ (c : length v ≡ 16) where
        pub none_noted : Listing (note_says n m) 16 v v 0
        none_noted = none_listed (note_says n m) 16 v (omega arith)

        pub one_noted : (w : List ℕ) (k : ℕ) → Listing (note_says n m) 16 v w k → k < length v → (i j : ℕ)
            → i ≡ note_code (take (32 * k + 32 - 32 * k) (drop (32 * k) n)) (take (32 * k + 32 - 32 * k) (drop (32 * k) m)) → j ≡ i → Listing (note_says n m) 16 v (set w k j) (k + 1)
        unfolding note_says
        one_noted w k h l i j e f =
            let z : 32 * k + 32 - 32 * k ≡ 32 = omega arith in
            one_listed (note_says n m) 16 v w k h (omega arith) j (f ∙ e ∙ ap (λ (z : ℕ). note_code (take z (drop (32 * k) n)) (take z (drop (32 * k) m))) z)

        pub all_noted : (w : List ℕ) (k : ℕ) → Listing (note_says n m) 16 v w k → length v ≤ k → w ≡ note_codes n m v
        all_noted w k h l =
            all_listed (note_says n m) 16 v w k h (omega arith) ∙ lay_whole (listed (note_says n m) 16) v (length_listed (note_says n m) 16 ∙ sym c) ∙ sym (notes_fit n m v a b c)

-- ---- the lengths of two libraries and of a report

-- what fit lengths say
pub record Fit (n t m u v : ℕ) : Type 0 where
  pub long : t ≡ 512 * (t / 512)
  pub alike : u ≡ t
  pub first : n ≡ 512
  pub second : m ≡ 512
  pub entries : v ≡ t / 512 + 16

module _ (i n t j m u v : ℕ) (fit : Bool) (e : fit ≡ fits_two i n t j m u v) (f : fit ≡ true) where
  pub fit_lengths_lem : Fit n t m u v
  unfolding fits_two fits_pages core
  fit_lengths_lem =
      let a : T (fits_two i n t j m u v) = rw (sym e ∙ f) tt in
      let long : t ≡ 512 * (t / 512) = eqb→eq t (512 * (t / 512)) (search (and_l, and_r) depth 12) in
      let other : u ≡ 512 * (u / 512) = eqb→eq u (512 * (u / 512)) (search (and_l, and_r) depth 12) in
      let pages : t / 512 ≡ u / 512 = eqb→eq (t / 512) (u / 512) (search (and_l, and_r) depth 12) in
      record {
        long = long;
        alike = omega arith;
        first = eqb→eq n 512 (search (and_l, and_r) depth 12);
        second = eqb→eq m 512 (search (and_l, and_r) depth 12);
        entries = eqb→eq v (t / 512 + 16) (search (and_l, and_r) depth 12);
      }

pub shelved : (i n j m : ℕ) (t u v : List ℕ) (fit : Bool) → fit ≡ fits_two i n (length t) j m (length u) (length v) → fit ≡ true → Shelves t u v
shelved i n j m t u v fit e f =
    let h = fit_lengths_lem i n (length t) j m (length u) (length v) fit e f in
    record { long = h.long; alike = h.alike; room = omega (arith, h.entries) }

-- ---- the call

module _ (x n t y m u v : List ℕ) (fit : Bool) (e : fit ≡ fits_two (length x) (length n) (length t) (length y) (length m) (length u) (length v)) where
  abbrev is : Compared
  is = compare_of core (library x n t) (library y m u) v

  pub unfit : fit ≡ false → compared_of 1 v ≡ is
  unfolding compare_of compare_refusal compare_as fit_compare fits_beside fits_two fits_pages core verdict
  unfit f = rw (sym e ∙ f) refl

  module _ (f : fit ≡ true) where
    abbrev lengths : Fit (length n) (length t) (length m) (length u) (length v)
    lengths = fit_lengths_lem (length x) (length n) (length t) (length y) (length m) (length u) (length v) fit e f

    module _ (p : Bool) (g : p ≡ clear_from x (length t / 512)) where
      pub first_beyond : p ≡ false → compared_of 3 v ≡ is
      unfolding compare_of compare_refusal compare_as fit_compare fits_beside fits_two fits_pages clear_beyond core verdict
      first_beyond h = rw (sym e ∙ f, sym g ∙ h) refl

      module _ (h : p ≡ true) (q : Bool) (k : q ≡ clear_from y (length t / 512)) where
        pub second_beyond : q ≡ false → compared_of 3 v ≡ is
        unfolding compare_of compare_refusal compare_as fit_compare fits_beside fits_two fits_pages clear_beyond core verdict
        second_beyond l =
            let z : clear_from y (length u / 512) ≡ false = ap (clear_from y) (ap (λ (i : ℕ). i / 512) lengths.alike) ∙ sym k ∙ l in
            rw (sym e ∙ f, sym g ∙ h, z) refl

        pub reported : q ≡ true → (w z : List ℕ) → ((a b : List ℕ) → w ≡ lay 0 (listed (page_says (library x a t) (library y b u)) (length t / 512)) v)
            → z ≡ note_codes n m (take (length w - length t / 512) (drop (length t / 512) w)) → compared_of 0 (put_mid (length t / 512) (length w - length t / 512) w z) ≡ is
        unfolding compare_of compare_refusal compare_as fit_compare fits_beside fits_two fits_pages clear_beyond core verdict report_of
        reported l w z i j =
            let c : clear_from y (length u / 512) ≡ true = ap (clear_from y) (ap (λ (i : ℕ). i / 512) lengths.alike) ∙ sym k ∙ l in
            rw (sym e ∙ f, sym g ∙ h, c) (ap (compared_of 0) (joined w z (i n m) j))
          where
            s : List ℕ
            s = listed (page_says (library x n t) (library y m u)) (length t / 512)

            -- the codes of the pages, and behind them those of the notepad
            joined : (w z : List ℕ) → w ≡ lay 0 s v → z ≡ note_codes n m (take (length w - length t / 512) (drop (length t / 512) w))
                → put_mid (length t / 512) (length w - length t / 512) w z ≡ s ++ listed (note_says n m) 16
            joined w z i j =
                let pages : length s ≡ length t / 512 = length_listed (page_says (library x n t) (library y m u)) (length t / 512) in
                let entries : length v ≡ length t / 512 + 16 = lengths.entries in
                let long : length w ≡ length t / 512 + 16 = ap length i ∙ length_lay 0 s v (omega arith) ∙ entries in
                let rest : length (take (length w - length t / 512) (drop (length t / 512) w)) ≡ 16 = simp (length-take, length-drop) (omega arith) in
                let codes : z ≡ listed (note_says n m) 16 = j ∙ notes_fit n m (take (length w - length t / 512) (drop (length t / 512) w)) lengths.first lengths.second rest in
                let notes : length z ≡ 16 = ap length codes ∙ length_listed (note_says n m) 16 in
                part_laid (length t / 512) (length w) w z (omega arith) (omega arith)
                ∙ ap₂ (λ (a b : List ℕ). lay (length t / 512) b a) i codes
                ∙ lay_lay 0 (length t / 512) s (listed (note_says n m) 16) v (omega arith) (omega (arith, length_listed (note_says n m) 16))
                ∙ lay_whole (s ++ listed (note_says n m) 16) v (length-append s (listed (note_says n m) 16) ∙ omega (arith, length_listed (note_says n m) 16))
