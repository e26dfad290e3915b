-- Packets and the finder: a packet's length and limits, what a start is, and when a whole packet is found and heard.
use mathlib.Core.Bool.{Bool, true, false, true≢false, ◌&&◌, cond}
use mathlib.Core.Path.{◌≡◌, refl, sym, ap, ◌∙◌}
use mathlib.Core.List.{List, [], ◌∷◌}
use Prim.Native.Nat.{ℕ, zero, suc, ◌+◌, ◌-◌, ◌≤◌, ◌<◌}
use native.Mathlib.Nat.{not-suc-le-zero, le_of_suc-le-suc}
use native.Mathlib.Omega.{arith}
use native.Mathlib.Decide.{dec_lt}
use lib.Dec.{T, eqb, leb, leb→le, le→leb, lit<, ltb}
use borrow.Author.Tests.{le-ltb, lt-leb, ltb-false}
use lib.ListN.{length, length-append, get_or-eq_default}
use Rattle.std.specs.Prelude.{Option, None, Some}
use Rattle.protocol.specs.declared.Found.{Found}
use Rattle.protocol.specs.declared.Found.TheVariants.{Noise, Unfinished, Unfit, Whole}
use Rattle.protocol.specs.Numbers.{first_mark, second_mark, head_bytes, frame_bytes, four_bytes, shortest, longest, longest_other}
use Rattle.protocol.specs.Bytes.{two, byte_at}
use Rattle.protocol.specs.Packet.{packet, is_identifier, is_data, limit, accepts, address_at, identifier_at, length_at, content_at, end_at, right_at}
use Rattle.protocol.specs.Finder.{marks_at, later, start_of, all_but, find_from, find_of, used_of}
use Rattle.protocol.specs.Step.{hear_as, hear_at}
use Rattle.protocol.proofs.Laws.Logic.{T→true, and_l, and_r, and_i, and_false}
use Rattle.protocol.proofs.Laws.Lists.{same_refl}

-- ---- the length of a packet, and its limits. Other proofs open `accepts` only to compute it at a given identifier and length

pub length_packet : (a : List ℕ) (i : ℕ) (c : List ℕ) → length a ≡ four_bytes → length (packet a i c) ≡ length c + frame_bytes
unfolding packet two
length_packet a i c h = simp length-append (omega arith)

pub accepts_least : (i n : ℕ) → T (accepts i n) → shortest ≤ n
unfolding accepts
accepts_least i n t = leb→le shortest n (search (and_l, and_r))

pub accepts_limit : (i n : ℕ) → T (accepts i n) → n ≤ limit i
unfolding accepts
accepts_limit i n t = leb→le n (limit i) (search (and_r))

pub accepts_of : (i n : ℕ) → T (is_identifier i) → shortest ≤ n → n ≤ limit i → T (accepts i n)
unfolding accepts
accepts_of i n t l h =
    and_i (is_identifier i && leb shortest n) (leb n (limit i)) (and_i (is_identifier i) (leb shortest n) t (le→leb shortest n l)) (le→leb n (limit i) h)

-- no identifier has a longer packet
limit_most : (i : ℕ) → limit i ≤ longest
unfolding limit longest
limit_most i = go (is_data i)
  where
    go : (b : Bool) → cond b longest longest_other ≤ longest
    go true = omega arith
    go false = omega arith

pub accepts_most : (i n : ℕ) → T (accepts i n) → n ≤ longest
accepts_most i n t = omega (arith, accepts_limit i n t, limit_most i)

pub too_long : (i n : ℕ) → longest < n → accepts i n ≡ false
unfolding accepts
too_long i n h = and_false (is_identifier i && leb shortest n) (leb n (limit i)) (lt-leb n (limit i) (omega (arith, limit_most i)))

-- a length field has two bytes
pub longest_word : longest < 65536
unfolding longest
longest_word = lit< tt

-- ---- the first start

-- None: no place has the marks; Some p: p has them, and no place before it
abbrev pub FirstStart : List ℕ → Option ℕ → Type 0
FirstStart s None = (q : ℕ) → marks_at s q ≡ false
FirstStart s (Some p) = (marks_at s p ≡ true) × ((q : ℕ) → q < p → marks_at s q ≡ false)

pub start_first : (s : List ℕ) → FirstStart s (start_of s)
unfolding start_of later marks_at
start_first [] = λ q. refl
start_first (b ∷ s) = go (marks_at (b ∷ s) 0) refl (start_of s) (start_first s)
  where
    go : (t : Bool) → marks_at (b ∷ s) 0 ≡ t → (r : Option ℕ) → FirstStart s r → FirstStart (b ∷ s) (cond t (Some 0) (later r))
    go true e r h = (e, λ q l. absurd (not-suc-le-zero l))
    go false e None h = at
      where
        at : (q : ℕ) → marks_at (b ∷ s) q ≡ false
        at zero = e
        at (suc q) = h q
    go false e (Some p) h = (h.0, at)
      where
        at : (q : ℕ) → q < suc p → marks_at (b ∷ s) q ≡ false
        at zero l = e
        at (suc q) l = h.1 q (le_of_suc-le-suc l)

-- and there is no other first start
pub start_nowhere : (s : List ℕ) → ((q : ℕ) → marks_at s q ≡ false) → start_of s ≡ None
start_nowhere s h = go (start_of s) (start_first s)
  where
    go : (r : Option ℕ) → FirstStart s r → r ≡ None
    go None f = refl
    go (Some p) f = absurd (true≢false (sym f.0 ∙ h p))

pub start_at : (s : List ℕ) (p : ℕ) → marks_at s p ≡ true → ((q : ℕ) → q < p → marks_at s q ≡ false) → start_of s ≡ Some p
start_at s p m h = go (start_of s) (start_first s)
  where
    go : (r : Option ℕ) → FirstStart s r → r ≡ Some p
    go None f = absurd (true≢false (sym m ∙ f p))
    go (Some q) f = either (dec_lt q p) (dec_lt p q)
      where
        either : Dec (q < p) → Dec (p < q) → Some q ≡ Some p
        either (yes l) d = absurd (true≢false (sym f.0 ∙ h q l))
        either (no k) (yes l) = absurd (true≢false (sym m ∙ f.1 p l))
        either (no k) (no l) = let e : q ≡ p = omega arith in ap Some e

-- both marks lie in the run
pub marks_in : (s : List ℕ) (p : ℕ) → marks_at s p ≡ true → suc p < length s
unfolding marks_at
marks_in s p e = go (dec_lt (suc p) (length s))
  where
    go : Dec (suc p < length s) → suc p < length s
    go (yes h) = h
    go (no h) =
        let z : byte_at s (suc p) ≡ 0 = get_or-eq_default s 0 {n = suc p} (omega arith) in
        absurd (true≢false (sym e ∙ ap (λ (n : ℕ). eqb (byte_at s p) first_mark && eqb n second_mark) z ∙ and_false (eqb (byte_at s p) first_mark) false refl))

-- ---- what is found lies in the run

abbrev pub Within : List ℕ → Found → Type 0
Within s (Noise n) = n ≤ length s
Within s (Unfinished p) = p ≤ length s
Within s (Unfit p) = p + head_bytes ≤ length s
Within s (Whole p n) = (end_at p n ≤ length s) × T (accepts (identifier_at s p) n)

pub found_in : (s : List ℕ) → Within s (find_of s)
unfolding find_of find_from all_but
found_in s = go (start_of s) (start_first s)
  where
    none : (b : Bool) → cond b (length s - 1) (length s) ≤ length s
    none true = omega arith
    none false = omega arith

    at : (p : ℕ) → suc p < length s → (a b c : Bool) → ltb (length s) (p + head_bytes) ≡ a → accepts (identifier_at s p) (length_at s p) ≡ b → ltb (length s) (end_at p (length_at s p)) ≡ c
        → Within s (cond a (Unfinished p) (cond b (cond c (Unfinished p) (Whole p (length_at s p))) (Unfit p)))
    at p h true b c ea eb ec = omega arith
    at p h false true true ea eb ec = omega arith
    at p h false true false ea eb ec = (ltb-false (length s) (end_at p (length_at s p)) ec, rw eb tt)
    at p h false false c ea eb ec = ltb-false (length s) (p + head_bytes) ea

    go : (r : Option ℕ) → FirstStart s r → Within s (find_from s r)
    go None h = none (eqb (byte_at s (length s - 1)) first_mark)
    go (Some p) h =
        at p (marks_in s p h.0) (ltb (length s) (p + head_bytes)) (accepts (identifier_at s p) (length_at s p)) (ltb (length s) (end_at p (length_at s p))) refl refl refl

pub used_in : (s : List ℕ) → used_of (find_of s) ≤ length s
unfolding used_of
used_in s = go (find_of s) (found_in s)
  where
    go : (f : Found) → Within s f → used_of f ≤ length s
    go (Noise n) h = h
    go (Unfinished p) h = h
    go (Unfit p) h = omega arith
    go (Whole p n) h = h.0

-- ---- a whole packet at p, by the facts that the code's tests give

pub found_at : (s : List ℕ) (p n : ℕ) → length_at s p ≡ n → T (accepts (identifier_at s p) n) → end_at p n ≤ length s → find_from s (Some p) ≡ Whole p n
unfolding find_from
found_at s p n e t h =
    rw (e, le-ltb (length s) (p + head_bytes) (omega arith), T→true (accepts (identifier_at s p) n) t, le-ltb (length s) (end_at p n) h) refl

-- a whole packet for the address a says what its identifier, its sum and its content say
pub heard_at : (a s : List ℕ) (p n : ℕ) → address_at s p ≡ a → hear_at a s (Whole p n) ≡ hear_as (identifier_at s p) (right_at s p n) (content_at s p n)
unfolding hear_at
heard_at a s p n e = rw (e, same_refl a) refl
