-- The second library against the first: the same refusal, and the same report with 1 and 2 exchanged.
use mathlib.Core.Bool.{Bool, true, false}
use mathlib.Core.Path.{◌≡◌, refl, sym}
use mathlib.Core.Logic.{◌⊎◌, inl, inr}
use mathlib.Core.List.{List, [], ◌∷◌}
use Prim.Native.Nat.{ℕ, zero, suc, ◌+◌, ◌-◌, ◌<◌}
use native.Mathlib.Omega.{arith}
use native.Mathlib.Decide.{dec_lt}
use lib.Dec.{T}
use lib.ListN.{length, get_or}
use Rattle.protocol.specs.Tests.{verdict}
use Rattle.protocol.specs.Call.{core}
use Rattle.protocol.proofs.Laws.Logic.{and_l, and_r, and_i}
use Rattle.offline.specs.Compare.{Library, fit_compare, clear_beyond, compare_refusal, compare_as, compare_of}
use Rattle.offline.proofs.Compare.Refusals.{CompareLengths, NoneBeyond, compare_means}
use Rattle.offline.proofs.Compare.Compares.{SamePage, Compares, compares}

-- an entry, and the one for it the other way round
pub record ExchangedEntry (m n : ℕ) : Type 0 where
  pub none : m ≡ 0 → n ≡ 0
  pub first : m ≡ 1 → n ≡ 2
  pub second : m ≡ 2 → n ≡ 1
  pub both : m ≡ 3 → n ≡ 3

other_page : (a b : Library) (q : ℕ) → SamePage a b q → SamePage b a q
other_page a b q (inl k) = inl (k.1, k.0)
other_page a b q (inr k) = inr (k.1.0, (k.0, sym k.1.1))

turned_lengths : (a b : Library) (report : List ℕ) → CompareLengths a b report → CompareLengths b a report
turned_lengths a b report m = record { libraries = record { pages = m.libraries.pages; first = m.libraries.second; second = m.libraries.first }; entries = m.entries }

turned_bits : (a b : Library) → NoneBeyond a b → NoneBeyond b a
turned_bits a b k = record { first = k.second; second = k.first }

module _ (a b : Library) (report : List ℕ) where
  -- of two libraries of c pages
  module _ (m : CompareLengths a b report) (k : NoneBeyond a b) where
    abbrev c : ℕ
    c = m.libraries.pages

    one : Compares a b c (compare_of core a b report)
    one = compares a b report m k

    other : Compares b a c (compare_of core b a report)
    unfolding turned_lengths
    other = compares b a report (turned_lengths a b report m) (turned_bits a b k)

    pub exchanged : (i : ℕ) → i < c + 16 → ExchangedEntry (get_or (compare_of core a b report).report i 0) (get_or (compare_of core b a report).report i 0)
    exchanged i l = go (dec_lt i c)
      where
        page : i < c → ExchangedEntry (get_or (compare_of core a b report).report i 0) (get_or (compare_of core b a report).report i 0)
        page d =
            record {
              none = λ e. (other.says_0 i d).1 (other_page a b i ((one.says_0 i d).0 e));
              first = λ e. let h = (one.says_1 i d).0 e in (other.says_2 i d).1 (h.1, h.0);
              second = λ e. let h = (one.says_2 i d).0 e in (other.says_1 i d).1 (h.1, h.0);
              both = λ e. let h = (one.says_3 i d).0 e in (other.says_3 i d).1 (h.1.0, (h.0, λ t. h.1.1 (sym t)));
            }

        note : (n : ℕ) → n < 16 → ExchangedEntry (get_or (compare_of core a b report).report (c + n) 0) (get_or (compare_of core b a report).report (c + n) 0)
        note n d =
            record {
              none = λ e. (other.note_0 n d).1 (sym ((one.note_0 n d).0 e));
              first = λ e. absurd (none_else (one.note_says_lem n d) (λ z. omega arith) (λ z. omega arith));
              second = λ e. absurd (none_else (one.note_says_lem n d) (λ z. omega arith) (λ z. omega arith));
              both = λ e. let h = (one.note_3 n d).0 e in (other.note_3 n d).1 (λ t. h (sym t));
            }
          where
            none_else : {P Q : Type 0} → P ⊎ Q → (P → ⊥) → (Q → ⊥) → ⊥
            none_else (inl p) f g = f p
            none_else (inr q) f g = g q

        go : Dec (i < c) → ExchangedEntry (get_or (compare_of core a b report).report i 0) (get_or (compare_of core b a report).report i 0)
        go (yes d) = page d
        go (no d) = let at : i ≡ c + (i - c) = omega arith in rw at (note (i - c) (omega arith))

  pub refused_alike : (compare_of core b a report).refusal ≡ (compare_of core a b report).refusal
  unfolding compare_of compare_refusal compare_as clear_beyond
  refused_alike = rw (lengths_alike, bits_alike) (go (verdict ((fit_compare core a b (length report), 1) ∷ (clear_beyond a b, 3) ∷ [])))
    where
      same_truth : (s t : Bool) → (T s → T t) → (T t → T s) → s ≡ t
      same_truth true true f g = refl
      same_truth true false f g = absurd (f tt)
      same_truth false true f g = absurd (g tt)
      same_truth false false f g = refl

      lengths_alike : fit_compare core b a (length report) ≡ fit_compare core a b (length report)
      lengths_alike =
          same_truth (fit_compare core b a (length report)) (fit_compare core a b (length report))
          (λ t. (compare_means a b report).1 (turned_lengths b a report ((compare_means b a report).0 t)))
          (λ t. (compare_means b a report).1 (turned_lengths a b report ((compare_means a b report).0 t)))

      bits_alike : clear_beyond b a ≡ clear_beyond a b
      bits_alike =
          same_truth (clear_beyond b a) (clear_beyond a b) (λ t. search (and_l, and_r, and_i)) (λ t. search (and_l, and_r, and_i))

      go : (n : ℕ) → (compare_as core b a report n).refusal ≡ (compare_as core a b report n).refusal
      go zero = refl
      go (suc n) = refl
