-- The call that closes the gaps, at each way out.
use mathlib.Core.Path.{◌≡◌, refl, sym, ap, ◌∙◌}
use mathlib.Core.Bool.{Bool, true, false, ◌&&◌, cond}
use mathlib.Core.List.{List}
use Prim.Native.Nat.{ℕ, ◌*◌, ◌/◌, ◌≤◌, ◌<◌}
use native.Mathlib.Omega.{arith}
use native.Mathlib.Decide.{ℕ_discrete}
use lib.Dec.{T, leb, eqb→eq, leb→le, ltb→lt}
use lib.ListN.{length, get_or}
use borrow.Author.Tests.{lt-ltb, le-ltb, le-leb, ne_eqb}
use Rattle.protocol.specs.declared.Settings.{Settings}
use Rattle.protocol.specs.Numbers.{page_bytes, most_pages, index_bytes, no_page}
use Rattle.protocol.specs.Tests.{within, verdict, listed}
use Rattle.protocol.specs.Index.{stored}
use Rattle.protocol.specs.Reader.{from_page, capacity}
use Rattle.protocol.specs.Call.{core, fit_origin, sound}
use Rattle.offline.specs.CloseGaps.{rank, new_page, followed, closed_up, table_of, fit_closing, close_refusal, close_as, close_of}
use Rattle.protocol.specs.Records.{is_set, origin_of, reader_of}
use Rattle.offline.specs.Records.{closed_of, moved_at}
use Rattle.protocol.proofs.Laws.Below.{at_listed, length_listed}
use Rattle.protocol.proofs.Laws.Logic.{T→true, and_l, and_r}
use Rattle.offline.proofs.Laws.Gaps.{rank_le}
use Rattle.rules.specs.Settings.{origins_fit, sound_of, with_origins}
use Rattle.rules.proofs.Transfers.{sound_legal}
use Rattle.upkeep.specs.Gaps.{Shelved, Tidied, followed_in}
use Rattle.upkeep.specs.Lent.{fits_pages, fits_lent}

-- ---- what fit lengths say

pub shelved : (t x w : List ℕ) → fits_lent (length t) (length x) (length w) (length t / page_bytes) ≡ true → Shelved t x w
unfolding fits_pages within core
shelved t x w e =
    let y : T (fits_lent (length t) (length x) (length w) (length t / page_bytes)) = rw e tt in
    let few : length t / page_bytes ≤ most_pages = leb→le (length t / page_bytes) most_pages (search (and_l, and_r) depth 8) in
    record {
      long = eqb→eq (length t) (page_bytes * (length t / page_bytes)) (search (and_l, and_r) depth 8);
      few = few;
      bits = omega (arith, few, eqb→eq (length x) index_bytes (search (and_l, and_r) depth 8));
      entries = eqb→eq (length w) (length t / page_bytes) (search (and_l, and_r) depth 8);
    }

-- ---- an origin follows its template

-- of a legal origin: below C, stored, so that the table has its new number
origin_follows : (x : List ℕ) (c : ℕ) → c ≤ most_pages → (mark : Bool) (o : ℕ) → T (fit_origin c x mark (origin_of o))
    → origin_of (followed_in (listed (new_page x) c) o) ≡ followed x (origin_of o)
unfolding origin_of followed_in followed fit_origin new_page
origin_follows x c few mark o t = go (ℕ_discrete o no_page) t
  where
    long : length (listed (new_page x) c) ≡ c
    long = length_listed (new_page x) c

    go : Dec (o ≡ no_page) → T (fit_origin c x mark (origin_of o)) → origin_of (followed_in (listed (new_page x) c) o) ≡ followed x (origin_of o)
    go (yes e) t = rw (e, le-ltb no_page (length (listed (new_page x) c)) (omega (arith, long))) refl
    go (no n) t =
        let u : T (fit_origin c x mark (from_page o)) = rw (ne_eqb o no_page n) at t in
        let below : o < c = ltb→lt o c (search (and_l, and_r)) in
        let there : stored x o ≡ true = T→true (stored x o) (search (and_l, and_r)) in
        let new : get_or (listed (new_page x) c) o 0 ≡ rank x o = at_listed (new_page x) c o below ∙ ap (λ (b : Bool). cond b (rank x o) no_page) there in
        let small : rank x o ≡ no_page → ⊥ = λ e. omega (arith, rank_le x o) in
        rw (ne_eqb o no_page n, lt-ltb o (length (listed (new_page x) c)) (omega (arith, long)), new, ne_eqb (rank x o) no_page small) refl

-- ---- the ways out

module _ (s : Settings) (t x w : List ℕ) (fit : Bool) (l : fit ≡ fits_lent (length t) (length x) (length w) (length t / page_bytes)) where
  abbrev Says : Settings → ℕ → List ℕ → List ℕ → List ℕ → Type 0
  Says q k u y v = (n b d : List ℕ) → closed_of (moved_at q k) u y v n b d ≡ close_of core (reader_of s t x n b d) w

  fits : (z : Bool) → fit ≡ z → (n b d : List ℕ) → fit_closing core (reader_of s t x n b d).guarded w ≡ z
  unfolding fit_closing fits_pages capacity
  fits z e n b d = sym l ∙ e

  pub bad_length_lem : fit ≡ false → Says s 1 t x w
  unfolding close_of close_refusal close_as verdict
  bad_length_lem f n b d = rw (fits false f n b d) refl

  module _ (f : fit ≡ true) (legal : Bool) (k : legal ≡ (leb (length t / page_bytes) most_pages && sound_of (length t / page_bytes) x s)) where
    pub lies : Shelved t x w
    lies = shelved t x w (sym l ∙ f)

    legal_is : (n b d : List ℕ) → legal ≡ sound (reader_of s t x n b d)
    legal_is n b d = let few = lies.few in k ∙ rw (le-leb _ _ few) (sym (sound_legal s t x n b d))

    pub bad_setting_lem : legal ≡ false → Says s 3 t x w
    unfolding close_of close_refusal close_as verdict
    bad_setting_lem g n b d = rw (fits true f n b d, sym (legal_is n b d) ∙ g) refl

    module _ (g : legal ≡ true) (u y v : List ℕ) (h : Tidied t x u y v) where
      origins : T (origins_fit (length t / page_bytes) x s)
      unfolding sound_of
      origins =
          let few = lies.few in
          let z : sound_of (length t / page_bytes) x s ≡ true = sym (k ∙ rw (le-leb _ _ few) refl) ∙ g in
          let q : T (sound_of (length t / page_bytes) x s) = rw z tt in
          search (and_l, and_r)

      pub done : (one two : ℕ) → one ≡ followed_in v s.origin1 → two ≡ followed_in v s.origin2 → Says (with_origins one two s) 0 u y v
      unfolding close_of close_refusal close_as verdict closed_up table_of capacity origins_fit
      done one two i j n b d =
          let few = lies.few in
          let c : ℕ = length t / page_bytes in
          let o = origins in
          let o1 = origin_follows x c few (is_set s.filled1) s.origin1 (search (and_l, and_r)) in
          let o2 = origin_follows x c few (is_set s.filled2) s.origin2 (search (and_l, and_r)) in
          rw (i, j, fits true f n b d, sym (legal_is n b d) ∙ g, h.templates, h.index, h.table, o1, o2) refl
