-- The pages gathered so far, and how one page more changes them.
use mathlib.Core.Path.{◌≡◌, refl, sym, ap, ap₂, ◌∙◌}
use mathlib.Core.Bool.{Bool, true, false, cond}
use mathlib.Core.List.{List, [], ◌∷◌, ◌++◌, append-nil}
use Prim.Native.Nat.{ℕ, suc, ◌+◌, ◌-◌, ◌*◌, ◌/◌, ◌≤◌, ◌<◌}
use native.Mathlib.Numerals.{add-one}
use native.Mathlib.Omega.{arith}
use lib.ListN.{length, take, drop, set, get_or, length-set, length-drop, length-replicate}
use lib.Seq.{take_all, take-suc, take-add, length-take-le, take-set-le, get_or-set_same}
use lib.Dec.{ltb}
use borrow.Author.Tests.{lt-ltb, eq-eqb, ltb-true}
use denote.Ref.{Bor}
use Rattle.std.proofs.Common.{Option, Some, None, is_some, IfSome}
use Rattle.std.proofs.lemmas.List.{get_or_default}
use Rattle.std.specs.Option.{unwrap_or, option_copied}
use borrow.Rule.Slice.PartMut.{put_mid}
use Rattle.protocol.specs.Numbers.{page_bytes, no_page}
use Rattle.protocol.specs.Bytes.{part, lay, zeros}
use Rattle.protocol.specs.Tests.{count_below, listed}
use Rattle.protocol.specs.Index.{stored}
use Rattle.offline.specs.CloseGaps.{rank, new_page, gathered, closed_templates, first_bits}
use Rattle.protocol.proofs.Laws.Lists.{length_lay, head_lay, last_lay}
use Rattle.protocol.proofs.Laws.Effects.{away}
use Rattle.offline.proofs.Laws.Gaps.{rank_more}
use Rattle.library.specs.Lent.{read_page, write_page}
use Rattle.library.proofs.Parts.{part_laid}
use Rattle.upkeep.specs.Gaps.{move_page, Shelved, Gathered, Tidied, followed_in}

-- of templates t, index x and table w of end pages: those below p are gathered, in templates u and table v, and next is the first free place
pub record Gathering (t x w : List ℕ) (end : ℕ) (u v : List ℕ) (next p : ℕ) : Type 0 where
  pub number : next ≡ rank x p
  pub low : next ≤ p
  pub up : p ≤ end
  pub same : length u ≡ length t
  pub wide : length v ≡ length w
  pub front : take (page_bytes * next) u ≡ gathered t x p
  pub ahead : (q : ℕ) → p ≤ q → part (page_bytes * q) page_bytes u ≡ part (page_bytes * q) page_bytes t
  pub told : take p v ≡ listed (new_page x) p

pub begun : (t x w : List ℕ) (end : ℕ) → Gathering t x w end t w 0 0
unfolding gathered listed rank count_below
begun t x w end = record { number = refl; low = omega arith; up = omega arith; same = refl; wide = refl; front = refl; ahead = λ q l. refl; told = refl }

module _ (t x w : List ℕ) (s : Shelved t x w) (u v : List ℕ) (next p : ℕ) (h : Gathering t x w (length t / page_bytes) u v next p) (l : p < length t / page_bytes) where
  -- one entry more
  entry : (v' : List ℕ) (k : ℕ) → v' ≡ set v p k → k ≡ new_page x p → take (p + 1) v' ≡ listed (new_page x) (suc p)
  unfolding listed
  entry v' k e n =
      let long : length (set v p k) ≡ length v = length-set v p k in
      let many = s.entries in
      let wide = h.wide in
      let m : p < length (set v p k) = omega arith in
      rw (e, add-one, take-suc (set v p k) p 0 m)
      (ap₂ (λ (a : List ℕ) (b : ℕ). a ++ (b ∷ [])) (take-set-le p v p k (omega arith) ∙ h.told) (get_or-set_same v p k 0 (omega arith) ∙ n))

  wide_kept : (v' : List ℕ) (k : ℕ) → v' ≡ set v p k → length v' ≡ length w
  wide_kept v' k e = ap length e ∙ length-set v p k ∙ h.wide

  -- a vacant page
  vacant_next : (b : Bool) → b ≡ stored x p → b ≡ false → (v' : List ℕ) → v' ≡ set v p no_page → Gathering t x w (length t / page_bytes) u v' next (p + 1)
  unfolding new_page gathered
  vacant_next b d a v' f =
      let e : stored x p ≡ false = sym d ∙ a in
      let r : rank x (suc p) ≡ 0 + rank x p = rank_more x p ∙ ap (λ (b : Bool). cond b 1 0 + rank x p) e in
      let n = h.number in
      let lo = h.low in
      let told = entry v' no_page f (sym (ap (λ (b : Bool). cond b (rank x p) no_page) e)) in
      rw add-one
      record {
        number = omega arith;
        low = omega arith;
        up = omega arith;
        same = h.same;
        wide = wide_kept v' no_page f;
        front = h.front ∙ sym (ap (λ (b : Bool). gathered t x p ++ cond b (part (page_bytes * p) page_bytes t) []) e ∙ append-nil (gathered t x p));
        ahead = λ q m. h.ahead q (omega arith);
        told = rw add-one at told;
      }

  pub vacant_more : (b : Bool) → b ≡ stored x p → b ≡ false → (u' v' : List ℕ) (n : ℕ) → u' ≡ u → v' ≡ set v p no_page → n ≡ next → Gathering t x w (length t / page_bytes) u' v' n (p + 1)
  vacant_more b d a u' v' n g f k = rw (g, k) (vacant_next b d a v' f)

  -- a stored page, with the templates as they then are
  module _ (e : stored x p ≡ true) (v' : List ℕ) (f : v' ≡ set v p next) (u' : List ℕ) (same : length u' ≡ length t)
      (front : take (page_bytes * suc next) u' ≡ take (page_bytes * next) u ++ part (page_bytes * p) page_bytes u)
      (ahead : (q : ℕ) → suc p ≤ q → part (page_bytes * q) page_bytes u' ≡ part (page_bytes * q) page_bytes u) where
    stored_more : Gathering t x w (length t / page_bytes) u' v' (next + 1) (p + 1)
    unfolding new_page gathered
    stored_more =
        let r : rank x (suc p) ≡ 1 + rank x p = rank_more x p ∙ ap (λ (b : Bool). cond b 1 0 + rank x p) e in
        let n = h.number in
        let lo = h.low in
        let told = entry v' next f (n ∙ sym (ap (λ (b : Bool). cond b (rank x p) no_page) e)) in
        rw (add-one next, add-one p)
        record {
          number = omega arith;
          low = omega arith;
          up = omega arith;
          same = same;
          wide = wide_kept v' next f;
          front =
              front ∙ ap₂ (λ (a b : List ℕ). a ++ b) h.front (h.ahead p (omega arith))
              ∙ sym (ap (λ (b : Bool). gathered t x p ++ cond b (part (page_bytes * p) page_bytes t) []) e);
          ahead = λ q m. ahead q m ∙ h.ahead q (omega arith);
          told = rw (add-one p) at told;
        }

  -- no page before it is vacant: it stays where it is
  stays_next : (b : Bool) → b ≡ stored x p → b ≡ true → (v' : List ℕ) → v' ≡ set v p next → p ≤ next → Gathering t x w (length t / page_bytes) u v' (next + 1) (p + 1)
  stays_next b d a v' f m =
      let e : stored x p ≡ true = sym d ∙ a in
      let lo = h.low in
      let at : next ≡ p = omega arith in
      let long : page_bytes * suc next ≡ page_bytes * next + page_bytes = omega arith in
      let here : page_bytes * next ≡ page_bytes * p = omega arith in
      stored_more e v' f u h.same
      (ap (λ (i : ℕ). take i u) long ∙ take-add (page_bytes * next) page_bytes u ∙ ap (λ (i : ℕ). take (page_bytes * next) u ++ part i page_bytes u) here)
      (λ q n. refl)

  pub stays_more : (b : Bool) → b ≡ stored x p → b ≡ true → p ≤ next → (u'' u' v' : List ℕ) (n : ℕ) → u'' ≡ u' → u' ≡ u → v' ≡ set v p next → n ≡ next + 1
      → Gathering t x w (length t / page_bytes) u'' v' n (p + 1)
  stays_more b d a m u'' u' v' n g j f k = rw (k, g, j) (stays_next b d a v' f m)

  -- it goes down to the first free place
  moves_next : (b : Bool) → b ≡ stored x p → b ≡ true → (v' : List ℕ) → v' ≡ set v p next → next < p → (u' : List ℕ) → u' ≡ move_page p next u
      → Gathering t x w (length t / page_bytes) u' v' (next + 1) (p + 1)
  unfolding move_page
  moves_next b d a v' f m u' g =
      let e : stored x p ≡ true = sym d ∙ a in
      let same = h.same in
      let long = s.long in
      let k : u' ≡ lay (page_bytes * next) (part (page_bytes * p) page_bytes u) u = g in
      let page : List ℕ = part (page_bytes * p) page_bytes u in
      let one : length page ≡ page_bytes = length-take-le page_bytes (drop (page_bytes * p) u) (omega (arith, length-drop (page_bytes * p) u)) in
      let fit : page_bytes * next + length page ≤ length u = omega arith in
      let upto : page_bytes * suc next ≡ page_bytes * next + length page = omega arith in
      stored_more e v' f u' (ap length k ∙ length_lay (page_bytes * next) page u fit ∙ same)
      (ap₂ (λ (i : ℕ) (y : List ℕ). take i y) upto k ∙ head_lay (page_bytes * next) page u fit)
      (λ q n. ap (part (page_bytes * q) page_bytes) k ∙ away u page next 1 (omega arith) (omega arith) q (λ c d. omega arith))

  pub moves_more : (b : Bool) → b ≡ stored x p → b ≡ true → next < p → (u'' u' y v' : List ℕ) (n : ℕ) → u'' ≡ u' → u' ≡ y → y ≡ move_page p next u → v' ≡ set v p next → n ≡ next + 1
      → Gathering t x w (length t / page_bytes) u'' v' n (p + 1)
  moves_more b d a m u'' u' y v' n g j o f k = rw (k, g, j) (moves_next b d a v' f m y o)

-- all pages
pub all_gathered : (t x w : List ℕ) → Shelved t x w → (u v : List ℕ) (next p : ℕ) → Gathering t x w (length t / page_bytes) u v next p → length t / page_bytes ≤ p
    → Gathered t x next u v
all_gathered t x w s u v next p h l =
    let up = h.up in
    let e : p ≡ length t / page_bytes = omega arith in
    let many = s.entries in
    let wide = h.wide in
    let told = h.told in
    record {
      number = rw e at h.number;
      few = let low = h.low in omega arith;
      same = h.same;
      front = rw e at h.front;
      table = sym (take_all p v (omega arith)) ∙ told ∙ ap (listed (new_page x)) e;
    }

-- a page read and written
pub moved : (p q : ℕ) (t z page u : List ℕ) → length z ≡ page_bytes → p < length t / page_bytes → q < length t / page_bytes → page ≡ read_page p t z → u ≡ write_page q page t
    → u ≡ move_page p q t
unfolding read_page write_page move_page
moved p q t z page u e l m f g =
    let k : page ≡ part (page_bytes * p) page_bytes t = f ∙ rw (lt-ltb _ _ l, eq-eqb _ _ e) refl in
    let one : length page ≡ page_bytes = ap length k ∙ length-take-le page_bytes (drop (page_bytes * p) t) (omega (arith, length-drop (page_bytes * p) t)) in
    g ∙ rw (lt-ltb _ _ m, eq-eqb _ _ one, k) refl

-- the templates behind the gathered pages zeroed: the part that is lent, from 512 × n to the end, came back as z
pub zeroed_rest : (t x w : List ℕ) → Shelved t x w → (n : ℕ) (u v z : List ℕ) → Gathered t x n u v → z ≡ zeros (length (drop (page_bytes * n) u))
    → lay (page_bytes * n) z u ≡ closed_templates (length t / page_bytes) t x
unfolding closed_templates
zeroed_rest t x w s n u v z h e =
    let long = s.long in
    let same = h.same in
    let few = h.few in
    let c : ℕ = length t / page_bytes in
    let many : length (drop (page_bytes * n) u) ≡ page_bytes * (c - n) = length-drop (page_bytes * n) u ∙ omega arith in
    let zs : z ≡ zeros (page_bytes * (c - n)) = e ∙ ap zeros many in
    let l : length z ≡ page_bytes * (c - n) = ap length zs ∙ length-replicate (page_bytes * (c - n)) 0 in
    last_lay (page_bytes * n) z u (omega arith)
    ∙ ap₂ (λ (a b : List ℕ). a ++ b) h.front (zs ∙ ap (λ (k : ℕ). zeros (page_bytes * (c - k))) h.number)

pub tidied : (t x w : List ℕ) → Shelved t x w → (n : ℕ) (u v z y : List ℕ) → Gathered t x n u v → z ≡ zeros (length (take (length u - page_bytes * n) (drop (page_bytes * n) u)))
    → y ≡ first_bits (length x) n → Tidied t x (put_mid (page_bytes * n) (length u - page_bytes * n) u z) y v
tidied t x w s n u v z y h e f =
    let long = s.long in
    let same = h.same in
    let few = h.few in
    let all : take (length u - page_bytes * n) (drop (page_bytes * n) u) ≡ drop (page_bytes * n) u = take_all (length u - page_bytes * n) (drop (page_bytes * n) u) (omega (arith, length-drop (page_bytes * n) u)) in
    let zs : z ≡ zeros (length (drop (page_bytes * n) u)) = e ∙ ap (λ (l : List ℕ). zeros (length l)) all in
    let k : length z ≡ length u - page_bytes * n = ap length zs ∙ length-replicate (length (drop (page_bytes * n) u)) 0 ∙ length-drop (page_bytes * n) u in
    record {
      templates = part_laid (page_bytes * n) (length u) u z (omega arith) k ∙ zeroed_rest t x w s n u v z h zs;
      index = f ∙ ap (first_bits (length x)) h.number;
      table = h.table;
    }

-- an origin by the table
pub followed_is : (w : List ℕ) (o : ℕ) (r : Option (Bor ℕ)) → is_some r ≡ ltb o (length w) → IfSome r (λ x. x.now ≡ get_or w o x.now)
    → (m : Option ℕ) → m ≡ option_copied r → (k : ℕ) → k ≡ unwrap_or m o → k ≡ followed_in w o
unfolding followed_in
followed_is w o None e f m i k g = rw (sym e) (g ∙ ap (λ (a : Option ℕ). unwrap_or a o) i)
followed_is w o (Some x) e f m i k g = rw (sym e) (g ∙ ap (λ (a : Option ℕ). unwrap_or a o) i ∙ f ∙ get_or_default w o x.now 0 (ltb-true o (length w) (sym e)))
