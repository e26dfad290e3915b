-- Small laws of the commands: parameters, chosen buffers, pages and counts within range, and the sixteen bytes of ReadSysPara.
use mathlib.Core.Path.{◌≡◌, refl}
use mathlib.Core.Bool.{Bool, true, false, ◌&&◌, cond}
use mathlib.Core.List.{List, [], ◌∷◌}
use Prim.Native.Nat.{ℕ, ◌+◌, ◌*◌, ◌/◌, ◌%◌, ◌<◌, ◌≤◌}
use native.Mathlib.Omega.{arith}
use lib.ListN.{length, get_or, take, drop, length-drop}
use lib.Seq.{take_all}
use lib.Dec.{leb}
use borrow.Author.Tests.{lt-ltb, eq-eqb, ne_eqb, leb-true}
use Rattle.std.proofs.Common.{Some}
use Rattle.protocol.specs.Bytes.{two, part, lay, joined}
use Rattle.protocol.specs.Tests.{within}
use Rattle.protocol.specs.Index.{set_bits}
use Rattle.protocol.specs.Numbers.{no_page}
use Rattle.protocol.specs.Reader.{from_page, Buffer}
use Rattle.protocol.specs.Records.{origin_of, buffer}
use Rattle.protocol.proofs.Laws.Lists.{by_four}
use Rattle.library.specs.Lent.{counted_of, write_page, read_page}

-- ---- parameters

-- all but the first k of k + n bytes
pub take_rest : (k n : ℕ) (c : List ℕ) → length c ≡ k + n → take n (drop k c) ≡ drop k c
take_rest k n c h = take_all n (drop k c) (omega (arith, length-drop k c))

-- ---- a buffer by its number

pub chosen_filled : (w : Bool) (x y : Buffer) → (cond w x y).filled ≡ cond w x.filled y.filled
chosen_filled true x y = refl
chosen_filled false x y = refl

pub chosen_bytes : (w : Bool) (x y : Buffer) → (cond w x y).bytes ≡ cond w x.bytes y.bytes
chosen_bytes true x y = refl
chosen_bytes false x y = refl

pub chosen_origin : (w : Bool) (x y : List ℕ) (a b : Bool) (o q : ℕ) → (cond w (buffer x a o) (buffer y b q)).origin ≡ origin_of (cond w o q)
chosen_origin true x y a b o q = refl
chosen_origin false x y a b o q = refl

pub chosen_long : (w : Bool) (a b : List ℕ) (n : ℕ) → length a ≡ n → length b ≡ n → length (cond w a b) ≡ n
chosen_long true a b n p q = p
chosen_long false a b n p q = q

-- the number of a page below FFFFh is its origin
pub page_origin : (p : ℕ) → p < no_page → origin_of p ≡ from_page p
unfolding origin_of
page_origin p h = rw (ne_eqb p no_page (λ e. omega arith)) refl

-- ---- within range

pub writes : (p : ℕ) (b t : List ℕ) → p < length t / 512 → length b ≡ 512 → write_page p b t ≡ lay (512 * p) b t
unfolding write_page
writes p b t h e = rw (lt-ltb _ _ h, eq-eqb _ _ e) refl

pub reads : (p : ℕ) (t d : List ℕ) → p < length t / 512 → length d ≡ 512 → read_page p t d ≡ part (512 * p) 512 t
unfolding read_page
reads p t d h e = rw (lt-ltb _ _ h, eq-eqb _ _ e) refl

pub counts : (n : ℕ) (x : List ℕ) → length x ≡ n → counted_of n x ≡ Some (set_bits x)
unfolding counted_of
counts n x e = rw (eq-eqb _ _ e) refl

-- ---- ReadSysPara

pub parameter_list : (s k p l : ℕ) (a : List ℕ) (z f : ℕ) → length a ≡ 4
    → (s / 256 % 256) ∷ (s % 256) ∷ (k / 256 % 256) ∷ (k % 256) ∷ (p / 256 % 256) ∷ (p % 256) ∷ (l / 256 % 256) ∷ (l % 256) ∷ get_or a 0 0 ∷ get_or a 1 0 ∷ get_or a 2 0 ∷ get_or a 3 0
    ∷ (z / 256 % 256) ∷ (z % 256) ∷ (f / 256 % 256) ∷ (f % 256) ∷ []
    ≡ joined (two s ∷ two k ∷ two p ∷ two l ∷ a ∷ two z ∷ two f ∷ [])
unfolding joined two
parameter_list s k p l a z f e =
    by_four a e
    (λ (x : List ℕ).
    (s / 256 % 256) ∷ (s % 256) ∷ (k / 256 % 256) ∷ (k % 256) ∷ (p / 256 % 256) ∷ (p % 256) ∷ (l / 256 % 256) ∷ (l % 256) ∷ get_or x 0 0 ∷ get_or x 1 0 ∷ get_or x 2 0 ∷ get_or x 3 0
    ∷ (z / 256 % 256) ∷ (z % 256) ∷ (f / 256 % 256) ∷ (f % 256) ∷ []
    ≡ joined (two s ∷ two k ∷ two p ∷ two l ∷ x ∷ two z ∷ two f ∷ []))
    (λ w x y z. refl)

-- outside a range
pub outside : (low n high : ℕ) → (low ≤ n → n ≤ high → ⊥) → within low n high ≡ false
unfolding within
outside low n high f = go (leb low n) (leb n high) refl refl
  where
    go : (a b : Bool) → leb low n ≡ a → leb n high ≡ b → (a && b) ≡ false
    go true true e g = absurd (f (leb-true low n e) (leb-true n high g))
    go true false e g = refl
    go false b e g = refl
