-- Origins: what a legal one says, and what deleting pages does to a buffer.
use mathlib.Core.Bool.{Bool, true, false, true≢false, cond}
use mathlib.Core.Path.{◌≡◌, refl, sym, ◌∙◌, subst}
use mathlib.Core.List.{List}
use Prim.Native.Nat.{ℕ, ◌<◌}
use native.Mathlib.Omega.{arith}
use lib.Dec.{T, ltb→lt}
use borrow.Author.Tests.{lt-ltb}
use Rattle.protocol.specs.Tests.{among}
use Rattle.protocol.specs.Index.{stored}
use Rattle.protocol.specs.Reader.{Origin, no_origin, from_page, Buffer, Guarded, Reader, capacity, buffer_of, emptied, loaded_from, stored_on, is_one_of, without, without_pages, with_library}
use Rattle.protocol.specs.Table.{erase, erase_all, apply}
use Rattle.protocol.specs.Call.{fit_origin, fit_origins}
use Rattle.protocol.proofs.Laws.Logic.{T→true, and_l, and_r, and_i}

pub no_page_lem : {A : Type 0} (p : ℕ) → no_origin ≡ from_page p → A
no_page_lem p e = let z : ◌≡◌ {A = ℕ} 0 1 = cc in absurd (omega arith)

-- "LoadChar and a successful Store set it."
pub loaded_origin : (p : ℕ) (b : List ℕ) → (loaded_from p b).origin ≡ from_page p
unfolding loaded_from
loaded_origin p b = refl

pub stored_origin : (p : ℕ) (b : Buffer) → (stored_on p b).origin ≡ from_page p
unfolding stored_on
stored_origin p b = refl

pub same_page : (p q : ℕ) → from_page p ≡ from_page q → p ≡ q
same_page p q e = cc

-- ---- legal origins

-- of c pages and the index x: page p, the origin of the buffer b, is below c and stored, and the buffer is filled
pub record Root (c : ℕ) (x : List ℕ) (b : Buffer) (p : ℕ) : Type 0 where
  pub below : p < c
  pub there : stored x p ≡ true
  pub filled : b.filled ≡ true

abbrev pub Rooted : ℕ → List ℕ → Buffer → Type 0
Rooted c x b = (p : ℕ) → b.origin ≡ from_page p → Root c x b p

pub rooted_none : (c : ℕ) (x : List ℕ) (b : Buffer) → b.origin ≡ no_origin → Rooted c x b
rooted_none c x b e p h = no_page_lem p (sym e ∙ h)

-- a buffer that is not filled has no origin
pub unfilled_none : (c : ℕ) (x : List ℕ) (b : Buffer) → Rooted c x b → b.filled ≡ false → b.origin ≡ no_origin
unfilled_none c x b h f = go b.origin refl
  where
    go : (o : Origin) → b.origin ≡ o → o ≡ no_origin
    go no_origin e = refl
    go (from_page p) e = absurd (true≢false (sym (h p e).filled ∙ f))

one_rooted : (c : ℕ) (x : List ℕ) (b : Buffer) → T (fit_origin c x b.filled b.origin) → Rooted c x b
unfolding fit_origin
one_rooted c x b = go b.origin
  where
    go : (o : Origin) → T (fit_origin c x b.filled o) → (p : ℕ) → o ≡ from_page p → Root c x b p
    go no_origin t p e = no_page_lem p e
    go (from_page q) t p e =
        subst (Root c x b) (same_page q p e)
        record { below = ltb→lt q c (search (and_l, and_r)); there = T→true (stored x q) (search (and_l, and_r)); filled = T→true b.filled (search (and_l, and_r)) }

one_fits : (c : ℕ) (x : List ℕ) (b : Buffer) → Rooted c x b → T (fit_origin c x b.filled b.origin)
unfolding fit_origin
one_fits c x b h = go b.origin refl
  where
    go : (o : Origin) → b.origin ≡ o → T (fit_origin c x b.filled o)
    go no_origin e = tt
    go (from_page p) e = let k = h p e in rw (lt-ltb p c k.below, k.there, k.filled) tt

pub rooted : (g : Guarded) → T (fit_origins g) → (w : Bool) → Rooted (capacity g) g.index (buffer_of w g)
unfolding fit_origins buffer_of
rooted g t false = one_rooted (capacity g) g.index g.buffer1 (search (and_l))
rooted g t true = one_rooted (capacity g) g.index g.buffer2 (search (and_r))

pub fit_origins_lem : (g : Guarded) → ((w : Bool) → Rooted (capacity g) g.index (buffer_of w g)) → T (fit_origins g)
unfolding fit_origins buffer_of
fit_origins_lem g h =
    let a = one_fits (capacity g) g.index g.buffer1 (h false) in
    let b = one_fits (capacity g) g.index g.buffer2 (h true) in
    search and_i

-- ---- pages deleted

pub erase_leaves : (p n : ℕ) (w : Bool) (r : Reader) → buffer_of w (apply (erase p n) r).guarded ≡ without (among p n) (buffer_of w r.guarded)
unfolding apply with_library without_pages buffer_of
erase_leaves p n true r = refl
erase_leaves p n false r = refl

pub empty_leaves : (w : Bool) (r : Reader) → buffer_of w (apply erase_all r).guarded ≡ without (among 0 (capacity r.guarded)) (buffer_of w r.guarded)
unfolding apply with_library without_pages buffer_of
empty_leaves true r = refl
empty_leaves false r = refl

-- a buffer is emptied, or it stays and its origin is none of the pages
pub without_kinds : (P : Buffer → Type 0) (pages : ℕ → Bool) (b : Buffer) → P emptied → (is_one_of pages b.origin ≡ false → P b) → P (without pages b)
unfolding without
without_kinds P pages b z k = go (is_one_of pages b.origin) refl
  where
    go : (t : Bool) → is_one_of pages b.origin ≡ t → P (cond t emptied b)
    go true e = z
    go false e = k e

pub one_of : (pages : ℕ → Bool) (o : Origin) (p : ℕ) → o ≡ from_page p → is_one_of pages o ≡ pages p
unfolding is_one_of
one_of pages o p e = rw e refl
