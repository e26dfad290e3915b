-- Effects: what filling and erasing pages does to every page's bytes, and what a data packet that goes in does to its buffer.
use mathlib.Core.Bool.{Bool, true, false, not}
use mathlib.Core.Path.{◌≡◌, refl, ap, ◌∙◌}
use mathlib.Core.Logic.{◌≢◌}
use mathlib.Core.List.{List}
use Prim.Native.Nat.{ℕ, ◌+◌, ◌-◌, ◌*◌, ◌≤◌, ◌<◌}
use native.Mathlib.Omega.{arith}
use native.Mathlib.Decide.{dec_lt}
use lib.ListN.{length, length-replicate}
use lib.Seq.{take_all}
use Rattle.protocol.specs.Numbers.{page_bytes}
use Rattle.protocol.specs.Bytes.{part, zeros, lay}
use Rattle.protocol.specs.Reader.{Buffer, Guarded, Reader, buffer_of, with_library, with_buffer, without_pages}
use Rattle.protocol.specs.Table.{fill_page, erase, apply}
use Rattle.protocol.proofs.Laws.Lists.{inside_lay, before_lay, behind_lay, part_zeros}

-- ---- a buffer by its number

pub buffer_same : (w : Bool) (b : Buffer) (g : Guarded) → buffer_of w (with_buffer w b g) ≡ b
unfolding buffer_of with_buffer
buffer_same true b g = refl
buffer_same false b g = refl

pub buffer_own : (w : Bool) (g : Guarded) → with_buffer w (buffer_of w g) g ≡ g
unfolding buffer_of with_buffer
buffer_own true g = refl
buffer_own false g = refl

-- what holds of the buffer anew and of the other one holds of both
pub each_buffer : (P : Buffer → Type 0) (w : Bool) (b : Buffer) (g : Guarded) → P b → P (buffer_of (not w) g) → (v : Bool) → P (buffer_of v (with_buffer w b g))
unfolding buffer_of with_buffer
each_buffer P true b g h k true = h
each_buffer P true b g h k false = k
each_buffer P false b g h k true = k
each_buffer P false b g h k false = h

-- ---- pages

-- the bytes of page q
abbrev pub page : Reader → ℕ → List ℕ
page r q = part (page_bytes * q) page_bytes r.guarded.templates

-- n pages laid over from p on: every other page keeps its bytes
pub away : (t b : List ℕ) (p n : ℕ) → length b ≡ page_bytes * n → page_bytes * (p + n) ≤ length t → (q : ℕ) → (p ≤ q → q < p + n → ⊥)
    → part (page_bytes * q) page_bytes (lay (page_bytes * p) b t) ≡ part (page_bytes * q) page_bytes t
away t b p n e h q o = go (dec_lt q p) (dec_lt q (p + n))
  where
    go : Dec (q < p) → Dec (q < p + n) → part (page_bytes * q) page_bytes (lay (page_bytes * p) b t) ≡ part (page_bytes * q) page_bytes t
    go (yes a) c = before_lay (page_bytes * p) b t (omega arith) (page_bytes * q) page_bytes (omega arith)
    go (no a) (no c) = behind_lay (page_bytes * p) b t (omega arith) (page_bytes * q) page_bytes (omega arith)
    go (no a) (yes c) = absurd (o (omega arith) c)

-- page p + i is the i-th page of what was laid
within_lay : (t b : List ℕ) (p n : ℕ) → length b ≡ page_bytes * n → page_bytes * (p + n) ≤ length t → (q : ℕ) → p ≤ q → q < p + n
    → part (page_bytes * q) page_bytes (lay (page_bytes * p) b t) ≡ part (page_bytes * (q - p)) page_bytes b
within_lay t b p n e h q l m =
    let at : page_bytes * q ≡ page_bytes * p + page_bytes * (q - p) = omega arith in
    ap (λ (i : ℕ). part i page_bytes (lay (page_bytes * p) b t)) at ∙ inside_lay (page_bytes * p) b t (omega arith) (page_bytes * (q - p)) page_bytes (omega arith)

-- page p has the buffer's bytes, and every other page its own
pub record Filled (r : Reader) (w : Bool) (p : ℕ) : Type 0 where
  pub bytes : page (apply (fill_page w p) r) p ≡ (buffer_of w r.guarded).bytes
  pub others : (q : ℕ) → q ≢ p → page (apply (fill_page w p) r) q ≡ page r q

pub fill_page_lem : (r : Reader) (w : Bool) (p : ℕ) → length (buffer_of w r.guarded).bytes ≡ page_bytes → page_bytes * (p + 1) ≤ length r.guarded.templates
    → Filled r w p
unfolding apply with_library with_buffer
fill_page_lem r w p e h =
    let t : List ℕ = r.guarded.templates in
    let b : List ℕ = (buffer_of w r.guarded).bytes in
    let none : page_bytes * (p - p) ≡ 0 = omega arith in
    record {
      bytes = within_lay t b p 1 (omega arith) h p (omega arith) (omega arith) ∙ ap (λ (i : ℕ). part i page_bytes b) none ∙ take_all page_bytes b (omega arith);
      others = λ q o. away t b p 1 (omega arith) h q (λ l m. o (omega arith));
    }

-- the n pages from p on are zero, and every other page has its own bytes
pub record Erased (r : Reader) (p n : ℕ) : Type 0 where
  pub bytes : (q : ℕ) → p ≤ q → q < p + n → page (apply (erase p n) r) q ≡ zeros page_bytes
  pub others : (q : ℕ) → (p ≤ q → q < p + n → ⊥) → page (apply (erase p n) r) q ≡ page r q

pub erase_pages : (r : Reader) (p n : ℕ) → page_bytes * (p + n) ≤ length r.guarded.templates → Erased r p n
unfolding apply with_library without_pages
erase_pages r p n h =
    let t : List ℕ = r.guarded.templates in
    let c : List ℕ = zeros (page_bytes * n) in
    let long : length c ≡ page_bytes * n = length-replicate (page_bytes * n) 0 in
    record {
      bytes = λ q l m. within_lay t c p n long h q l m ∙ part_zeros (page_bytes * (q - p)) page_bytes (page_bytes * n) (omega arith);
      others = λ q o. away t c p n long h q o;
    }
