-- The held bytes in their cells: what fits of a piece laid behind them, and those used dropped.
use mathlib.Core.Path.{◌≡◌, refl, sym, ap, ◌∙◌}
use mathlib.Core.List.{List, ◌++◌}
use Prim.Native.Nat.{ℕ, ◌+◌, ◌-◌, ◌≤◌, min}
use native.Mathlib.Omega.{arith}
use lib.ListN.{length, take, drop, length-take, length-drop, length-replicate}
use lib.Seq.{take_all, take-take, take-add, drop_at, length-take-le}
use borrow.Author.Tests.{le-leb}
use borrow.Rule.Slice.PartMut.{put_mid}
use Rattle.protocol.specs.Numbers.{holds}
use Rattle.protocol.specs.Bytes.{part, zeros, lay}
use Rattle.protocol.specs.Receiver.{holding}
use Rattle.protocol.proofs.Laws.Lists.{length_lay, head_lay}
use Rattle.wire.specs.Laying.{lay_front}
use Rattle.library.proofs.Parts.{part_put}

-- the bytes from a to e are what stays of the first e when a are dropped
part_drop : (a e : ℕ) (xs : List ℕ) → a ≤ e → e ≤ length xs → part a (e - a) xs ≡ drop a (take e xs)
part_drop a e xs h l =
    let k : a + (e - a) ≡ e = omega arith in
    sym
    (ap (λ (n : ℕ). drop a (take n xs)) (sym k)
    ∙ ap (drop a) (take-add a (e - a) xs)
    ∙ drop_at (take a xs) (part a (e - a) xs) a (length-take-le a xs (omega arith)))

-- bytes put over zeros are held
over_zeros : (s rest : List ℕ) (n : ℕ) → n ≡ length s → length s ≤ holds → rest ≡ lay_front s (zeros holds) → record { held = rest; spare = 0; count = n } ≡ holding s
unfolding holding lay_front
over_zeros s rest n e l f =
    let m : length s ≤ length (zeros holds) = rw (length-replicate {A = ℕ} holds 0) l in
    rw (e, f, le-leb _ _ m) refl

-- k bytes of the piece s fit behind the first n of the cells xs
module _ (n k : ℕ) (s : List ℕ) (f : k ≡ min (holds - n) (length s)) where
  pub fits_long : k ≡ length (take k s)
  fits_long = sym (length-take-le k s (omega arith))

  pub fits_many : k ≡ length (take (holds - n) s)
  fits_many = f ∙ sym (length-take (holds - n) s)

  fits_are : take k s ≡ take (holds - n) s
  fits_are = sym (take-take k (holds - n) s (omega arith)) ∙ take_all k (take (holds - n) s) (omega (arith, length-take (holds - n) s))

  module _ (xs : List ℕ) (l : length xs ≡ holds) (m : n ≤ holds) where
    pub fits_within : n + k ≤ length xs
    fits_within = omega arith

    -- they are put there: the part of the cells comes back as ys
    module _ (ys : List ℕ) (p : ys ≡ lay_front (take k s) (take (n + k - n) (drop n xs))) where
      abbrev pub cells : List ℕ
      cells = put_mid n (n + k - n) xs ys

      laid : cells ≡ lay n (take k s) xs
      laid = part_put n k xs (take k s) ys (sym fits_long) fits_within p

      pub in_cells : n + k ≤ length cells
      in_cells = omega (arith, ap length laid, length_lay n (take k s) xs (omega (arith, fits_long)))

      pub in_run : n + k ≡ length (take (n + k) cells)
      in_run = sym (length-take-le (n + k) cells in_cells)

      -- all held bytes
      pub cells_run : take (n + k) cells ≡ take n xs ++ take (holds - n) s
      cells_run =
          ap (take (n + k)) laid
          ∙ ap (λ (j : ℕ). take (n + j) (lay n (take k s) xs)) fits_long
          ∙ head_lay n (take k s) xs (omega (arith, fits_long))
          ∙ ap (λ (t : List ℕ). take n xs ++ t) fits_are

      -- those that are not used
      pub rest_held : (used : ℕ) → used ≤ n + k → (rest : List ℕ) → rest ≡ lay_front (part used (n + k - used) cells) (zeros holds)
          → record { held = rest; spare = 0; count = n + k - used } ≡ holding (drop used (take (n + k) cells))
      rest_held used u rest e =
          let left : List ℕ = part used (n + k - used) cells in
          let j : n + k - used ≡ length left = sym (length-take-le _ _ (omega (arith, length-drop used cells, in_cells))) in
          over_zeros left rest _ j (omega (arith, j)) e ∙ ap holding (part_drop used (n + k) cells u in_cells)
