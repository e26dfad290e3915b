-- Marks as bytes: 0 and 1 are fit, and are what the bit says; and what the transfer beside them is.
use mathlib.Core.Bool.{Bool, true, false, ◌&&◌}
use mathlib.Core.Path.{◌≡◌, refl}
use Prim.Native.Nat.{ℕ, zero, suc, ◌≤◌}
use native.Mathlib.Omega.{arith}
use lib.Dec.{T, eqb}
use borrow.Author.Tests.{ltb-true, eqb-true}
use Rattle.protocol.specs.Reader.{Marks, Transfer, closed, opened, unfit}
use Rattle.protocol.specs.Table.{is_buffer, second}
use Rattle.protocol.specs.Records.{fit_mark, fit_marks, is_set, mark_of, transfer_of}
use Rattle.protocol.proofs.Laws.Logic.{T→true, and_l, and_r}

pub mark_is : (m : ℕ) → fit_mark m ≡ true → mark_of (is_set m) ≡ m
unfolding fit_mark
mark_is zero e = refl
mark_is (suc zero) e = refl
mark_is (suc (suc m)) e = let l = ltb-true (suc (suc m)) 2 e in absurd (omega arith)

pub set_mark : (b : Bool) → is_set (mark_of b) ≡ b
set_mark true = refl
set_mark false = refl

pub fit_mark_lem : (b : Bool) → fit_mark (mark_of b) ≡ true
unfolding fit_mark
fit_mark_lem true = refl
fit_mark_lem false = refl

-- all four, and each
pub fit_marks_lem : (v f h o : ℕ) → fit_mark v ≡ true → fit_mark f ≡ true → fit_mark h ≡ true → fit_mark o ≡ true
    → fit_marks record { verified = v; filled1 = f; filled2 = h; found = o } ≡ true
unfolding fit_marks
fit_marks_lem v f h o a b c d = rw (a, b, c, d) refl

module _ (m : Marks) (e : fit_marks m ≡ true) where
  all : T (fit_mark m.verified && fit_mark m.filled1 && fit_mark m.filled2 && fit_mark m.found)
  unfolding fit_marks
  all = rw e tt

  pub fit_verified : fit_mark m.verified ≡ true
  fit_verified = let a = all in T→true (fit_mark m.verified) (search (and_l, and_r) depth 8)

  pub fit_filled1 : fit_mark m.filled1 ≡ true
  fit_filled1 = let a = all in T→true (fit_mark m.filled1) (search (and_l, and_r) depth 8)

  pub fit_filled2 : fit_mark m.filled2 ≡ true
  fit_filled2 = let a = all in T→true (fit_mark m.filled2) (search (and_l, and_r) depth 8)

  pub fit_found : fit_mark m.found ≡ true
  fit_found = let a = all in T→true (fit_mark m.found) (search (and_l, and_r) depth 8)

-- ---- the transfer beside them

-- it is none, into buffer 1, into buffer 2, or unfit
pub transfer_kinds : (m : Marks) (b k : ℕ) (P : Transfer → Type 0) → (fit_marks m ≡ true → b ≡ 0 → k ≡ 0 → P closed) → (fit_marks m ≡ true → b ≡ 1 → P (opened false k))
    → (fit_marks m ≡ true → b ≡ 2 → P (opened true k)) → P (unfit b k m) → P (transfer_of m b k)
unfolding transfer_of is_buffer
transfer_kinds m b k P none one two u = go (fit_marks m) (eqb b 1) (eqb b 2) (eqb b 0) (eqb k 0) refl refl refl refl refl
  where
    go : (f p q x y : Bool) → fit_marks m ≡ f → eqb b 1 ≡ p → eqb b 2 ≡ q → eqb b 0 ≡ x → eqb k 0 ≡ y → P (transfer_of m b k)
    go false p q x y c d e g h = rw c u
    go true true true x y c d e g h = rw (c, d, e) (two c (eqb-true b 2 e))
    go true false true x y c d e g h = rw (c, d, e) (two c (eqb-true b 2 e))
    go true true false x y c d e g h = rw (c, d, e) (one c (eqb-true b 1 d))
    go true false false true true c d e g h = rw (c, d, e, g, h) (none c (eqb-true b 0 g) (eqb-true k 0 h))
    go true false false true false c d e g h = rw (c, d, e, g, h) u
    go true false false false y c d e g h = rw (c, d, e, g) u

module _ (m : Marks) (e : fit_marks m ≡ true) where
  pub none_beside : (b k : ℕ) → b ≡ 0 → k ≡ 0 → transfer_of m b k ≡ closed
  unfolding transfer_of is_buffer
  none_beside b k f g = rw (f, g, e) refl

  pub into_beside : (b k : ℕ) → is_buffer b ≡ true → transfer_of m b k ≡ opened (second b) k
  unfolding transfer_of
  into_beside b k n = rw (e, n) refl

  -- the same beside other fit marks
  pub same_beside : (n : Marks) → fit_marks n ≡ true → (b k : ℕ) → b ≤ 2 → (b ≡ 0 → k ≡ 0) → transfer_of n b k ≡ transfer_of m b k
  unfolding transfer_of is_buffer
  same_beside n f zero k l z = rw (z refl, e, f) refl
  same_beside n f (suc zero) k l z = rw (e, f) refl
  same_beside n f (suc (suc zero)) k l z = rw (e, f) refl
  same_beside n f (suc (suc (suc b))) k l z = absurd (omega arith)
