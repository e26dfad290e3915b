-- The settings' two numbers as a transfer, and whether it is legal.
use mathlib.Core.Path.{◌≡◌, refl}
use mathlib.Core.Bool.{Bool, true, false, ◌&&◌, not, cond}
use mathlib.Core.List.{List, []}
use Prim.Native.Nat.{ℕ, zero, suc, ◌/◌, ◌%◌, ◌≤◌, ◌<◌}
use native.Mathlib.Omega.{arith}
use lib.Dec.{T, eqb, ltb, leb→le}
use lib.ListN.{length}
use Rattle.protocol.specs.declared.Settings.{Settings}
use Rattle.protocol.specs.Numbers.{page_bytes, highest_size}
use Rattle.protocol.specs.Reader.{Marks, Transfer, closed, opened, unfit, Plain, Guarded, capacity, size_of, locked, buffer_of}
use Rattle.protocol.specs.Table.{is_buffer}
use Rattle.protocol.specs.Call.{fit_plain, fit_transfer, fit_origins, sound}
use Rattle.protocol.specs.Records.{fit_marks, marks_of, plain_of, transfer_of, reader_of}
use Rattle.protocol.proofs.Laws.Logic.{T→true, and_l, and_r}
use Rattle.protocol.proofs.Laws.Marks.{transfer_kinds}
use Rattle.rules.specs.Settings.{legal_of, origins_fit, sound_of, Legal}

-- ---- none, and numbers that name no buffer

pub fit_none : (p : Plain) (g : Guarded) (m : Marks) → fit_marks m ≡ true → (w k : ℕ) → w ≡ 0 → fit_transfer p g (transfer_of m w k) ≡ eqb k 0
unfolding fit_transfer transfer_of is_buffer
fit_none p g m e w k z = rw (z, e) (go (eqb k 0))
  where
    go : (y : Bool) → fit_transfer p g (cond y closed (unfit 0 k m)) ≡ y
    go true = refl
    go false = refl

pub fit_far : (p : Plain) (g : Guarded) (m : Marks) (w k : ℕ) → 2 < w → fit_transfer p g (transfer_of m w k) ≡ false
unfolding fit_transfer
fit_far p g m w k h = transfer_kinds m w k (λ t. fit_transfer p g t ≡ false) (λ f x y. absurd (omega arith)) (λ f x. absurd (omega arith)) (λ f x. absurd (omega arith)) refl

-- ---- into a buffer

pub transfer_at : (m : Marks) → fit_marks m ≡ true → (w k : ℕ) → (w ≡ 0 → ⊥) → w ≤ 2 → transfer_of m w k ≡ opened (eqb w 2) k
unfolding transfer_of is_buffer
transfer_at m e zero k n h = absurd (n refl)
transfer_at m e (suc zero) k n h = rw e refl
transfer_at m e (suc (suc zero)) k n h = rw e refl
transfer_at m e (suc (suc (suc w))) k n h = absurd (omega arith)

filled_at : (w : Bool) (g : Guarded) → (buffer_of w g).filled ≡ cond w g.buffer2.filled g.buffer1.filled
unfolding buffer_of
filled_at true g = refl
filled_at false g = refl

pub fit_at : (p : Plain) (g : Guarded) (m : Marks) → fit_marks m ≡ true → (w k : ℕ) → (w ≡ 0 → ⊥) → w ≤ 2
    → fit_transfer p g (transfer_of m w k) ≡ (eqb (k % size_of p.size) 0 && ltb k page_bytes && not (cond (eqb w 2) g.buffer2.filled g.buffer1.filled) && not (locked p))
unfolding fit_transfer
fit_at p g m e w k n h = rw (transfer_at m e w k n h, filled_at)

-- ---- legal settings

-- the lent memory does not matter
fit_any : (s : Settings) (t i n b c : List ℕ) (x : Transfer) → fit_transfer (plain_of s) (reader_of s t i n b c).guarded x ≡ fit_transfer (plain_of s) (reader_of s [] [] [] [] []).guarded x
unfolding fit_transfer
fit_any s t i n b c closed = refl
fit_any s t i n b c (opened w k) = simp filled_at
fit_any s t i n b c (unfit w k m) = refl

-- refusal 3 is the settings', the index's and the origins'
pub sound_legal : (s : Settings) (t i n b c : List ℕ) → sound (reader_of s t i n b c) ≡ sound_of (length t / page_bytes) i s
unfolding sound sound_of capacity legal_of fit_origins origins_fit
sound_legal s t i n b c = rw (fit_any s t i n b c (transfer_of (marks_of s) s.transfer s.got))

pub plain_size : (p : Plain) → fit_plain p ≡ true → p.size ≤ highest_size
unfolding fit_plain
plain_size p e = let h : T (fit_plain p) = rw e tt in leb→le p.size highest_size (search (and_l, and_r) depth 9)

-- where one of the marks is not fit, no transfer is
pub fit_unmarked : (p : Plain) (g : Guarded) (m : Marks) (w k : ℕ) → fit_marks m ≡ false → fit_transfer p g (transfer_of m w k) ≡ false
unfolding fit_transfer transfer_of
fit_unmarked p g m w k e = rw e refl

pub legal_says : (s : Settings) → legal_of s ≡ true → Legal s
unfolding legal_of fit_transfer
legal_says s e =
    let h : T (legal_of s) = rw e tt in
    go (plain_size (plain_of s) (T→true (fit_plain (plain_of s)) (search and_l))) (search (and_l, and_r))
  where
    go : s.size ≤ highest_size → T (fit_transfer (plain_of s) (reader_of s [] [] [] [] []).guarded (transfer_of (marks_of s) s.transfer s.got)) → Legal s
    go z =
        transfer_kinds (marks_of s) s.transfer s.got (λ t. T (fit_transfer (plain_of s) (reader_of s [] [] [] [] []).guarded t) → Legal s)
        (λ f x y o. record { size = z; which = omega (arith, x); none = λ d. y; marks = f })
        (λ f x o. record { size = z; which = omega (arith, x); none = λ d. absurd (omega (arith, x, d)); marks = f })
        (λ f x o. record { size = z; which = omega (arith, x); none = λ d. absurd (omega (arith, x, d)); marks = f })
        (λ o. absurd o)
