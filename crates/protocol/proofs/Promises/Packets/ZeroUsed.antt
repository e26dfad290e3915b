-- Document 01: "So, refusals apart, 0 bytes used means that the run is empty, a lone EF, or an unfinished packet of at most 264 bytes."
-- Request [3]: "the longest unfinished packet grows to 266".
use mathlib.Core.Path.{◌≡◌, refl, ap}
use mathlib.Core.Logic.{◌⊎◌, inl, inr, ◌≢◌}
use mathlib.Core.List.{List, [], ◌∷◌}
use Prim.Native.Nat.{ℕ, zero, suc, ◌+◌, ◌-◌, ◌≤◌, ◌<◌}
use native.Mathlib.Omega.{arith}
use native.Mathlib.Decide.{dec_lt}
use lib.ListN.{length, get_or}
use Rattle.protocol.specs.declared.Found.{Found}
use Rattle.protocol.specs.Finder.{find_of, used_of}
use Rattle.protocol.specs.Reader.{Reader}
use Rattle.protocol.specs.Step.{step_of}
use Rattle.protocol.specs.Call.{Shape, Lent, refusal_of, call_as, call_of, refused, carried}
use Rattle.protocol.proofs.Promises.Packets.Packets.{Accepted}
use Rattle.protocol.proofs.Promises.Packets.Finding.{Marks, First, length_field, Finds, noise, noise_but_one, headless, unfit, unfinished, whole, finds, found}

-- a packet that starts at place 0 and is not all there: its head is short, or its content and sum are
pub record UnfinishedPacket (s : List ℕ) : Type 0 where
  pub starts : Marks s 0
  pub short : (length s < 9) ⊎ (Accepted (get_or s 6 0) (length_field s 0) × (length s < 9 + length_field s 0))
  pub few : length s ≤ 266

-- the three runs of which nothing is used
abbrev pub Waiting : List ℕ → Type 0
Waiting s = (s ≡ []) ⊎ (s ≡ 0xef ∷ []) ⊎ UnfinishedPacket s

pub empty_run : (s : List ℕ) → length s ≡ 0 → s ≡ []
empty_run [] e = refl
empty_run (b ∷ s) e = absurd (omega arith)

lone : (s : List ℕ) → length s - 1 ≡ 0 → get_or s (length s - 1) 0 ≡ 0xef → s ≡ 0xef ∷ []
lone [] e d = absurd (omega arith)
lone (b ∷ []) e d = ap (λ (n : ℕ). n ∷ []) d
lone (b ∷ c ∷ s) e d = absurd (omega arith)

waits : {s : List ℕ} {f : Found} {n : ℕ} → Finds s f n → n ≡ 0 → Waiting s
waits {s} (noise h d) e = inl (empty_run s e)
waits {s} (noise_but_one h d) e = inr (inl (lone s e d))
waits (headless f l) e = inr (inr record { starts = rw e at f.here; short = inl (omega arith); few = omega arith })
waits (unfit f l k) e = absurd (omega arith)
waits (unfinished f l a m) e =
    inr (inr record { starts = rw e at f.here; short = inr (rw e at a, rw e at m); few = omega (arith, a.most) })
waits (whole w) e = absurd (omega arith)

pub found_waits : (s : List ℕ) → used_of (find_of s) ≡ 0 → Waiting s
found_waits s z = waits (finds s) z

-- 0 bytes used: refused, or one of the three runs
pub zero_used : (σ : Shape) (r : Reader) (s : List ℕ) (lent : Lent) → (call_of σ r s lent).told.used ≡ 0 → ((call_of σ r s lent).told.refusal ≢ 0) ⊎ Waiting s
unfolding call_of call_as refused carried step_of
zero_used σ r s lent = go (refusal_of σ r lent)
  where
    go : (k : ℕ) → (call_as r s lent k).told.used ≡ 0 → ((call_as r s lent k).told.refusal ≢ 0) ⊎ Waiting s
    go zero z = inr (found_waits s z)
    go (suc k) z = inl (λ e. absurd (omega arith))

-- ---- and of those three runs a call that is not refused uses nothing

marked_long : (s : List ℕ) (q : ℕ) → length s ≤ 1 → Marks s q → ⊥
marked_long s q l m = omega (arith, m.inside)

unused : (s : List ℕ) → Waiting s → used_of (find_of s) ≡ 0
unused s (inl e) = rw e (found (noise (λ q. marked_long [] q (omega arith)) (λ d. omega arith))).1
unused s (inr (inl e)) = rw e (found (noise_but_one (λ q. marked_long (0xef ∷ []) q (omega arith)) refl)).1
unused s (inr (inr w)) = go w.short
  where
    first : First s 0
    first = record { here = w.starts; before = λ q l m. omega arith }

    go : (length s < 9) ⊎ (Accepted (get_or s 6 0) (length_field s 0) × (length s < 9 + length_field s 0)) → used_of (find_of s) ≡ 0
    go (inl l) = (found (headless first (omega arith))).1
    go (inr l) = at (dec_lt (length s) 9)
      where
        at : Dec (length s < 9) → used_of (find_of s) ≡ 0
        at (yes h) = (found (headless first (omega arith))).1
        at (no h) = (found (unfinished first (omega arith) l.0 (omega (arith, l.1)))).1

pub waiting_unused : (σ : Shape) (r : Reader) (s : List ℕ) (lent : Lent) → Waiting s → (call_of σ r s lent).told.used ≡ 0
unfolding call_of call_as refused carried step_of
waiting_unused σ r s lent w = go (refusal_of σ r lent)
  where
    go : (k : ℕ) → (call_as r s lent k).told.used ≡ 0
    go zero = unused s w
    go (suc k) = refl
