-- A caller's calls up to and including the first accepted password are gone through whole, whatever it is that answers them: `run` tells what was gone through,
-- `ends` and `more` make such a tale, and `mark` is the verified mark that a call left.
use mathlib.Core.Bool.{Bool, true, false, cond}
use mathlib.Core.Path.{◌≡◌, refl, sym, ap, ◌∙◌}
use mathlib.Core.List.{List, [], ◌∷◌}
use Prim.Native.Nat.{ℕ, suc}
use native.Mathlib.Omega.{arith}
use lib.ListN.{length}
use borrow.Author.Tests.{ne_eqb}
use Rattle.protocol.specs.Call.{Told}
use Rattle.protocol.specs.Dialogue.{Event, received, switch, Paired}
use Rattle.protocol.specs.Records.{is_set}
use Rattle.dialogues.specs.Doors.{Entry, events_of, Until}

-- paired sequences are equally long
pub paired_long : (c : ℕ) (es fs : List Event) → Paired c es fs → length es ≡ length fs
paired_long c [] [] p = refl
paired_long c [] (f ∷ fs) p = absurd p
paired_long c (e ∷ es) [] p = absurd p
paired_long c (received s l ∷ es) (received t m ∷ fs) p = ap suc (paired_long c es fs p.1.1.1)
paired_long c (received s l ∷ es) (switch ∷ fs) p = absurd p
paired_long c (switch ∷ es) (received t m ∷ fs) p = absurd p
paired_long c (switch ∷ es) (switch ∷ fs) p = ap suc (paired_long c es fs p)

module _ {S D : Type 0} (run : S → List Event → D) (ends : S → D) (more : Event → Told → D → D) (long : D → ℕ) (mark : S → ℕ) (Goes : S → List (Entry S) → Type 0) where
  -- what the laws below ask of them
  pub record Tale : Type 0 where
    pub ends_long : (v : S) → long (ends v) ≡ 0
    pub more_long : (e : Event) (t : Told) (d : D) → long (more e t d) ≡ suc (long d)
    pub none : (v : S) → run v [] ≡ ends v
    pub rest : (v : S) (x : Entry S) (xs : List (Entry S)) → Goes v (x ∷ xs) → Goes x.after xs
    pub begun : (v : S) (x : Entry S) (xs : List (Entry S)) → Goes v (x ∷ xs)
        → run v (x.event ∷ events_of xs) ≡ more x.event x.told (cond (is_set (mark x.after)) (ends x.after) (run x.after (events_of xs)))

  -- the tale of all calls
  unfoldable pub whole : S → List (Entry S) → D
  whole v [] = ends v
  whole v (x ∷ xs) = more x.event x.told (whole x.after xs)

  module _ (k : Tale) where
    abbrev going : Entry S → List (Entry S) → Bool → D
    going x xs b = more x.event x.told (cond b (ends x.after) (run x.after (events_of xs)))

    -- one that is as long as the calls is that of all calls
    pub goes_whole : (xs : List (Entry S)) (v : S) → Goes v xs → long (run v (events_of xs)) ≡ length (events_of xs) → run v (events_of xs) ≡ whole v xs
    unfolding whole
    goes_whole [] v q e = k.none v
    goes_whole (x ∷ xs) v q e =
        k.begun v x xs q ∙ go (is_set (mark x.after)) xs (ap long (sym (k.begun v x xs q)) ∙ e) (goes_whole xs x.after (k.rest v x xs q))
      where
        go : (b : Bool) (ys : List (Entry S)) → long (going x ys b) ≡ suc (length (events_of ys))
            → (long (run x.after (events_of ys)) ≡ length (events_of ys) → run x.after (events_of ys) ≡ whole x.after ys) → going x ys b ≡ more x.event x.told (whole x.after ys)
        go true [] l i = refl
        go true (y ∷ ys) l i = absurd (omega (arith, l, k.more_long x.event x.told (ends x.after), k.ends_long x.after))
        go false ys l i = ap (more x.event x.told) (i (omega (arith, l, k.more_long x.event x.told (run x.after (events_of ys)))))

    -- and where only the last call may leave the mark set, it is as long
    pub goes_through : (xs : List (Entry S)) (v : S) → Goes v xs → Until mark xs → long (run v (events_of xs)) ≡ length (events_of xs)
    goes_through [] v q u = ap long (k.none v) ∙ k.ends_long v
    goes_through (x ∷ []) v q u = ap long (k.begun v x [] q) ∙ k.more_long x.event x.told _ ∙ ap suc (go (is_set (mark x.after)))
      where
        go : (b : Bool) → long (cond b (ends x.after) (run x.after [])) ≡ 0
        go true = k.ends_long x.after
        go false = ap long (k.none x.after) ∙ k.ends_long x.after
    goes_through (x ∷ y ∷ xs) v q u =
        ap long (k.begun v x (y ∷ xs) q ∙ ap (going x (y ∷ xs)) (ne_eqb (mark x.after) 1 u.0))
        ∙ k.more_long x.event x.told (run x.after (events_of (y ∷ xs)))
        ∙ ap suc (goes_through (y ∷ xs) x.after (k.rest v x (y ∷ xs) q) u.1)
