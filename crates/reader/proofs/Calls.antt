-- A call's definitions at each way out, and what passed refusals say.
use mathlib.Core.Path.{◌≡◌, refl, sym, ap, ◌∙◌, subst}
use mathlib.Core.Bool.{Bool, true, false, true≢false, ◌&&◌}
use mathlib.Core.List.{List}
use Prim.Native.Nat.{ℕ, ◌+◌, ◌-◌, ◌*◌, ◌/◌, ◌%◌, ◌≤◌, ◌<◌}
use native.Mathlib.Omega.{arith}
use lib.Dec.{T, eqb→eq, leb→le}
use lib.ListN.{length, take, drop}
use borrow.Author.Tests.{le-leb, lt-leb}
use Rattle.protocol.specs.declared.Settings.{Settings}
use Rattle.protocol.specs.declared.Found.{Found}
use Rattle.protocol.specs.declared.Found.TheVariants.{Noise, Unfinished, Unfit, Whole}
use Rattle.protocol.specs.Numbers.{page_bytes, most_pages, index_bytes, reply_room, head_bytes}
use Rattle.protocol.specs.Bytes.{same}
use Rattle.protocol.specs.Tests.{within, verdict}
use Rattle.protocol.specs.Packet.{address_at, identifier_at, right_at}
use Rattle.protocol.specs.Finder.{find_of, used_of}
use Rattle.protocol.specs.Reader.{Guarded, Reader, capacity}
use Rattle.protocol.specs.Search.{Chip}
use Rattle.protocol.specs.Step.{nothing, hear_as, hear_at, hear, Said, silence, answer, step_of}
use Rattle.protocol.specs.Call.{shaped, fit_library, fit_buffers, fit_lengths, fit_chip, fit_room, Lent, sound, refusal_of, refused, carried, call_as, call_of}
use Rattle.protocol.proofs.Laws.Logic.{T→true, and_l, and_r}
use Rattle.protocol.proofs.Laws.Lists.{lay_nothing}
use Rattle.protocol.proofs.Laws.Finder.{Within, found_in, used_in, accepts_least, accepts_most, longest_word}
use Rattle.reader.specs.Calls.{Lies, lengths_fit, carried_of}
use Rattle.rules.specs.Settings.{legal_of, sound_of, Legal}
use Rattle.rules.proofs.Transfers.{legal_says}

-- ---- a whole packet

pub hear_ours : (a s : List ℕ) (p n : ℕ) (right : Bool) → same (address_at s p) a ≡ true → right ≡ right_at s p n
    → hear_as (identifier_at s p) right (take (p + head_bytes + (n - 2) - (p + head_bytes)) (drop (p + head_bytes) s)) ≡ hear_at a s (Whole p n)
unfolding hear_at
hear_ours a s p n right e f = let k : p + head_bytes + (n - 2) - (p + head_bytes) ≡ n - 2 = omega arith in rw (k, e, f) refl

-- another's
pub hear_other : (a s : List ℕ) (p n : ℕ) → same (address_at s p) a ≡ false → hear_at a s (Whole p n) ≡ nothing
unfolding hear_at
hear_other a s p n e = rw e refl

pub carried_silence : (χ : Chip) (u : ℕ) (r : Reader) (y : List ℕ) → carried_of u (answer χ r nothing) y ≡ record { told = record { refusal = 0; used = u; length = 0; room = y }; after = r }
unfolding carried answer silence
carried_silence χ u r y = ap (λ (x : List ℕ). record { told = record { refusal = 0; used = u; length = 0; room = x }; after = r }) (lay_nothing 0 y)

-- no whole packet: the enum's case is one of the first three
pub unheard : (a s : List ℕ) (f : Found) → ((at n : ℕ) → f ≡ Whole at n → ⊥) → hear_at a s f ≡ nothing
unfolding hear_at
unheard a s (Noise n) k = refl
unheard a s (Unfinished p) k = refl
unheard a s (Unfit p) k = refl
unheard a s (Whole p n) k = absurd (k p n refl)

pub step_silent : (χ : Chip) (r : Reader) (s y : List ℕ) (f : Found) → f ≡ find_of s → length s < 18446744073709551616 → hear_at r.plain.address s f ≡ nothing
    → record { told = record { refusal = 0; used = used_of f % 18446744073709551616; length = 0; room = y }; after = r } ≡ carried (step_of χ r s) y
unfolding step_of hear
step_silent χ r s y f e h n =
    let i : used_of f ≤ length s = rw e (used_in s) in
    let u : used_of f % 18446744073709551616 ≡ used_of f = omega arith in
    ap (λ (k : ℕ). record { told = record { refusal = 0; used = k; length = 0; room = y }; after = r }) u
    ∙ sym (carried_silence χ (used_of f) r y)
    ∙ ap (λ (x : Said). carried_of (used_of f) x y) (ap (answer χ r) (sym n))
    ∙ ap (λ (g : Found). carried_of (used_of g) (answer χ r (hear_at r.plain.address s g)) y) e

pub step_whole : (χ : Chip) (r : Reader) (s y : List ℕ) (p n : ℕ) → find_of s ≡ Whole p n → carried_of (p + head_bytes + n) (answer χ r (hear_at r.plain.address s (Whole p n))) y ≡ carried (step_of χ r s) y
unfolding step_of hear used_of
step_whole χ r s y p n e = sym (ap (λ (f : Found). carried_of (used_of f) (answer χ r (hear_at r.plain.address s f)) y) e)

-- it lies within its run
pub whole_lies : (s : List ℕ) (p n : ℕ) → find_of s ≡ Whole p n → Lies s p n
whole_lies s p n e =
    let w : Within s (Whole p n) = subst (Within s) e (found_in s) in
    record { inside = w.0; low = accepts_least (identifier_at s p) n w.1; high = omega (arith, accepts_most (identifier_at s p) n w.1, longest_word) }

-- ---- what passed refusals say

pub lengths_are : (v : ℕ) (g : Guarded) (χ : Chip)
    → (fit_lengths (shaped v) g && fit_chip (capacity g) χ)
    ≡ lengths_fit v (length g.templates) (length g.index) (length g.notepad) (length g.buffer1.bytes) (length g.buffer2.bytes) (length χ.scores) (length χ.thresholds)
unfolding fit_lengths fit_library fit_buffers fit_chip capacity lengths_fit
lengths_are v g χ = refl

module _ (v t i n b c k h : ℕ) (e : lengths_fit v t i n b c k h ≡ true) where
  pub few_pages : t / page_bytes ≤ most_pages
  unfolding lengths_fit within
  few_pages = let y : T (lengths_fit v t i n b c k h) = rw e tt in leb→le (t / page_bytes) most_pages (search (and_l, and_r) depth 9)

  pub all_scored : k ≡ t / page_bytes
  unfolding lengths_fit
  all_scored = let y : T (lengths_fit v t i n b c k h) = rw e tt in eqb→eq k (t / page_bytes) (search (and_l, and_r) depth 9)

module _ (v t i n b c k h : ℕ) (e : lengths_fit v t i n b c k h ≡ true) where
  passed : T (lengths_fit v t i n b c k h)
  passed = rw e tt

  pub whole_pages : t ≡ page_bytes * (t / page_bytes)
  unfolding lengths_fit
  whole_pages = let y = passed in eqb→eq t (page_bytes * (t / page_bytes)) (search (and_l, and_r) depth 9)

  pub index_long : i ≡ index_bytes
  unfolding lengths_fit
  index_long = let y = passed in eqb→eq i index_bytes (search (and_l, and_r) depth 9)

  pub first_long : b ≡ page_bytes
  unfolding lengths_fit
  first_long = let y = passed in eqb→eq b page_bytes (search (and_l, and_r) depth 9)

  pub second_long : c ≡ page_bytes
  unfolding lengths_fit
  second_long = let y = passed in eqb→eq c page_bytes (search (and_l, and_r) depth 9)

-- refusal 3 as the code asks for it: the settings first
pub legal_passed : (s : Settings) (i : List ℕ) (n : ℕ) → sound_of n i s ≡ true → Legal s
unfolding sound_of
legal_passed s i n e = let h : T (sound_of n i s) = rw e tt in legal_says s (T→true (legal_of s) (search and_l))

-- ---- a call at each way out

-- lengths that are fit, and those of scores and thresholds
module _ (v : ℕ) (r : Reader) (χ : Chip) (s y : List ℕ) where
  abbrev lent : Lent
  lent = record { chip = χ; room = y }

  pub call_bad_length : (fit_lengths (shaped v) r.guarded && fit_chip (capacity r.guarded) χ) ≡ false → refused 1 r y ≡ call_of (shaped v) r s lent
  unfolding call_of call_as refusal_of verdict
  call_bad_length = go (fit_lengths (shaped v) r.guarded) (fit_chip (capacity r.guarded) χ) refl refl
    where
      go : (a b : Bool) → fit_lengths (shaped v) r.guarded ≡ a → fit_chip (capacity r.guarded) χ ≡ b → (a && b) ≡ false → refused 1 r y ≡ call_of (shaped v) r s lent
      go false b d e h = rw d refl
      go true false d e h = rw (d, e) refl
      go true true d e h = absurd (true≢false h)

  module _ (l : (fit_lengths (shaped v) r.guarded && fit_chip (capacity r.guarded) χ) ≡ true) where
    fits : fit_lengths (shaped v) r.guarded ≡ true
    fits = let t : T (fit_lengths (shaped v) r.guarded && fit_chip (capacity r.guarded) χ) = rw l tt in T→true (fit_lengths (shaped v) r.guarded) (search and_l)

    chips : fit_chip (capacity r.guarded) χ ≡ true
    chips = let t : T (fit_lengths (shaped v) r.guarded && fit_chip (capacity r.guarded) χ) = rw l tt in T→true (fit_chip (capacity r.guarded) χ) (search and_r)

    pub call_bad_room : length y < reply_room → refused 2 r y ≡ call_of (shaped v) r s lent
    unfolding call_of call_as refusal_of verdict fit_room
    call_bad_room h = rw (fits, chips, lt-leb reply_room (length y) h) refl

    pub call_bad_setting : reply_room ≤ length y → sound r ≡ false → refused 3 r y ≡ call_of (shaped v) r s lent
    unfolding call_of call_as refusal_of verdict fit_room
    call_bad_setting h k = rw (fits, chips, le-leb reply_room (length y) h, k) refl

    pub call_goes : reply_room ≤ length y → sound r ≡ true → carried (step_of χ r s) y ≡ call_of (shaped v) r s lent
    unfolding call_of call_as refusal_of verdict fit_room
    call_goes h k = rw (fits, chips, le-leb reply_room (length y) h, k) refl
