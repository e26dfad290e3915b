-- The words in which the promises tell of a call that is carried out: what all such calls have in common, and the parts of a reader in document 01's
-- own numbers. None of them cites a definition of the reader, so that a promise says its sentence a second time.
use mathlib.Core.Bool.{Bool, true, false}
use mathlib.Core.Path.{◌≡◌, refl, ap, subst}
use mathlib.Core.Logic.{◌⊎◌, inl, inr, ◌↔◌}
use mathlib.Core.List.{List, [], ◌∷◌, ◌++◌}
use Prim.Native.Nat.{ℕ, zero, suc, ◌+◌, ◌*◌, ◌/◌, ◌%◌, ◌^◌}
use native.Mathlib.Omega.{arith}
use lib.Dec.{T, eqb}
use lib.ListN.{length, take, drop, get_or, replicate}
use Rattle.protocol.specs.declared.Found.TheVariants.{Whole}
use Rattle.protocol.specs.Finder.{find_of, used_of}
use Rattle.protocol.specs.Bytes.{lay}
use Rattle.protocol.specs.Reader.{Transfer, no_origin, Buffer, Guarded, Reader, buffer_of, with_transfer, with_buffer, reader, capacity}
use Rattle.protocol.specs.Data.{acknowledge}
use Rattle.protocol.specs.Table.{is_buffer, second}
use Rattle.protocol.specs.Step.{hear, Said, answer, step_of}
use Rattle.protocol.specs.Call.{Shape, Lent, fit_lent, legal, Ended, carried, call_of}
use Rattle.protocol.proofs.Laws.Answers.{call_legal}
use Rattle.protocol.proofs.Promises.Words.Words.{kept}

-- ---- what every call that is carried out has in common

-- no refusal; the packet's bytes and those before it used; the reply at the front of the room, and its length; the room behind it as it was
pub record Replies (reply s : List ℕ) (lent : Lent) (e : Ended) : Type 0 where
  pub refusal : e.told.refusal ≡ 0
  pub used : (p n : ℕ) → find_of s ≡ Whole p n → e.told.used ≡ p + 9 + n
  pub long : e.told.length ≡ length reply
  pub room : e.told.room ≡ reply ++ drop (length reply) lent.room

-- such a call, and what the reader is that it leaves
pub record Leaves (reply : List ℕ) (Left : Reader → Type 0) (s : List ℕ) (lent : Lent) (e : Ended) : Type 0 where
  pub told : Replies reply s lent e
  pub after : Left e.after

-- it leaves the reader t
abbrev pub Gives : List ℕ → Reader → List ℕ → Lent → Ended → Type 0
Gives reply t s lent e = Leaves reply (λ (x : Reader). x ≡ t) s lent e

-- a code alone, from the reader t, which stays as it is
abbrev pub Says : Reader → ℕ → List ℕ → Lent → Ended → Type 0
Says t code s lent e = Gives (acknowledge t.plain.address code []) t s lent e

lay_front_lem : (s d : List ℕ) → lay 0 s d ≡ s ++ drop (length s) d
unfolding lay
lay_front_lem s d = let e : 0 + length s ≡ length s = omega arith in ap (λ (n : ℕ). s ++ drop n d) e

-- a legal reader gives, where what is lent anew is fit, its answer to what it heard
pub answered : (σ : Shape) (r : Reader) (s : List ℕ) (lent : Lent) → T (legal σ r) → T (fit_lent (capacity r.guarded) lent) → (a : Said) → answer lent.chip r (hear r.plain.address s) ≡ a
    → Gives a.reply a.after s lent (call_of σ r s lent)
unfolding carried step_of used_of
answered σ r s lent f u a e =
    rw (call_legal σ r s lent f u, e)
    record {
      told = record { refusal = refl; used = λ p n h. ap used_of h; long = refl; room = lay_front_lem a.reply lent.room };
      after = refl;
    }

-- ---- a number as two bytes, high byte first

abbrev pub word : ℕ → List ℕ
word n = (n / 256 % 256) ∷ (n % 256) ∷ []

-- ---- a reader's parts

-- C, read off the templates' length
abbrev pub pages : Reader → ℕ
pages r = length r.guarded.templates / 512

-- page q of templates: the 512 bytes that start at 512 × q; and its bit in an index, that of weight 2^(q mod 8) in byte q / 8
abbrev pub page_of : List ℕ → ℕ → List ℕ
page_of templates q = take 512 (drop (512 * q) templates)

abbrev pub has_bit : List ℕ → ℕ → Bool
has_bit index q = eqb (get_or index (q / 8) 0 / 2 ^ (q % 8) % 2) 1

-- those of a reader
abbrev pub page : Reader → ℕ → List ℕ
page r q = page_of r.guarded.templates q

abbrev pub has : Reader → ℕ → Bool
has r q = has_bit r.guarded.index q

-- a buffer's number; the buffer, and the other one
abbrev pub Numbered : ℕ → Type 0
Numbered b = (b ≡ 1) ⊎ (b ≡ 2)

abbrev pub buffer : ℕ → Guarded → Buffer
buffer zero g = g.buffer1
buffer (suc zero) g = g.buffer1
buffer (suc (suc k)) g = g.buffer2

abbrev pub other : ℕ → Guarded → Buffer
other zero g = g.buffer2
other (suc zero) g = g.buffer2
other (suc (suc k)) g = g.buffer1

-- the number of a transfer's buffer (the second?)
abbrev pub number : Bool → ℕ
number false = 1
number true = 2

-- zeroed, its mark clear, its origin none
abbrev pub blank : Buffer
blank = record { bytes = replicate 512 0; filled = false; origin = no_origin }

-- the reader x is t with this transfer, and c in the place of its buffer b
pub record WithBuffer (b : ℕ) (c : Buffer) (m : Transfer) (t x : Reader) : Type 0 where
  pub settings :
      x.plain
      ≡ record {
        password = t.plain.password;
        address = t.plain.address;
        level = t.plain.level;
        size = t.plain.size;
        baud = t.plain.baud;
        sensor = t.plain.sensor;
        verified = t.plain.verified;
        transfer = m;
      }
  pub chosen : buffer b x.guarded ≡ c
  pub spare : other b x.guarded ≡ other b t.guarded
  pub templates : x.guarded.templates ≡ t.guarded.templates
  pub index : x.guarded.index ≡ t.guarded.index
  pub notepad : x.guarded.notepad ≡ t.guarded.notepad
  pub found : x.guarded.found ≡ t.guarded.found

pub with_buffer_lem : (w : Bool) (c : Buffer) (m : Transfer) (t : Reader) → WithBuffer (number w) c m t (reader (with_transfer m t.plain) (with_buffer w c t.guarded))
unfolding with_transfer with_buffer
with_buffer_lem true c m t = record { settings = refl; chosen = refl; spare = refl; templates = refl; index = refl; notepad = refl; found = refl }
with_buffer_lem false c m t = record { settings = refl; chosen = refl; spare = refl; templates = refl; index = refl; notepad = refl; found = refl }

-- the table's own tests and choices of a buffer say the same
pub numbered : (b : ℕ) → T (is_buffer b) ↔ Numbered b
numbered = kept.buffer_means

pub buffer_is : (b : ℕ) → Numbered b → (g : Guarded) → buffer_of (second b) g ≡ buffer b g
unfolding buffer_of
buffer_is b (inl e) g = rw e refl
buffer_is b (inr e) g = rw e refl

pub number_is : (b : ℕ) → Numbered b → number (second b) ≡ b
number_is b (inl e) = rw e refl
number_is b (inr e) = rw e refl

pub by_number : (b : ℕ) → Numbered b → (c : Buffer) (m : Transfer) (t : Reader)
    → WithBuffer b c m t (reader (with_transfer m t.plain) (with_buffer (second b) c t.guarded))
by_number b i c m t =
    subst (λ (n : ℕ). WithBuffer n c m t (reader (with_transfer m t.plain) (with_buffer (second b) c t.guarded))) (number_is b i) (with_buffer_lem (second b) c m t)
