-- The buffers by number: what one that is changed and marked makes of the reader.
use mathlib.Core.Path.{◌≡◌, refl, ap}
use mathlib.Core.Bool.{Bool, true, false, cond}
use mathlib.Core.List.{List}
use Prim.Native.Nat.{ℕ, ◌*◌, ◌≤◌, ◌<◌}
use lib.Dec.{eqb}
use Rattle.protocol.specs.declared.Settings.{Settings}
use Rattle.protocol.specs.Numbers.{page_bytes, no_page}
use Rattle.protocol.specs.Bytes.{zeros, part}
use Rattle.protocol.specs.Reader.{Transfer, Guarded, emptied, loaded_from, with_buffer, contents, reader}
use Rattle.protocol.specs.Reader as readers
use Rattle.protocol.proofs.Laws.Marks.{fit_mark_lem, fit_marks_lem, fit_verified, fit_filled1, fit_filled2, fit_found}
use Rattle.protocol.specs.Records.{fit_mark, fit_marks, is_set, marks_of, transfer_of, origin_of, plain_of, buffer, reader_of}
use Rattle.rules.specs.Settings.{with_transfer, Legal}
use Rattle.rules.proofs.Marks.{beside}
use Rattle.reader.specs.Memory.{with_numbered}
use Rattle.reader.specs.Buffers.{chosen_of, Buffers, buffers, changed, with_fill, with_held}
use Rattle.reader.proofs.Laws.{page_origin}

-- ---- one of them changed

module _ (f : List ℕ → List ℕ) (t i n b c : List ℕ) (u v o q : ℕ) (z : Bool) where
  held_at : (on a : ℕ) (w : Bool)
      → contents t i n (buffer (cond w b (f b)) (is_set (cond w u on)) (cond w o a)) (buffer (cond w (f c) c) (is_set (cond w on v)) (cond w a q)) z
      ≡ with_buffer w (buffer (f (cond w c b)) (is_set on) a) (contents t i n (buffer b (is_set u) o) (buffer c (is_set v) q) z)
  unfolding with_buffer
  held_at on a true = refl
  held_at on a false = refl

  same_at : (on a : ℕ) (w : Bool)
      → contents t i n (buffer b (is_set (cond w u on)) (cond w o a)) (buffer c (is_set (cond w on v)) (cond w a q)) z
      ≡ with_buffer w (buffer (cond w c b) (is_set on) a) (contents t i n (buffer b (is_set u) o) (buffer c (is_set v) q) z)
  unfolding with_buffer
  same_at on a true = refl
  same_at on a false = refl

  marked_at : (on : ℕ) (w : Bool)
      → contents t i n (buffer (cond w b (f b)) (is_set (cond w u on)) o) (buffer (cond w (f c) c) (is_set (cond w on v)) q) z
      ≡ with_buffer w (buffer (f (cond w c b)) (is_set on) (cond w q o)) (contents t i n (buffer b (is_set u) o) (buffer c (is_set v) q) z)
  unfolding with_buffer
  marked_at on true = refl
  marked_at on false = refl

  kept_at : (w : Bool)
      → contents t i n (buffer (cond w b (f b)) (is_set u) o) (buffer (cond w (f c) c) (is_set v) q) z
      ≡ with_buffer w (buffer (f (cond w c b)) (cond w (is_set v) (is_set u)) (cond w q o)) (contents t i n (buffer b (is_set u) o) (buffer c (is_set v) q) z)
  unfolding with_buffer
  kept_at true = refl
  kept_at false = refl

-- neither changed, and the mark and the origin of one
pub held : (k on a : ℕ) (s : Settings) (t i n b c : List ℕ)
    → (reader_of (with_held k on a s) t i n b c).guarded ≡ with_buffer (eqb k 2) (buffer (chosen_of k b c) (is_set on) a) (reader_of s t i n b c).guarded
held k on a s t i n b c = same_at (λ x. x) t i n b c s.filled1 s.filled2 s.origin1 s.origin2 (is_set s.found) on a (eqb k 2)

module _ (k : ℕ) (f : List ℕ → List ℕ) (s : Settings) (t i n b c x y : List ℕ) (e : buffers x y ≡ changed k f b c) where
  first_is : x ≡ cond (eqb k 2) b (f b)
  unfolding changed
  first_is = ap (λ (p : Buffers). p.first) e

  second_is : y ≡ cond (eqb k 2) (f c) c
  unfolding changed
  second_is = ap (λ (p : Buffers). p.second) e

  -- and its mark set or cleared, and another origin
  pub changed_held : (on a : ℕ)
      → (reader_of (with_held k on a s) t i n x y).guarded ≡ with_buffer (eqb k 2) (buffer (f (chosen_of k b c)) (is_set on) a) (reader_of s t i n b c).guarded
  changed_held on a = rw (first_is, second_is) (held_at f t i n b c s.filled1 s.filled2 s.origin1 s.origin2 (is_set s.found) on a (eqb k 2))

  -- and its mark set or cleared
  pub changed_marked : (on : ℕ)
      → (reader_of (with_fill k on s) t i n x y).guarded
      ≡ with_buffer (eqb k 2) (buffer (f (chosen_of k b c)) (is_set on) (cond (eqb k 2) s.origin2 s.origin1)) (reader_of s t i n b c).guarded
  changed_marked on = rw (first_is, second_is) (marked_at f t i n b c s.filled1 s.filled2 s.origin1 s.origin2 (is_set s.found) on (eqb k 2))

  -- and its mark as it was
  pub changed_kept : (reader_of s t i n x y).guarded
      ≡ with_buffer (eqb k 2) (buffer (f (chosen_of k b c)) (cond (eqb k 2) (is_set s.filled2) (is_set s.filled1)) (cond (eqb k 2) s.origin2 s.origin1)) (reader_of s t i n b c).guarded
  changed_kept = rw (first_is, second_is) (kept_at f t i n b c s.filled1 s.filled2 s.origin1 s.origin2 (is_set s.found) (eqb k 2))

-- the marks of a record whose buffer is marked anew, and the transfer beside them
pick : (w : Bool) (a b : ℕ) → fit_mark a ≡ true → fit_mark b ≡ true → fit_mark (cond w a b) ≡ true
pick true a b e f = e
pick false a b e f = f

pub held_fit : (k on a : ℕ) (s : Settings) → Legal s → fit_mark on ≡ true → fit_marks (marks_of (with_held k on a s)) ≡ true
held_fit k on a s l f =
    fit_marks_lem s.verified (cond (eqb k 2) s.filled1 on) (cond (eqb k 2) on s.filled2) s.found (fit_verified (marks_of s) l.marks)
    (pick (eqb k 2) s.filled1 on (fit_filled1 (marks_of s) l.marks) f) (pick (eqb k 2) on s.filled2 f (fit_filled2 (marks_of s) l.marks)) (fit_found (marks_of s) l.marks)

pub beside_held : (k on a : ℕ) (s : Settings) → Legal s → fit_mark on ≡ true → transfer_of (marks_of (with_held k on a s)) s.transfer s.got ≡ transfer_of (marks_of s) s.transfer s.got
beside_held k on a s l f = beside s l (with_held k on a s) (held_fit k on a s l f)

-- legal settings stay so
pub held_legal : (n on o : ℕ) (s q : Settings) → q ≡ with_held n on o s → Legal s → fit_mark on ≡ true → Legal q
held_legal n on o s q e l f = rw e record { size = l.size; which = l.which; none = l.none; marks = held_fit n on o s l f }

pub filled_legal : (n on : ℕ) (s q : Settings) → q ≡ with_fill n on s → Legal s → fit_mark on ≡ true → Legal q
filled_legal n on s q e l f = rw e record { size = l.size; which = l.which; none = l.none; marks = held_fit n on 0 s l f }

-- a buffer changed, its mark and its origin, and nothing else of the reader
pub held_reader : (n on o : ℕ) (s q : Settings) → q ≡ with_held n on o s → Legal s → fit_mark on ≡ true → (f : List ℕ → List ℕ) (t i m b c x y : List ℕ) → buffers x y ≡ changed n f b c
    → reader_of q t i m x y ≡ with_numbered n (buffer (f (chosen_of n b c)) (is_set on) o) (reader_of s t i m b c)
held_reader n on o s q e l g f t i m b c x y d =
    rw (e, beside_held n on o s l g) (ap (λ (z : Guarded). reader (plain_of s) z) (changed_held n f s t i m b c x y d on o))

-- one of them zeroed
module _ (s q : Settings) (l : Legal s) (t i m b c x : List ℕ) (z : x ≡ zeros page_bytes) where
  pub first_emptied : q ≡ with_held 1 0 no_page s → reader_of q t i m x c ≡ with_numbered 1 emptied (reader_of s t i m b c)
  unfolding emptied origin_of changed
  first_emptied e = held_reader 1 0 no_page s q e l (fit_mark_lem false) (λ (y : List ℕ). zeros page_bytes) t i m b c x c (rw z refl)

  pub second_emptied : q ≡ with_held 2 0 no_page s → reader_of q t i m b x ≡ with_numbered 2 emptied (reader_of s t i m b c)
  unfolding emptied origin_of changed
  second_emptied e = held_reader 2 0 no_page s q e l (fit_mark_lem false) (λ (y : List ℕ). zeros page_bytes) t i m b c b x (rw z refl)

-- one of them loaded from a page
module _ (s q : Settings) (l : Legal s) (p : ℕ) (h : p < no_page) (t i m b c x : List ℕ) (z : x ≡ part (page_bytes * p) page_bytes t) where
  pub first_loaded : q ≡ with_held 1 1 p s → reader_of q t i m x c ≡ with_numbered 1 (loaded_from p (part (page_bytes * p) page_bytes t)) (reader_of s t i m b c)
  unfolding changed loaded_from
  first_loaded e = rw (page_origin p h) at (held_reader 1 1 p s q e l (fit_mark_lem true) (λ (y : List ℕ). part (page_bytes * p) page_bytes t) t i m b c x c (rw z refl))

  pub second_loaded : q ≡ with_held 2 1 p s → reader_of q t i m b x ≡ with_numbered 2 (loaded_from p (part (page_bytes * p) page_bytes t)) (reader_of s t i m b c)
  unfolding changed loaded_from
  second_loaded e = rw (page_origin p h) at (held_reader 2 1 p s q e l (fit_mark_lem true) (λ (y : List ℕ). part (page_bytes * p) page_bytes t) t i m b c b x (rw z refl))

-- ---- and the transfer moved

pub moved_legal : (w k : ℕ) (s q : Settings) → q ≡ with_transfer w k s → w ≤ 2 → (w ≡ 0 → k ≡ 0) → Legal s → Legal q
moved_legal w k s q e h n l = rw e record { size = l.size; which = h; none = n; marks = l.marks }

pub moved_reader : (w k : ℕ) (v : Transfer) (s q : Settings) (t i m b c : List ℕ) → q ≡ with_transfer w k s → transfer_of (marks_of s) w k ≡ v
    → reader_of q t i m b c ≡ reader (readers.with_transfer v (plain_of s)) (reader_of s t i m b c).guarded
unfolding readers.with_transfer
moved_reader w k v s q t i m b c e f = rw (e, f) refl
