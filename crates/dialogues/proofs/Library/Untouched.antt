-- Document 02, request [5]: "Don't write over an enrolled finger." What Store answers for a page that is stored, how a host replaces a template, and that
-- no other way leads from one stored template to another.
use mathlib.Core.Bool.{Bool, true, false, true≢false, ◌&&◌, ◌||◌, not, cond}
use mathlib.Core.Path.{◌≡◌, refl, sym, ap, ◌∙◌, subst}
use mathlib.Core.Logic.{◌⊎◌, inl, inr, ◌≢◌}
use mathlib.Core.List.{List, [], ◌∷◌, ◌++◌}
use Prim.Native.Nat.{ℕ, zero, suc, ◌+◌, ◌*◌, ◌/◌, ◌≤◌, ◌<◌}
use native.Mathlib.Omega.{arith}
use native.Mathlib.Decide.{ℕ_discrete, dec_le, dec_lt}
use lib.Dec.{T, eqb, ltb, leb}
use lib.ListN.{length, drop, length-take, length-drop, length-replicate}
use borrow.Author.Tests.{ne_eqb, le-leb, lt-ltb}
use Rattle.protocol.specs.Bytes.{Bytes, part, zeros, lay}
use Rattle.protocol.specs.Finder.{find_of}
use Rattle.protocol.specs.Index.{bit, stored, set_bit, clear_bits}
use Rattle.protocol.specs.Reader.{Plain, from_page, Buffer, Reader, locked, capacity}
use Rattle.protocol.specs.Commands.{Barred, search_for, store, load_char, up_char, down_char, delet_char, empty, set_sys_para, set_password, set_address, write_notepad, read_notepad, templete_num, read_index_table, free, barred, damaged, unknown, misfit, command}
use Rattle.protocol.specs.Data.{acknowledge}
use Rattle.protocol.specs.Step.{Heard, nothing, order, piece, hear, rested}
use Rattle.protocol.specs.Call.{Shape, core, Lent, fit_lent, legal, Ended, call_of}
use Rattle.protocol.specs.Dialogue.{Event, received, on, finally}
use Rattle.dialogues.specs.History.{Exchange, exchanges, Act, put, cut, cut_all, moved, acts_of, acts_in, addressee, asks, grants, acts_seen, history}
use Rattle.protocol.proofs.Laws.Logic.{eqb_same}
use Rattle.protocol.proofs.Laws.Lists.{same_eq}
use Rattle.protocol.proofs.Laws.Index.{Fine, not_among, stored_with, stored_span, fine_with, fine_span, fine_zeros}
use Rattle.protocol.proofs.Laws.Effects.{away}
use Rattle.protocol.proofs.Laws.Answers.{spared}
use Rattle.protocol.proofs.Laws.Locked.{rested_still}
use Rattle.dialogues.proofs.Laws.History.{call_capacity, Library, Keeps, events_keep}
use Rattle.protocol.proofs.Promises.Words.Told.{Replies, Says, pages, page, has, Numbered, buffer, other}
use Rattle.protocol.proofs.Promises.Refusals.StaysLegal.{Legal, good, rested_closed, stays_legal}
use Rattle.protocol.proofs.Promises.Commands.Moves.{Forgets, Stored, store_moves, Deleted, delete_moves}
use Rattle.protocol.proofs.Promises.Commands.Rows.{rows}

-- ---- "Store to a page whose bit is set must now answer 22h and change nothing", "after 01h, 0Bh and 0Ch"

-- whatever bytes the page and the buffer have, the same ones too
pub answers_22 : (r : Reader) (s : List ℕ) (lent : Lent) (f : T (legal core r)) (u : T (fit_lent (capacity r.guarded) lent)) (l : locked r.plain ≡ false) (b p : ℕ)
    → hear r.plain.address s ≡ order (command (barred (store b p))) → Numbered b → p < pages r → (buffer b (rested r).guarded).filled ≡ true
    → has r p ≡ true → Says (rested r) 0x22 s lent (call_of core r s lent)
answers_22 r s lent f u l b p h i m e o =
    ((((rows r s lent f u l (store b p) h).0 i).0 (rw (spared r).templates m)).0 e).1 (λ n. true≢false (sym o ∙ (rw (spared r).index at n)))

-- ---- "the host deletes first"

-- a page of 512 bytes is there
pub whole_page : (t : List ℕ) (p : ℕ) → length (part (512 * p) 512 t) ≡ 512 → p < length t / 512
whole_page t p e = let f = length-take 512 (drop (512 * p) t) in let g = length-drop (512 * p) t in omega arith

module _ (σ : Shape) (ok : σ.most ≤ 8 * σ.indexed) (r : Reader) (l : Legal σ ok r) (u : locked r.plain ≡ false) (s : List ℕ) (lent : Lent) (v : T (fit_lent (capacity r.guarded) lent))
    (s' : List ℕ) (lent' : Lent) (v' : T (fit_lent (capacity r.guarded) lent')) where
  -- the first call, and the one behind it
  abbrev cleared : Ended
  cleared = call_of σ r s lent

  abbrev replaced : Ended
  replaced = call_of σ cleared.after s' lent'

  -- both are answered 00h; page p has the buffer's bytes and its bit, and is its origin; every other page keeps both; the other buffer is wiped where page p
  -- was its origin; and all else stays, status bit 1 too
  pub record Replaced (b p : ℕ) : Type 0 where
    pub first : Replies (acknowledge r.plain.address 0x00 []) s lent cleared
    pub next : Replies (acknowledge r.plain.address 0x00 []) s' lent' replaced
    pub bytes : page replaced.after p ≡ (buffer b (rested r).guarded).bytes
    pub others : (q : ℕ) → q ≢ p → page replaced.after q ≡ page r q
    pub bits : (q : ℕ) → has replaced.after q ≡ (eqb p q || has r q)
    pub settings : replaced.after.plain ≡ (rested r).plain
    pub notepad : replaced.after.guarded.notepad ≡ r.guarded.notepad
    pub found : replaced.after.guarded.found ≡ r.guarded.found
    pub chosen : buffer b replaced.after.guarded ≡ record { bytes = (buffer b (rested r).guarded).bytes; filled = true; origin = from_page p }
    pub spare : Forgets p 1 (other b (rested r).guarded) (other b replaced.after.guarded)

  -- of a buffer that is no copy of page p itself: by request [7] such a one is wiped first, and `store_after_delete` says what its Store answers
  pub delete_then_store : (b p : ℕ) → hear r.plain.address s ≡ order (command (barred (delet_char p 1)))
      → hear r.plain.address s' ≡ order (command (barred (store b p))) → Numbered b → p < pages r → (buffer b (rested r).guarded).filled ≡ true
      → (buffer b (rested r).guarded).origin ≢ from_page p → Replaced b p
  unfolding on
  delete_then_store b p h h' i m e n =
      record {
        first = subst (λ (a : List ℕ). Replies (acknowledge a 0x00 []) s lent cleared) (spared r).address d.quiet.told;
        next = subst (λ (a : List ℕ). Replies (acknowledge a 0x00 []) s' lent' replaced) ((spared cleared.after).address ∙ address) w.quiet.told;
        bytes = w.bytes ∙ ap (λ (c : Buffer). c.bytes) buffers;
        others = λ q o. w.others q o ∙ d.others q (λ j k. o (omega arith));
        bits = λ q. w.bits q ∙ ap (λ (c : Bool). eqb p q || c) (d.bits q) ∙ bits q (ℕ_discrete p q);
        settings = w.quiet.settings ∙ ap (λ (x : Reader). x.plain) still ∙ d.quiet.settings;
        notepad = w.quiet.notepad ∙ ap (λ (x : Reader). x.guarded.notepad) still ∙ d.quiet.notepad ∙ (spared r).notepad;
        found = w.quiet.found ∙ ap (λ (x : Reader). x.guarded.found) still ∙ d.quiet.found ∙ (spared r).found;
        chosen = w.chosen ∙ ap (λ (c : Buffer). record { bytes = c.bytes; filled = true; origin = from_page p }) buffers;
        spare = subst (Forgets p 1 (other b (rested r).guarded)) (sym (w.spare ∙ ap (λ (x : Reader). other b x.guarded) still)) (forgot_other b);
      }
    where
      d : Deleted σ ok r l u s lent v p 1
      d = delete_moves σ ok r l u s lent v p 1 h m (omega arith)

      address : cleared.after.plain.address ≡ r.plain.address
      address = ap (λ (x : Plain). x.address) d.quiet.settings ∙ (spared r).address

      still : rested cleared.after ≡ cleared.after
      still = rested_still cleared.after (ap (λ (x : Plain). x.transfer) d.quiet.settings ∙ rested_closed σ ok r (good σ ok r l))

      forgot : (k : ℕ) → Forgets p 1 (buffer k (rested r).guarded) (buffer k cleared.after.guarded)
      forgot zero = d.buffer1
      forgot (suc zero) = d.buffer1
      forgot (suc (suc k)) = d.buffer2

      forgot_other : (k : ℕ) → Forgets p 1 (other k (rested r).guarded) (other k cleared.after.guarded)
      forgot_other zero = d.buffer2
      forgot_other (suc zero) = d.buffer2
      forgot_other (suc (suc k)) = d.buffer1

      -- the buffer is what it was
      buffers : buffer b (rested cleared.after).guarded ≡ buffer b (rested r).guarded
      buffers =
          ap (λ (x : Reader). buffer b x.guarded) still
          ∙ (forgot b).stays (λ q o j k. let same : q ≡ p = omega arith in n (o ∙ ap from_page same))

      there : p < pages cleared.after
      there = whole_page cleared.after.guarded.templates p (ap length (d.bytes p (omega arith) (omega arith)) ∙ length-replicate {A = ℕ} 512 0)

      vacant : has cleared.after p ≡ false
      vacant = d.bits p ∙ rw (le-leb p p (omega arith), lt-ltb p (p + 1) (omega arith)) refl

      fit : T (fit_lent (capacity cleared.after.guarded) lent')
      fit = rw (call_capacity σ ok r s lent) v'

      w : Stored σ ok cleared.after (stays_legal σ ok r l (received s lent)) (ap locked d.quiet.settings ∙ (spared r).lock ∙ u) s' lent' fit b p
      w =
          store_moves σ ok cleared.after (stays_legal σ ok r l (received s lent)) (ap locked d.quiet.settings ∙ (spared r).lock ∙ u) s' lent' fit b p
          (ap (λ (a : List ℕ). hear a s') address ∙ h') i there (ap (λ (c : Buffer). c.filled) buffers ∙ e) vacant

      bits : (q : ℕ) → Dec (p ≡ q) → (eqb p q || (not (leb p q && ltb q (p + 1)) && has r q)) ≡ (eqb p q || has r q)
      bits q (yes f) = rw (← f, eqb_same p) refl
      bits q (no f) = rw (ne_eqb p q f, not_among p 1 q (λ j k. f (omega arith))) refl

-- ---- what the host saw of a deletion

-- the run asks the reader of an address for the command c, and the reply is that reader's 00h
pub record Granted (x : Exchange) (c : Barred) : Type 0 where
  pub address : List ℕ
  pub asked : hear address x.run ≡ order (command (barred c))
  pub reply : x.reply ≡ acknowledge address 0x00 []

-- page q is among the pages of a DeletChar that was granted, or Empty was
pub data Deletes (q : ℕ) (x : Exchange) : Type 0 where
  one_of : (p n : ℕ) → Granted x (delet_char p n) → p ≤ q → q < p + n → Deletes q x
  all : Granted x empty → Deletes q x

abbrev pub SawDeleted : ℕ → List Exchange → Type 0
SawDeleted q [] = ⊥
SawDeleted q (x ∷ xs) = Deletes q x ⊎ SawDeleted q xs

-- the same of the acts that the host saw
abbrev Cut : ℕ → List Act → Type 0
Cut q [] = ⊥
Cut q (put p ∷ old) = Cut q old
Cut q (cut p n ∷ old) = ((p ≤ q) × (q < p + n)) ⊎ Cut q old
Cut q (cut_all ∷ old) = Unit {0}
Cut q (moved table ∷ old) = Cut q old

module _ (q : ℕ) (x : Exchange) (a : List ℕ) (e : x.reply ≡ acknowledge a 0x00 []) (old : List Act) where
  abbrev Seen : Heard → Type 0
  Seen h = hear a x.run ≡ h → Cut q (acts_in h ++ old) → Deletes q x ⊎ Cut q old

  seen_order : (c : Barred) → Seen (order (command (barred c)))
  unfolding acts_in acts_of
  seen_order (delet_char p n) h (inl (l, m)) = inl (one_of p n record { address = a; asked = h; reply = e } l m)
  seen_order (delet_char p n) h (inr d) = inr d
  seen_order empty h d = inl (all record { address = a; asked = h; reply = e })
  seen_order (search_for b p n) h d = inr d
  seen_order (store b p) h d = inr d
  seen_order (load_char b p) h d = inr d
  seen_order (up_char b) h d = inr d
  seen_order (down_char b) h d = inr d
  seen_order (set_sys_para k v) h d = inr d
  seen_order (set_password w) h d = inr d
  seen_order (set_address b) h d = inr d
  seen_order (write_notepad p b) h d = inr d
  seen_order (read_notepad p) h d = inr d
  seen_order templete_num h d = inr d
  seen_order (read_index_table p) h d = inr d

  seen_heard : (h : Heard) → Seen h
  unfolding acts_in
  seen_heard (order (command (barred c))) h d = seen_order c h d
  seen_heard (order (command (free c))) h d = inr d
  seen_heard (order damaged) h d = inr d
  seen_heard (order unknown) h d = inr d
  seen_heard (order misfit) h d = inr d
  seen_heard nothing h d = inr d
  seen_heard (piece last right content) h d = inr d

seen : (q : ℕ) (x : Exchange) (old : List Act) → Cut q (acts_seen x ++ old) → Deletes q x ⊎ Cut q old
unfolding acts_seen asks grants
seen q x old = go (grants a x.reply) refl
  where
    a : List ℕ
    a = addressee x.run (find_of x.run)

    go : (g : Bool) → grants a x.reply ≡ g → Cut q (cond g (acts_in (hear a x.run)) [] ++ old) → Deletes q x ⊎ Cut q old
    go true e d = seen_heard q x a (same_eq x.reply (acknowledge a 0x00 []) e) old (hear a x.run) refl d
    go false e d = inr d

cut_seen : (q : ℕ) (xs : List Exchange) (old : List Act) → Cut q (history xs old) → SawDeleted q xs ⊎ Cut q old
unfolding history
cut_seen q [] old d = inr d
cut_seen q (x ∷ xs) old d = later (cut_seen q xs (acts_seen x ++ old) d)
  where
    first : Deletes q x ⊎ Cut q old → SawDeleted q (x ∷ xs) ⊎ Cut q old
    first (inl y) = inl (inl y)
    first (inr z) = inr z

    later : SawDeleted q xs ⊎ Cut q (acts_seen x ++ old) → SawDeleted q (x ∷ xs) ⊎ Cut q old
    later (inl y) = inl (inr y)
    later (inr z) = first (seen q x old z)

-- ---- a stored page and the acts: it keeps its bit and its bytes b, unless one of them cuts it

record Holds (q : ℕ) (b t x : List ℕ) : Type 0 where
  bit_set : stored x q ≡ true
  bytes : part (512 * q) 512 t ≡ b

record Survives (q : ℕ) (b t x : List ℕ) (acts : List Act) : Type 0 where
  typed : Bytes x
  kept : Holds q b t x ⊎ Cut q acts

survives_kept : (m q : ℕ) (b : List ℕ) → Keeps m (Survives q b)
survives_kept m q b = record { puts = puts; cuts = cuts; clears = λ t x old k. record { typed = (fine_zeros (length x)).bytes; kept = inr tt } }
  where
    fine : (x : List ℕ) → Bytes x → length x ≡ m → Fine m x
    fine x y w = record { long = w; bytes = y }

    puts : (t x : List ℕ) (old : List Act) → Survives q b t x old → (c : ℕ) → Library m t x c → (p : ℕ) (d : List ℕ) → p < c → length d ≡ 512
        → stored x p ≡ false → Survives q b (lay (512 * p) d t) (set_bit x p) (put p ∷ old)
    puts t x old k c a p d l e v = record { typed = (fine_with x p (fine x k.typed a.wide)).bytes; kept = go k.kept }
      where
        go : Holds q b t x ⊎ Cut q old → Holds q b (lay (512 * p) d t) (set_bit x p) ⊎ Cut q old
        go (inr z) = inr z
        go (inl h) =
            let o : p ≢ q = (λ f. true≢false (sym h.bit_set ∙ ap (stored x) (sym f) ∙ v)) in
            inl
            record {
              bit_set = stored_with x k.typed p (omega (arith, a.wide, a.small)) q ∙ rw (ne_eqb p q o) h.bit_set;
              bytes = away t d p 1 (omega arith) (omega (arith, a.long)) q (λ g f. o (omega arith)) ∙ h.bytes;
            }

    cuts : (t x : List ℕ) (old : List Act) → Survives q b t x old → (c : ℕ) → Library m t x c → (p n : ℕ) → p + n ≤ c
        → Survives q b (lay (512 * p) (zeros (512 * n)) t) (clear_bits x p n) (cut p n ∷ old)
    cuts t x old k c a p n l = record { typed = (fine_span x p n y).bytes; kept = go k.kept (dec_le p q) (dec_lt q (p + n)) }
      where
        y : Fine m x
        y = fine x k.typed a.wide

        stays : Holds q b t x → (p ≤ q → q < p + n → ⊥) → Holds q b (lay (512 * p) (zeros (512 * n)) t) (clear_bits x p n)
        stays h o =
            record {
              bit_set = stored_span x p n y (omega (arith, a.small)) q ∙ rw (not_among p n q o, h.bit_set) refl;
              bytes = away t (zeros (512 * n)) p n (length-replicate (512 * n) 0) (omega (arith, a.long)) q o ∙ h.bytes;
            }

        go : Holds q b t x ⊎ Cut q old → Dec (p ≤ q) → Dec (q < p + n)
            → Holds q b (lay (512 * p) (zeros (512 * n)) t) (clear_bits x p n) ⊎ (((p ≤ q) × (q < p + n)) ⊎ Cut q old)
        go (inr z) e f = inr (inr z)
        go (inl h) (yes e) (yes f) = inr (inl (e, f))
        go (inl h) (yes e) (no f) = inl (stays h (λ g i. f i))
        go (inl h) (no e) f = inl (stays h (λ g i. e g))

-- ---- "A clerk stored a new driver on page 12 and the old driver was gone."

-- page q is still stored, and its 512 bytes are the same
pub record Untouched (q : ℕ) (before after : Reader) : Type 0 where
  pub bit_set : has after q ≡ true
  pub bytes : page after q ≡ page before q

module _ (σ : Shape) (ok : σ.most ≤ 8 * σ.indexed) (r : Reader) (y : Bytes r.guarded.index) (q : ℕ) (s : has r q ≡ true) (es : List Event) where
  -- whatever the reader, legal or not: over any runs, reply rooms and line switches a stored page stays, or the host saw it deleted
  pub only_by_deletion : Untouched q r (finally σ r es) ⊎ SawDeleted q (exchanges σ r es)
  unfolding stored bit
  only_by_deletion = go k.kept
    where
      k : Survives q (page r q) (finally σ r es).guarded.templates (finally σ r es).guarded.index (history (exchanges σ r es) [])
      k = events_keep σ ok (Survives q (page r q)) (survives_kept σ.indexed q (page r q)) es r [] record { typed = y; kept = inl record { bit_set = s; bytes = refl } }

      none_before : SawDeleted q (exchanges σ r es) ⊎ ⊥ → SawDeleted q (exchanges σ r es)
      none_before (inl d) = d
      none_before (inr z) = absurd z

      go : Holds q (page r q) (finally σ r es).guarded.templates (finally σ r es).guarded.index ⊎ Cut q (history (exchanges σ r es) [])
          → Untouched q r (finally σ r es) ⊎ SawDeleted q (exchanges σ r es)
      go (inl h) = inl record { bit_set = h.bit_set; bytes = h.bytes }
      go (inr z) = inr (none_before (cut_seen q (exchanges σ r es) [] z))

  -- so a page that the host did not see deleted is still stored, with the same bytes
  pub untouched : (SawDeleted q (exchanges σ r es) → ⊥) → Untouched q r (finally σ r es)
  untouched n = go only_by_deletion
    where
      go : Untouched q r (finally σ r es) ⊎ SawDeleted q (exchanges σ r es) → Untouched q r (finally σ r es)
      go (inl u) = u
      go (inr d) = absurd (n d)
