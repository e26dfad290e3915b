-- Document 02, request [7]: "We delete a leaver, and the next UpChar still sends his template, because it was loaded before." No more: a buffer whose origin
-- is among the pages deleted is zeroed, and the next UpChar of it answers 0Dh, the next Store of it on that page 0Ch.
use mathlib.Core.Bool.{true, false, true≢false}
use mathlib.Core.Path.{◌≡◌, sym, ap, ◌∙◌, subst}
use mathlib.Core.List.{List, []}
use Prim.Native.Nat.{ℕ, zero, suc, ◌+◌, ◌/◌, ◌≤◌, ◌<◌}
use lib.Dec.{T}
use lib.ListN.{length, replicate, length-replicate}
use Rattle.protocol.specs.Reader.{no_origin, from_page, Plain, Buffer, Guarded, Reader, capacity, locked, buffer_of}
use Rattle.protocol.specs.Commands.{Barred, store, up_char, delet_char, empty, barred, command}
use Rattle.protocol.specs.Data.{acknowledge}
use Rattle.protocol.specs.Table.{second}
use Rattle.protocol.specs.Step.{order, hear, rested}
use Rattle.protocol.specs.Call.{core, Lent, fit_lent, Ended, call_of}
use Rattle.protocol.specs.Dialogue.{received, on}
use Rattle.protocol.proofs.Laws.Answers.{spared}
use Rattle.protocol.proofs.Laws.Locked.{rested_still}
use Rattle.dialogues.proofs.Laws.History.{call_capacity}
use Rattle.protocol.proofs.Laws.Legal.{Good}
use Rattle.protocol.proofs.Promises.Words.Told.{Replies, Says, pages, Numbered, buffer, blank, buffer_is}
use Rattle.protocol.proofs.Promises.Refusals.LegalMeans.{core_holds}
use Rattle.protocol.proofs.Promises.Refusals.StaysLegal.{Legal, good, good_rested, rested_closed, stays_legal}
use Rattle.protocol.proofs.Promises.Commands.Moves.{Forgets, Clears, Quiet, Deleted, delete_moves, Emptied, empty_moves}
use Rattle.dialogues.proofs.Library.Untouched.{whole_page}
use Rattle.protocol.proofs.Promises.Commands.Rows.{rows}

-- a legal reader that is not locked, and two calls, the second on what the first leaves
module _ (r : Reader) (l : Legal core core_holds r) (u : locked r.plain ≡ false) (s : List ℕ) (lent : Lent) (v : T (fit_lent (capacity r.guarded) lent))
    (s' : List ℕ) (lent' : Lent) (v' : T (fit_lent (capacity r.guarded) lent')) where
  abbrev first : Ended
  first = call_of core r s lent

  abbrev next : Ended
  next = call_of core first.after s' lent'

  abbrev Asks : List ℕ → Barred → Type 0
  Asks run c = hear r.plain.address run ≡ order (command (barred c))

  -- the first run deletes page q: DeletChar of pages that are there, page q among them, or Empty
  pub data Deletes (q : ℕ) : Type 0 where
    some : (p n : ℕ) → Asks s (delet_char p n) → p < pages r → p + n ≤ pages r → p ≤ q → q < p + n → Deletes q
    all : Asks s empty → Deletes q

  -- the first call is answered 00h and leaves nothing of the buffer b; the second is answered by this code alone, and changes nothing
  pub record Gone (b code : ℕ) : Type 0 where
    pub told : Replies (acknowledge r.plain.address 0x00 []) s lent first
    pub bytes : (buffer b first.after.guarded).bytes ≡ replicate 512 0
    pub filled : (buffer b first.after.guarded).filled ≡ false
    pub origin : (buffer b first.after.guarded).origin ≡ no_origin
    pub answered : Says first.after code s' lent' next

  -- the buffer b, whose origin is page q, and the first call that deletes the page
  module _ (b q : ℕ) (i : Numbered b) (d : Deletes q) (o : (buffer b (rested r).guarded).origin ≡ from_page q) where
    record Wiped : Type 0 where
      quiet : Quiet core core_holds r l u s lent v
      buffer_blank : buffer b first.after.guarded ≡ blank
      page_there : q < pages first.after

    -- a legal origin is a page that is there
    below : q < pages r
    unfolding capacity
    below =
        let k : Good core core_holds (rested r) = good_rested core core_holds r (good core core_holds r l) in
        let same : (buffer_of (second b) (rested r).guarded).origin ≡ from_page q = ap (λ (c : Buffer). c.origin) (buffer_is b i (rested r).guarded) ∙ o in
        subst (λ (t : List ℕ). q < length t / 512) (spared r).templates (k.origins (second b) q same).below

    wiped : Wiped
    wiped = go d
      where
        by_number : (k : ℕ) (g h : Guarded) (P : Buffer → Buffer → Type 0) → P g.buffer1 h.buffer1 → P g.buffer2 h.buffer2 → P (buffer k g) (buffer k h)
        by_number zero g h P x y = x
        by_number (suc zero) g h P x y = x
        by_number (suc (suc k)) g h P x y = y

        go : Deletes q → Wiped
        go (some p n h low high from to) =
            let m : Deleted core core_holds r l u s lent v p n = delete_moves core core_holds r l u s lent v p n h low high in
            record {
              quiet = m.quiet;
              buffer_blank = (by_number b (rested r).guarded first.after.guarded (Forgets p n) m.buffer1 m.buffer2).wiped q o from to;
              page_there = whole_page first.after.guarded.templates q (ap length (m.bytes q from to) ∙ length-replicate {A = ℕ} 512 0);
            }
        go (all h) =
            let m : Emptied core core_holds r l u s lent v = empty_moves core core_holds r l u s lent v h in
            record {
              quiet = m.quiet;
              buffer_blank = (by_number b (rested r).guarded first.after.guarded Clears m.buffer1 m.buffer2).wiped q o;
              page_there = whole_page first.after.guarded.templates q (ap length (m.bytes q below) ∙ length-replicate {A = ℕ} 512 0);
            }

    address : first.after.plain.address ≡ r.plain.address
    address = ap (λ (x : Plain). x.address) wiped.quiet.settings ∙ (spared r).address

    still : rested first.after ≡ first.after
    still = rested_still first.after (ap (λ (x : Plain). x.transfer) wiped.quiet.settings ∙ rested_closed core core_holds r (good core core_holds r l))

    unfilled : (buffer b (rested first.after).guarded).filled ≡ true → ⊥
    unfilled m = true≢false (sym m ∙ ap (λ (x : Reader). (buffer b x.guarded).filled) still ∙ ap (λ (c : Buffer). c.filled) wiped.buffer_blank)

    legal_after : Legal core core_holds first.after
    unfolding on
    legal_after = stays_legal core core_holds r l (received s lent)

    fit_after : T (fit_lent (capacity first.after.guarded) lent')
    fit_after = rw (call_capacity core core_holds r s lent) v'

    unlocked : locked first.after.plain ≡ false
    unlocked = ap locked wiped.quiet.settings ∙ (spared r).lock ∙ u

    gone : (code : ℕ) → Says (rested first.after) code s' lent' next → Gone b code
    gone code a =
        record {
          told = subst (λ (x : List ℕ). Replies (acknowledge x 0x00 []) s lent first) (spared r).address wiped.quiet.told;
          bytes = ap (λ (c : Buffer). c.bytes) wiped.buffer_blank;
          filled = ap (λ (c : Buffer). c.filled) wiped.buffer_blank;
          origin = ap (λ (c : Buffer). c.origin) wiped.buffer_blank;
          answered = subst (λ (x : Reader). Says x code s' lent' next) still a;
        }

    -- "the next UpChar" sends nothing
    pub up_after_delete : Asks s' (up_char b) → Gone b 0x0d
    up_after_delete h =
        gone 0x0d (((rows first.after s' lent' legal_after.legal fit_after unlocked (up_char b) (ap (λ (a : List ℕ). hear a s') address ∙ h)).0 i).1 unfilled)

    -- so a host that loads a page, deletes it to replace it, and stores the buffer again, has to download first
    pub store_after_delete : Asks s' (store b q) → Gone b 0x0c
    store_after_delete h =
        gone 0x0c
        ((((rows first.after s' lent' legal_after.legal fit_after unlocked (store b q) (ap (λ (a : List ℕ). hear a s') address ∙ h)).0 i).0
        (subst (λ (x : Reader). q < pages x) (sym still) wiped.page_there)).1 unfilled)
