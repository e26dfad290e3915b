-- No command of a legal reader looks at the bytes of a vacant page: of two readers that are alike but for those, every call and line switch tells the same, and they stay alike.
use mathlib.Core.Bool.{Bool, true, false, ◌||◌, not, cond, ◌&&◌}
use mathlib.Core.Path.{◌≡◌, refl, sym, ap, ◌∙◌, subst}
use mathlib.Core.List.{List}
use Prim.Native.Nat.{ℕ, zero, suc, ◌+◌, ◌-◌, ◌*◌, ◌≤◌, ◌<◌}
use native.Mathlib.Omega.{arith}
use native.Mathlib.Decide.{dec_le, dec_lt}
use lib.Dec.{eqb}
use borrow.Author.Tests.{ne_eqb}
use lib.ListN.{length, length-replicate}
use Rattle.protocol.specs.Bytes.{part, zeros, lay, follow}
use Rattle.protocol.specs.Tests.{verdict, among}
use Rattle.protocol.specs.Index.{bit, stored, set_bit, clear_bits}
use Rattle.protocol.specs.Reader.{Transfer, closed, opened, unfit, Plain, Reader, capacity, locked, buffer_of, with_library, with_notepad, with_buffer, without_pages, with_found, contents, reader}
use Rattle.protocol.specs.Commands.{Barred, search_for, store, load_char, up_char, down_char, delet_char, empty, set_sys_para, set_password, set_address, write_notepad, read_notepad, templete_num, read_index_table, free, barred, Order, damaged, unknown, misfit, command}
use Rattle.protocol.specs.Numbers.{password_first}
use Rattle.protocol.specs.Finder.{find_of, used_of}
use Rattle.protocol.specs.Data.{acknowledge}
use Rattle.protocol.specs.Search.{Chip, search_of}
use Rattle.protocol.specs.Table.{Effect, keep, fill_page, erase, erase_all, fill_buffer, await, note, remember, settle, Row, rule, apply, free_rule, public_of}
use Rattle.protocol.specs.Step.{Heard, nothing, order, piece, hear, Said, silence, says, carry_as, carry, carry_free, obey, heed, ended, rested, fits, take_as, take_in, answer, step_of, wiped, switched}
use Rattle.protocol.specs.Call.{Shape, Lent, Ended, fit_library, fit_buffers, fit_lengths, fit_transfer, fit_origins, sound, refusal_of, refused, carried, call_as, call_of, switch_refusal, switch_as, switch_of}
use Rattle.protocol.specs.Dialogue.{Event, received, switch, on}
use Rattle.protocol.proofs.Laws.Logic.{verdict_passed}
use Rattle.protocol.proofs.Laws.Lists.{length_lay, inside_lay}
use Rattle.protocol.proofs.Laws.Index.{stored_with, stored_span, not_among}
use Rattle.protocol.proofs.Laws.Commands.{LongHeard, long_heard, tests_numbered}
use Rattle.protocol.proofs.Laws.Effects.{away}
use Rattle.protocol.proofs.Laws.Answers.{spared}
use Rattle.protocol.proofs.Laws.Legal.{buffer_long, Good, fine_of}
use Rattle.protocol.proofs.Laws.Proper.{Proper}
use Rattle.protocol.proofs.Promises.Words.Told.{page, has}
use Rattle.protocol.proofs.Promises.Refusals.StaysLegal.{Legal, good, good_rested, rested_closed, row_proper}

-- two readers alike but for the bytes of vacant pages
pub record AlikeStored (a b : Reader) : Type 0 where
  pub plain : a.plain ≡ b.plain
  pub index : a.guarded.index ≡ b.guarded.index
  pub notepad : a.guarded.notepad ≡ b.guarded.notepad
  pub buffer1 : a.guarded.buffer1 ≡ b.guarded.buffer1
  pub buffer2 : a.guarded.buffer2 ≡ b.guarded.buffer2
  pub found : a.guarded.found ≡ b.guarded.found
  pub long : length a.guarded.templates ≡ length b.guarded.templates
  pub pages : (q : ℕ) → has b q ≡ true → page a q ≡ page b q

-- two calls that tell the same and leave readers that are alike
pub record ToldAlike (a b : Ended) : Type 0 where
  pub told : a.told ≡ b.told
  pub after : AlikeStored a.after b.after

-- two answers of which that holds
record SaidAlike (a b : Said) : Type 0 where
  reply : a.reply ≡ b.reply
  after : AlikeStored a.after b.after

-- ---- a reader with other templates

-- templates u as long as t, with the same bytes in each page that is stored by the index x
record Shared (u t x : List ℕ) : Type 0 where
  long : length u ≡ length t
  pages : (q : ℕ) → stored x q ≡ true → part (512 * q) 512 u ≡ part (512 * q) 512 t

abbrev SharedBy : List ℕ → Reader → Type 0
SharedBy u r = Shared u r.guarded.templates r.guarded.index

abbrev beside : List ℕ → Reader → Reader
beside u r = reader r.plain (with_library u r.guarded.index r.guarded)

alike : (u : List ℕ) (r : Reader) → SharedBy u r → AlikeStored (beside u r) r
unfolding with_library stored bit
alike u r k = record { plain = refl; index = refl; notepad = refl; buffer1 = refl; buffer2 = refl; found = refl; long = k.long; pages = k.pages }

-- every reader that is alike is such a one
alike_beside : (a b : Reader) → AlikeStored a b → a ≡ beside a.guarded.templates b
unfolding with_library
alike_beside a b k j = reader (k.plain j) (contents a.guarded.templates (k.index j) (k.notepad j) (k.buffer1 j) (k.buffer2 j) (k.found j))

-- ---- refusals and rows see how long the templates are, and no more of them

module _ (u : List ℕ) (r : Reader) (long : length u ≡ length r.guarded.templates) where
  refusal_alike : (σ : Shape) (lent : Lent) → refusal_of σ (beside u r) lent ≡ refusal_of σ r lent
  unfolding refusal_of fit_lengths fit_library fit_buffers sound fit_origins fit_transfer capacity with_library buffer_of
  refusal_alike σ lent = rw (long, go r.plain.transfer) refl
    where
      go : (t : Transfer) → fit_transfer r.plain (with_library u r.guarded.index r.guarded) t ≡ fit_transfer r.plain r.guarded t
      go closed = refl
      go (opened w n) = refl
      go (unfit b n m) = refl

  public_alike : public_of (beside u r) ≡ public_of r
  unfolding public_of capacity with_library
  public_alike = rw long refl

  rule_alike : (χ : Chip) (c : Barred) → rule χ (beside u r) c ≡ rule χ r c
  unfolding rule with_library capacity search_of buffer_of
  rule_alike χ (search_for b p n) = rw long refl
  rule_alike χ (store b p) = rw long refl
  rule_alike χ (load_char b p) = rw long refl
  rule_alike χ (up_char b) = refl
  rule_alike χ (down_char b) = refl
  rule_alike χ (delet_char p n) = rw long refl
  rule_alike χ empty = refl
  rule_alike χ (set_sys_para n v) = refl
  rule_alike χ (set_password w) = refl
  rule_alike χ (set_address a) = refl
  rule_alike χ (write_notepad p b) = refl
  rule_alike χ (read_notepad p) = refl
  rule_alike χ templete_num = refl
  rule_alike χ (read_index_table p) = refl

-- ---- what an effect writes goes into both, and the page that it reads is stored

-- n pages laid over both from p on, and an index y by which no other page is stored than by x
shared_lay : (u t x y b : List ℕ) (p n : ℕ) → Shared u t x → length b ≡ 512 * n → 512 * (p + n) ≤ length t
    → ((q : ℕ) → (p ≤ q → q < p + n → ⊥) → stored y q ≡ true → stored x q ≡ true) → Shared (lay (512 * p) b u) (lay (512 * p) b t) y
shared_lay u t x y b p n k e h o =
    record {
      long = length_lay (512 * p) b u (omega (arith, k.long)) ∙ k.long ∙ sym (length_lay (512 * p) b t (omega arith));
      pages = λ q s. go q s (dec_le p q) (dec_lt q (p + n));
    }
  where
    other : (q : ℕ) → stored y q ≡ true → (p ≤ q → q < p + n → ⊥) → part (512 * q) 512 (lay (512 * p) b u) ≡ part (512 * q) 512 (lay (512 * p) b t)
    other q s out = away u b p n e (omega (arith, k.long)) q out ∙ k.pages q (o q out s) ∙ sym (away t b p n e h q out)

    go : (q : ℕ) → stored y q ≡ true → Dec (p ≤ q) → Dec (q < p + n) → part (512 * q) 512 (lay (512 * p) b u) ≡ part (512 * q) 512 (lay (512 * p) b t)
    go q s (yes a) (yes c) =
        let at : 512 * q ≡ 512 * p + 512 * (q - p) = omega arith in
        rw at
        (inside_lay (512 * p) b u (omega (arith, k.long)) (512 * (q - p)) 512 (omega arith) ∙ sym (inside_lay (512 * p) b t (omega arith) (512 * (q - p)) 512 (omega arith)))
    go q s (yes a) (no c) = other q s (λ l m. c m)
    go q s (no a) c = other q s (λ l m. a l)

module _ (σ : Shape) (ok : σ.most ≤ 8 * σ.indexed) where
  module _ (u : List ℕ) (r : Reader) (k : SharedBy u r) (f : Good σ ok r) where
    abbrev x : List ℕ
    x = r.guarded.index

    effect_alike : (e : Effect) → Proper σ ok r e → AlikeStored (apply e (beside u r)) (apply e r)
    unfolding apply with_library with_notepad with_buffer without_pages with_found buffer_of capacity
    effect_alike keep m = alike u r k
    effect_alike (fill_page w p) m =
        let b : List ℕ = (buffer_of w r.guarded).bytes in
        let bit : (q : ℕ) → stored (set_bit x p) q ≡ (eqb p q || stored x q) = stored_with x f.typed.index p (omega (arith, f.shelf.wide, f.shelf.high, m.0)) in
        alike (lay (512 * p) b u) (apply (fill_page w p) r)
        (shared_lay u r.guarded.templates x (set_bit x p) b p 1 k (buffer_long w r.guarded f.buffers) (omega (arith, f.shelf.long, m.0))
        (λ q o s. ap (λ (t : Bool). t || stored x q) (sym (ne_eqb p q (λ e. o (omega arith) (omega arith)))) ∙ sym (bit q) ∙ s))
    effect_alike (erase p n) m =
        let span : (q : ℕ) → stored (clear_bits x p n) q ≡ (not (among p n q) && stored x q) = stored_span x p n (fine_of σ ok r f) (omega (arith, f.shelf.high)) in
        alike (lay (512 * p) (zeros (512 * n)) u) (apply (erase p n) r)
        (shared_lay u r.guarded.templates x (clear_bits x p n) (zeros (512 * n)) p n k (length-replicate (512 * n) 0) (omega (arith, f.shelf.long))
        (λ q o s. ap (λ (t : Bool). not t && stored x q) (sym (not_among p n q o)) ∙ sym (span q) ∙ s))
    effect_alike erase_all m = rw k.long (alike (zeros (length r.guarded.templates)) (apply erase_all r) record { long = refl; pages = λ q s. refl })
    effect_alike (fill_buffer w p) m = rw (k.pages p m.1) (alike u (apply (fill_buffer w p) r) k)
    effect_alike (await w) m = alike u (apply (await w) r) k
    effect_alike (note i b) m = alike u (apply (note i b) r) k
    effect_alike (remember s) m = alike u (apply (remember s) r) k
    effect_alike (settle p) m = alike u (apply (settle p) r) k

    -- ---- an order, with no transfer open

    heed_alike : (χ : Chip) → r.plain.transfer ≡ closed → (o : Order) → LongHeard (order o) → SaidAlike (heed χ (beside u r) o) (heed χ r o)
    unfolding heed obey says carry carry_as carry_free
    heed_alike χ z damaged l = record { reply = refl; after = alike u r k }
    heed_alike χ z unknown l = record { reply = refl; after = alike u r k }
    heed_alike χ z misfit l = record { reply = refl; after = alike u r k }
    heed_alike χ z (command (free c)) l =
        rw (public_alike u r k.long) record { reply = refl; after = alike u (reader (free_rule (public_of r) c).plain r.guarded) k }
    heed_alike χ z (command (barred c)) l = rw (rule_alike u r k.long χ c) (go (locked r.plain) refl)
      where
        w : Row
        w = rule χ r c

        row : locked r.plain ≡ false → (n : ℕ) → verdict w.tests ≡ n → SaidAlike (carry_as (beside u r) w n) (carry_as r w n)
        row a zero v =
            let h = effect_alike w.effect (row_proper σ ok χ r z f a c l (verdict_passed w.tests (tests_numbered χ r c) v)) in
            record { reply = ap (λ (p : Plain). follow (acknowledge p.address w.code w.bytes) w.behind) h.plain; after = h }
        row a (suc n) v = record { reply = refl; after = alike u r k }

        go : (b : Bool) → locked r.plain ≡ b → SaidAlike (cond b (says (beside u r) password_first) (carry (beside u r) w)) (cond b (says r password_first) (carry r w))
        go true a = record { reply = refl; after = alike u r k }
        go false a = row a (verdict w.tests) refl

  module _ (u : List ℕ) (r : Reader) (k : SharedBy u r) (f : Good σ ok r) where
    rested_beside : rested (beside u r) ≡ beside u (rested r)
    unfolding rested ended with_library with_buffer
    rested_beside = go r.plain.transfer
      where
        go : (t : Transfer) → ended (beside u r) t ≡ beside u (ended r t)
        go closed = refl
        go (opened w got) = refl
        go (unfit b n m) = refl

    -- ---- a data packet, and any answer

    take_alike : (last right : Bool) (content : List ℕ) (t : Transfer) → SaidAlike (take_in (beside u r) last right content t) (take_in r last right content t)
    unfolding take_in take_as silence says ended with_library with_buffer buffer_of
    take_alike last right content closed = record { reply = refl; after = alike u r k }
    take_alike last right content (unfit b n m) = record { reply = refl; after = alike u r k }
    take_alike last right content (opened w got) = go (fits r.plain got last right content) last
      where
        go : (b last : Bool) → SaidAlike (take_as (beside u r) w got content b last) (take_as r w got content b last)
        go false last = record { reply = refl; after = alike u (ended r (opened w got)) k }
        go true false = record { reply = refl; after = alike u (take_as r w got content true false).after k }
        go true true = record { reply = refl; after = alike u (take_as r w got content true true).after k }

    answer_alike : (χ : Chip) (h : Heard) → LongHeard h → SaidAlike (answer χ (beside u r) h) (answer χ r h)
    unfolding answer silence
    answer_alike χ nothing l = record { reply = refl; after = alike u r k }
    answer_alike χ (order o) l =
        rw rested_beside (heed_alike u (rested r) (rw ((spared r).templates, (spared r).index) k) (good_rested σ ok r f) χ (rested_closed σ ok r f) o l)
    answer_alike χ (piece last right content) l = take_alike last right content r.plain.transfer

    -- ---- a call, and a line switch

    event_alike : (e : Event) → ToldAlike (on σ (beside u r) e) (on σ r e)
    unfolding on call_of call_as refused carried step_of switch_of switch_refusal switch_as switched wiped fit_buffers with_library
    event_alike (received s lent) = rw (refusal_alike u r k.long σ lent) (go (refusal_of σ r lent))
      where
        a : SaidAlike (answer lent.chip (beside u r) (hear r.plain.address s)) (answer lent.chip r (hear r.plain.address s))
        a = answer_alike lent.chip (hear r.plain.address s) (long_heard r.plain.address s)

        go : (n : ℕ) → ToldAlike (call_as (beside u r) s lent n) (call_as r s lent n)
        go zero =
            record {
              told = ap (λ (b : List ℕ). record { refusal = 0; used = used_of (find_of s); length = length b; room = lay 0 b lent.room }) a.reply;
              after = a.after;
            }
        go (suc n) = record { told = refl; after = alike u r k }
    event_alike switch = go (switch_refusal r.guarded)
      where
        go : (n : ℕ) → ToldAlike (switch_as (beside u r) n) (switch_as r n)
        go zero = record { told = refl; after = alike u (switched r) k }
        go (suc n) = record { told = refl; after = alike u r k }

  pub told_alike : (a b : Reader) → Legal σ ok b → AlikeStored a b → (e : Event) → ToldAlike (on σ a e) (on σ b e)
  unfolding stored bit
  told_alike a b l k e =
      subst (λ (c : Reader). ToldAlike (on σ c e) (on σ b e)) (sym (alike_beside a b k))
      (event_alike a.guarded.templates b record { long = k.long; pages = k.pages } (good σ ok b l) e)
