-- Request [6], for the vaults in use: a whole reader whose index is brought over. What was legal is legal, it goes on as it was, the valid count goes on, and
-- the library may grow.
use mathlib.Core.Bool.{Bool, true, false, true≢false, cond}
use mathlib.Core.Path.{◌≡◌, refl, ap, ◌∙◌, sym}
use mathlib.Core.List.{List, [], ◌∷◌, ◌++◌}
use Prim.Native.Nat.{ℕ, zero, suc, ◌+◌, ◌*◌, ◌/◌, ◌≤◌, ◌<◌, ◌-◌, ◌%◌, ◌^◌}
use native.Mathlib.Omega.{arith}
use native.Mathlib.Decide.{dec_lt}
use lib.Dec.{T, lit≤, ltb→lt}
use borrow.Author.Tests.{lt-ltb}
use lib.ListN.{length, replicate, set, replicate-append-replicate}
use lib.Seq.{set-append_left}
use Rattle.protocol.specs.Numbers.{password_first}
use Rattle.protocol.specs.Bytes.{zeros, byte_at, part}
use Rattle.protocol.specs.Tests.{count_below, verdict}
use Rattle.protocol.specs.Index.{bit, stored, set_bits, bits, set_bit, clear_bit, clear_bits}
use Rattle.protocol.specs.BringOver.{bring_over}
use Rattle.protocol.specs.Reader.{Transfer, closed, opened, unfit, Plain, Guarded, Reader, capacity, buffer_of, locked, with_library, with_buffer, without_pages, with_notepad, contents, reader, with_found}
use Rattle.protocol.specs.Search.{Chip, eligible, search_of}
use Rattle.protocol.specs.Commands.{read_index_table, barred, command, Barred, search_for, store, load_char, up_char, down_char, delet_char, empty, set_sys_para, set_password, set_address, write_notepad, read_notepad, templete_num, Command, free, Order, damaged, unknown, misfit}
use Rattle.protocol.specs.Table.{Effect, keep, fill_page, erase, erase_all, fill_buffer, await, note, remember, settle, apply, Row, rule, public_of}
use Rattle.protocol.specs.Step.{order, hear, step_of, wiped, switched, Heard, nothing, piece, Said, silence, says, carry_as, carry, carry_free, obey, heed, ended, rested, fits, take_as, take_in, answer}
use Rattle.protocol.specs.Call.{Shape, core, fit_buffers, fit_transfer, Typed, Ended, refused, carried, reply_of, call_of, switch_refusal, switch_as, switch_of, fit_chip, fit_room}
use Rattle.protocol.specs.Dialogue.{Event, received, switch, on, finally}
use Rattle.dialogues.specs.History.{Exchange, exchanges, Act, history, live}
use Rattle.protocol.proofs.Laws.Logic.{and_l, and_r, verdict_passed}
use Rattle.protocol.proofs.Laws.Lists.{part_left, part_right, part_zeros}
use Rattle.protocol.proofs.Laws.Index.{Fine, length_over, stored_over, fine_over, clear_above, clear_to_lem, byte_over, stored_past}
use Rattle.protocol.proofs.Laws.Count.{count_over}
use Rattle.protocol.proofs.Laws.Best.{best_ext}
use Rattle.protocol.proofs.Laws.Answers.{call_legal, call_unfit, call_short, spared}
use Rattle.protocol.proofs.Laws.Legal.{Good, good_of, legal_of_lem, fine_of}
use Rattle.protocol.proofs.Promises.Words.Told.{pages, page, has}
use Rattle.protocol.proofs.Promises.Refusals.LegalMeans.{core_holds}
use Rattle.dialogues.proofs.Library.ValidCount.{Tells, tells_none, tells_count, tells_ever}
use Rattle.protocol.proofs.Promises.Refusals.Thousand.{bring_refusals}
use Rattle.protocol.proofs.Promises.Refusals.StaysLegal.{Legal, stays_legal}

-- ---- an index with zero bytes behind it

with_over : (x : List ℕ) (n p : ℕ) → p / 8 < length x → set_bit (x ++ zeros n) p ≡ set_bit x p ++ zeros n
unfolding set_bit
with_over x n p h = rw (stored_over x n p, byte_over x n (p / 8)) (go (stored x p))
  where
    v : ℕ
    v = byte_at x (p / 8) + 2 ^ (p % 8)

    go : (b : Bool) → cond b (x ++ zeros n) (set (x ++ zeros n) (p / 8) v) ≡ cond b x (set x (p / 8) v) ++ zeros n
    go true = refl
    go false = set-append_left x (zeros n) (p / 8) v h

less_over : (x : List ℕ) (n p : ℕ) → clear_bit (x ++ zeros n) p ≡ clear_bit x p ++ zeros n
unfolding clear_bit
less_over x n p = rw (stored_over x n p, byte_over x n (p / 8)) (go (stored x p) refl)
  where
    v : ℕ
    v = byte_at x (p / 8) - 2 ^ (p % 8)

    go : (b : Bool) → stored x p ≡ b → cond b (set (x ++ zeros n) (p / 8) v) (x ++ zeros n) ≡ cond b (set x (p / 8) v) x ++ zeros n
    go true e = set-append_left x (zeros n) (p / 8) v (inside (dec_lt p (bits x)))
      where
        inside : Dec (p < bits x) → p / 8 < length x
        inside (yes h) = omega arith
        inside (no h) = absurd (true≢false (sym e ∙ stored_past x p (omega arith)))
    go false e = refl

span_over : (x : List ℕ) (n p m : ℕ) → clear_bits (x ++ zeros n) p m ≡ clear_bits x p m ++ zeros n
unfolding clear_bits
span_over x n p zero = refl
span_over x n p (suc m) = ap (λ (y : List ℕ). clear_bits y (suc p) m) (less_over x n p) ∙ span_over (clear_bit x p) n (suc p) m

zeros_over : (x : List ℕ) (n : ℕ) → zeros (length (x ++ zeros n)) ≡ zeros (length x) ++ zeros n
zeros_over x n = rw (length_over x n) (sym (replicate-append-replicate (length x) n 0))

-- ---- a reader with such an index: it answers what it would, but for ReadIndexTable past the old end, and is left as it would be, with as many more

module _ (n : ℕ) (χ : Chip) where
  abbrev longer : Reader → Reader
  longer r = let g = r.guarded in reader r.plain (contents g.templates (g.index ++ zeros n) g.notepad g.buffer1 g.buffer2 g.found)

  abbrev said_longer : Said → Said
  said_longer a = record { reply = a.reply; after = longer a.after }

  -- what an effect needs, so that no bit is set past the index
  abbrev Inside : Reader → Effect → Type 0
  Inside r keep = Unit {0}
  Inside r (fill_page w p) = p / 8 < length r.guarded.index
  Inside r (erase p m) = Unit {0}
  Inside r erase_all = Unit {0}
  Inside r (fill_buffer w p) = Unit {0}
  Inside r (await w) = Unit {0}
  Inside r (note i b) = Unit {0}
  Inside r (remember f) = Unit {0}
  Inside r (settle p) = Unit {0}

  apply_longer : (e : Effect) (r : Reader) → Inside r e → apply e (longer r) ≡ longer (apply e r)
  unfolding apply with_library with_buffer with_notepad without_pages with_found buffer_of capacity
  apply_longer keep r i = refl
  apply_longer (fill_page w p) r i = rw (with_over r.guarded.index n p i)
  apply_longer (erase p m) r i = rw (span_over r.guarded.index n p m)
  apply_longer erase_all r i = rw (zeros_over r.guarded.index n)
  apply_longer (fill_buffer w p) r i = refl
  apply_longer (await w) r i = refl
  apply_longer (note k b) r i = refl
  apply_longer (remember f) r i = refl
  apply_longer (settle p) r i = refl

  -- ---- a row

  carry_longer : (r : Reader) (w v : Row) → v ≡ w → (verdict w.tests ≡ 0 → Inside r w.effect) → carry (longer r) v ≡ said_longer (carry r w)
  unfolding carry carry_as says
  carry_longer r w v e i = ap (carry (longer r)) e ∙ go (verdict w.tests) refl
    where
      go : (k : ℕ) → verdict w.tests ≡ k → carry_as (longer r) w k ≡ said_longer (carry_as r w k)
      go zero f = rw (apply_longer w.effect r (i f))
      go (suc k) f = refl

  -- ReadIndexTable alone tells how long the index is, and only past its end
  abbrev Within : Reader → ℕ → Type 0
  Within r p = 32 * p + 32 ≤ length r.guarded.index

  -- no more pages are eligible
  search_longer : (r : Reader) (p m : ℕ) → search_of χ r.plain.level (longer r).guarded p m ≡ search_of χ r.plain.level r.guarded p m
  unfolding search_of eligible capacity
  search_longer r p m =
      best_ext _ _ _ _ _ (λ q. let h = stored_over r.guarded.index n q in cc)

  rule_longer : (r : Reader) (c : Barred) → ((p : ℕ) → c ≡ read_index_table p → Within r p) → rule χ (longer r) c ≡ rule χ r c
  unfolding rule capacity buffer_of
  rule_longer r (search_for b p m) d = rw (search_longer r p m) refl
  rule_longer r (store b p) d = rw (stored_over r.guarded.index n p)
  rule_longer r (load_char b p) d = rw (stored_over r.guarded.index n p)
  rule_longer r (up_char b) d = refl
  rule_longer r (down_char b) d = refl
  rule_longer r (delet_char p m) d = refl
  rule_longer r empty d = refl
  rule_longer r (set_sys_para k v) d = refl
  rule_longer r (set_password w) d = refl
  rule_longer r (set_address a) d = refl
  rule_longer r (write_notepad p b) d = refl
  rule_longer r (read_notepad p) d = refl
  rule_longer r templete_num d = rw (count_over r.guarded.index n)
  rule_longer r (read_index_table p) d =
      let x : List ℕ = r.guarded.index in
      let h : 32 * p + 32 ≤ length x = d p refl in
      rw (lt-ltb p (length (x ++ zeros n) / 32) (omega (arith, length_over x n)), lt-ltb p (length x / 32) (omega arith), part_left x (zeros n) (32 * p) 32 h)

  -- a bit for each page
  module _ (r : Reader) (roomy : capacity r.guarded ≤ 8 * length r.guarded.index) where
    row_longer : (c : Barred) → ((p : ℕ) → c ≡ read_index_table p → Within r p) → carry (longer r) (rule χ (longer r) c) ≡ said_longer (carry r (rule χ r c))
    unfolding rule
    row_longer c d = carry_longer r (rule χ r c) (rule χ (longer r) c) (rule_longer r c d) (inside c)
      where
        inside : (c : Barred) → verdict (rule χ r c).tests ≡ 0 → Inside r (rule χ r c).effect
        inside (store b p) v =
            let t = verdict_passed _ tt v in
            let l : p < capacity r.guarded = ltb→lt p (capacity r.guarded) (search (and_l, and_r)) in
            omega (arith, roomy)
        inside (load_char b p) v = tt
        inside (up_char b) v = tt
        inside (down_char b) v = tt
        inside (delet_char p m) v = tt
        inside empty v = tt
        inside (set_sys_para k u) v = tt
        inside (search_for b p m) v = tt
        inside (set_password w) v = tt
        inside (set_address a) v = tt
        inside (write_notepad p b) v = tt
        inside (read_notepad p) v = tt
        inside templete_num v = tt
        inside (read_index_table p) v = tt

    obey_longer : (c : Command) → ((p : ℕ) → c ≡ barred (read_index_table p) → Within r p) → obey χ (longer r) c ≡ said_longer (obey χ r c)
    unfolding obey says carry_free public_of capacity
    obey_longer (free c) d = refl
    obey_longer (barred c) d = go (locked r.plain)
      where
        go : (b : Bool) → cond b (says (longer r) password_first) (carry (longer r) (rule χ (longer r) c)) ≡ said_longer (cond b (says r password_first) (carry r (rule χ r c)))
        go true = refl
        go false = row_longer c (λ p e. d p (ap barred e))

    heed_longer : (o : Order) → ((p : ℕ) → o ≡ command (barred (read_index_table p)) → Within r p) → heed χ (longer r) o ≡ said_longer (heed χ r o)
    unfolding heed says
    heed_longer damaged d = refl
    heed_longer unknown d = refl
    heed_longer misfit d = refl
    heed_longer (command c) d = obey_longer c (λ p e. d p (ap command e))

  -- ---- an answer

  rested_longer : (r : Reader) → rested (longer r) ≡ longer (rested r)
  unfolding rested ended with_buffer
  rested_longer r = go r.plain.transfer
    where
      go : (t : Transfer) → ended (longer r) t ≡ longer (ended r t)
      go closed = refl
      go (opened w k) = refl
      go (unfit b k m) = refl

  take_longer : (r : Reader) (last right : Bool) (content : List ℕ) (t : Transfer) → take_in (longer r) last right content t ≡ said_longer (take_in r last right content t)
  unfolding take_in take_as silence says ended with_buffer buffer_of
  take_longer r last right content closed = refl
  take_longer r last right content (opened w got) = go (fits r.plain got last right content) last
    where
      go : (b l : Bool) → take_as (longer r) w got content b l ≡ said_longer (take_as r w got content b l)
      go false l = refl
      go true false = refl
      go true true = refl
  take_longer r last right content (unfit b k m) = refl

  answer_longer : (r : Reader) → capacity r.guarded ≤ 8 * length r.guarded.index → (h : Heard)
      → ((p : ℕ) → h ≡ order (command (barred (read_index_table p))) → Within r p) → answer χ (longer r) h ≡ said_longer (answer χ r h)
  unfolding answer silence capacity
  answer_longer r roomy nothing d = refl
  answer_longer r roomy (order o) d =
      ap (λ (t : Reader). heed χ t o) (rested_longer r) ∙ heed_longer (rested r) (rw ((spared r).templates, (spared r).index) roomy) o (λ p e. rw (spared r).index (d p (ap order e)))
  answer_longer r roomy (piece last right content) d = take_longer r last right content r.plain.transfer

-- ---- a reader brought over

-- a reader before request [6]: C from 1 to 256, index 32 bytes, notepad 512
abbrev pub before : Shape
before = record { least = 1; most = 256; indexed = 32; noted = 512 }

pub before_holds : before.most ≤ 8 * before.indexed
before_holds = lit≤ tt

-- r with its index brought over; all else as it is
abbrev pub brought : Reader → Reader
brought r =
    let g = r.guarded in
    record {
      plain = r.plain;
      guarded = record { templates = g.templates; index = g.index ++ replicate 96 0; notepad = g.notepad; buffer1 = g.buffer1; buffer2 = g.buffer2; found = g.found };
    }

-- by the call
pub brings : (r : Reader) (index : List ℕ) → length r.guarded.index ≡ 32 → length index ≡ 128 → (bring_over r.guarded.index index).index ≡ (brought r).guarded.index
brings r index e d = (((bring_refusals r.guarded.index index).0 e).0 d).1

-- a transfer asks for nothing of the library
pub transfer_fits : (p : Plain) (g : Guarded) (t x : List ℕ) (m : Transfer) → T (fit_transfer p g m)
    → T (fit_transfer p record { templates = t; index = x; notepad = g.notepad; buffer1 = g.buffer1; buffer2 = g.buffer2; found = g.found } m)
unfolding fit_transfer buffer_of
transfer_fits p g t x closed h = h
transfer_fits p g t x (opened w got) h = h
transfer_fits p g t x (unfit b k m) h = h

-- it was legal, and it is legal
pub brings_legal : (r : Reader) → Legal before before_holds r → Legal core core_holds (brought r)
unfolding core capacity fit_buffers buffer_of
brings_legal r l =
    let x : List ℕ = r.guarded.index in
    let k : Good before before_holds r = good_of before before_holds r l.typed l.legal in
    let f : Fine 128 (x ++ zeros 96) = fine_over x 96 (fine_of before before_holds r k) in
    let y : Typed (brought r) = record { password = k.typed.password; address = k.typed.address; index = f.bytes } in
    record {
      typed = y;
      legal =
          legal_of_lem core core_holds (brought r)
          record {
            settings = k.settings;
            shelf = record { long = k.shelf.long; low = k.shelf.low; high = omega (arith, k.shelf.high); wide = f.long; notes = k.shelf.notes };
            buffers = k.buffers;
            transfer = transfer_fits r.plain r.guarded r.guarded.templates (x ++ zeros 96) r.plain.transfer k.transfer;
            clear = clear_to_lem (x ++ zeros 96) (capacity r.guarded) (λ q m h. stored_over x 96 q ∙ clear_above x (capacity r.guarded) k.clear q m);
            origins = λ w q e. let o = k.origins w q e in record { below = o.below; there = stored_over x 96 q ∙ o.there; filled = o.filled };
            typed = y;
          };
    }

-- ---- it goes on

-- a run and a line switch get what they would have got before, and leave what they would have left; but for ReadIndexTable from index page 1 on, which was 0Bh
abbrev pub AsBefore : Event → Type 0
AsBefore (received s lent) = (a : List ℕ) (p : ℕ) → hear a s ≡ order (command (barred (read_index_table p))) → p ≡ 0
AsBefore switch = Unit {0}

pub record SameEnd (old new : Ended) : Type 0 where
  pub told : new.told ≡ old.told
  pub after : new.after ≡ brought old.after

pub goes_on : (r : Reader) → Legal before before_holds r → (e : Event) → AsBefore e → SameEnd (on before r e) (on core (brought r) e)
unfolding on carried refused step_of switch_of switch_as switch_refusal fit_buffers switched wiped capacity
goes_on r l (received s lent) d = go (fit_chip (capacity r.guarded) lent.chip) (fit_room lent.room) refl refl
  where
    k : Good before before_holds r
    k = good_of before before_holds r l.typed l.legal

    go : (a b : Bool) → fit_chip (capacity r.guarded) lent.chip ≡ a → fit_room lent.room ≡ b → SameEnd (call_of before r s lent) (call_of core (brought r) s lent)
    go true true c u =
        let a = answer_longer 96 lent.chip r (omega (arith, k.shelf.high, k.shelf.wide)) (hear r.plain.address s) (λ p e. omega (arith, d r.plain.address p e, k.shelf.wide)) in
        rw (call_legal before r s lent l.legal (rw (c, u) tt), call_legal core (brought r) s lent (brings_legal r l).legal (rw (c, u) tt), a) record { told = refl; after = refl }
    go true false c u =
        rw (call_short before r s lent l.legal (rw c tt) u, call_short core (brought r) s lent (brings_legal r l).legal (rw c tt) u) record { told = refl; after = refl }
    go false b c u = rw (call_unfit before r s lent l.legal c, call_unfit core (brought r) s lent (brings_legal r l).legal c) record { told = refl; after = refl }
goes_on r l switch d = go (switch_refusal r.guarded)
  where
    go : (n : ℕ) → SameEnd (switch_as r n) (switch_as (brought r) n)
    go zero = record { told = refl; after = refl }
    go (suc n) = record { told = refl; after = refl }

-- so does every sequence of them: the host gets the same replies
abbrev pub AllAsBefore : List Event → Type 0
AllAsBefore [] = Unit {0}
AllAsBefore (e ∷ es) = AsBefore e × AllAsBefore es

pub goes_on_ever : (r : Reader) → Legal before before_holds r → (es : List Event) → AllAsBefore es
    → (exchanges core (brought r) es ≡ exchanges before r es) × (finally core (brought r) es ≡ brought (finally before r es))
unfolding exchanges finally on
goes_on_ever r l [] d = (refl, refl)
goes_on_ever r l (received s lent ∷ es) d =
    let m : SameEnd (call_of before r s lent) (call_of core (brought r) s lent) = goes_on r l (received s lent) d.0 in
    let n = goes_on_ever (call_of before r s lent).after (stays_legal before before_holds r l (received s lent)) es d.1 in
    rw (m.told, m.after) (ap (λ (x : List Exchange). record { run = s; reply = reply_of (call_of before r s lent).told } ∷ x) n.0, n.1)
goes_on_ever r l (switch ∷ es) d =
    let m : SameEnd (switch_of r) (switch_of (brought r)) = goes_on r l switch tt in
    rw m.after (goes_on_ever (switch_of r).after (stays_legal before before_holds r l switch) es d.1)

-- ---- the valid count goes on: from an empty library, over all that its host saw before and since

pub count_goes_on : (r : Reader) → r.guarded.index ≡ replicate 32 0 → (es fs : List Event)
    → set_bits (finally core (brought (finally before r es)) fs).guarded.index
    ≡ count_below (live (history (exchanges core (brought (finally before r es)) fs) (history (exchanges before r es) []))) 1024
unfolding core
count_goes_on r z es fs =
    let t : Reader = finally before r es in
    let acts : List Act = history (exchanges before r es) [] in
    let k : Tells 32 t.guarded.index acts = tells_ever before before_holds r [] (rw z (tells_none 32)) es in
    let j : Tells 128 (brought t).guarded.index acts =
    record { fine = fine_over t.guarded.index 96 k.fine; pages = λ q. stored_over t.guarded.index 96 q ∙ k.pages q }
    in
    tells_count 128 (finally core (brought t) fs).guarded.index (history (exchanges core (brought t) fs) acts) (tells_ever core core_holds (brought t) acts j fs)

-- ---- the library grows: "C goes up to 1000"

-- r with k zeroed pages behind its own
abbrev pub grown : ℕ → Reader → Reader
grown k r =
    let g = r.guarded in
    record {
      plain = r.plain;
      guarded = record { templates = g.templates ++ replicate (512 * k) 0; index = g.index; notepad = g.notepad; buffer1 = g.buffer1; buffer2 = g.buffer2; found = g.found };
    }

-- it is legal, if it was; its pages have their bytes, and every bit is as it was, so that the count is the same; those behind them are zero and not stored
pub record Grown (k : ℕ) (r : Reader) : Type 0 where
  pub legal : Legal core core_holds (grown k r)
  pub more : pages (grown k r) ≡ pages r + k
  pub same : (q : ℕ) → q < pages r → page (grown k r) q ≡ page r q
  pub bits : (q : ℕ) → has (grown k r) q ≡ has r q
  pub count : set_bits (grown k r).guarded.index ≡ set_bits r.guarded.index
  pub added : (q : ℕ) → pages r ≤ q → q < pages r + k → page (grown k r) q ≡ replicate 512 0
  pub vacant : (q : ℕ) → pages r ≤ q → has (grown k r) q ≡ false

pub grows : (k : ℕ) (r : Reader) → Legal core core_holds r → pages r + k ≤ 1000 → Grown k r
unfolding core capacity fit_buffers buffer_of stored bit
grows k r l few =
    let t : List ℕ = r.guarded.templates in
    let x : List ℕ = r.guarded.index in
    let g : Good core core_holds r = good_of core core_holds r l.typed l.legal in
    let long : length t ≡ 512 * (length t / 512) = g.shelf.long in
    let n : length (t ++ replicate (512 * k) 0) ≡ length t + 512 * k = length_over t (512 * k) in
    let c : length (t ++ replicate (512 * k) 0) / 512 ≡ length t / 512 + k = omega (arith, n, long) in
    let y : Typed (grown k r) = record { password = g.typed.password; address = g.typed.address; index = g.typed.index } in
    record {
      legal =
          record {
            typed = y;
            legal =
                legal_of_lem core core_holds (grown k r)
                record {
                  settings = g.settings;
                  shelf = record { long = omega (arith, n, long, c); low = omega (arith, c, g.shelf.low); high = omega (arith, c, few); wide = g.shelf.wide; notes = g.shelf.notes };
                  buffers = g.buffers;
                  transfer = transfer_fits r.plain r.guarded (t ++ replicate (512 * k) 0) x r.plain.transfer g.transfer;
                  clear = clear_to_lem x (capacity (grown k r).guarded) (λ q m h. clear_above x (capacity r.guarded) g.clear q (omega (arith, c, m)));
                  origins = λ w q e. let o = g.origins w q e in record { below = omega (arith, c, o.below); there = o.there; filled = o.filled };
                  typed = y;
                };
          };
      more = c;
      same = λ q h. part_left t (replicate (512 * k) 0) (512 * q) 512 (omega arith);
      bits = λ q. refl;
      count = refl;
      added = λ q m h.
          let i : ℕ = 512 * (q - length t / 512) in
          let e : 512 * q ≡ length t + i = omega (arith, long, m) in
          ap (λ (j : ℕ). part j 512 (t ++ replicate (512 * k) 0)) e ∙ part_right t (replicate (512 * k) 0) i 512 ∙ part_zeros i 512 (512 * k) (omega (arith, h, m));
      vacant = λ q m. clear_above x (capacity r.guarded) g.clear q m;
    }
