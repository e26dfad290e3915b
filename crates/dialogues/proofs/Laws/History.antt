-- The library and what its host saw: a law of every Store, DeletChar and Empty that was answered 00h is a law of every sequence of calls and
-- line switches.
use mathlib.Core.Bool.{Bool, true, false, not, cond}
use mathlib.Core.Path.{◌≡◌, refl, ap, ◌∙◌}
use mathlib.Core.Logic.{◌⊎◌, inl, inr}
use mathlib.Core.List.{List, [], ◌∷◌, ◌++◌}
use Prim.Native.Nat.{ℕ, zero, suc, ◌+◌, ◌*◌, ◌/◌, ◌≤◌, ◌<◌}
use native.Mathlib.Omega.{arith}
use lib.Dec.{T, leb→le, ltb→lt, eqb-suc-zero}
use lib.ListN.{length, length-replicate}
use Rattle.protocol.specs.declared.Found.{Found}
use Rattle.protocol.specs.declared.Found.TheVariants.{Noise, Unfinished, Unfit, Whole}
use Rattle.protocol.specs.Numbers.{page_bytes, done}
use Rattle.protocol.specs.Bytes.{two, zeros, same, lay, follow}
use Rattle.protocol.specs.Packet.{packet, address_at, identifier_at, right_at, content_at}
use Rattle.protocol.specs.Finder.{find_of}
use Rattle.protocol.specs.Index.{stored, set_bit, clear_bits}
use Rattle.protocol.specs.Reader.{Transfer, closed, opened, unfit, Reader, capacity, buffer_of, emptied, with_library, with_notepad, with_buffer, without_pages, with_found}
use Rattle.protocol.specs.Commands.{Barred, search_for, store, load_char, up_char, down_char, delet_char, empty, set_sys_para, set_password, set_address, write_notepad, read_notepad, templete_num, read_index_table, barred, command}
use Rattle.protocol.specs.Data.{acknowledge}
use Rattle.protocol.specs.Search.{Chip}
use Rattle.protocol.specs.Table.{second, rule, apply}
use Rattle.protocol.specs.Step.{Heard, nothing, order, hear_as, hear_at, hear, Said, silence, says, carry_as, carry_free, ended, rested, take_as, answer, step_of, switched, wiped}
use Rattle.protocol.specs.Call.{Shape, Lent, fit_buffers, fit_lengths, legal, Ended, reply_of, refused, carried, call_of, switch_refusal, switch_as, switch_of}
use Rattle.protocol.specs.Dialogue.{Event, received, switch, on, finally}
use Rattle.dialogues.specs.History.{exchanges, Act, put, cut, cut_all, acts_of, acts_in, addressee, asks, grants, acts_seen, history}
use Rattle.protocol.proofs.Laws.Logic.{T→false, and_l, and_r, passed}
use Rattle.protocol.proofs.Laws.Lists.{same_refl, same_eq, same_front, take_lay, length_lay}
use Rattle.protocol.proofs.Laws.Answers.{spared, answer_kinds, call_kinds}
use Rattle.protocol.proofs.Laws.Legal.{buffer_long, fit_buffer, Shelf, shelf}

-- templates t of c pages, and an index x of m bytes that has a bit for each
pub record Library (m : ℕ) (t x : List ℕ) (c : ℕ) : Type 0 where
  pub long : length t ≡ page_bytes * c
  pub wide : length x ≡ m
  pub small : c ≤ 8 * m

-- a law of templates t, index x and the acts that the host saw so far, kept by each act; a page is put where none is stored
pub record Keeps (m : ℕ) (P : List ℕ → List ℕ → List Act → Type 0) : Type 0 where
  pub puts : (t x : List ℕ) (old : List Act) → P t x old → (c : ℕ) → Library m t x c → (p : ℕ) (b : List ℕ) → p < c → length b ≡ page_bytes
      → stored x p ≡ false → P (lay (page_bytes * p) b t) (set_bit x p) (put p ∷ old)
  pub cuts : (t x : List ℕ) (old : List Act) → P t x old → (c : ℕ) → Library m t x c → (p n : ℕ) → p + n ≤ c
      → P (lay (page_bytes * p) (zeros (page_bytes * n)) t) (clear_bits x p n) (cut p n ∷ old)
  pub clears : (t x : List ℕ) (old : List Act) → P t x old → P (zeros (length t)) (zeros (length x)) (cut_all ∷ old)

-- ---- what is no bare 00h grants nothing

grants_nothing : (a : List ℕ) → grants a [] ≡ false
unfolding grants same acknowledge packet
grants_nothing a = refl

grants_other : (a : List ℕ) (k : ℕ) → grants a (acknowledge a (suc k) []) ≡ false
unfolding grants same acknowledge packet two
grants_other a k = rw (same_front, eqb-suc-zero k) refl

grants_done : (a : List ℕ) → grants a (acknowledge a done []) ≡ true
unfolding grants
grants_done a = same_refl (acknowledge a done [])

-- ---- an answer, and the acts that its host saw

module _ (m : ℕ) (P : List ℕ → List ℕ → List Act → Type 0) (law : Keeps m P) (χ : Chip) (r : Reader) (c : ℕ) (library : Library m r.guarded.templates r.guarded.index c)
    (fit : T (fit_buffers r.guarded)) (old : List Act) (k : P r.guarded.templates r.guarded.index old) (h : Heard) where
  -- templates t and index x after a reply
  abbrev After : List ℕ → List ℕ → List ℕ → Type 0
  After reply t x = P t x (cond (grants r.plain.address reply) (acts_in h) [] ++ old)

  -- nothing was asked for that changes a page
  unasked : (reply t x : List ℕ) → t ≡ r.guarded.templates → x ≡ r.guarded.index → acts_in h ≡ [] → After reply t x
  unasked reply t x d e n = rw (n, d, e) (go (grants r.plain.address reply))
    where
      go : (b : Bool) → P r.guarded.templates r.guarded.index (cond b [] [] ++ old)
      go true = k
      go false = k

  -- it was, and was not granted
  ungranted : (reply t x : List ℕ) → t ≡ r.guarded.templates → x ≡ r.guarded.index → grants r.plain.address reply ≡ false → After reply t x
  ungranted reply t x d e n = rw (n, d, e) k

  -- it was granted
  granted : (reply t x : List ℕ) (new : List Act) → acts_in h ≡ new → reply ≡ acknowledge (rested r).plain.address done [] → P t x (new ++ old) → After reply t x
  granted reply t x new n e p = rw (e, (spared r).address, grants_done r.plain.address, n) p

  -- the reader once an open transfer has ended
  abbrev u : Reader
  u = rested r

  held : P u.guarded.templates u.guarded.index old
  held = rw ((spared r).templates, (spared r).index) k

  library_held : Library m u.guarded.templates u.guarded.index c
  library_held = rw ((spared r).templates, (spared r).index) library

  capacity_held : capacity u.guarded ≡ c
  unfolding capacity
  capacity_held = omega (arith, library_held.long)

  fit_held : T (fit_buffers u.guarded)
  unfolding rested ended emptied
  fit_held = go r.plain.transfer
    where
      go : (t : Transfer) → T (fit_buffers (ended r t).guarded)
      go closed = fit
      go (opened w got) = fit_buffer w emptied r.guarded refl fit
      go (unfit b j m) = fit

  does_keeps : (d : Barred) → h ≡ order (command (barred d)) → T (passed (rule χ u d).tests)
      → After (carry_as u (rule χ u d) zero).reply (carry_as u (rule χ u d) zero).after.guarded.templates (carry_as u (rule χ u d) zero).after.guarded.index
  unfolding carry_as rule apply with_library with_notepad with_buffer without_pages with_found follow acts_in acts_of
  does_keeps (store b p) e t =
      let l : p < capacity u.guarded = ltb→lt p (capacity u.guarded) (search (and_l, and_r)) in
      let v : T (not (stored u.guarded.index p)) = search (and_l, and_r) depth 8 in
      granted _ _ _ (put p ∷ []) (ap acts_in e) refl
      (law.puts u.guarded.templates u.guarded.index old held c library_held p (buffer_of (second b) u.guarded).bytes (omega (arith, capacity_held))
      (buffer_long (second b) u.guarded fit_held) (T→false (stored u.guarded.index p) v))
  does_keeps (delet_char p n) e t =
      let l : p + n ≤ capacity u.guarded = leb→le (p + n) (capacity u.guarded) (search (and_l, and_r)) in
      granted _ _ _ (cut p n ∷ []) (ap acts_in e) refl
      (law.cuts u.guarded.templates u.guarded.index old held c library_held p n (omega (arith, capacity_held)))
  does_keeps empty e t = granted _ _ _ (cut_all ∷ []) (ap acts_in e) refl (law.clears u.guarded.templates u.guarded.index old held)
  does_keeps (search_for b p n) e t = unasked _ _ _ (spared r).templates (spared r).index (ap acts_in e)
  does_keeps (load_char b p) e t = unasked _ _ _ (spared r).templates (spared r).index (ap acts_in e)
  does_keeps (up_char b) e t = unasked _ _ _ (spared r).templates (spared r).index (ap acts_in e)
  does_keeps (down_char b) e t = unasked _ _ _ (spared r).templates (spared r).index (ap acts_in e)
  does_keeps (set_sys_para n v) e t = unasked _ _ _ (spared r).templates (spared r).index (ap acts_in e)
  does_keeps (set_password w) e t = unasked _ _ _ (spared r).templates (spared r).index (ap acts_in e)
  does_keeps (set_address b) e t = unasked _ _ _ (spared r).templates (spared r).index (ap acts_in e)
  does_keeps (write_notepad p b) e t = unasked _ _ _ (spared r).templates (spared r).index (ap acts_in e)
  does_keeps (read_notepad p) e t = unasked _ _ _ (spared r).templates (spared r).index (ap acts_in e)
  does_keeps templete_num e t = unasked _ _ _ (spared r).templates (spared r).index (ap acts_in e)
  does_keeps (read_index_table p) e t = unasked _ _ _ (spared r).templates (spared r).index (ap acts_in e)

  taken_keeps : (w last right : Bool) (got : ℕ) (content : List ℕ) → acts_in h ≡ []
      → After (take_as r w got content true last).reply (take_as r w got content true last).after.guarded.templates (take_as r w got content true last).after.guarded.index
  unfolding take_as silence with_buffer
  taken_keeps w true right got content e = unasked _ _ _ refl refl e
  taken_keeps w false right got content e = unasked _ _ _ refl refl e

  answer_keeps : After (answer χ r h).reply (answer χ r h).after.guarded.templates (answer χ r h).after.guarded.index
  unfolding silence says carry_free acts_in
  answer_keeps =
      answer_kinds (λ (o : Said). After o.reply o.after.guarded.templates o.after.guarded.index) χ r h
      record {
        silent = ungranted [] _ _ refl refl (grants_nothing r.plain.address);
        refuses = λ n. ungranted _ _ _ (spared r).templates (spared r).index
            (ap (λ (b : List ℕ). grants r.plain.address (acknowledge b (suc n) [])) (spared r).address ∙ grants_other r.plain.address n);
        frees = λ d e. unasked _ _ _ (spared r).templates (spared r).index (ap acts_in e);
        takes = λ w last right got content e e' f. taken_keeps w last right got content (ap acts_in e');
        does = λ d e l t. does_keeps d e t;
      }

-- ---- a run says the same to its addressee; to any other reader it says nothing

for_us : (address s : List ℕ) → (addressee s (find_of s) ≡ address) ⊎ (hear address s ≡ nothing)
unfolding addressee hear hear_at
for_us address s = go (find_of s)
  where
    go : (f : Found) → (addressee s f ≡ address) ⊎ (hear_at address s f ≡ nothing)
    go (Noise n) = inr refl
    go (Unfinished p) = inr refl
    go (Unfit p) = inr refl
    go (Whole p n) = ours (same (address_at s p) address) refl
      where
        ours : (b : Bool) → same (address_at s p) address ≡ b
            → (address_at s p ≡ address) ⊎ (cond b (hear_as (identifier_at s p) (right_at s p n) (content_at s p n)) nothing ≡ nothing)
        ours true e = inl (same_eq (address_at s p) address e)
        ours false e = inr refl

-- ---- calls and line switches

module _ (σ : Shape) (ok : σ.most ≤ 8 * σ.indexed) (P : List ℕ → List ℕ → List Act → Type 0) (law : Keeps σ.indexed P) where
  abbrev pub Kept : Reader → List Act → Type 0
  Kept r acts = P r.guarded.templates r.guarded.index acts

  call_keeps : (r : Reader) (s : List ℕ) (lent : Lent) (old : List Act) → Kept r old
      → Kept (call_of σ r s lent).after (acts_seen record { run = s; reply = reply_of (call_of σ r s lent).told } ++ old)
  unfolding acts_seen asks refused carried step_of reply_of answer silence legal fit_lengths
  call_keeps r s lent old k =
      call_kinds σ r s lent (λ (e : Ended). Kept e.after (acts_seen record { run = s; reply = reply_of e.told } ++ old))
      (λ n. rw (grants_nothing (addressee s (find_of s))) k)
      (λ t u. rw (take_lay o.reply lent.room) (heard (shelf σ ok r.guarded (search (and_l, and_r))) (search (and_l, and_r)) (for_us r.plain.address s)))
    where
      o : Said
      o = answer lent.chip r (hear r.plain.address s)

      heard : Shelf σ ok r.guarded → T (fit_buffers r.guarded) → (addressee s (find_of s) ≡ r.plain.address) ⊎ (hear r.plain.address s ≡ nothing)
          → Kept o.after (cond (grants (addressee s (find_of s)) o.reply) (acts_in (hear (addressee s (find_of s)) s)) [] ++ old)
      heard l f (inl e) =
          let b : Library σ.indexed r.guarded.templates r.guarded.index (capacity r.guarded) = record { long = l.long; wide = l.wide; small = omega (arith, ok, l.high) } in
          rw e (answer_keeps σ.indexed P law lent.chip r (capacity r.guarded) b f old k (hear r.plain.address s))
      heard l f (inr e) = rw e (quietly (addressee s (find_of s)))
        where
          quietly : (a : List ℕ) → Kept (answer lent.chip r nothing).after (cond (grants a (answer lent.chip r nothing).reply) (acts_in (hear a s)) [] ++ old)
          quietly a = rw (grants_nothing a) k

  switch_keeps : (r : Reader) (old : List Act) → Kept r old → Kept (switch_of r).after old
  unfolding switch_of switch_as refused switched wiped
  switch_keeps r old k = go (switch_refusal r.guarded)
    where
      go : (n : ℕ) → Kept (switch_as r n).after old
      go zero = k
      go (suc n) = k

  pub events_keep : (es : List Event) (r : Reader) (old : List Act) → Kept r old → Kept (finally σ r es) (history (exchanges σ r es) old)
  unfolding finally exchanges history on
  events_keep [] r old k = k
  events_keep (received s lent ∷ es) r old k =
      events_keep es (call_of σ r s lent).after (acts_seen record { run = s; reply = reply_of (call_of σ r s lent).told } ++ old) (call_keeps r s lent old k)
  events_keep (switch ∷ es) r old k = events_keep es (switch_of r).after old (switch_keeps r old k)

-- ---- the templates keep their length, whatever reader, runs and line switches: C is read off it

lengths_kept : (m n : ℕ) → Keeps m (λ t x acts. length t ≡ n)
lengths_kept m n =
    record {
      puts = λ t x old h c l p b low long e. length_lay (page_bytes * p) b t (omega (arith, l.long)) ∙ h;
      cuts =
          λ t x old h c l p k low.
          length_lay (page_bytes * p) (zeros (page_bytes * k)) t (omega (arith, l.long, length-replicate {A = ℕ} (page_bytes * k) 0)) ∙ h;
      clears = λ t x old h. length-replicate (length t) 0 ∙ h;
    }

pub call_capacity : (σ : Shape) → σ.most ≤ 8 * σ.indexed → (r : Reader) (s : List ℕ) (lent : Lent) → capacity (call_of σ r s lent).after.guarded ≡ capacity r.guarded
unfolding capacity
call_capacity σ ok r s lent =
    ap (λ (n : ℕ). n / page_bytes) (call_keeps σ ok (λ t x acts. length t ≡ length r.guarded.templates) (lengths_kept σ.indexed (length r.guarded.templates)) r s lent [] refl)

pub ever_capacity : (σ : Shape) → σ.most ≤ 8 * σ.indexed → (r : Reader) (es : List Event) → capacity (finally σ r es).guarded ≡ capacity r.guarded
unfolding capacity
ever_capacity σ ok r es =
    ap (λ (n : ℕ). n / page_bytes) (events_keep σ ok (λ t x acts. length t ≡ length r.guarded.templates) (lengths_kept σ.indexed (length r.guarded.templates)) es r [] refl)
