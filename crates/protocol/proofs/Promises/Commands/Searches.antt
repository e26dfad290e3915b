-- Request [8]: "Among stored pages from start to before start + count, cut at C, with a score at or above the threshold of the level in force, answer the highest
-- score, the lowest page on a tie: 00h, page, score. None: 09h, page 0, score 0. Status bit 1 is set by 00h and cleared by 09h and by line switch; Search's other
-- codes keep it." Its tests are in Rows, and the line switch is in Switch.
use mathlib.Core.Bool.{Bool, true, false, true≢false, ◌&&◌, cond}
use mathlib.Core.Path.{◌≡◌, refl, sym, ap, ◌∙◌, subst}
use mathlib.Core.Logic.{◌⊎◌, inl, inr}
use mathlib.Core.List.{List, [], ◌∷◌, ◌++◌}
use Prim.Native.Nat.{ℕ, zero, suc, ◌+◌, ◌-◌, ◌≤◌, ◌<◌}
use native.Mathlib.Omega.{arith}
use lib.Dec.{T, leb, lt→ltb, leb→le}
use borrow.Author.Tests.{le-leb}
use lib.ListN.{length, get_or}
use Rattle.protocol.specs.Bytes.{two, joined, follow}
use Rattle.protocol.specs.Packet.{packet}
use Rattle.protocol.specs.Index.{bit, stored}
use Rattle.protocol.specs.Reader.{Reader, capacity, locked, buffer_of, with_found, with_library, with_notepad, with_buffer, without_pages}
use Rattle.protocol.specs.Search.{Chip, eligible, pages_from, search_of, match_code, match_bytes}
use Rattle.protocol.specs.Commands.{Barred, search_for, store, load_char, up_char, down_char, delet_char, empty, set_sys_para, set_password, set_address, write_notepad, read_notepad, templete_num, read_index_table, barred, command}
use Rattle.protocol.specs.Data.{acknowledge}
use Rattle.protocol.specs.Table.{is_buffer, second, rule, apply}
use Rattle.protocol.specs.Step.{Heard, order, hear, IsSearch, Said, silence, says, carry_as, carry_free, rested, take_as, answer, Outcome, step_of}
use Rattle.protocol.specs.Call.{Shape, fit_chip, Lent, fit_lent, legal, Ended, reply_of, refusal_of, refused, carried, call_as, call_of}
use Rattle.protocol.proofs.Laws.Logic.{T→true, and_l, and_r, and_i}
use Rattle.protocol.proofs.Laws.Lists.{take_lay}
use Rattle.protocol.proofs.Laws.Best.{Best, best_of_lem, cut_at, cut_in}
use Rattle.protocol.proofs.Laws.ChipFree.{step_chip_free}
use Rattle.protocol.proofs.Laws.Answers.{spared, obeys, answer_kinds, call_kinds}
use Rattle.protocol.proofs.Promises.Words.Told.{Gives, answered, word, pages, has, Numbered, buffer, numbered, buffer_is}

module _ (lent : Lent) (r : Reader) (start count : ℕ) where
  -- the score of page q, and the threshold of the level in force: the n-th is level n's
  abbrev pub score : ℕ → ℕ
  score q = get_or lent.chip.scores q 0

  abbrev pub threshold : ℕ
  threshold = get_or lent.chip.thresholds (r.plain.level - 1) 0

  -- a stored page from start to before start + count, below C, with a score at or above the threshold
  pub record Eligible (q : ℕ) : Type 0 where
    pub from : start ≤ q
    pub before : q < start + count
    pub below : q < pages r
    pub there : has r q ≡ true
    pub enough : threshold ≤ score q

  -- the highest score, the lowest page on a tie
  pub record Winner (q : ℕ) : Type 0 where
    pub is : Eligible q
    pub most : (j : ℕ) → Eligible j → score j ≤ score q
    pub first : (j : ℕ) → Eligible j → score j ≡ score q → q ≤ j

  -- the reader with status bit 1 as f, all else as it was
  abbrev pub remembers : Bool → Reader
  remembers f =
      let g = r.guarded in
      record {
        plain = r.plain;
        guarded = record { templates = g.templates; index = g.index; notepad = g.notepad; buffer1 = g.buffer1; buffer2 = g.buffer2; found = f };
      }

  -- 00h, page, score, and the bit set; or no page is eligible, and 09h, page 0, score 0, and the bit cleared
  pub data Finds (s : List ℕ) (e : Ended) : Type 0 where
    found : (q : ℕ) → Winner q → Gives (acknowledge r.plain.address 0x00 (word q ++ word (score q))) (remembers true) s lent e → Finds s e
    none : ((q : ℕ) → Eligible q → ⊥) → Gives (acknowledge r.plain.address 0x09 (0 ∷ 0 ∷ 0 ∷ 0 ∷ [])) (remembers false) s lent e → Finds s e

  module _ (l : start < pages r) where
    -- so many pages are looked at
    n : ℕ
    n = pages_from (pages r) start count

    abbrev chosen : ℕ → Bool
    chosen = eligible r.guarded.index lent.chip.scores threshold

    eligible_of : (q : ℕ) → start ≤ q → q < start + n → chosen q ≡ true → Eligible q
    unfolding n eligible stored bit
    eligible_of q a b e =
        let t : T (has r q && leb threshold (score q)) = rw e tt in
        let c = cut_at (pages r) start count q l b in
        record { from = a; before = c.0; below = c.1; there = T→true (has r q) (search (and_l)); enough = leb→le threshold (score q) (search (and_r)) }

    looked_at : (q : ℕ) → Eligible q → q < start + n
    unfolding n
    looked_at q c = cut_in (pages r) start count q l c.before c.below

    is_eligible : (q : ℕ) → Eligible q → chosen q ≡ true
    unfolding eligible stored bit
    is_eligible q c = rw (c.there, le-leb threshold (score q) c.enough) refl

    finds : (s : List ℕ) (e : Ended) (f : Bool) (q k : ℕ) → Best chosen score start n f q k
        → Gives (acknowledge r.plain.address (cond f 0x00 0x09) (word q ++ word k)) (remembers f) s lent e → Finds s e
    finds s e true q k h g =
        found q
        record {
          is = eligible_of q h.from h.before h.is;
          most = λ j c. subst (λ (i : ℕ). score j ≤ i) h.score (h.most j c.from (looked_at j c) (is_eligible j c));
          first = λ j c d. h.first j c.from (looked_at j c) (is_eligible j c) (d ∙ sym h.score);
        }
        (subst (λ (i : ℕ). Gives (acknowledge r.plain.address 0x00 (word q ++ word i)) (remembers true) s lent e) h.score g)
    finds s e false q k h g =
        none (λ j c. true≢false (sym (is_eligible j c) ∙ h.none j c.from (looked_at j c)))
        (rw (h.page, h.score) at g)

-- a legal reader that is not locked; an open transfer is ended first
pub searches : (σ : Shape) (r : Reader) (s : List ℕ) (lent : Lent) → T (legal σ r) → T (fit_lent (capacity r.guarded) lent) → locked r.plain ≡ false
    → (b start count : ℕ) → hear r.plain.address s ≡ order (command (barred (search_for b start count)))
    → Numbered b → start < pages r → (buffer b (rested r).guarded).filled ≡ true → Finds lent (rested r) start count s (call_of σ r s lent)
unfolding carry_as rule apply with_found follow search_of match_code match_bytes two joined capacity n
searches σ r s lent f u l b start count h i m k =
    let t : Reader = rested r in
    let below : start < pages t = rw (spared r).templates m in
    let known : T (is_buffer b) = (numbered b).1 i in
    let there = lt→ltb start (pages t) below in
    let full : T (buffer_of (second b) t.guarded).filled = rw (buffer_is b i t.guarded, k) tt in
    finds lent t start count below s (call_of σ r s lent) _ _ _
    (best_of_lem (chosen lent t start count below) (score lent t start count) start (pages_from (pages t) start count))
    (answered σ r s lent f u _ (obeys lent.chip r s l (search_for b start count) h (search and_i)))

-- ---- every other call keeps the bit, whatever reader and run: but for a Search that is answered 00h or 09h. The code is the tenth byte of a reply; FFh, which is
-- no code, where there is none

abbrev pub code : Ended → ℕ
code e = get_or (reply_of e.told) 9 0xff

code_at : (a : List ℕ) (k : ℕ) (b : List ℕ) → length a ≡ 4 → get_or (acknowledge a k b) 9 0xff ≡ k
unfolding acknowledge packet two
code_at [] k b e = absurd (omega arith)
code_at (x ∷ []) k b e = absurd (omega arith)
code_at (x ∷ y ∷ []) k b e = absurd (omega arith)
code_at (x ∷ y ∷ z ∷ []) k b e = absurd (omega arith)
code_at (x ∷ y ∷ z ∷ w ∷ []) k b e = refl
code_at (x ∷ y ∷ z ∷ w ∷ v ∷ a) k b e = absurd (omega arith)

-- what was heard is no Search, or one with another code in its reply
abbrev pub Other : Heard → ℕ → Type 0
Other h k = (b start count : ℕ) → h ≡ order (command (barred (search_for b start count))) → ((k ≡ 0x00) ⊎ (k ≡ 0x09)) → ⊥

module _ (lent : Lent) (r : Reader) (four : length r.plain.address ≡ 4) (h : Heard) where
  -- status bit 1 is as it was, of an answer to a run that is no such Search
  abbrev Keeps : Said → Type 0
  Keeps a = Other h (get_or a.reply 9 0xff) → a.after.guarded.found ≡ r.guarded.found

  row_keeps : (c : Barred) → h ≡ order (command (barred c)) → Keeps (carry_as (rested r) (rule lent.chip (rested r) c) zero)
  unfolding carry_as rule apply with_library with_notepad with_buffer without_pages with_found follow match_code
  row_keeps (search_for b p m) e o =
      absurd (o b p m e (go (search_of lent.chip (rested r).plain.level (rested r).guarded p m).found refl))
    where
      a : List ℕ
      a = (rested r).plain.address

      x : Bool → ℕ
      x f = get_or (acknowledge a (cond f 0x00 0x09) (match_bytes (search_of lent.chip (rested r).plain.level (rested r).guarded p m))) 9 0xff

      long : length a ≡ 4
      long = ap (λ (y : List ℕ). length y) (spared r).address ∙ four

      go : (f : Bool) → (search_of lent.chip (rested r).plain.level (rested r).guarded p m).found ≡ f
          → (x (search_of lent.chip (rested r).plain.level (rested r).guarded p m).found ≡ 0x00) ⊎ (x (search_of lent.chip (rested r).plain.level (rested r).guarded p m).found ≡ 0x09)
      go true q = inl (ap x q ∙ code_at a 0x00 _ long)
      go false q = inr (ap x q ∙ code_at a 0x09 _ long)
  row_keeps (store b p) e o = (spared r).found
  row_keeps (load_char b p) e o = (spared r).found
  row_keeps (up_char b) e o = (spared r).found
  row_keeps (down_char b) e o = (spared r).found
  row_keeps (delet_char p m) e o = (spared r).found
  row_keeps empty e o = (spared r).found
  row_keeps (set_sys_para k v) e o = (spared r).found
  row_keeps (set_password w) e o = (spared r).found
  row_keeps (set_address a) e o = (spared r).found
  row_keeps (write_notepad p b) e o = (spared r).found
  row_keeps (read_notepad p) e o = (spared r).found
  row_keeps templete_num e o = (spared r).found
  row_keeps (read_index_table p) e o = (spared r).found

  takes_keeps : (w last : Bool) (got : ℕ) (content : List ℕ) → (take_as r w got content true last).after.guarded.found ≡ r.guarded.found
  unfolding take_as silence with_buffer
  takes_keeps w true got content = refl
  takes_keeps w false got content = refl

  answer_keeps : Keeps (answer lent.chip r h)
  unfolding silence says carry_free
  answer_keeps =
      answer_kinds Keeps lent.chip r h
      record {
        silent = λ o. refl;
        refuses = λ k o. (spared r).found;
        frees = λ c e o. (spared r).found;
        takes = λ w last right got content e e' f o. takes_keeps w last got content;
        does = λ c e l t o. row_keeps c e o;
      }

pub bit_kept : (σ : Shape) (r : Reader) → length r.plain.address ≡ 4 → (s : List ℕ) (lent : Lent)
    → Other (hear r.plain.address s) (code (call_of σ r s lent)) → (call_of σ r s lent).after.guarded.found ≡ r.guarded.found
unfolding refused carried step_of reply_of
bit_kept σ r four s lent =
    call_kinds σ r s lent (λ (e : Ended). Other (hear r.plain.address s) (code e) → e.after.guarded.found ≡ r.guarded.found) (λ n o. refl)
    (λ t u o.
    let a : Said = answer lent.chip r (hear r.plain.address s) in
    answer_keeps lent r four (hear r.plain.address s) (subst (λ (x : List ℕ). Other (hear r.plain.address s) (get_or x 9 0xff)) (take_lay a.reply lent.room) o))

-- ---- "Scores and thresholds are lent at each call and may be new each time": a call that deals with no Search does not look at them, but for their lengths

pub unseen : (σ : Shape) (r : Reader) (s room : List ℕ) (χ ψ : Chip) → (IsSearch (hear r.plain.address s) → ⊥) → fit_chip (capacity r.guarded) χ ≡ fit_chip (capacity r.guarded) ψ
    → call_of σ r s record { chip = χ; room = room } ≡ call_of σ r s record { chip = ψ; room = room }
unfolding call_of call_as refusal_of
unseen σ r s room χ ψ d e = rw e (go (refusal_of σ r record { chip = ψ; room = room }))
  where
    go : (k : ℕ) → call_as r s record { chip = χ; room = room } k ≡ call_as r s record { chip = ψ; room = room } k
    go zero = ap (λ (o : Outcome). carried o room) (step_chip_free χ ψ r s (λ i. absurd (d i)))
    go (suc k) = refl
