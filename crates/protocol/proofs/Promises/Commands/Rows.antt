-- Document 01's table of commands, its tests: each row's, left to right, with the code that it gives where it fails. One table under one statement.
use mathlib.Core.Bool.{Bool, true, false, ◌&&◌, not, cond}
use mathlib.Core.Path.{◌≡◌, refl, sym, ap, ◌∙◌, subst}
use mathlib.Core.Logic.{◌⊎◌, inl, inr, ◌↔◌}
use mathlib.Core.List.{List, [], ◌∷◌, ◌++◌}
use Prim.Native.Nat.{ℕ, zero, suc, ◌+◌, ◌/◌, ◌≤◌, ◌<◌}
use native.Mathlib.Omega.{arith}
use lib.Dec.{T, eqb, ltb, leb, ltb→lt, lt→ltb, leb→le, le→leb}
use borrow.Author.Tests.{eqb-true, eqb-false}
use lib.ListN.{length}
use Rattle.protocol.specs.Numbers.{highest_size}
use Rattle.protocol.specs.Tests.{verdict, within}
use Rattle.protocol.specs.Index.{bit, stored}
use Rattle.protocol.specs.Reader.{Reader, capacity, locked, buffer_of}
use Rattle.protocol.specs.Search.{search_of, match_code}
use Rattle.protocol.specs.Commands.{Barred, search_for, store, load_char, up_char, down_char, delet_char, empty, set_sys_para, set_password, set_address, write_notepad, read_notepad, templete_num, read_index_table, barred, command}
use Rattle.protocol.specs.Data.{acknowledge}
use Rattle.protocol.specs.Table.{Row, second, in_range, rule}
use Rattle.protocol.specs.Step.{order, hear, says, carry_as, rested}
use Rattle.protocol.specs.Call.{core, Lent, fit_lent, legal, Ended, call_of}
use Rattle.protocol.proofs.Laws.Logic.{T→true, T→false, and_l, and_r, and_i}
use Rattle.protocol.proofs.Laws.Lists.{follow_append}
use Rattle.protocol.proofs.Laws.Lines.{Line, unless, Follows, Matches, follows}
use Rattle.protocol.proofs.Laws.Answers.{spared, row_answer}
use Rattle.protocol.proofs.Promises.Refusals.LegalMeans.{legal_means}
use Rattle.protocol.proofs.Promises.Words.Told.{Replies, Says, answered, pages, has, Numbered, buffer, numbered, buffer_is}

-- the range of a parameter: 4 is the baud factor, 5 the level, 6 the size code
abbrev pub InRange : ℕ → ℕ → Type 0
InRange k v = (k ≡ 4 → (1 ≤ v) × (v ≤ 12)) × ((k ≡ 5 → (1 ≤ v) × (v ≤ 5)) × (k ≡ 6 → v ≤ 3))

-- the table: of the reader t, unless this holds, that code; 22h is request [5]'s, page 3 of the index request [6]'s, and Search request [8]'s
abbrev pub lines : Reader → Barred → List Line
lines t (search_for b p n) = unless (Numbered b) 0x01 ∷ unless (p < pages t) 0x0b ∷ unless ((buffer b t.guarded).filled ≡ true) 0x0c ∷ []
lines t (store b p) = unless (Numbered b) 0x01 ∷ unless (p < pages t) 0x0b ∷ unless ((buffer b t.guarded).filled ≡ true) 0x0c ∷ unless (has t p ≡ false) 0x22 ∷ []
lines t (load_char b p) = unless (Numbered b) 0x01 ∷ unless (p < pages t) 0x0b ∷ unless (has t p ≡ true) 0x0c ∷ []
lines t (up_char b) = unless (Numbered b) 0x01 ∷ unless ((buffer b t.guarded).filled ≡ true) 0x0d ∷ []
lines t (down_char b) = unless (Numbered b) 0x01 ∷ []
lines t (delet_char p n) = unless ((p < pages t) × (p + n ≤ pages t)) 0x10 ∷ []
lines t empty = []
lines t (set_sys_para k v) = unless ((k ≡ 4) ⊎ ((k ≡ 5) ⊎ (k ≡ 6))) 0x1a ∷ unless (InRange k v) 0x1b ∷ []
lines t (set_password w) = []
lines t (set_address a) = []
lines t (write_notepad p b) = unless (p ≤ 15) 0x1c ∷ []
lines t (read_notepad p) = unless (p ≤ 15) 0x1c ∷ []
lines t templete_num = []
lines t (read_index_table p) = unless (p ≤ 3) 0x0b ∷ []

-- the command is a Search
pub record Search (c : Barred) : Type 0 where
  pub buffer : ℕ
  pub start : ℕ
  pub count : ℕ
  pub asked : c ≡ search_for buffer start count

-- ---- each test says its line's condition

truth : (b : Bool) → T b ↔ (b ≡ true)
truth b = (λ t. T→true b t, λ e. rw e tt)

untruth : (b : Bool) → T (not b) ↔ (b ≡ false)
untruth b = (λ t. T→false b t, λ e. rw e tt)

below : (p n : ℕ) → T (ltb p n) ↔ (p < n)
below p n = (λ t. ltb→lt p n t, λ h. lt→ltb p n h)

filled : (t : Reader) (b : ℕ) → Numbered b → T (buffer_of (second b) t.guarded).filled ↔ ((buffer b t.guarded).filled ≡ true)
filled t b i = rw (buffer_is b i t.guarded) (truth (buffer b t.guarded).filled)

inside : (p n c : ℕ) → T (ltb p c && leb (p + n) c) ↔ ((p < c) × (p + n ≤ c))
inside p n c = (
  λ t. (ltb→lt p c (and_l (ltb p c) (leb (p + n) c) t), leb→le (p + n) c (and_r (ltb p c) (leb (p + n) c) t)),
  λ h. and_i (ltb p c) (leb (p + n) c) (lt→ltb p c h.0) (le→leb (p + n) c h.1),
)

between : (a v b : ℕ) → T (within a v b) ↔ ((a ≤ v) × (v ≤ b))
unfolding within
between a v b =
    (λ t. (leb→le a v (and_l (leb a v) (leb v b) t), leb→le v b (and_r (leb a v) (leb v b) t)), λ h. and_i (leb a v) (leb v b) (le→leb a v h.0) (le→leb v b h.1))

pub parameter : (k : ℕ) → T (within 4 k 6) ↔ ((k ≡ 4) ⊎ ((k ≡ 5) ⊎ (k ≡ 6)))
parameter k = (λ t. there (eqb k 4) (eqb k 5) refl refl ((between 4 k 6).0 t), λ h. (between 4 k 6).1 (back h))
  where
    there : (x y : Bool) → eqb k 4 ≡ x → eqb k 5 ≡ y → (4 ≤ k) × (k ≤ 6) → (k ≡ 4) ⊎ ((k ≡ 5) ⊎ (k ≡ 6))
    there true y e g h = inl (eqb-true k 4 e)
    there false true e g h = inr (inl (eqb-true k 5 g))
    there false false e g h = inr (inr (omega (arith, eqb-false k 4 e, eqb-false k 5 g)))

    back : (k ≡ 4) ⊎ ((k ≡ 5) ⊎ (k ≡ 6)) → (4 ≤ k) × (k ≤ 6)
    back (inl e) = omega arith
    back (inr (inl e)) = omega arith
    back (inr (inr e)) = omega arith

range : (k v : ℕ) → (k ≡ 4) ⊎ ((k ≡ 5) ⊎ (k ≡ 6)) → T (in_range k v) ↔ InRange k v
unfolding in_range highest_size
range k v (inl e) = rw e (λ t. (λ x. (between 1 v 12).0 t, (λ x. absurd (omega arith), λ x. absurd (omega arith))), λ h. (between 1 v 12).1 (h.0 refl))
range k v (inr (inl e)) = rw e (λ t. (λ x. absurd (omega arith), (λ x. (between 1 v 5).0 t, λ x. absurd (omega arith))), λ h. (between 1 v 5).1 (h.1.0 refl))
range k v (inr (inr e)) = rw e (λ t. (λ x. absurd (omega arith), (λ x. absurd (omega arith), λ x. leb→le v 3 t)), λ h. le→leb v 3 (h.1.1 refl))

-- ---- the statement

-- t: the reader once an open transfer has ended
module _ (r : Reader) (s : List ℕ) (lent : Lent) (f : T (legal core r)) (u : T (fit_lent (capacity r.guarded) lent)) (l : locked r.plain ≡ false) where
  abbrev t : Reader
  t = rested r

  abbrev called : Ended
  called = call_of core r s lent

  -- 16 pages of the notepad, and four of the index
  noted : (p : ℕ) → T (ltb p (length t.guarded.notepad / 32)) ↔ (p ≤ 15)
  unfolding core
  noted p = rw ((spared r).notepad, (legal_means r f).lengths.notepad) (λ x. (let h = ltb→lt p 16 x in omega arith), λ h. lt→ltb p 16 (omega arith))

  indexed : (p : ℕ) → T (ltb p (length t.guarded.index / 32)) ↔ (p ≤ 3)
  unfolding core
  indexed p = rw ((spared r).index, (legal_means r f).lengths.index) (λ x. (let h = ltb→lt p 4 x in omega arith), λ h. lt→ltb p 4 (omega arith))

  matches : (c : Barred) → Matches (rule lent.chip t c).tests (lines t c)
  unfolding rule capacity stored bit
  matches (search_for b p n) = (numbered b, (refl, λ i. (below p (pages t), (refl, λ h. (filled t b i, (refl, λ e. tt))))))
  matches (store b p) = (numbered b, (refl, λ i. (below p (pages t), (refl, λ h. (filled t b i, (refl, λ e. (untruth (has t p), (refl, λ n. tt))))))))
  matches (load_char b p) = (numbered b, (refl, λ i. (below p (pages t), (refl, λ h. (truth (has t p), (refl, λ e. tt))))))
  matches (up_char b) = (numbered b, (refl, λ i. (filled t b i, (refl, λ e. tt))))
  matches (down_char b) = (numbered b, (refl, λ i. tt))
  matches (delet_char p n) = (inside p n (pages t), (refl, λ h. tt))
  matches empty = tt
  matches (set_sys_para k v) = (parameter k, (refl, λ i. (range k v i, (refl, λ h. tt))))
  matches (set_password w) = tt
  matches (set_address a) = tt
  matches (write_notepad p b) = (noted p, (refl, λ h. tt))
  matches (read_notepad p) = (noted p, (refl, λ h. tt))
  matches templete_num = tt
  matches (read_index_table p) = (indexed p, (refl, λ h. tt))

  -- the command's own code: 00h, or 09h of a Search
  abbrev pub Carries : Barred → ℕ → Type 0
  Carries c code = (code ≡ 0x00) ⊎ ((code ≡ 0x09) × Search c)

  -- the call is answered by it, with what may follow it
  pub record Done (c : Barred) : Type 0 where
    pub code : ℕ
    pub codes : Carries c code
    pub bytes : List ℕ
    pub behind : List ℕ
    pub told : Replies (acknowledge called.after.plain.address code bytes ++ behind) s lent called

  -- or another code alone, and nothing changes
  abbrev pub Answers : Barred → ℕ → Type 0
  Answers c zero = Done c
  Answers c (suc k) = Says t (suc k) s lent called

  carries : (c : Barred) → Carries c (rule lent.chip t c).code
  unfolding rule match_code
  carries (search_for b p n) = go (search_of lent.chip t.plain.level t.guarded p n).found
    where
      go : (f : Bool) → Carries (search_for b p n) (cond f 0x00 0x09)
      go true = inl refl
      go false = inr (refl, record { buffer = b; start = p; count = n; asked = refl })
  carries (store b p) = inl refl
  carries (load_char b p) = inl refl
  carries (up_char b) = inl refl
  carries (down_char b) = inl refl
  carries (delet_char p n) = inl refl
  carries empty = inl refl
  carries (set_sys_para k v) = inl refl
  carries (set_password w) = inl refl
  carries (set_address a) = inl refl
  carries (write_notepad p b) = inl refl
  carries (read_notepad p) = inl refl
  carries templete_num = inl refl
  carries (read_index_table p) = inl refl

  pub rows : (c : Barred) → hear r.plain.address s ≡ order (command (barred c)) → Follows (lines t c) (Answers c)
  unfolding carry_as says
  rows c h = follows (rule lent.chip t c).tests (lines t c) (Answers c) (matches c) (go (verdict (rule lent.chip t c).tests) refl)
    where
      go : (k : ℕ) → verdict (rule lent.chip t c).tests ≡ k → Answers c k
      go zero v =
          let w : Row = rule lent.chip t c in
          let g = answered core r s lent f u (carry_as t w zero) (row_answer lent.chip r s l c h zero v) in
          let same = follow_append (acknowledge (carry_as t w zero).after.plain.address w.code w.bytes) w.behind in
          let now = ap (λ (x : Reader). acknowledge x.plain.address w.code w.bytes ++ w.behind) (sym g.after) in
          record { code = w.code; codes = carries c; bytes = w.bytes; behind = w.behind; told = subst (λ (x : List ℕ). Replies x s lent called) (same ∙ now) g.told }
      go (suc k) v = answered core r s lent f u (says t (suc k)) (row_answer lent.chip r s l c h (suc k) v)
