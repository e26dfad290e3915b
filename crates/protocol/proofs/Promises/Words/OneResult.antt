-- Document 01: "Show that the statement admits only one result" A contract pins the code's records and lent memory by an equation to the
-- definitions; two results of one such equation are the same.
use mathlib.Core.Bool.{Bool, true, false, cond}
use mathlib.Core.Path.{◌≡◌, refl, sym, ap, ◌∙◌}
use mathlib.Core.List.{List}
use Prim.Native.Nat.{ℕ}
use lib.Dec.{eqb}
use borrow.Author.Tests.{eqb-true}
use Rattle.std.specs.Prelude.{Option, None, Some, Result, Ok, Err}
use Rattle.protocol.specs.declared.Settings.{Settings}
use Rattle.protocol.specs.declared.Line.{Line}
use Rattle.protocol.specs.declared.Match as code
use Rattle.protocol.specs.declared.Lengths.{Lengths}
use Rattle.protocol.specs.declared.Answered.{Answered}
use Rattle.protocol.specs.declared.Taken.{Taken}
use Rattle.protocol.specs.declared.refusals.Refusal.{Refusal}
use Rattle.protocol.specs.declared.refusals.Refusal.TheVariants.{BadLength, BadRoom, BadSetting, BadContent}
use Rattle.protocol.specs.Codes.{outcome_number}
use Rattle.protocol.specs.Numbers.{bad_length, bad_room, bad_setting, no_page}
use Rattle.protocol.specs.Packet.{Made}
use Rattle.protocol.specs.BringOver.{Brought}
use Rattle.protocol.specs.Reader.{Marks, Transfer, closed, opened, unfit, Origin, no_origin, from_page, Reader}
use Rattle.protocol.specs.Search.{Match, match_of}
use Rattle.protocol.specs.Call.{Ended}
use Rattle.protocol.specs.Receiver.{Handed}
use Rattle.protocol.specs.Records.{fit_marks, is_set, mark_of, marks_of, transfer_of, origin_of, reader_of, answered_of, after_of, left_of, lengths_of, taken_of, Called, ended_of, called_at, Switched, switched_of, switched_at, Received, received_of, received_at, Emptied, emptied_of, emptied_at, Built, built_of, made_of, brought_of}
use Rattle.protocol.proofs.Laws.Marks.{mark_is, fit_verified, fit_filled1, fit_filled2, fit_found, transfer_kinds}
use Rattle.protocol.proofs.Promises.Words.Records.{reader_is}

-- a transfer's two numbers
numbers : Transfer → ℕ × ℕ
numbers closed = (0, 0)
numbers (opened false k) = (1, k)
numbers (opened true k) = (2, k)
numbers (unfit b k m) = (b, k)

numbered : (m : Marks) (b k : ℕ) → numbers (transfer_of m b k) ≡ (b, k)
unfolding numbers
numbered m b k = transfer_kinds m b k (λ t. numbers t ≡ (b, k)) (λ f x y. rw (x, y) refl) (λ f x. rw x refl) (λ f x. rw x refl) refl

pub transfer_same : (m n : Marks) (b k c j : ℕ) → transfer_of m b k ≡ transfer_of n c j → (b ≡ c) × (k ≡ j)
transfer_same m n b k c j e =
    let p : ◌≡◌ {A = ℕ × ℕ} (b, k) (c, j) = sym (numbered m b k) ∙ ap numbers e ∙ numbered n c j in
    (ap (λ (q : ℕ × ℕ). q.0) p, ap (λ (q : ℕ × ℕ). q.1) p)

-- the marks: an unfit transfer has them, and otherwise they are what the reader's bits say
unfoldable pub marks : Transfer → Marks → Marks
marks closed m = m
marks (opened w k) m = m
marks (unfit b k m) n = m

abbrev pub bits : Bool → Bool → Bool → Bool → Marks
bits v f h o = record { verified = mark_of v; filled1 = mark_of f; filled2 = mark_of h; found = mark_of o }

abbrev bits_of : Marks → Marks
bits_of m = bits (is_set m.verified) (is_set m.filled1) (is_set m.filled2) (is_set m.found)

fit_bits : (m : Marks) → fit_marks m ≡ true → bits_of m ≡ m
fit_bits m e =
    λ j.
    record {
      verified = mark_is m.verified (fit_verified m e) j;
      filled1 = mark_is m.filled1 (fit_filled1 m e) j;
      filled2 = mark_is m.filled2 (fit_filled2 m e) j;
      found = mark_is m.found (fit_found m e) j;
    }

pub marked : (m : Marks) (b k : ℕ) → marks (transfer_of m b k) (bits (is_set m.verified) (is_set m.filled1) (is_set m.filled2) (is_set m.found)) ≡ m
unfolding marks
marked m b k = transfer_kinds m b k (λ t. marks t (bits_of m) ≡ m) (λ f x y. fit_bits m f) (λ f x. fit_bits m f) (λ f x. fit_bits m f) refl

-- an origin's number
page_number : Origin → ℕ
page_number no_origin = no_page
page_number (from_page p) = p

origin_numbered : (n : ℕ) → page_number (origin_of n) ≡ n
unfolding page_number origin_of
origin_numbered n = go (eqb n no_page) refl
  where
    go : (b : Bool) → eqb n no_page ≡ b → page_number (cond b no_origin (from_page n)) ≡ n
    go true e = sym (eqb-true n no_page e)
    go false e = refl

pub same_origin : (n m : ℕ) → origin_of n ≡ origin_of m → n ≡ m
same_origin n m e = sym (origin_numbered n) ∙ ap page_number e ∙ origin_numbered m

-- one reader comes of one settings record and one lent memory
pub record OneReader (s z : Settings) (t i n b c t' i' n' b' c' : List ℕ) : Type 0 where
  pub settings : s ≡ z
  pub templates : t ≡ t'
  pub index : i ≡ i'
  pub notepad : n ≡ n'
  pub buffer1 : b ≡ b'
  pub buffer2 : c ≡ c'

pub one_reader : (s z : Settings) (t i n b c t' i' n' b' c' : List ℕ) → reader_of s t i n b c ≡ reader_of z t' i' n' b' c' → OneReader s z t i n b c t' i' n' b' c'
one_reader s z t i n b c t' i' n' b' c' same =
    let e = sym (reader_is s t i n b c) ∙ same ∙ reader_is z t' i' n' b' c' in
    let m = transfer_same (marks_of s) (marks_of z) s.transfer s.got z.transfer z.got (ap (λ (r : Reader). r.plain.transfer) e) in
    let k : marks_of s ≡ marks_of z =
    sym (marked (marks_of s) s.transfer s.got)
    ∙ ap (λ (r : Reader). marks r.plain.transfer (bits r.plain.verified r.guarded.buffer1.filled r.guarded.buffer2.filled r.guarded.found)) e
    ∙ marked (marks_of z) z.transfer z.got
    in
    record {
      settings =
          λ j.
          record {
            password = (e j).plain.password;
            address = (e j).plain.address;
            level = (e j).plain.level;
            size = (e j).plain.size;
            baud = (e j).plain.baud;
            transfer = m.0 j;
            sensor = (e j).plain.sensor;
            got = m.1 j;
            verified = (k j).verified;
            filled1 = (k j).filled1;
            filled2 = (k j).filled2;
            found = (k j).found;
            origin1 = same_origin s.origin1 z.origin1 (ap (λ (r : Reader). r.guarded.buffer1.origin) e) j;
            origin2 = same_origin s.origin2 z.origin2 (ap (λ (r : Reader). r.guarded.buffer2.origin) e) j;
          };
      templates = ap (λ (r : Reader). r.guarded.templates) e;
      index = ap (λ (r : Reader). r.guarded.index) e;
      notepad = ap (λ (r : Reader). r.guarded.notepad) e;
      buffer1 = ap (λ (r : Reader). r.guarded.buffer1.bytes) e;
      buffer2 = ap (λ (r : Reader). r.guarded.buffer2.bytes) e;
    }

-- a call's record, its lent memory and its reply room
pub one_call : (x y : Called) (t i n b c o t' i' n' b' c' o' : List ℕ) → ended_of x t i n b c o ≡ ended_of y t' i' n' b' c' o'
    → (x ≡ y) × (OneReader x.settings y.settings t i n b c t' i' n' b' c' × (o ≡ o'))
one_call x y t i n b c o t' i' n' b' c' o' e =
    let r : OneReader x.settings y.settings t i n b c t' i' n' b' c' =
    one_reader x.settings y.settings t i n b c t' i' n' b' c' (ap (λ (z : Ended). z.after) e)
    in
    (λ j. record { settings = r.settings j; refusal = (e j).told.refusal; used = (e j).told.used; length = (e j).told.length }, (r, ap (λ (z : Ended). z.told.room) e))

-- a line switch's record and its lent memory
pub one_switch : (x y : Switched) (t i n b c t' i' n' b' c' : List ℕ) → switched_of x t i n b c ≡ switched_of y t' i' n' b' c'
    → (x ≡ y) × OneReader x.settings y.settings t i n b c t' i' n' b' c'
one_switch x y t i n b c t' i' n' b' c' e =
    let r : OneReader x.settings y.settings t i n b c t' i' n' b' c' =
    one_reader x.settings y.settings t i n b c t' i' n' b' c' (ap (λ (z : Ended). z.after) e)
    in
    (λ j. record { settings = r.settings j; refusal = (e j).told.refusal }, r)

-- a receiver's call: every cell too
pub one_receive : (x y : Received) (t i n b c o t' i' n' b' c' o' : List ℕ) → received_of x t i n b c o ≡ received_of y t' i' n' b' c' o'
    → (x ≡ y) × (OneReader x.line.settings y.line.settings t i n b c t' i' n' b' c' × (o ≡ o'))
one_receive x y t i n b c o t' i' n' b' c' o' e =
    let r : OneReader x.line.settings y.line.settings t i n b c t' i' n' b' c' =
    one_reader x.line.settings y.line.settings t i n b c t' i' n' b' c' (ap (λ (z : Handed). z.after.reader) e)
    in (
      λ j.
          record { line = record { settings = r.settings j; receiver = (e j).after.receiver }; refusal = (e j).told.refusal; taken = (e j).told.used; length = (e j).told.length },
      (r, ap (λ (z : Handed). z.told.room) e),
    )

-- a receiver's line switch
pub one_emptied : (x y : Emptied) (t i n b c t' i' n' b' c' : List ℕ) → emptied_of x t i n b c ≡ emptied_of y t' i' n' b' c'
    → (x ≡ y) × OneReader x.line.settings y.line.settings t i n b c t' i' n' b' c'
one_emptied x y t i n b c t' i' n' b' c' e =
    let r : OneReader x.line.settings y.line.settings t i n b c t' i' n' b' c' =
    one_reader x.line.settings y.line.settings t i n b c t' i' n' b' c' (ap (λ (z : Handed). z.after.reader) e)
    in
    (λ j. record { line = record { settings = r.settings j; receiver = (e j).after.receiver }; refusal = (e j).told.refusal }, r)

-- the builder's record and its room
pub one_build : (x y : Built) (o o' : List ℕ) → made_of x o ≡ made_of y o' → (x ≡ y) × (o ≡ o')
one_build x y o o' e = (λ j. record { refusal = (e j).refusal; length = (e j).length }, ap (λ (m : Made). m.room) e)

-- the refusal of bringing over, and the lent index
pub one_brought : (k k' : ℕ) (x x' : List ℕ) → brought_of k x ≡ brought_of k' x' → (k ≡ k') × (x ≡ x')
one_brought k k' x x' e = (ap (λ (b : Brought). b.refusal) e, ap (λ (b : Brought). b.index) e)

-- ---- an outcome of the code is pinned with them, since its numbers give it back

refusal_at : ℕ → Refusal
refusal_at k = cond (eqb k bad_length) BadLength (cond (eqb k bad_room) BadRoom (cond (eqb k bad_setting) BadSetting BadContent))

outcome_at : {T : Type 0} → ℕ → T → Result T Refusal
outcome_at k x = cond (eqb k 0) (Ok x) (Err (refusal_at k))

answered_back : (o : Result Lengths Refusal) → outcome_at (answered_of o).refusal record { used = (answered_of o).used; reply = (answered_of o).length } ≡ o
unfolding outcome_at refusal_at
answered_back (Ok n) = refl
answered_back (Err BadLength) = refl
answered_back (Err BadRoom) = refl
answered_back (Err BadSetting) = refl
answered_back (Err BadContent) = refl

-- a call's
pub one_outcome : (o p : Result Lengths Refusal) → answered_of o ≡ answered_of p → o ≡ p
one_outcome o p e = sym (answered_back o) ∙ ap (λ (a : Answered). outcome_at a.refusal record { used = a.used; reply = a.length }) e ∙ answered_back p

taken_back : (o : Result Lengths Refusal) → outcome_at (taken_of o).refusal record { used = (taken_of o).taken; reply = (taken_of o).length } ≡ o
unfolding outcome_at refusal_at
taken_back (Ok n) = refl
taken_back (Err BadLength) = refl
taken_back (Err BadRoom) = refl
taken_back (Err BadSetting) = refl
taken_back (Err BadContent) = refl

-- a receiver's call's
pub one_taken : (o p : Result Lengths Refusal) → taken_of o ≡ taken_of p → o ≡ p
one_taken o p e = sym (taken_back o) ∙ ap (λ (a : Taken). outcome_at a.refusal record { used = a.taken; reply = a.length }) e ∙ taken_back p

built_back : (o : Result ℕ Refusal) → outcome_at (built_of o).refusal (built_of o).length ≡ o
unfolding outcome_at refusal_at
built_back (Ok n) = refl
built_back (Err BadLength) = refl
built_back (Err BadRoom) = refl
built_back (Err BadSetting) = refl
built_back (Err BadContent) = refl

-- the builder's
pub one_built : (o p : Result ℕ Refusal) → built_of o ≡ built_of p → o ≡ p
one_built o p e = sym (built_back o) ∙ ap (λ (b : Built). outcome_at b.refusal b.length) e ∙ built_back p

bare_back : (o : Result Unit Refusal) → outcome_at (outcome_number o) tt ≡ o
unfolding outcome_at refusal_at
bare_back (Ok n) = refl
bare_back (Err BadLength) = refl
bare_back (Err BadRoom) = refl
bare_back (Err BadSetting) = refl
bare_back (Err BadContent) = refl

-- and one that has nothing beside its refusal
pub one_number : (o p : Result Unit Refusal) → outcome_number o ≡ outcome_number p → o ≡ p
one_number o p e = sym (bare_back o) ∙ ap (λ (k : ℕ). outcome_at k tt) e ∙ bare_back p

-- ---- one that gives a record back is pinned by that record as it is after the call, and by the rest

left_back : {T : Type 0} (x : T) (o : Result T Refusal) → outcome_at (outcome_number o) (left_of x o) ≡ o
unfolding outcome_at refusal_at
left_back x (Ok y) = refl
left_back x (Err BadLength) = refl
left_back x (Err BadRoom) = refl
left_back x (Err BadSetting) = refl
left_back x (Err BadContent) = refl

pub one_left : {T : Type 0} (x : T) (o p : Result T Refusal) → left_of x o ≡ left_of x p → outcome_number o ≡ outcome_number p → o ≡ p
one_left x o p e f = sym (left_back x o) ∙ (λ j. outcome_at (f j) (e j)) ∙ left_back x p

beside : {T : Type 0} → T → Result Lengths Refusal → Result (T × Lengths) Refusal
beside x (Ok n) = Ok (x, n)
beside x (Err e) = Err e

after_back : {T : Type 0} (x : T) (o : Result (T × Lengths) Refusal) → beside (after_of x o) (lengths_of o) ≡ o
unfolding beside
after_back x (Ok p) = refl
after_back x (Err e) = refl

pub one_after : {T : Type 0} (x : T) (o p : Result (T × Lengths) Refusal) → after_of x o ≡ after_of x p → lengths_of o ≡ lengths_of p → o ≡ p
one_after x o p e f = sym (after_back x o) ∙ (λ j. beside (e j) (f j)) ∙ after_back x p

-- so what the reader's call gives back, and leaves
pub one_step : (s : Settings) (x y : Result (Settings × Lengths) Refusal) (t i n b c o t' i' n' b' c' o' : List ℕ)
    → ended_of (called_at (after_of s x) (answered_of (lengths_of x))) t i n b c o ≡ ended_of (called_at (after_of s y) (answered_of (lengths_of y))) t' i' n' b' c' o'
    → (x ≡ y) × (OneReader (after_of s x) (after_of s y) t i n b c t' i' n' b' c' × (o ≡ o'))
one_step s x y t i n b c o t' i' n' b' c' o' e =
    let u : Answered = answered_of (lengths_of x) in
    let v : Answered = answered_of (lengths_of y) in
    let one = one_call (called_at (after_of s x) u) (called_at (after_of s y) v) t i n b c o t' i' n' b' c' o' e in
    let told : u ≡ v = ap (λ (z : Called). record { refusal = z.refusal; used = z.used; length = z.length }) one.0 in
    (one_after s x y (ap (λ (z : Called). z.settings) one.0) (one_outcome (lengths_of x) (lengths_of y) told), one.1)

-- its line switch
pub one_switched : (s : Settings) (x y : Result Settings Refusal) (t i n b c t' i' n' b' c' : List ℕ)
    → switched_of (switched_at (left_of s x) (outcome_number x)) t i n b c ≡ switched_of (switched_at (left_of s y) (outcome_number y)) t' i' n' b' c'
    → (x ≡ y) × OneReader (left_of s x) (left_of s y) t i n b c t' i' n' b' c'
one_switched s x y t i n b c t' i' n' b' c' e =
    let one = one_switch (switched_at (left_of s x) (outcome_number x)) (switched_at (left_of s y) (outcome_number y)) t i n b c t' i' n' b' c' e in
    (one_left s x y (ap (λ (z : Switched). z.settings) one.0) (ap (λ (z : Switched). z.refusal) one.0), one.1)

-- the receiver's call
pub one_handed : (l : Line) (x y : Result (Line × Lengths) Refusal) (t i n b c o t' i' n' b' c' o' : List ℕ)
    → received_of (received_at (after_of l x) (taken_of (lengths_of x))) t i n b c o ≡ received_of (received_at (after_of l y) (taken_of (lengths_of y))) t' i' n' b' c' o'
    → (x ≡ y) × (OneReader (after_of l x).settings (after_of l y).settings t i n b c t' i' n' b' c' × (o ≡ o'))
one_handed l x y t i n b c o t' i' n' b' c' o' e =
    let u : Taken = taken_of (lengths_of x) in
    let v : Taken = taken_of (lengths_of y) in
    let one = one_receive (received_at (after_of l x) u) (received_at (after_of l y) v) t i n b c o t' i' n' b' c' o' e in
    let told : u ≡ v = ap (λ (z : Received). record { refusal = z.refusal; taken = z.taken; length = z.length }) one.0 in
    (one_after l x y (ap (λ (z : Received). z.line) one.0) (one_taken (lengths_of x) (lengths_of y) told), one.1)

-- and its line switch
pub one_line : (l : Line) (x y : Result Line Refusal) (t i n b c t' i' n' b' c' : List ℕ)
    → emptied_of (emptied_at (left_of l x) (outcome_number x)) t i n b c ≡ emptied_of (emptied_at (left_of l y) (outcome_number y)) t' i' n' b' c'
    → (x ≡ y) × OneReader (left_of l x).settings (left_of l y).settings t i n b c t' i' n' b' c'
one_line l x y t i n b c t' i' n' b' c' e =
    let one = one_emptied (emptied_at (left_of l x) (outcome_number x)) (emptied_at (left_of l y) (outcome_number y)) t i n b c t' i' n' b' c' e in
    (one_left l x y (ap (λ (z : Emptied). z.line) one.0) (ap (λ (z : Emptied). z.refusal) one.0), one.1)

-- ---- what Search finds

match_at : Match → Option code.Match
match_at m = cond m.found (Some record { page = m.page; score = m.score }) None

match_back : (m : Option code.Match) → match_at (match_of m) ≡ m
unfolding match_at
match_back (Some m) = refl
match_back None = refl

pub one_match : (m n : Option code.Match) → match_of m ≡ match_of n → m ≡ n
one_match m n e = sym (match_back m) ∙ ap match_at e ∙ match_back n
