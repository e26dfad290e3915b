-- Document 01, "Finding a packet", steps 1 to 4 over the bytes of a run: which place, how many bytes used, and silence; then what a whole
-- packet says to the reader of an address (steps 5 to 7).
use mathlib.Core.Bool.{Bool, true, false, true≢false, cond}
use mathlib.Core.Path.{◌≡◌, refl, sym, ap, ◌∙◌}
use mathlib.Core.Logic.{inl, inr, ◌≢◌, ◌↔◌}
use mathlib.Core.List.{List, foldr}
use Prim.Native.Nat.{ℕ, suc, ◌+◌, ◌-◌, ◌*◌, ◌%◌, ◌≤◌, ◌<◌}
use native.Mathlib.Numerals.{add-one}
use native.Mathlib.Omega.{arith}
use lib.Dec.{T, eqb, ltb, eqb→eq}
use borrow.Author.Tests.{ltb-true, ltb-false, eqb-true, eqb-false, lt-ltb, le-ltb, eq-eqb, ne_eqb}
use lib.ListN.{length, get_or, take, drop, length-take, length-drop}
use lib.Seq.{get_or-take, get_or-drop}
use Rattle.std.specs.Prelude.{Option, None, Some}
use Rattle.protocol.specs.declared.Found.{Found}
use Rattle.protocol.specs.declared.Found.TheVariants.{Noise, Unfinished, Unfit, Whole}
use Rattle.protocol.specs.Bytes.{two, byte_at, word_at, total, same}
use Rattle.protocol.specs.Packet.{sum_of, accepts, address_at, length_at, right_at}
use Rattle.protocol.specs.Finder.{marks_at, start_of, all_but, find_from, find_of, used_of}
use Rattle.protocol.specs.Reader.{Reader, capacity}
use Rattle.protocol.specs.Commands.{order_of}
use Rattle.protocol.specs.Step.{Heard, nothing, order, piece, hear_as, hear_at, hear, silence, answer, step_of}
use Rattle.protocol.specs.Call.{Shape, Lent, fit_lent, legal, Ended, carried, call_of}
use Rattle.protocol.proofs.Laws.Logic.{T→true, and_l, and_r}
use Rattle.protocol.proofs.Laws.Finder.{FirstStart, start_first, start_nowhere, start_at, marks_in, found_at, heard_at}
use Rattle.protocol.proofs.Laws.Lists.{total_added, same_refl, same_eq, same_no, lay_nothing}
use Rattle.protocol.proofs.Laws.Answers.{call_legal}
use Rattle.protocol.proofs.Promises.Packets.Packets.{Identifier, Accepted, accepts_means, refuses_other, parts}

-- silent: so many bytes used, and nothing changes, not the reply room either
abbrev pub silently : Reader → ℕ → Lent → Ended
silently r n lent = record { told = record { refusal = 0; used = n; length = 0; room = lent.room }; after = r }

-- EF followed by 01 at the place p
pub record Marks (s : List ℕ) (p : ℕ) : Type 0 where
  pub inside : p + 1 < length s
  pub first : get_or s p 0 ≡ 0xef
  pub second : get_or s (p + 1) 0 ≡ 0x01

-- p is the first place with EF followed by 01
pub record First (s : List ℕ) (p : ℕ) : Type 0 where
  pub here : Marks s p
  pub before : (q : ℕ) → q < p → Marks s q → ⊥

-- the length field of a packet that starts at p
abbrev pub length_field : List ℕ → ℕ → ℕ
length_field s p = get_or s (p + 7) 0 * 256 + get_or s (p + 8) 0

-- a whole packet starts at p, n its length field
pub record WholeAt (s : List ℕ) (p n : ℕ) : Type 0 where
  pub first : First s p
  pub field : length_field s p ≡ n
  pub accepted : Accepted (get_or s (p + 6) 0) n
  pub inside : p + 9 + n ≤ length s

-- steps 1 to 4: what is found in the run s, and how many bytes are used
pub data Finds (s : List ℕ) : Found → ℕ → Type 0 where
  -- 1. no place has EF followed by 01: the whole run is used, less one if it ends in EF
  noise : ((q : ℕ) → Marks s q → ⊥) → get_or s (length s - 1) 0 ≢ 0xef → Finds s (Noise (length s)) (length s)
  noise_but_one : ((q : ℕ) → Marks s q → ⊥) → get_or s (length s - 1) 0 ≡ 0xef → Finds s (Noise (length s - 1)) (length s - 1)
  -- 2. fewer than 9 bytes from p: p used
  headless : {p : ℕ} → First s p → length s < p + 9 → Finds s (Unfinished p) p
  -- 3. identifier not 1, 2, 7, 8, or length not 3 to 256 for 1 and 7, not 3 to 258 for 2 and 8: p + 2 used
  unfit : {p : ℕ} → First s p → p + 9 ≤ length s → (Accepted (get_or s (p + 6) 0) (length_field s p) → ⊥) → Finds s (Unfit p) (p + 2)
  -- 4. fewer than 9 + length bytes from p: p used; otherwise p + 9 + length
  unfinished : {p : ℕ} → First s p → p + 9 ≤ length s → Accepted (get_or s (p + 6) 0) (length_field s p) → length s < p + 9 + length_field s p → Finds s (Unfinished p) p
  whole : {p n : ℕ} → WholeAt s p n → Finds s (Whole p n) (p + 9 + n)

-- ---- the definition's tests

marks_of_lem : (s : List ℕ) (p : ℕ) → marks_at s p ≡ true → Marks s p
unfolding marks_at
marks_of_lem s p e =
    let t : T (marks_at s p) = rw e tt in
    record {
      inside = rw add-one (marks_in s p e);
      first = eqb→eq (byte_at s p) 0xef (search (and_l));
      second = rw add-one (eqb→eq (byte_at s (suc p)) 0x01 (search (and_r)));
    }

of_marks : (s : List ℕ) (p : ℕ) → Marks s p → marks_at s p ≡ true
unfolding marks_at
of_marks s p m = let e : get_or s (suc p) 0 ≡ 0x01 = rw add-one at m.second in rw (m.first, e) refl

unmarked : (s : List ℕ) (p : ℕ) → (Marks s p → ⊥) → marks_at s p ≡ false
unmarked s p f = go (marks_at s p) refl
  where
    go : (b : Bool) → marks_at s p ≡ b → b ≡ false
    go true e = absurd (f (marks_of_lem s p e))
    go false e = refl

no_marks : (s : List ℕ) (p : ℕ) → marks_at s p ≡ false → Marks s p → ⊥
no_marks s p e m = true≢false (sym (of_marks s p m) ∙ e)

field_at : (s : List ℕ) (p : ℕ) → length_at s p ≡ length_field s p
field_at s p = (parts s p 0).length_at_lem

started : (s : List ℕ) (p : ℕ) → First s p → start_of s ≡ Some p
started s p f = start_at s p (of_marks s p f.here) (λ q l. unmarked s q (f.before q l))

-- ---- every run, and every case of it

-- for every run one case holds of what is found and of the bytes used
pub finds : (s : List ℕ) → Finds s (find_of s) (used_of (find_of s))
unfolding find_of find_from used_of all_but
finds s = go (start_of s) (start_first s)
  where
    none : ((q : ℕ) → Marks s q → ⊥) → (b : Bool) → eqb (get_or s (length s - 1) 0) 0xef ≡ b → Finds s (Noise (cond b (length s - 1) (length s))) (cond b (length s - 1) (length s))
    none h true e = noise_but_one h (eqb-true (get_or s (length s - 1) 0) 0xef e)
    none h false e = noise h (eqb-false (get_or s (length s - 1) 0) 0xef e)

    at : (p : ℕ) → First s p → (n : ℕ) → length_field s p ≡ n → (a b c : Bool) → ltb (length s) (p + 9) ≡ a → accepts (get_or s (p + 6) 0) n ≡ b → ltb (length s) (p + 9 + n) ≡ c
        → Finds s (cond a (Unfinished p) (cond b (cond c (Unfinished p) (Whole p n)) (Unfit p))) (used_of (cond a (Unfinished p) (cond b (cond c (Unfinished p) (Whole p n)) (Unfit p))))
    at p f n w true b c ea eb ec = headless f (ltb-true (length s) (p + 9) ea)
    at p f n w false false c ea eb ec = unfit f (ltb-false (length s) (p + 9) ea) (λ k. true≢false (sym (T→true (accepts (get_or s (p + 6) 0) n) ((accepts_means (get_or s (p + 6) 0) n).1 (rw w at k))) ∙ eb))
    at p f n w false true true ea eb ec = unfinished f (ltb-false (length s) (p + 9) ea) (rw w ((accepts_means (get_or s (p + 6) 0) n).0 (rw eb tt))) (rw w (ltb-true (length s) (p + 9 + n) ec))
    at p f n w false true false ea eb ec = whole record { first = f; field = w; accepted = (accepts_means (get_or s (p + 6) 0) n).0 (rw eb tt); inside = ltb-false (length s) (p + 9 + n) ec }

    go : (r : Option ℕ) → FirstStart s r → Finds s (find_from s r) (used_of (find_from s r))
    go None h = none (λ q. no_marks s q (h q)) (eqb (get_or s (length s - 1) 0) 0xef) refl
    go (Some p) h =
        at p record { here = marks_of_lem s p h.0; before = λ q l. no_marks s q (h.1 q l) } (length_at s p) (sym (field_at s p)) _ _ _ refl refl refl

-- and no other: where a case holds, that is what is found, and so many bytes are used
pub found : {s : List ℕ} {f : Found} {n : ℕ} → Finds s f n → (find_of s ≡ f) × (used_of (find_of s) ≡ n)
unfolding find_of find_from used_of all_but
found {s} (noise h d) = rw (start_nowhere s (λ q. unmarked s q (h q)), ne_eqb (get_or s (length s - 1) 0) 0xef d) (refl, refl)
found {s} (noise_but_one h e) = rw (start_nowhere s (λ q. unmarked s q (h q)), eq-eqb (get_or s (length s - 1) 0) 0xef e) (refl, refl)
found {s} (headless {p} f l) = rw (started s p f, lt-ltb (length s) (p + 9) l) (refl, refl)
found {s} (unfit {p} f l k) = rw (started s p f, le-ltb (length s) (p + 9) l, field_at s p, refuses_other (get_or s (p + 6) 0) (length_field s p) k) (refl, refl)
found {s} (unfinished {p} f l a m) =
    rw (started s p f, le-ltb (length s) (p + 9) l, field_at s p, T→true (accepts (get_or s (p + 6) 0) (length_field s p)) ((accepts_means (get_or s (p + 6) 0) (length_field s p)).1 a), lt-ltb (length s) (p + 9 + length_field s p) m) (refl, refl)
found {s} (whole {p} {n} w) =
    let e : find_from s (Some p) ≡ Whole p n = found_at s p n (field_at s p ∙ w.field) ((accepts_means (get_or s (p + 6) 0) n).1 w.accepted) w.inside in
    rw (started s p w.first, e) (refl, refl)

-- a whole packet is found only where it stands
pub whole_at : (s : List ℕ) (p n : ℕ) → find_of s ≡ Whole p n → WholeAt s p n
whole_at s p n e = go (find_of s) (used_of (find_of s)) (finds s) e
  where
    go : (f : Found) (m : ℕ) → Finds s f m → f ≡ Whole p n → WholeAt s p n
    go f m (noise h d) q = let z : ◌≡◌ {A = ℕ} 0 1 = cc in absurd (omega arith)
    go f m (noise_but_one h d) q = let z : ◌≡◌ {A = ℕ} 0 1 = cc in absurd (omega arith)
    go f m (headless h l) q = let z : ◌≡◌ {A = ℕ} 0 1 = cc in absurd (omega arith)
    go f m (unfit h l k) q = let z : ◌≡◌ {A = ℕ} 0 1 = cc in absurd (omega arith)
    go f m (unfinished h l a k) q = let z : ◌≡◌ {A = ℕ} 0 1 = cc in absurd (omega arith)
    go f m (whole {p = x} {n = y} w) q = let a : x ≡ p = cc in let b : y ≡ n = cc in rw (a, b) at w

-- ---- a call

module _ (σ : Shape) (r : Reader) (s : List ℕ) (lent : Lent) (l : T (legal σ r)) (u : T (fit_lent (capacity r.guarded) lent)) where
  -- it uses so many bytes, whatever a whole packet says
  pub uses : {f : Found} {n : ℕ} → Finds s f n → (call_of σ r s lent).told.used ≡ n
  unfolding carried step_of
  uses h = rw (call_legal σ r s lent l u) (found h).1

  -- without a whole packet it is silent
  pub silent_without : {f : Found} {n : ℕ} → Finds s f n → ((p m : ℕ) → f ≢ Whole p m) → call_of σ r s lent ≡ silently r n lent
  unfolding carried step_of answer silence hear hear_at
  silent_without {f} {n} h d =
      rw (call_legal σ r s lent l u, (found h).1, (found h).0) (go f d)
    where
      go : (f : Found) → ((p m : ℕ) → f ≢ Whole p m) → carried record { used = n; reply = (answer lent.chip r (hear_at r.plain.address s f)).reply; after = (answer lent.chip r (hear_at r.plain.address s f)).after } lent.room ≡ silently r n lent
      go (Noise k) d = ap (λ (x : List ℕ). record { told = record { refusal = 0; used = n; length = 0; room = x }; after = r }) (lay_nothing 0 lent.room)
      go (Unfinished k) d = ap (λ (x : List ℕ). record { told = record { refusal = 0; used = n; length = 0; room = x }; after = r }) (lay_nothing 0 lent.room)
      go (Unfit k) d = ap (λ (x : List ℕ). record { told = record { refusal = 0; used = n; length = 0; room = x }; after = r }) (lay_nothing 0 lent.room)
      go (Whole p m) d = absurd (d p m refl)

-- ---- the parts of a whole packet

-- its content, n - 2 bytes from p + 9 on
abbrev pub content_of : List ℕ → ℕ → ℕ → List ℕ
content_of s p n = take (n - 2) (drop (p + 9) s)

module _ (s : List ℕ) (p n : ℕ) (w : WholeAt s p n) where
  -- "Length counts content and sum."
  pub content_long : length (content_of s p n) + 2 ≡ n
  content_long = simp (length-take, length-drop) (omega (arith, w.inside, w.accepted.least))

  pub first_content : get_or (content_of s p n) 0 0 ≡ get_or s (p + 9) 0
  first_content =
      let e : p + 9 + 0 ≡ p + 9 = omega arith in
      get_or-take (n - 2) (drop (p + 9) s) 0 0 (omega (arith, w.accepted.least)) ∙ get_or-drop (p + 9) s 0 0 ∙ ap (λ (i : ℕ). get_or s i 0) e

  -- "The sum is identifier, both length bytes and every content byte added, modulo 65536"; it stands behind the content
  pub right_means : ((i : ℕ) → get_or s i 0 < 256)
      → (right_at s p n ≡ true) ↔ (get_or s (p + 7 + n) 0 * 256 + get_or s (p + 8 + n) 0 ≡ (get_or s (p + 6) 0 + get_or s (p + 7) 0 + get_or s (p + 8) 0 + foldr ◌+◌ 0 (content_of s p n)) % 65536)
  unfolding word_at sum_of two total
  right_means b =
      let word : word_at s (p + 7 + n) ≡ get_or s (p + 7 + n) 0 * 256 + get_or s (p + 8 + n) 0 = let e : p + 7 + n + 1 ≡ p + 8 + n = omega arith in rw e refl in
      let sum : sum_of (get_or s (p + 6) 0) (content_of s p n) ≡ (get_or s (p + 6) 0 + get_or s (p + 7) 0 + get_or s (p + 8) 0 + foldr ◌+◌ 0 (content_of s p n)) % 65536 =
      rw (content_long, total_added (content_of s p n)) (ap (λ (m : ℕ). m % 65536) (omega (arith, b (p + 8), w.field, w.accepted.most)))
      in
      (λ e. sym word ∙ eqb-true (word_at s (p + 7 + n)) (sum_of (get_or s (p + 6) 0) (content_of s p n)) e ∙ sum, λ e. eq-eqb (word_at s (p + 7 + n)) (sum_of (get_or s (p + 6) 0) (content_of s p n)) (word ∙ e ∙ sym sum))

-- ---- steps 5 to 7: what a run says to the reader of the address a

pub data Hears (a s : List ℕ) : Heard → Type 0 where
  no_packet : ((p n : ℕ) → WholeAt s p n → ⊥) → Hears a s nothing
  -- 5. address (bytes p + 2 to p + 5) not ours; identifier (byte p + 6) 7
  another : {p n : ℕ} → WholeAt s p n → take 4 (drop (p + 2) s) ≢ a → Hears a s nothing
  answered : {p n : ℕ} → WholeAt s p n → get_or s (p + 6) 0 ≡ 7 → Hears a s nothing
  -- 6. identifier 1: an order, by sum, code and length
  ordered : {p n : ℕ} → WholeAt s p n → take 4 (drop (p + 2) s) ≡ a → get_or s (p + 6) 0 ≡ 1 → Hears a s (order (order_of (right_at s p n) (content_of s p n)))
  -- 7. identifier 2 or 8: a piece, 8 the last
  more : {p n : ℕ} → WholeAt s p n → take 4 (drop (p + 2) s) ≡ a → get_or s (p + 6) 0 ≡ 2 → Hears a s (piece false (right_at s p n) (content_of s p n))
  last : {p n : ℕ} → WholeAt s p n → take 4 (drop (p + 2) s) ≡ a → get_or s (p + 6) 0 ≡ 8 → Hears a s (piece true (right_at s p n) (content_of s p n))

-- where a case holds, that is what the reader hears
pub heard : {a s : List ℕ} {h : Heard} → Hears a s h → hear a s ≡ h
unfolding hear hear_at hear_as
heard {a} {s} (no_packet d) = go (find_of s) refl
  where
    go : (f : Found) → find_of s ≡ f → hear_at a s f ≡ nothing
    go (Noise k) e = refl
    go (Unfinished k) e = refl
    go (Unfit k) e = refl
    go (Whole p m) e = absurd (d p m (whole_at s p m e))
heard {a} {s} (another {p} {n} w d) = rw ((found (whole w)).0, same_no (address_at s p) a d) refl
heard {a} {s} (answered {p} {n} w e) = rw ((found (whole w)).0, e) (go (same (address_at s p) a))
  where
    go : (b : Bool) → cond {A = Heard} b nothing nothing ≡ nothing
    go true = refl
    go false = refl
heard {a} {s} (ordered {p} {n} w e i) = ap (hear_at a s) (found (whole w)).0 ∙ heard_at a s p n e ∙ rw i refl
heard {a} {s} (more {p} {n} w e i) = ap (hear_at a s) (found (whole w)).0 ∙ heard_at a s p n e ∙ rw i refl
heard {a} {s} (last {p} {n} w e i) = ap (hear_at a s) (found (whole w)).0 ∙ heard_at a s p n e ∙ rw i refl

-- and for every run one does
pub hears : (a s : List ℕ) → Hears a s (hear a s)
hears a s = go (find_of s) refl
  where
    so : {h : Heard} → Hears a s h → Hears a s (hear a s)
    so c = rw (heard c) c

    by : (p n : ℕ) → WholeAt s p n → (b : Bool) → same (address_at s p) a ≡ b → Identifier (get_or s (p + 6) 0) → Hears a s (hear a s)
    by p n w false e i = so (another w (λ c. true≢false (sym (rw c (same_refl a)) ∙ e)))
    by p n w true e (inl i) = so (ordered w (same_eq (address_at s p) a e) i)
    by p n w true e (inr (inl i)) = so (more w (same_eq (address_at s p) a e) i)
    by p n w true e (inr (inr (inl i))) = so (answered w i)
    by p n w true e (inr (inr (inr i))) = so (last w (same_eq (address_at s p) a e) i)

    none : (f : Found) → find_of s ≡ f → ((p n : ℕ) → f ≢ Whole p n) → Hears a s (hear a s)
    none f e d = so (no_packet (λ p n w. d p n (sym e ∙ (found (whole w)).0)))

    go : (f : Found) → find_of s ≡ f → Hears a s (hear a s)
    go (Noise k) e = none (Noise k) e (λ p n q. let z : ◌≡◌ {A = ℕ} 0 1 = cc in omega arith)
    go (Unfinished k) e = none (Unfinished k) e (λ p n q. let z : ◌≡◌ {A = ℕ} 0 1 = cc in omega arith)
    go (Unfit k) e = none (Unfit k) e (λ p n q. let z : ◌≡◌ {A = ℕ} 0 1 = cc in omega arith)
    go (Whole p n) e = let w : WholeAt s p n = whole_at s p n e in by p n w (same (address_at s p) a) refl w.accepted.identifier
