-- The reply never exceeds 700 bytes, so the room that document 01 asks for is enough.
use mathlib.Core.Bool.{Bool, true, false}
use mathlib.Core.Path.{◌≡◌, refl, sym, ◌∙◌, subst}
use mathlib.Core.List.{List, [], ◌∷◌, ◌++◌}
use Prim.Native.Nat.{ℕ, zero, suc, ◌+◌, ◌*◌, ◌/◌, ◌≤◌}
use native.Mathlib.Omega.{arith}
use lib.Dec.{T, leb, leb→le}
use lib.ListN.{length, drop, length-append, length-take}
use Rattle.protocol.specs.Numbers.{page_bytes, four_bytes, reply_room, highest_size, done}
use Rattle.protocol.specs.Bytes.{two, joined}
use Rattle.protocol.specs.Reader.{Plain, Reader, capacity, size_of, locked, buffer_of, with_mark}
use Rattle.protocol.specs.Search.{Chip, match_bytes}
use Rattle.protocol.specs.Commands.{Free, read_sys_para, verify_password, hand_shake, Barred, search_for, store, load_char, up_char, down_char, delet_char, empty, set_sys_para, set_password, set_address, write_notepad, read_notepad, templete_num, read_index_table}
use Rattle.protocol.specs.Data.{acknowledge, packets, data_packets}
use Rattle.protocol.specs.Table.{Row, rule, apply, second, Public, parameters_of, free_rule, public_of}
use Rattle.protocol.specs.Step.{Heard, hear, Said, silence, says, carry_as, carry_free, rested, take_as, answer, step_of}
use Rattle.protocol.specs.Call.{Shape, Lent, fit_chip, fit_room, fit_plain, Ended, refused, carried, call_of}
use Rattle.protocol.proofs.Laws.Logic.{and_l, and_r, passed}
use Rattle.protocol.proofs.Laws.Lists.{follow_append, length_lay, drop_lay}
use Rattle.protocol.proofs.Laws.Commands.{Long, LongHeard, long_heard}
use Rattle.protocol.proofs.Laws.Answers.{answer_kinds, call_kinds}
use Rattle.protocol.proofs.Laws.Legal.{buffer_long, Good}
use Rattle.protocol.proofs.Laws.Sizes.{Size, sizes, length_packets, length_data}
use Rattle.protocol.proofs.Laws.Finder.{length_packet}
use Rattle.protocol.proofs.Promises.Refusals.StaysLegal.{Legal, good, good_rested, row_good}

length_acknowledge : (a : List ℕ) (code : ℕ) (b : List ℕ) → length a ≡ four_bytes → length (acknowledge a code b) ≡ length b + 12
unfolding acknowledge
length_acknowledge a code b h = length_packet a _ (code ∷ b) h ∙ omega arith

-- a row's bytes, and what goes behind the acknowledge
Fits : Row → Type 0
Fits w = length w.bytes + (12 + length w.behind) ≤ reply_room

row_fits : (χ : Chip) (r : Reader) → length r.plain.address ≡ four_bytes → Size (size_of r.plain.size) → ((w : Bool) → length (buffer_of w r.guarded).bytes ≡ page_bytes)
    → (c : Barred) → Fits (rule χ r c)
unfolding Fits rule match_bytes two joined
row_fits χ r a z b (search_for n p m) = omega arith
row_fits χ r a z b (store n p) = omega arith
row_fits χ r a z b (load_char n p) = omega arith
row_fits χ r a z b (up_char n) = omega (arith, length_data r.plain.address (size_of r.plain.size) (buffer_of (second n) r.guarded).bytes z a (b (second n)))
row_fits χ r a z b (down_char n) = omega arith
row_fits χ r a z b (delet_char p n) = omega arith
row_fits χ r a z b empty = omega arith
row_fits χ r a z b (set_sys_para k v) = omega arith
row_fits χ r a z b (set_password w) = omega arith
row_fits χ r a z b (set_address w) = omega arith
row_fits χ r a z b (write_notepad p n) = omega arith
row_fits χ r a z b (read_notepad p) = simp length-take (omega arith)
row_fits χ r a z b templete_num = omega arith
row_fits χ r a z b (read_index_table p) = simp length-take (omega arith)

sixteen : (v : Public) → length v.plain.address ≡ four_bytes → length (parameters_of v) ≡ 16
unfolding parameters_of two joined
sixteen v a = simp length-append (omega arith)

free_fits : (v : Public) → length v.plain.address ≡ four_bytes → (c : Free) → length (acknowledge (free_rule v c).plain.address (free_rule v c).code (free_rule v c).bytes) ≤ reply_room
unfolding free_rule with_mark
free_fits v a read_sys_para = omega (arith, length_acknowledge v.plain.address (free_rule v read_sys_para).code (parameters_of v) a, sixteen v a)
free_fits v a (verify_password w) = omega (arith, length_acknowledge v.plain.address (free_rule v (verify_password w)).code [] a)
free_fits v a hand_shake = omega (arith, length_acknowledge v.plain.address done [] a)

fit_size : (p : Plain) → T (fit_plain p) → T (leb p.size highest_size)
unfolding fit_plain
fit_size p t = search (and_l, and_r)

module _ (σ : Shape) (ok : σ.most ≤ 8 * σ.indexed) where
  pub size_of_lem : (r : Reader) → Good σ ok r → Size (size_of r.plain.size)
  size_of_lem r k = sizes r.plain.size (leb→le r.plain.size highest_size (fit_size r.plain k.settings))

  done_fits : (χ : Chip) (r : Reader) → Good σ ok r → (c : Barred) → Long c → locked (rested r).plain ≡ false → T (passed (rule χ (rested r) c).tests)
      → length (carry_as (rested r) (rule χ (rested r) c) zero).reply ≤ reply_room
  unfolding carry_as Fits
  done_fits χ r k c l u t =
      let q : Good σ ok (rested r) = good_rested σ ok r k in
      let w : Row = rule χ (rested r) c in
      let a : List ℕ = (apply w.effect (rested r)).plain.address in
      let room : Fits w = row_fits χ (rested r) q.typed.address (size_of_lem (rested r) q) (λ b. buffer_long b (rested r).guarded q.buffers) c in
      rw (follow_append (acknowledge a w.code w.bytes) w.behind, length-append (acknowledge a w.code w.bytes) w.behind)
      (omega (arith, length_acknowledge a w.code w.bytes (row_good σ ok χ r k c l u t).typed.address))

  taken_silent : (r : Reader) (w last : Bool) (got : ℕ) (content : List ℕ) → (take_as r w got content true last).reply ≡ []
  unfolding take_as silence
  taken_silent r w true got content = refl
  taken_silent r w false got content = refl

  answer_fits : (χ : Chip) (r : Reader) → Good σ ok r → (h : Heard) → LongHeard h → length (answer χ r h).reply ≤ reply_room
  unfolding silence says carry_free public_of
  answer_fits χ r k h l =
      let q : Good σ ok (rested r) = good_rested σ ok r k in
      answer_kinds (λ (o : Said). length o.reply ≤ reply_room) χ r h
      record {
        silent = omega arith;
        refuses = λ n. omega (arith, length_acknowledge (rested r).plain.address (suc n) [] q.typed.address);
        frees = λ c e. free_fits (public_of (rested r)) q.typed.address c;
        takes = λ w last right got content e e' f. rw (taken_silent r w last got content) (omega arith);
        does = λ c e u t. done_fits χ r k c (subst LongHeard e l) u t;
      }

  -- of any legal reader's call
  pub reply_fits : (r : Reader) → Legal σ ok r → (s : List ℕ) (lent : Lent) → (call_of σ r s lent).told.length ≤ 700
  unfolding refused carried step_of
  reply_fits r l s lent =
      call_kinds σ r s lent (λ (e : Ended). e.told.length ≤ reply_room) (λ n. omega arith)
      (λ t u. answer_fits lent.chip r (good σ ok r l) (hear r.plain.address s) (long_heard r.plain.address s))

  -- "Reply room past the reply length keeps its bytes", and the room keeps its length
  pub room_kept : (r : Reader) → Legal σ ok r → (s : List ℕ) (lent : Lent)
      → (drop (call_of σ r s lent).told.length (call_of σ r s lent).told.room ≡ drop (call_of σ r s lent).told.length lent.room)
      × (length (call_of σ r s lent).told.room ≡ length lent.room)
  unfolding refused carried step_of fit_room
  room_kept r l s lent =
      call_kinds σ r s lent (λ (e : Ended). (drop e.told.length e.told.room ≡ drop e.told.length lent.room) × (length e.told.room ≡ length lent.room))
      (λ n. (refl, refl))
      (λ t u.
      let a : List ℕ = (answer lent.chip r (hear r.plain.address s)).reply in
      let m : length a ≤ reply_room = answer_fits lent.chip r (good σ ok r l) (hear r.plain.address s) (long_heard r.plain.address s) in
      (drop_lay a lent.room, length_lay 0 a lent.room (omega (arith, leb→le reply_room (length lent.room) (and_r (fit_chip (capacity r.guarded) lent.chip) (fit_room lent.room) u)))))

-- what an upload takes of it at each size code: the acknowledge's 12 bytes, and 16 data packets of 43, 8 of 75, 4 of 139 or 2 of 267
module _ (a s : List ℕ) (h : length a ≡ 4) (long : length s ≡ 512) where
  abbrev pub upload_length : ℕ → ℕ
  upload_length code = length (acknowledge a 0x00 [] ++ data_packets a (size_of code) s)

  upload_length_lem : (code k z : ℕ) → size_of code ≡ z → 512 / z ≡ k → k * z ≡ 512 → upload_length code ≡ 12 + k * (z + 11)
  unfolding data_packets
  upload_length_lem code k z e many all =
      rw (e, many, length-append (acknowledge a 0x00 []) (joined (packets a k z s)))
      (omega (arith, length_acknowledge a 0x00 [] h, length_packets a k z s h (long ∙ sym all)))

  pub upload_lengths : (upload_length 0 ∷ upload_length 1 ∷ upload_length 2 ∷ upload_length 3 ∷ []) ≡ (700 ∷ 612 ∷ 568 ∷ 546 ∷ [])
  unfolding size_of
  upload_lengths = rw (upload_length_lem 0 16 32 refl refl refl, upload_length_lem 1 8 64 refl refl refl, upload_length_lem 2 4 128 refl refl refl, upload_length_lem 3 2 256 refl refl refl) refl
