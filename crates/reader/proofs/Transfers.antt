-- An open transfer, by the settings' two numbers: ended, and what a data packet does to it.
use mathlib.Core.Path.{◌≡◌, refl, sym, ap, ◌∙◌}
use mathlib.Core.Bool.{Bool, true, false, true≢false, ◌&&◌, cond}
use mathlib.Core.List.{List, []}
use Prim.Native.Nat.{ℕ, zero, suc, ◌+◌, ◌-◌, ◌≤◌}
use native.Mathlib.Omega.{arith}
use lib.Dec.{eqb, ltb}
use lib.ListN.{length, take, drop}
use borrow.Rule.Slice.PartMut.{put_mid}
use borrow.Author.Tests.{eqb-true, ltb-true}
use Rattle.protocol.specs.Numbers.{page_bytes, transfer_failed}
use Rattle.protocol.specs.declared.Settings.{Settings}
use Rattle.protocol.specs.Bytes.{lay}
use Rattle.protocol.specs.Reader.{closed, opened, Plain, Guarded, Reader, size_of, buffer_of, reader}
use Rattle.protocol.specs.Reader as readers
use Rattle.protocol.specs.Table.{is_buffer}
use Rattle.protocol.specs.Step.{says, silence, ended, rested, fits, take_as, take_in}
use Rattle.protocol.specs.Records.{marks_of, plain_of, reader_of}
use Rattle.protocol.proofs.Laws.Marks.{fit_mark_lem, none_beside, into_beside}
use Rattle.rules.specs.Settings.{with_transfer, Legal}
use Rattle.library.proofs.Parts.{part_put}
use Rattle.wire.specs.Laying.{lay_front}
use Rattle.reader.specs.Buffers.{buffers, changed, with_fill}
use Rattle.reader.proofs.Laws.{chosen_filled, chosen_bytes, chosen_origin}
use Rattle.reader.proofs.ByNumber.{held_fit, changed_marked, changed_kept, moved_legal, filled_legal}

-- ---- as legal settings have it

nameless : (n : ℕ) → is_buffer n ≡ false → n ≤ 2 → n ≡ 0
unfolding is_buffer
nameless zero e h = refl
nameless (suc zero) e h = absurd (true≢false e)
nameless (suc (suc zero)) e h = absurd (true≢false e)
nameless (suc (suc (suc n))) e h = absurd (omega arith)

module _ (s : Settings) (l : Legal s) where
  pub none_open : is_buffer s.transfer ≡ false → (plain_of s).transfer ≡ closed
  none_open e =
      let z = nameless s.transfer e l.which in
      none_beside (marks_of s) l.marks s.transfer s.got z (l.none z)

  pub open_into : is_buffer s.transfer ≡ true → (plain_of s).transfer ≡ opened (eqb s.transfer 2) s.got
  open_into e = into_beside (marks_of s) l.marks s.transfer s.got e

-- ---- ended

module _ (r : Reader) where
  pub none_ended : r.plain.transfer ≡ closed → r ≡ rested r
  unfolding rested ended
  none_ended e = rw e refl

  pub one_ended : (w : Bool) (k : ℕ) → r.plain.transfer ≡ opened w k → reader (readers.with_transfer closed r.plain) (readers.with_buffer w readers.emptied r.guarded) ≡ rested r
  unfolding rested ended
  one_ended w k e = rw e refl

-- ---- into a buffer

-- an open transfer takes a data packet, which fits or not
module _ (r : Reader) (l s : Bool) (c : List ℕ) (w : Bool) (k : ℕ) (e : r.plain.transfer ≡ opened w k) where
  pub take_open : fits r.plain k l s c ≡ true → take_in r l s c r.plain.transfer ≡ take_as r w k c true l
  unfolding take_in
  take_open g = ap (take_in r l s c) e ∙ rw g refl

  pub take_failed : fits r.plain k l s c ≡ false → take_in r l s c r.plain.transfer ≡ says (rested r) transfer_failed
  unfolding take_in take_as rested
  take_failed f = ap (take_in r l s c) e ∙ rw f (ap (λ t. says (ended r t) transfer_failed) (sym e))

both_left : (a b : Bool) → (a && b) ≡ true → a ≡ true
both_left true b e = refl
both_left false b e = e

both_right : (a b : Bool) → (a && b) ≡ true → b ≡ true
both_right true b e = e
both_right false b e = absurd (true≢false (sym e))

fits_room : (l : Bool) (n : ℕ) → cond l (eqb n page_bytes) (ltb n page_bytes) ≡ true → n ≤ page_bytes
fits_room true n e = omega (arith, eqb-true n page_bytes e)
fits_room false n e = omega (arith, ltb-true n page_bytes e)

-- a data packet that fits is one size long, and there is room for it
pub part_facts : (p : Plain) (k : ℕ) (l s : Bool) (c : List ℕ) → fits p k l s c ≡ true → (length c ≡ size_of p.size) × (k + length c ≤ page_bytes)
unfolding fits
part_facts p k l s c e =
    let z : ℕ = size_of p.size in
    let a : (s && eqb (length c) z) ≡ true = both_left (s && eqb (length c) z) (cond l (eqb (k + z) page_bytes) (ltb (k + z) page_bytes)) e in
    let b : length c ≡ z = eqb-true (length c) z (both_right s (eqb (length c) z) a) in
    let d : k + z ≤ page_bytes = fits_room l (k + z) (both_right (s && eqb (length c) z) (cond l (eqb (k + z) page_bytes) (ltb (k + z) page_bytes)) e) in
    (b, rw b d)

-- ---- placed

-- bytes put over a part that is as long
pub part_copied : (a g : ℕ) (c x y : List ℕ) → a + length c ≤ length x → y ≡ lay_front c (take (a + length c - a) (drop a x)) → a ≡ g → put_mid a (a + length c - a) x y ≡ lay g c x
part_copied a g c x y h e f = rw (← f) (part_put a (length c) x c y refl h e)

-- the settings once a data packet of n bytes has gone into buffer k: the last sets the filled mark and closes the transfer
module _ (k n : ℕ) (s : Settings) (j : Legal s) (e : s.transfer ≡ k) (o : is_buffer k ≡ true) where
  pub placed_legal : (last : Bool) (q : Settings) → q ≡ cond last (with_transfer 0 0 (with_fill k 1 s)) (with_transfer s.transfer n s) → Legal q
  unfolding is_buffer
  placed_legal true q f = moved_legal 0 0 (with_fill k 1 s) q f (omega arith) (λ z. refl) (filled_legal k 1 s (with_fill k 1 s) refl j (fit_mark_lem true))
  placed_legal false q f = moved_legal s.transfer n s q f j.which (λ z. absurd (true≢false (sym (rw (sym e ∙ z) at o)))) j

  -- the reader, where the bytes c lie in that buffer then
  pub placed_reader : (last : Bool) (q : Settings) (t i m b d x y c : List ℕ) → q ≡ cond last (with_transfer 0 0 (with_fill k 1 s)) (with_transfer s.transfer n s) → n ≡ s.got + length c → length c ≡ size_of s.size
      → buffers x y ≡ changed k (lay s.got c) b d
      → silence (reader_of q t i m x y) ≡ take_as (reader_of s t i m b d) (eqb k 2) s.got c true last
  unfolding take_as silence readers.with_transfer buffer_of
  placed_reader true q t i m b d x y c f g h r =
      rw (f, none_beside (marks_of (with_fill k 1 s)) (held_fit k 1 0 s j (fit_mark_lem true)) 0 0 refl refl, chosen_bytes, chosen_origin)
      (ap (λ (h : Guarded). record { reply = []; after = reader (readers.with_transfer closed (plain_of s)) h }) (changed_marked k (lay s.got c) s t i m b d x y r 1))
  placed_reader false q t i m b d x y c f g h r =
      rw (f, chosen_bytes, chosen_filled, chosen_origin, e, into_beside (marks_of s) j.marks k n o, g, h)
      (ap (λ (h : Guarded). record { reply = []; after = reader (readers.with_transfer (opened (eqb k 2) (s.got + size_of s.size)) (plain_of s)) h }) (changed_kept k (lay s.got c) s t i m b d x y r))
