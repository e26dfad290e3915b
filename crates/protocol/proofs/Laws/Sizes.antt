-- The sizes of a transfer: what each size code says of its data packets. Every other law is over the size.
use mathlib.Core.Bool.{cond}
use mathlib.Core.Path.{◌≡◌, refl, sym, ◌∙◌}
use mathlib.Core.List.{List}
use Prim.Native.Nat.{ℕ, zero, suc, ◌+◌, ◌*◌, ◌/◌, ◌≤◌}
use native.Mathlib.Nat.{suc-mul}
use native.Mathlib.Omega.{arith}
use lib.Dec.{T, eqb, lit≤}
use lib.ListN.{length, take, drop, length-append, length-drop}
use lib.Seq.{length-take-le}
use Rattle.protocol.specs.Numbers.{page_bytes, four_bytes, frame_bytes, reply_room, highest_size, longest, data_packet, last_packet}
use Rattle.protocol.specs.Bytes.{joined}
use Rattle.protocol.specs.Packet.{packet, is_identifier, limit, accepts}
use Rattle.protocol.specs.Reader.{size_of}
use Rattle.protocol.specs.Data.{packets, data_packets}
use Rattle.protocol.proofs.Laws.Finder.{length_packet}

-- data packets of z bytes: a page is so many of them, they are packets, and behind an acknowledge they fit the reply room
pub record Size (z : ℕ) : Type 0 where
  pub more : ℕ
  pub count : page_bytes / z ≡ suc more
  pub whole : suc more * z ≡ page_bytes
  pub some : 1 ≤ z
  pub carries : T (accepts data_packet (z + 2))
  pub ends : T (accepts last_packet (z + 2))
  pub room : 12 + suc more * (z + frame_bytes) ≤ reply_room

pub sizes : (code : ℕ) → code ≤ highest_size → Size (size_of code)
unfolding size_of highest_size accepts is_identifier limit longest
sizes zero h = record { more = 15; count = refl; whole = refl; some = lit≤ tt; carries = tt; ends = tt; room = lit≤ tt }
sizes (suc zero) h = record { more = 7; count = refl; whole = refl; some = lit≤ tt; carries = tt; ends = tt; room = lit≤ tt }
sizes (suc (suc zero)) h = record { more = 3; count = refl; whole = refl; some = lit≤ tt; carries = tt; ends = tt; room = lit≤ tt }
sizes (suc (suc (suc zero))) h = record { more = 1; count = refl; whole = refl; some = lit≤ tt; carries = tt; ends = tt; room = lit≤ tt }
sizes (suc (suc (suc (suc n)))) h = absurd (omega arith)

-- k packets of n bytes
pub length_packets : (a : List ℕ) (k n : ℕ) (s : List ℕ) → length a ≡ four_bytes → length s ≡ k * n → length (joined (packets a k n s)) ≡ k * (n + frame_bytes)
unfolding packets joined
length_packets a zero n s h e = omega arith
length_packets a (suc k) n s h e =
    let i : ℕ = cond (eqb k 0) last_packet data_packet in
    let rest : length (joined (packets a k n (drop n s))) ≡ k * (n + frame_bytes) = length_packets a k n (drop n s) h (length-drop n s ∙ omega (arith, suc-mul k n)) in
    let one : length (take n s) ≡ n = length-take-le n s (omega (arith, suc-mul k n)) in
    length-append (packet a i (take n s)) (joined (packets a k n (drop n s)))
    ∙ omega (arith, length_packet a i (take n s) h, suc-mul k (n + frame_bytes))

pub length_data : (a : List ℕ) (z : ℕ) (s : List ℕ) → Size z → length a ≡ four_bytes → length s ≡ page_bytes → 12 + length (data_packets a z s) ≤ reply_room
unfolding data_packets
length_data a z s k h e =
    let l : length (joined (packets a (suc k.more) z s)) ≡ suc k.more * (z + frame_bytes) = length_packets a (suc k.more) z s h (e ∙ sym k.whole) in
    rw k.count (omega (arith, l, k.room))
