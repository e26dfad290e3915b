-- Document 01: "The board's C firmware calls four plain services: the sum of all bytes of a run modulo 65536, the bytes used of a run by steps
-- 1 to 4 below, building a packet (its length, or 0 if refused), and the number of set bits in an index (FFFFh if it is not 32 bytes long)", by request [6]
-- 128.
use mathlib.Core.Path.{◌≡◌, refl, ap}
use mathlib.Core.Logic.{◌≢◌}
use mathlib.Core.List.{List, [], ◌∷◌, foldr}
use Prim.Native.Nat.{ℕ, ◌+◌, ◌*◌, ◌/◌, ◌%◌, ◌<◌}
use borrow.Author.Tests.{ne_eqb}
use lib.ListN.{length}
use Rattle.protocol.specs.Packet.{build_of}
use Rattle.protocol.specs.Finder.{find_of}
use Rattle.protocol.specs.Call.{core}
use Rattle.protocol.specs.Services.{sum_service, used_service, build_service, count_service}
use Rattle.protocol.proofs.Laws.Lists.{total_added}
use Rattle.protocol.proofs.Laws.Count.{set_weights}
use Rattle.protocol.proofs.Promises.Words.Words.{lists}
use Rattle.protocol.proofs.Promises.Packets.Finding.{Finds, finds}

-- the sum of all bytes
pub sum_service_lem : (s : List ℕ) → sum_service s ≡ foldr ◌+◌ 0 s % 65536
unfolding sum_service
sum_service_lem s = ap (λ (n : ℕ). n % 65536) (total_added s)

-- the bytes used by steps 1 to 4
pub used_service_lem : (s : List ℕ) → Finds s (find_of s) (used_service s)
unfolding used_service
used_service_lem = finds

-- the builder, for an address as one number, high byte first; Refused and ReadBack say what it returns and leaves
pub build_service_lem : (a b c d i : ℕ) (content room : List ℕ) → a < 256 → b < 256 → c < 256 → d < 256
    → build_service (a * 16777216 + b * 65536 + c * 256 + d) i content room ≡ build_of (a ∷ b ∷ c ∷ d ∷ []) i content room
unfolding build_service
build_service_lem a b c d i content room w x y z = rw (lists.four_bytes_lem a b c d w x y z) refl

-- the set bits of 128 bytes: request [6], "the C firmware's index count now wants 128 bytes"
pub count_service_lem : (x : List ℕ) → length x ≡ 128
    → count_service x ≡ foldr (λ b n. b % 2 + b / 2 % 2 + b / 4 % 2 + b / 8 % 2 + b / 16 % 2 + b / 32 % 2 + b / 64 % 2 + b / 128 % 2 + n) 0 x
unfolding count_service core
count_service_lem x e = rw e (set_weights x)

pub count_service_none : (x : List ℕ) → length x ≢ 128 → count_service x ≡ 0xffff
unfolding count_service core
count_service_none x d = rw (ne_eqb (length x) 128 d) refl
