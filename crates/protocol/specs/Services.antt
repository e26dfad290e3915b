-- The four plain services that the board's C firmware calls, on numbers and bytes.
use Rattle.std.specs.Prelude.{cond, List, ℕ, ◌%◌, eqb, length}
use Rattle.protocol.specs.Numbers.{no_count}
use Rattle.protocol.specs.Bytes.{four, total}
use Rattle.protocol.specs.Packet.{Made, build_of}
use Rattle.protocol.specs.Finder.{find_of, used_of}
use Rattle.protocol.specs.Index.{set_bits}
use Rattle.protocol.specs.Call.{core}

-- the sum of all bytes of a run modulo 65536
unfoldable pub sum_service : List ℕ → ℕ
sum_service s = total s % 65536

-- the bytes used of a run by steps 1 to 4
unfoldable pub used_service : List ℕ → ℕ
used_service s = used_of (find_of s)

-- building a packet for an address: its length, or 0 if refused; and the room
unfoldable pub build_service : ℕ → ℕ → List ℕ → List ℕ → Made
build_service address identifier content room = build_of (four address) identifier content room

-- the number of set bits in an index, FFFFh if it is not as long as the reader's
unfoldable pub count_service : List ℕ → ℕ
count_service x = cond (eqb (length x) core.indexed) (set_bits x) no_count
