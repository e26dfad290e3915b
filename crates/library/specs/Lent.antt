-- What the library's functions do to any lent memory: as document 01 says where it fits, and otherwise nothing.
use Rattle.std.specs.Prelude.{ℕ, zero, suc, ◌+◌, ◌*◌, ◌/◌, Bool, cond, ◌&&◌, List, length, Option, Some, None, ◌==◌, nat_le, nat_lt}
use Rattle.protocol.specs.Numbers.{page_bytes}
use Rattle.protocol.specs.Bytes.{part, zeros, lay}
use Rattle.protocol.specs.Index.{set_bits}

-- the set bits of an index of n bytes; none of one of another length
unfoldable pub counted_of : ℕ → List ℕ → Option ℕ
counted_of n x = cond (length x == n) (Some (set_bits x)) None

-- n pages from p on are there, of c
unfoldable pub is_span : ℕ → ℕ → ℕ → Bool
is_span p n c = nat_lt p c && nat_le (p + n) c

-- the templates t with page p as b
unfoldable pub write_page : ℕ → List ℕ → List ℕ → List ℕ
write_page p b t = cond (nat_lt p (length t / page_bytes)) (cond (length b == page_bytes) (lay (page_bytes * p) b t) t) t

-- page p in place of the bytes d
unfoldable pub read_page : ℕ → List ℕ → List ℕ → List ℕ
read_page p t d = cond (nat_lt p (length t / page_bytes)) (cond (length d == page_bytes) (part (page_bytes * p) page_bytes t) d) d

-- the templates t with page p, or the n pages from p on, zero
unfoldable pub zero_page : ℕ → List ℕ → List ℕ
zero_page p t = cond (nat_lt p (length t / page_bytes)) (lay (page_bytes * p) (zeros page_bytes) t) t

unfoldable pub zero_pages : ℕ → ℕ → List ℕ → List ℕ
zero_pages p zero t = t
zero_pages p (suc n) t = zero_pages (suc p) n (zero_page p t)
