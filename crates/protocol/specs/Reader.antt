-- A reader: its settings and its lent memory, split as document 01 splits them into what is guarded and the rest.
use Rattle.std.specs.Prelude.{Bool, true, false, ◌&&◌, not, cond, List, ℕ, ◌+◌, ◌*◌, ◌/◌, ◌^◌, length}
use Rattle.protocol.specs.Numbers.{page_bytes, fresh_password, fresh_address, fresh_level, fresh_size, fresh_baud, fresh_sensor}
use Rattle.protocol.specs.Bytes.{four, zeros, same}

-- the four marks of a settings record as they lie: 0 is clear, 1 is set, and any other byte is not legal
pub record Marks : Type 0 where
  pub verified : ℕ
  pub filled1 : ℕ
  pub filled2 : ℕ
  pub found : ℕ

-- a transfer: none, or into a buffer (the second?) with the bytes got so far
pub data Transfer : Type 0 where
  closed : Transfer
  opened : Bool → ℕ → Transfer
  -- what a settings record has that no legal reader has: two numbers that name no buffer, or a mark that is neither 0 nor 1; its bytes as they lie
  unfit : ℕ → ℕ → Marks → Transfer

-- the settings, but for the filled marks, the origins and status bit 1
pub record Plain : Type 0 where
  pub password : List ℕ
  pub address : List ℕ
  pub level : ℕ
  pub size : ℕ
  pub baud : ℕ
  pub sensor : ℕ
  pub verified : Bool
  pub transfer : Transfer

-- a buffer's origin, by request [7]: none, or a page
pub data Origin : Type 0 where
  no_origin : Origin
  from_page : ℕ → Origin

-- a character buffer, its filled mark and its origin
pub record Buffer : Type 0 where
  pub bytes : List ℕ
  pub filled : Bool
  pub origin : Origin

-- guarded contents: templates, index, notepad, both buffers, their filled marks and their origins; and, by request [8], status bit 1: a Search found a page
pub record Guarded : Type 0 where
  pub templates : List ℕ
  pub index : List ℕ
  pub notepad : List ℕ
  pub buffer1 : Buffer
  pub buffer2 : Buffer
  pub found : Bool

pub record Reader : Type 0 where
  pub plain : Plain
  pub guarded : Guarded

-- C is read off the templates' length
unfoldable pub capacity : Guarded → ℕ
capacity g = length g.templates / page_bytes

-- size codes 0, 1, 2, 3 mean 32, 64, 128, 256 data bytes; 3 is request [3]'s
unfoldable pub size_of : ℕ → ℕ
size_of code = 2 ^ (5 + code)

-- locked: password not zero and verified mark clear
unfoldable pub keyed : Plain → Bool
keyed p = not (same p.password (four 0))

unfoldable pub locked : Plain → Bool
locked p = keyed p && not p.verified

-- ---- a buffer by its number: is it the second?

unfoldable pub buffer_of : Bool → Guarded → Buffer
buffer_of second g = cond second g.buffer2 g.buffer1

unfoldable pub emptied : Buffer
emptied = record { bytes = zeros page_bytes; filled = false; origin = no_origin }

-- filled with the bytes of page p, which is its origin
unfoldable pub loaded_from : ℕ → List ℕ → Buffer
loaded_from p b = record { bytes = b; filled = true; origin = from_page p }

-- stored on page p, which is its origin; its bytes and its mark stay
unfoldable pub stored_on : ℕ → Buffer → Buffer
stored_on p b = record { bytes = b.bytes; filled = b.filled; origin = from_page p }

-- is an origin one of these pages?
unfoldable pub is_one_of : (ℕ → Bool) → Origin → Bool
is_one_of pages no_origin = false
is_one_of pages (from_page p) = pages p

-- these pages are deleted: a buffer whose origin is one of them is zeroed and unmarked, and its origin is none
unfoldable pub without : (ℕ → Bool) → Buffer → Buffer
without pages b = cond (is_one_of pages b.origin) emptied b

-- ---- a reader with one part anew (there is no record update)

abbrev pub settings : List ℕ → List ℕ → ℕ → ℕ → ℕ → ℕ → Bool → Transfer → Plain
settings w a l z b k v t = record { password = w; address = a; level = l; size = z; baud = b; sensor = k; verified = v; transfer = t }

unfoldable pub with_mark : Bool → Plain → Plain
with_mark v p = settings p.password p.address p.level p.size p.baud p.sensor v p.transfer

unfoldable pub with_transfer : Transfer → Plain → Plain
with_transfer t p = settings p.password p.address p.level p.size p.baud p.sensor p.verified t

-- SetPwd also clears the verified mark
unfoldable pub with_password : List ℕ → Plain → Plain
with_password w p = settings w p.address p.level p.size p.baud p.sensor false p.transfer

unfoldable pub with_address : List ℕ → Plain → Plain
with_address a p = settings p.password a p.level p.size p.baud p.sensor p.verified p.transfer

unfoldable pub with_tuning : ℕ → ℕ → ℕ → Plain → Plain
with_tuning b l z p = settings p.password p.address l z b p.sensor p.verified p.transfer

abbrev pub contents : List ℕ → List ℕ → List ℕ → Buffer → Buffer → Bool → Guarded
contents t i n b c f = record { templates = t; index = i; notepad = n; buffer1 = b; buffer2 = c; found = f }

unfoldable pub with_library : List ℕ → List ℕ → Guarded → Guarded
with_library t i g = contents t i g.notepad g.buffer1 g.buffer2 g.found

unfoldable pub with_notepad : List ℕ → Guarded → Guarded
with_notepad n g = contents g.templates g.index n g.buffer1 g.buffer2 g.found

unfoldable pub with_buffer : Bool → Buffer → Guarded → Guarded
with_buffer second b g = contents g.templates g.index g.notepad (cond second g.buffer1 b) (cond second b g.buffer2) g.found

-- both buffers, once these pages are deleted
unfoldable pub without_pages : (ℕ → Bool) → Guarded → Guarded
without_pages pages g = contents g.templates g.index g.notepad (without pages g.buffer1) (without pages g.buffer2) g.found

-- status bit 1 as this
unfoldable pub with_found : Bool → Guarded → Guarded
with_found f g = contents g.templates g.index g.notepad g.buffer1 g.buffer2 f

abbrev pub reader : Plain → Guarded → Reader
reader p g = record { plain = p; guarded = g }

-- ---- fresh settings, and zeroed memory of c pages

unfoldable pub fresh : Plain
fresh = settings (four fresh_password) (four fresh_address) fresh_level fresh_size fresh_baud fresh_sensor false closed

unfoldable pub zeroed : ℕ → ℕ → ℕ → Guarded
zeroed pages indexed noted = contents (zeros (page_bytes * pages)) (zeros indexed) (zeros noted) emptied emptied false
