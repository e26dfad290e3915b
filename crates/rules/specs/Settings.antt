-- The settings record: with one thing changed, with its size code capped, and legal.
use Rattle.std.specs.Prelude.{Bool, true, ◌&&◌, cond, List, [], ◌≡◌, ℕ, ◌≤◌, leb}
use Rattle.protocol.specs.declared.Settings.{Settings}
use Rattle.protocol.specs.Numbers.{page_bytes, highest_size, no_page}
use Rattle.protocol.specs.Index.{clear_from}
use Rattle.protocol.specs.Reader.{Reader, size_of}
use Rattle.protocol.specs.Table.{public_of}
use Rattle.protocol.specs.Call.{fit_plain, fit_transfer, fit_origin}
use Rattle.protocol.specs.Records.{fit_marks, is_set, marks_of, origin_of, reader_of}

-- the one place that lists all fields
abbrev pub record_of : List ℕ → List ℕ → ℕ → ℕ → ℕ → ℕ → ℕ → ℕ → ℕ → ℕ → ℕ → ℕ → ℕ → ℕ → Settings
record_of p a l z b w k g v f h m o q =
    record { password = p; address = a; level = l; size = z; baud = b; transfer = w; sensor = k; got = g; verified = v; filled1 = f; filled2 = h; found = m; origin1 = o; origin2 = q }

abbrev pub with_mark : ℕ → Settings → Settings
with_mark v s = record_of s.password s.address s.level s.size s.baud s.transfer s.sensor s.got v s.filled1 s.filled2 s.found s.origin1 s.origin2

abbrev pub with_password : List ℕ → Settings → Settings
with_password p s = record_of p s.address s.level s.size s.baud s.transfer s.sensor s.got 0 s.filled1 s.filled2 s.found s.origin1 s.origin2

abbrev pub with_address : List ℕ → Settings → Settings
with_address a s = record_of s.password a s.level s.size s.baud s.transfer s.sensor s.got s.verified s.filled1 s.filled2 s.found s.origin1 s.origin2

abbrev pub with_tuning : ℕ → ℕ → ℕ → Settings → Settings
with_tuning b l z s = record_of s.password s.address l z b s.transfer s.sensor s.got s.verified s.filled1 s.filled2 s.found s.origin1 s.origin2

abbrev pub with_transfer : ℕ → ℕ → Settings → Settings
with_transfer w g s = record_of s.password s.address s.level s.size s.baud w s.sensor g s.verified s.filled1 s.filled2 s.found s.origin1 s.origin2

abbrev pub with_filled : ℕ → ℕ → Settings → Settings
with_filled f h s = record_of s.password s.address s.level s.size s.baud s.transfer s.sensor s.got s.verified f h s.found s.origin1 s.origin2

abbrev pub with_origins : ℕ → ℕ → Settings → Settings
with_origins o q s = record_of s.password s.address s.level s.size s.baud s.transfer s.sensor s.got s.verified s.filled1 s.filled2 s.found o q

abbrev pub with_found : ℕ → Settings → Settings
with_found m s = record_of s.password s.address s.level s.size s.baud s.transfer s.sensor s.got s.verified s.filled1 s.filled2 m s.origin1 s.origin2

-- what a line switch leaves of them
abbrev pub with_switch : Settings → Settings
with_switch s = record_of s.password s.address s.level s.size s.baud 0 s.sensor 0 0 0 0 0 no_page no_page

-- status bit 1 as it shows: the settings decide, and no memory is looked at
unfoldable pub shown_of : Settings → Bool
shown_of s = (public_of (reader_of s [] [] [] [] [])).shown

-- ---- the data bytes of a size code

-- a code above the highest counts as the highest
unfoldable pub capped_code : ℕ → ℕ
capped_code code = cond (leb code highest_size) code highest_size

abbrev pub capped : Settings → Settings
capped s = with_tuning s.baud s.level (capped_code s.size) s

-- they are at least one, and at most a page
pub record SizeOf (code r : ℕ) : Type 0 where
  pub is : r ≡ size_of (capped_code code)
  pub low : 1 ≤ r
  pub high : r ≤ page_bytes

-- ---- legal settings

-- of the lent memory only the filled marks count, and they are settings; a mark that is not fit makes the transfer unfit
unfoldable pub legal_of : Settings → Bool
legal_of s =
    let r : Reader = reader_of s [] [] [] [] [] in
    fit_plain r.plain && fit_transfer r.plain r.guarded r.plain.transfer

-- both origins, of c pages and an index x
unfoldable pub origins_fit : ℕ → List ℕ → Settings → Bool
origins_fit c x s = fit_origin c x (is_set s.filled1) (origin_of s.origin1) && fit_origin c x (is_set s.filled2) (origin_of s.origin2)

-- what refusal 3 tests
unfoldable pub sound_of : ℕ → List ℕ → Settings → Bool
sound_of c x s = legal_of s && clear_from x c && origins_fit c x s

-- what legal settings say
pub record Legal (s : Settings) : Type 0 where
  pub size : s.size ≤ highest_size
  pub which : s.transfer ≤ 2
  pub none : s.transfer ≡ 0 → s.got ≡ 0
  pub marks : fit_marks (marks_of s) ≡ true
