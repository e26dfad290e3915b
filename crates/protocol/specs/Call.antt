-- A whole call: refusals, reply room, and what a call returns and leaves.
use Rattle.std.specs.Prelude.{Bool, true, false, ◌&&◌, not, ◌≡◌, List, [], ◌∷◌, ℕ, zero, suc, ◌*◌, ◌%◌, eqb, ltb, leb, length, take}
use Rattle.protocol.specs.Numbers.{page_bytes, least_pages, most_pages, index_bytes, notepad_bytes, four_bytes, reply_room, levels, lowest_level, highest_level, lowest_baud, highest_baud, highest_size, bad_length, bad_room, bad_setting}
use Rattle.protocol.specs.Bytes.{Bytes, lay}
use Rattle.protocol.specs.Tests.{verdict, within}
use Rattle.protocol.specs.Index.{stored, clear_from}
use Rattle.protocol.specs.Reader.{Transfer, closed, opened, unfit, Plain, Origin, no_origin, from_page, Guarded, Reader, capacity, size_of, locked, buffer_of}
use Rattle.protocol.specs.Search.{Chip}
use Rattle.protocol.specs.Step.{Outcome, step_of, switched}

-- ---- legal readers

-- the form of the lent memory: pages at least and at most, index bytes, notepad bytes
pub record Shape : Type 0 where
  pub least : ℕ
  pub most : ℕ
  pub indexed : ℕ
  pub noted : ℕ

-- with a notepad of n bytes; the pages and the index are request [6]'s
abbrev pub shaped : ℕ → Shape
shaped n = record { least = least_pages; most = most_pages; indexed = index_bytes; noted = n }

-- document 01's reader
unfoldable pub core : Shape
core = shaped notepad_bytes

-- the lent lengths as numbers: of c pages the templates, the index and the notepad; and both buffers
abbrev pub library_fits : Shape → ℕ → ℕ → ℕ → ℕ → Bool
library_fits σ c t i n = eqb t (page_bytes * c) && within σ.least c σ.most && eqb i σ.indexed && eqb n σ.noted

abbrev pub buffers_fit : ℕ → ℕ → Bool
buffers_fit b d = eqb b page_bytes && eqb d page_bytes

unfoldable pub fit_library : Shape → Guarded → Bool
fit_library σ g = library_fits σ (capacity g) (length g.templates) (length g.index) (length g.notepad)

unfoldable pub fit_buffers : Guarded → Bool
fit_buffers g = buffers_fit (length g.buffer1.bytes) (length g.buffer2.bytes)

-- 1: a lent length, the reply room's apart
unfoldable pub fit_lengths : Shape → Guarded → Bool
fit_lengths σ g = fit_library σ g && fit_buffers g

-- 1: "scores not C long or thresholds not five", by request [8]; of c pages, and the two lengths as numbers
abbrev pub chip_fits : ℕ → ℕ → ℕ → Bool
chip_fits c s t = eqb s c && eqb t levels

unfoldable pub fit_chip : ℕ → Chip → Bool
fit_chip c χ = chip_fits c (length χ.scores) (length χ.thresholds)

-- 2: the reply room
unfoldable pub fit_room : List ℕ → Bool
fit_room room = leb reply_room (length room)

unfoldable pub fit_plain : Plain → Bool
fit_plain p = within lowest_level p.level highest_level && leb p.size highest_size && within lowest_baud p.baud highest_baud && ltb p.sensor 65536

-- the bytes got are a multiple of the size and below 512; the buffer's filled mark is clear; the reader is not locked
unfoldable pub fit_transfer : Plain → Guarded → Transfer → Bool
fit_transfer p g closed = true
fit_transfer p g (opened w got) = eqb (got % size_of p.size) 0 && ltb got page_bytes && not (buffer_of w g).filled && not (locked p)
fit_transfer p g (unfit b k m) = false

-- an origin is a page below C that is stored, and its buffer is filled; of c pages, an index, and the buffer's mark
unfoldable pub fit_origin : ℕ → List ℕ → Bool → Origin → Bool
fit_origin c x mark no_origin = true
fit_origin c x mark (from_page p) = ltb p c && stored x p && mark

unfoldable pub fit_origins : Guarded → Bool
fit_origins g =
    fit_origin (capacity g) g.index g.buffer1.filled g.buffer1.origin && fit_origin (capacity g) g.index g.buffer2.filled g.buffer2.origin

-- 3: a setting or transfer is not legal, an index bit at or above C is set, or an origin is not legal
unfoldable pub sound : Reader → Bool
sound r =
    fit_plain r.plain && fit_transfer r.plain r.guarded r.plain.transfer && clear_from r.guarded.index (capacity r.guarded) && fit_origins r.guarded

-- a legal reader gets none of refusals 1 to 3 where what is lent anew is fit
unfoldable pub legal : Shape → Reader → Bool
legal σ r = fit_lengths σ r.guarded && sound r

-- what the types of the settings record and of lent bytes say by themselves
pub record Typed (r : Reader) : Type 0 where
  pub password : length r.plain.password ≡ four_bytes
  pub address : length r.plain.address ≡ four_bytes
  pub index : Bytes r.guarded.index

-- ---- a call

-- what is lent anew at each call: the chip's scores and thresholds, which no call writes, and the reply room
pub record Lent : Type 0 where
  pub chip : Chip
  pub room : List ℕ

-- is it fit for a reader of c pages?
abbrev pub fit_lent : ℕ → Lent → Bool
fit_lent c lent = fit_chip c lent.chip && fit_room lent.room

-- what a caller gets back: the refusal or 0, the bytes used, the reply's length, and its reply room
pub record Told : Type 0 where
  pub refusal : ℕ
  pub used : ℕ
  pub length : ℕ
  pub room : List ℕ

pub record Ended : Type 0 where
  pub told : Told
  pub after : Reader

-- the reply as its host sees it
unfoldable pub reply_of : Told → List ℕ
reply_of t = take t.length t.room

-- order: 1, 2, 3
unfoldable pub refusal_of : Shape → Reader → Lent → ℕ
refusal_of σ r lent =
    let g = r.guarded in
    verdict ((fit_lengths σ g, bad_length) ∷ (fit_chip (capacity g) lent.chip, bad_length) ∷ (fit_room lent.room, bad_room) ∷ (sound r, bad_setting) ∷ [])

-- 0 bytes used, reply length 0; settings and memory unchanged
unfoldable pub refused : ℕ → Reader → List ℕ → Ended
refused k r room = record { told = record { refusal = k; used = 0; length = 0; room = room }; after = r }

-- reply room past the reply length keeps its bytes
unfoldable pub carried : Outcome → List ℕ → Ended
carried o room = record { told = record { refusal = 0; used = o.used; length = length o.reply; room = lay 0 o.reply room }; after = o.after }

unfoldable pub call_as : Reader → List ℕ → Lent → ℕ → Ended
call_as r s lent zero = carried (step_of lent.chip r s) lent.room
call_as r s lent (suc k) = refused (suc k) r lent.room

unfoldable pub call_of : Shape → Reader → List ℕ → Lent → Ended
call_of σ r s lent = call_as r s lent (refusal_of σ r lent)

-- ---- the line switch takes any settings and both buffers, and knows only refusal 1

unfoldable pub switch_refusal : Guarded → ℕ
switch_refusal g = verdict ((fit_buffers g, bad_length) ∷ [])

unfoldable pub switch_as : Reader → ℕ → Ended
switch_as r zero = record { told = record { refusal = 0; used = 0; length = 0; room = [] }; after = switched r }
switch_as r (suc k) = refused (suc k) r []

unfoldable pub switch_of : Reader → Ended
switch_of r = switch_as r (switch_refusal r.guarded)
