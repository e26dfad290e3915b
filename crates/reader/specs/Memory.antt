-- The reader of the definitions that lies in what is lent, and what a call leaves of it.
use Rattle.std.specs.Prelude.{Bool, cond, ◌≡◌, ℕ, eqb}
use Rattle.protocol.specs.Reader.{Buffer, buffer_of, with_buffer, without, without_pages, reader}
use Rattle.protocol.specs.declared.Settings.{Settings}
use Rattle.protocol.specs.Reader as readers
use Rattle.protocol.specs.Search as searches
use Rattle.protocol.specs.Commands.{Free, Barred}
use Rattle.protocol.specs.Table.{fill_page, apply, rule, free_rule, public_of}
use Rattle.protocol.specs.Step.{Said, carry, carry_free}
use Rattle.protocol.specs.Records.{is_set, reader_of, chip_of}
use Rattle.reader.specs.declared.answers.Answer.{Answer}
use Rattle.reader.specs.declared.memory.Chip.{Chip}
use Rattle.reader.specs.declared.memory.Memory.{Memory}
use Rattle.reader.specs.declared.memory.Sound.{Sound}
use Rattle.reader.specs.Answers.{spoken_of}

abbrev pub reader_at : Settings → Memory → readers.Reader
reader_at s r = reader_of s r.templates.now r.index.now r.notepad.now r.buffer1.now r.buffer2.now

abbrev pub reader_in : Sound → readers.Reader
reader_in r = reader_of r.settings.now r.templates.now r.index.now r.notepad.now r.buffer1.now r.buffer2.now

abbrev pub chip_at : Chip → searches.Chip
chip_at x = chip_of x.scores.now x.thresholds.now

-- the filled mark of a buffer, by its number
abbrev pub filled_of : ℕ → Sound → Bool
filled_of n r = cond (eqb n 2) (is_set r.settings.now.filled2) (is_set r.settings.now.filled1)

-- the number of a buffer's origin, by its number
abbrev pub origin_in : ℕ → Sound → ℕ
origin_in n r = cond (eqb n 2) r.settings.now.origin2 r.settings.now.origin1

-- a command writes through the references that it is lent, puts no other in their place, and leaves the chip's numbers
pub record Kept (x y : Sound) : Type 0 where
  pub settings : y.settings.ghost_name ≡ x.settings.ghost_name
  pub templates : y.templates.ghost_name ≡ x.templates.ghost_name
  pub index : y.index.ghost_name ≡ x.index.ghost_name
  pub notepad : y.notepad.ghost_name ≡ x.notepad.ghost_name
  pub buffer1 : y.buffer1.ghost_name ≡ x.buffer1.ghost_name
  pub buffer2 : y.buffer2.ghost_name ≡ x.buffer2.ghost_name
  pub chip : y.chip ≡ x.chip

-- ---- a buffer, by its number, and nothing else of the reader

abbrev pub with_numbered : ℕ → Buffer → readers.Reader → readers.Reader
with_numbered n b r = reader r.plain (with_buffer (eqb n 2) b r.guarded)

-- a buffer, by its number, stored on a page
abbrev pub stored_numbered : ℕ → ℕ → readers.Reader → readers.Reader
stored_numbered n p r = apply (fill_page (eqb n 2) p) r

-- these pages are deleted: what a buffer, by its number, and what both then are
abbrev pub without_numbered : ℕ → (ℕ → Bool) → readers.Reader → readers.Reader
without_numbered n pages r = with_numbered n (without pages (buffer_of (eqb n 2) r.guarded)) r

abbrev pub without_all : (ℕ → Bool) → readers.Reader → readers.Reader
without_all pages r = reader r.plain (without_pages pages r.guarded)

-- ---- a command carried out: what it says and leaves is its row's

abbrev pub said_of : Answer → Sound → Said
said_of a y = record { reply = spoken_of a y.settings.now y.buffer1.now y.buffer2.now; after = reader_in y }

-- one that the lock bars, and one that it lets pass
abbrev pub obeyed : Sound → Barred → Said
obeyed x k = carry (reader_in x) (rule (chip_at x.chip) (reader_in x) k)

abbrev pub freed : Sound → Free → Said
freed x k = carry_free (reader_in x) (free_rule (public_of (reader_in x)) k)
