-- A library of four pages, of which pages 1 and 3 are stored and page 0 has old bytes, closed up and salvaged; and two libraries compared: computed by the checker. So the promises'
-- premises can be met.
use mathlib.Core.Bool.{true, false}
use mathlib.Core.Path.{◌≡◌, refl, sym}
use mathlib.Core.List.{List, [], ◌∷◌, ◌++◌}
use Prim.Native.Nat.{ℕ}
use lib.ListN.{length, replicate}
use Rattle.protocol.specs.Numbers.{highest_size}
use Rattle.protocol.specs.Tests.{verdict, within, every, count_below, listed}
use Rattle.protocol.specs.Index.{bit, stored, set_bit, clear_bit, clear_bits, clear_from}
use Rattle.protocol.specs.Bytes.{four, same, lay}
use Rattle.protocol.specs.Reader.{Guarded, no_origin, from_page, Reader, capacity, fresh, contents, reader, buffer_of}
use Rattle.protocol.specs.Call.{core, fit_plain, fit_transfer, fit_origin, fit_origins, sound}
use Rattle.protocol.specs.declared.Settings.{Settings}
use Rattle.protocol.specs.Table.{is_buffer}
use Rattle.protocol.specs.Records.{fit_mark, fit_marks, transfer_of, origin_of}
use Rattle.dialogues.specs.Doors.{Vault}
use Rattle.offline.specs.Salvage.{salvaged_pages, page_entry, entry_of, fit_salvage, salvage_refusal, salvage_as, salvage_of}
use Rattle.offline.specs.Compare.{Library, library, page_code, page_says, note_says, report_of, fits_beside, fit_compare, clear_beyond, compare_refusal, compare_as, compare_of}
use Rattle.offline.specs.Print.{library_in, decimal, line_of, lines_of, printed_as, printed_of}
use Rattle.offline.specs.Life.{closing}
use Rattle.offline.specs.Turns.{work_turn, Turns}
use Rattle.offline.specs.CloseGaps.{rank, new_page, gathered, closed_templates, first_bits, followed, closed_up, table_of, fit_closing, close_refusal, close_as, close_of}
use Rattle.offline.proofs.Compare.Prints.{file_of}

-- a page of one byte
abbrev page : ℕ → List ℕ
page b = replicate 512 b

-- buffer 1 was loaded from page 3, and buffer 2 is empty
abbrev pub before : Reader
before =
    reader fresh
    (contents (page 17 ++ page 34 ++ page 51 ++ page 68) (10 ∷ replicate 127 0) (page 0) record { bytes = page 68; filled = true; origin = from_page 3 }
    record { bytes = page 0; filled = false; origin = no_origin } true)

abbrev pub after : Reader
after =
    reader fresh
    (contents (page 34 ++ page 68 ++ page 0 ++ page 0) (3 ∷ replicate 127 0) (page 0) record { bytes = page 68; filled = true; origin = from_page 1 }
    record { bytes = page 0; filled = false; origin = no_origin } true)

pub example : (table : List ℕ) → length table ≡ 4 → close_of core before table ≡ record { refusal = 0; table = 0xffff ∷ 0 ∷ 0xffff ∷ 1 ∷ []; after = after }
unfolding close_of close_refusal close_as fit_closing closed_up table_of new_page rank gathered closed_templates first_bits followed core sound fit_plain fit_transfer fit_origin fit_origins within verdict every count_below listed bit stored set_bit clear_from capacity fresh highest_size buffer_of
example table e = rw e refl

-- the same of a caller from C: such a turn there is
abbrev settings_with : ℕ → Settings
settings_with origin =
    record {
      password = 0 ∷ 0 ∷ 0 ∷ 0 ∷ [];
      address = 255 ∷ 255 ∷ 255 ∷ 255 ∷ [];
      level = 3;
      size = 2;
      baud = 6;
      transfer = 0;
      sensor = 0;
      got = 0;
      verified = 0;
      filled1 = 1;
      filled2 = 0;
      found = 1;
      origin1 = origin;
      origin2 = 0xffff;
    }

abbrev vault_of : ℕ → Guarded → Vault
vault_of origin g =
    record {
      settings = settings_with origin;
      memory = record { templates = g.templates; index = g.index; notepad = g.notepad; buffer1 = g.buffer1.bytes; buffer2 = g.buffer2.bytes };
    }

pub example_turn : (table : List ℕ) → length table ≡ 4
    → Turns (vault_of 3 before.guarded) (work_turn record { work = closing table; refusal = 0; written = 0xffff ∷ 0 ∷ 0xffff ∷ 1 ∷ []; after = vault_of 1 after.guarded } ∷ [])
unfolding transfer_of fit_marks fit_mark is_buffer origin_of fresh four
example_turn table e = (sym (example table e), tt)

-- ---- salvage: page 0 has old bytes, page 2 none; bits 4, which is C, and 1023 are set

abbrev spoilt : List ℕ
spoilt = page 17 ++ page 34 ++ page 0 ++ page 68

abbrev strayed : List ℕ
strayed = 26 ∷ replicate 126 0 ++ (128 ∷ [])

pub salvage_example : (report : List ℕ) → length report ≡ 1024
    → salvage_of core spoilt strayed report
    ≡ record { refusal = 0; templates = page 0 ++ page 34 ++ page 0 ++ page 68; index = 10 ∷ replicate 127 0; report = 2 ∷ 0 ∷ 0 ∷ 0 ∷ 1 ∷ replicate 1018 0 ++ (1 ∷ []) }
unfolding salvage_of salvage_refusal salvage_as fit_salvage salvaged_pages page_entry entry_of core within verdict listed bit stored clear_bit clear_bits lay same
salvage_example report e = rw e refl

-- ---- comparing: "the first has pages 0 and 3, the second only page 0 with the same bytes, and notepad page 2 differs; the output is the line T3 1, then the line N2 3, no more". Page 3
-- of the second is vacant, and has bytes all the same

abbrev old : Library
old = library (9 ∷ replicate 127 0) (page 0) (page 17 ++ page 0 ++ page 0 ++ page 68)

abbrev new : Library
new = library (1 ∷ replicate 127 0) (replicate 64 0 ++ (1 ∷ replicate 447 0)) (page 17 ++ page 0 ++ page 0 ++ page 51)

pub compare_example : (report : List ℕ) → length report ≡ 20 → compare_of core old new report ≡ record { refusal = 0; report = 0 ∷ 0 ∷ 0 ∷ 1 ∷ 0 ∷ 0 ∷ 3 ∷ replicate 13 0 }
unfolding compare_of compare_refusal compare_as fit_compare fits_beside clear_beyond report_of page_says page_code note_says core within verdict every listed bit stored clear_from same
compare_example report e = rw e refl

pub print_example : printed_of (file_of old) (file_of new) ≡ 0x54 ∷ 0x33 ∷ 0x20 ∷ 0x31 ∷ 0x0a ∷ 0x4e ∷ 0x32 ∷ 0x20 ∷ 0x33 ∷ 0x0a ∷ []
unfolding printed_of printed_as library_in lines_of line_of decimal compare_refusal fit_compare fits_beside clear_beyond page_says page_code note_says core within verdict every bit stored clear_from same
print_example = refl
