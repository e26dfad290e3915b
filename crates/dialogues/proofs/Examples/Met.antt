-- The premises of the promises can be met: of demand 3's by two legal locked readers of ten pages, one empty and one full, with the same settings but for the
-- filled marks, the origins and status bit 1; of request [5]'s and [7]'s by the full one without a password; of request [6]'s by an old one; of others by every new vault.
use mathlib.Core.Bool.{true, false}
use mathlib.Core.Path.{◌≡◌, refl, ap, ◌∙◌, subst}
use mathlib.Core.List.{List, [], ◌∷◌}
use Prim.Native.Nat.{ℕ, zero, suc, ◌*◌, ◌/◌, ◌%◌, ◌^◌, ◌≤◌}
use native.Mathlib.Omega.{arith}
use lib.Dec.{T, lit≤, lit<}
use lib.ListN.{length, replicate, length-replicate}
use Rattle.protocol.specs.declared.Settings.{Settings}
use Rattle.protocol.specs.Numbers.{page_bytes, highest_size, longest, holds}
use Rattle.protocol.specs.Bytes.{Bytes, part, zeros, four, same, lay}
use Rattle.protocol.specs.Tests.{within, every}
use Rattle.protocol.specs.Index.{bit, stored, clear_from}
use Rattle.protocol.specs.Reader.{closed, no_origin, from_page, Reader, capacity, keyed, locked, buffer_of, emptied, loaded_from, with_password, fresh, zeroed, contents, reader}
use Rattle.protocol.specs.Search.{Chip, eligible, beats, best_of, pages_from, search_of}
use Rattle.protocol.specs.Table.{is_buffer}
use Rattle.protocol.specs.Step.{ended, rested}
use Rattle.protocol.specs.Call.{core, fit_library, fit_buffers, fit_chip, fit_lengths, fit_plain, fit_transfer, fit_origin, fit_origins, sound, legal}
use Rattle.protocol.specs.Records.{fit_mark, fit_marks, transfer_of, origin_of, fresh_of}
use Rattle.dialogues.specs.Doors.{Vault}
use Rattle.protocol.specs.Receiver.{holding, line}
use Rattle.protocol.proofs.Laws.Index.{byte_zeros, bit_zero, fine_zeros}
use Rattle.protocol.proofs.Laws.Origins.{no_page_lem, same_page}
use Rattle.protocol.proofs.Promises.Words.Told.{pages, has}
use Rattle.dialogues.proofs.Examples.Examples.{keyed10, fresh10}
use Rattle.protocol.proofs.Promises.Refusals.LegalMeans.{core_holds, means_legal}
use Rattle.protocol.proofs.Promises.Refusals.StaysLegal.{Legal}
use Rattle.dialogues.proofs.Library.BroughtOver.{before, before_holds}
use Rattle.dialogues.proofs.Library.Faithful.{Faithful, faithful_start}
use Rattle.dialogues.proofs.Lines.ComesToRest.{Ready}
use Rattle.dialogues.proofs.FromC.Steps.{LegalVault}
use Rattle.dialogues.proofs.FromC.Lines.{LegalLine}
use Rattle.dialogues.proofs.FromC.Secrets.{SameOpen}

-- P9's reader with every page stored and both buffers filled, the first from page 3, and status bit 1 set
pub full10 : Reader
full10 =
    reader keyed10.plain
    (contents (replicate 5120 0x11) (0xff ∷ 0x03 ∷ zeros 126) (replicate 512 0x22) (loaded_from 3 (replicate page_bytes 0x11))
    record { bytes = replicate page_bytes 0x44; filled = true; origin = no_origin } true)

pub record Met (r t : Reader) : Type 0 where
  pub one : T (legal core r)
  pub other : T (legal core t)
  pub locks : T (locked r.plain)
  pub keys : T (keyed r.plain)
  pub still : r.plain.transfer ≡ closed
  pub settings : r.plain ≡ t.plain
  pub pages : capacity r.guarded ≡ capacity t.guarded
  pub bit_clear : r.guarded.found ≡ false
  pub bit_set : t.guarded.found ≡ true

pub premises_met : Met keyed10 full10
unfolding keyed10 fresh10 full10 fresh zeroed with_password emptied loaded_from four same within every bit stored clear_from capacity keyed locked buffer_of core fit_library fit_buffers fit_lengths fit_plain fit_transfer fit_origin fit_origins sound legal highest_size
premises_met = record { one = tt; other = tt; locks = tt; keys = tt; still = refl; settings = refl; pages = refl; bit_clear = refl; bit_set = refl }

-- ---- the same as C has them: the bytes of two settings records, and two memories of ten pages

-- these marks and this first origin; the password is 00000005
settings10 : ℕ → ℕ → Settings
settings10 mark origin =
    record {
      password = 0 ∷ 0 ∷ 0 ∷ 5 ∷ [];
      address = 0xff ∷ 0xff ∷ 0xff ∷ 0xff ∷ [];
      level = 3;
      size = 2;
      baud = 6;
      transfer = 0;
      sensor = 0;
      got = 0;
      verified = 0;
      filled1 = mark;
      filled2 = mark;
      found = mark;
      origin1 = origin;
      origin2 = 0xffff;
    }

pub empty_vault : Vault
empty_vault =
    record {
      settings = settings10 0 0xffff;
      memory = record { templates = replicate 5120 0; index = replicate 128 0; notepad = replicate 512 0; buffer1 = replicate 512 0; buffer2 = replicate 512 0 };
    }

pub full_vault : Vault
full_vault =
    record {
      settings = settings10 1 3;
      memory = record { templates = replicate 5120 0x11; index = 0xff ∷ 0x03 ∷ replicate 126 0; notepad = replicate 512 0x22; buffer1 = replicate 512 0x11; buffer2 = replicate 512 0x44 };
    }

pub record MetFromC (v w : Vault) : Type 0 where
  pub one : LegalVault v
  pub other : LegalVault w
  pub key : v.settings.password ≡ 0 ∷ 0 ∷ 0 ∷ 5 ∷ []
  pub clear : v.settings.verified ≡ 0
  pub still : v.settings.transfer ≡ 0
  pub settings : SameOpen v.settings w.settings
  pub pages : length v.memory.templates ≡ length w.memory.templates
  pub marks : (v.settings.filled1 ≡ 0) × (w.settings.filled1 ≡ 1)

full_bytes : (n : ℕ) → Bytes (0xff ∷ 0x03 ∷ replicate n 0)
unfolding Bytes
full_bytes n zero = lit< tt
full_bytes n (suc zero) = lit< tt
full_bytes n (suc (suc i)) = (fine_zeros n).bytes i

pub from_c_met : MetFromC empty_vault full_vault
unfolding settings10 empty_vault full_vault keyed10 fresh10 full10 fresh zeroed with_password emptied loaded_from four fit_marks fit_mark transfer_of is_buffer origin_of core
from_c_met =
    record {
      one = record { typed = record { password = refl; address = refl; index = (fine_zeros 128).bytes }; legal = premises_met.one };
      other = record { typed = record { password = refl; address = refl; index = full_bytes 126 }; legal = premises_met.other };
      key = refl;
      clear = refl;
      still = refl;
      settings = record { password = refl; address = refl; level = refl; size = refl; baud = refl; transfer = refl; sensor = refl; got = refl; verified = refl };
      pages = refl;
      marks = (refl, refl);
    }

-- and with an empty receiver each is a legal line
pub line_met : (v : Vault) → LegalVault v → LegalLine record { line = record { settings = v.settings; receiver = record { held = replicate 267 0; spare = 0; count = 0 } }; memory = v.memory }
line_met v l = record { reader = l; few = omega arith }

-- of request [5]'s by the full reader without a password: it is not locked, and each of its pages is stored
pub open10 : Reader
open10 = reader fresh10.plain full10.guarded

pub record AllStored (r : Reader) : Type 0 where
  pub one : T (legal core r)
  pub unlocked : locked r.plain ≡ false
  pub ten : pages r ≡ 10
  pub all : T (every (has r) 10)
  pub filled1 : (rested r).guarded.buffer1.filled ≡ true
  pub filled2 : (rested r).guarded.buffer2.filled ≡ true

pub stored_met : AllStored open10
unfolding fresh10 full10 open10 fresh zeroed emptied loaded_from four same within every bit stored clear_from capacity keyed locked buffer_of core fit_library fit_buffers fit_lengths fit_plain fit_transfer fit_origin fit_origins sound legal highest_size rested ended
stored_met = record { one = tt; unlocked = refl; ten = refl; all = tt; filled1 = refl; filled2 = refl }

-- and of request [7]'s too: its first buffer is a copy of page 3, and its second has no origin
pub record OneCopy (r : Reader) : Type 0 where
  pub faithful : Faithful r
  pub first : r.guarded.buffer1.origin ≡ from_page 3
  pub other : r.guarded.buffer2.origin ≡ no_origin

pub copy_met : OneCopy open10
unfolding fresh10 full10 open10 loaded_from
copy_met =
    record {
      faithful = record { buffer1 = λ p e. subst (λ (q : ℕ). replicate 512 0x11 ≡ part (512 * q) 512 (replicate 5120 0x11)) (same_page 3 p e) refl; buffer2 = λ p e. no_page_lem p e };
      first = refl;
      other = refl;
    }

-- of request [8]'s too: with these scores and thresholds, at level 3, pages 1 and 2 have the best score, and page 1 is the lower one; from page 3 on it is page 4, which
-- has just the threshold; from page 5 on it is none
pub chip10 : Chip
chip10 = record { scores = 5 ∷ 900 ∷ 900 ∷ 3 ∷ 4 ∷ zeros 5; thresholds = 1 ∷ 2 ∷ 4 ∷ 5 ∷ 6 ∷ [] }

pub record Found (χ : Chip) (r : Reader) : Type 0 where
  pub lent : T (fit_chip (pages r) χ)
  pub level : r.plain.level ≡ 3
  pub lowest : search_of χ 3 r.guarded 0 10 ≡ record { found = true; page = 1; score = 900 }
  pub just : search_of χ 3 r.guarded 3 65535 ≡ record { found = true; page = 4; score = 4 }
  pub none : search_of χ 3 r.guarded 5 5 ≡ record { found = false; page = 0; score = 0 }

pub search_met : Found chip10 open10
unfolding fresh10 full10 open10 chip10 fresh capacity fit_chip search_of best_of beats eligible pages_from stored bit
search_met = record { lent = tt; level = refl; lowest = refl; just = refl; none = refl }

-- fresh settings and zeroed memory are legal: every new vault, of 1 to 1000 pages
pub new_vault : (c : ℕ) → 1 ≤ c → c ≤ 1000 → Legal core core_holds (fresh_of (replicate (512 * c) 0) (replicate 128 0) (replicate 512 0) (replicate 512 0) (replicate 512 0))
unfolding fresh four bit origin_of
new_vault c low high =
    record {
      typed = record { password = refl; address = refl; index = (fine_zeros 128).bytes };
      legal =
          means_legal _
          record {
            lengths =
                record {
                  pages = c;
                  templates = length-replicate {A = ℕ} (512 * c) 0;
                  least = low;
                  most = high;
                  index = length-replicate {A = ℕ} 128 0;
                  notepad = length-replicate {A = ℕ} 512 0;
                  buffer1 = length-replicate {A = ℕ} 512 0;
                  buffer2 = length-replicate {A = ℕ} 512 0;
                };
            settings =
                record {
                  level = (lit≤ tt, lit≤ tt);
                  size = lit≤ tt;
                  baud = (lit≤ tt, lit≤ tt);
                  sensor = lit< tt;
                  transfer = tt;
                  origin1 = λ p e. no_page_lem p e;
                  origin2 = λ p e. no_page_lem p e;
                  clear = λ k q e l. ap (λ (b : ℕ). b / 2 ^ (q % 8) % 2) (byte_zeros 128 (q / 8)) ∙ bit_zero (q % 8);
                };
          };
    }

-- and its buffers have no origin
pub new_faithful : (t i n b d : List ℕ) → Faithful (fresh_of t i n b d)
unfolding origin_of
new_faithful t i n b d = faithful_start (fresh_of t i n b d) refl refl

-- P1's too
pub fresh_legal : Legal core core_holds fresh10
unfolding fresh10 zeroed emptied core origin_of
fresh_legal = new_vault 10 (lit≤ tt) (lit≤ tt)

-- and with an empty receiver it is ready for pieces
pub fresh_ready : Ready core core_holds 10 (line fresh10 (holding []))
unfolding holding lay holds longest fresh10 zeroed
fresh_ready = record { pages = refl; legal = fresh_legal; cells = refl; few = omega arith }

-- of request [6]'s by the full reader without a password as it was before: it is legal then, so that it can be brought over
pub old10 : Reader
old10 = let g = full10.guarded in reader fresh10.plain (contents g.templates (0xff ∷ 0x03 ∷ zeros 30) g.notepad g.buffer1 g.buffer2 g.found)

old_bytes : Bytes (0xff ∷ 0x03 ∷ zeros 30)
unfolding Bytes
old_bytes zero = lit< tt
old_bytes (suc zero) = lit< tt
old_bytes (suc (suc i)) = (fine_zeros 30).bytes i

pub old_met : Legal before before_holds old10
unfolding old10 full10 fresh10 fresh loaded_from four same within every bit stored clear_from capacity keyed locked fit_library fit_buffers fit_lengths fit_plain fit_transfer fit_origin fit_origins sound legal highest_size
old_met = record { typed = record { password = refl; address = refl; index = old_bytes }; legal = tt }
