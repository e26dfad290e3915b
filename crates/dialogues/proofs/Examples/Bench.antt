-- Document 01: "The bench program starts fresh with 64 zeroed pages, takes packets from standard input, and writes the reply bytes raw with nothing between. P1's
-- run followed by P8's gives P1's 12 bytes and then P8's 14, no more."
use mathlib.Core.Bool.{false}
use mathlib.Core.Path.{◌≡◌, refl, ap, ◌∙◌}
use mathlib.Core.List.{List, [], ◌∷◌}
use Prim.Native.Nat.{ℕ, ◌*◌, ◌/◌}
use native.Mathlib.Omega.{arith}
use lib.Dec.{T, lit≤}
use lib.ListN.{replicate, take, drop, length-replicate}
use Rattle.protocol.specs.Numbers.{longest, holds}
use Rattle.protocol.specs.Tests.{verdict, count_below}
use Rattle.protocol.specs.Bytes.{joined, zeros, two, four, word_at, total, same, lay, follow}
use Rattle.protocol.specs.Packet.{sum_of, packet, is_identifier, limit, accepts}
use Rattle.protocol.specs.Finder.{marks_at, start_of, all_but, find_from, find_of, used_of}
use Rattle.protocol.specs.Index.{bit, stored, set_bits}
use Rattle.protocol.specs.Reader.{closed, no_origin, keyed, locked, emptied, fresh, zeroed}
use Rattle.protocol.specs.Search.{Chip}
use Rattle.protocol.specs.Commands.{commands, row_of, order_as, order_of}
use Rattle.protocol.specs.Data.{acknowledge}
use Rattle.protocol.specs.Table.{apply, rule, public_of, free_rule}
use Rattle.protocol.specs.Step.{hear_as, hear_at, hear, carry_as, carry, carry_free, obey, heed, ended, rested, answer, step_of}
use Rattle.protocol.specs.Call.{core, Lent}
use Rattle.protocol.specs.Receiver.{bytes_in, holding, line}
use Rattle.dialogues.specs.Caller.{Try, Ran, replied, offers, served, Rests, resting, at_rest, drain, drained}
use Rattle.dialogues.specs.Bench.{started}
use Rattle.protocol.specs.Records.{origin_of, fresh_of}
use Rattle.protocol.proofs.Promises.Refusals.LegalMeans.{core_holds}
use Rattle.dialogues.proofs.Lines.Cuts.{Searchless, rests_drained, none_sees}
use Rattle.dialogues.proofs.Lines.InPieces.{searchless_all, packet_passed}
use Rattle.dialogues.proofs.Lines.ComesToRest.{Ready, lends_fit, ready_served}
use Rattle.dialogues.proofs.Examples.Met.{new_vault}

-- ---- "starts fresh with 64 zeroed pages": 32768 bytes of templates; and nothing held

pub started_is : started
    ≡ record {
      reader =
          record {
            plain =
                record {
                  password = 0 ∷ 0 ∷ 0 ∷ 0 ∷ [];
                  address = 0xff ∷ 0xff ∷ 0xff ∷ 0xff ∷ [];
                  level = 3;
                  size = 2;
                  baud = 6;
                  sensor = 0;
                  verified = false;
                  transfer = closed;
                };
            guarded =
                record {
                  templates = replicate (512 * 64) 0;
                  index = replicate 128 0;
                  notepad = replicate 512 0;
                  buffer1 = record { bytes = replicate 512 0; filled = false; origin = no_origin };
                  buffer2 = record { bytes = replicate 512 0; filled = false; origin = no_origin };
                  found = false;
                };
          };
      receiver = record { held = replicate 267 0; spare = 0; count = 0 };
    }
unfolding started fresh four zeroed emptied holding holds longest lay
started_is = refl

-- it is legal, and ready for pieces of any length
pub started_ready : Ready core core_holds 64 started
unfolding started zeroed emptied holding holds longest lay origin_of
started_ready = record { pages = ap (λ (k : ℕ). k / 512) (length-replicate {A = ℕ} (512 * 64) 0); legal = new_vault 64 (lit≤ tt) (lit≤ tt); cells = refl; few = omega arith }

-- ---- "P1's run followed by P8's gives P1's 12 bytes and then P8's 14, no more."

abbrev pub input : List ℕ
input = 0xef ∷ 0x01 ∷ 0xff ∷ 0xff ∷ 0xff ∷ 0xff ∷ 0x01 ∷ 0x00 ∷ 0x03 ∷ 0x40 ∷ 0x00 ∷ 0x44 ∷ 0xef ∷ 0x01 ∷ 0xff ∷ 0xff ∷ 0xff ∷ 0xff ∷ 0x01 ∷ 0x00 ∷ 0x03 ∷ 0x1d ∷ 0x00 ∷ 0x21 ∷ []

abbrev pub output : List ℕ
output = 0xef ∷ 0x01 ∷ 0xff ∷ 0xff ∷ 0xff ∷ 0xff ∷ 0x07 ∷ 0x00 ∷ 0x03 ∷ 0x00 ∷ 0x00 ∷ 0x0a ∷ 0xef ∷ 0x01 ∷ 0xff ∷ 0xff ∷ 0xff ∷ 0xff ∷ 0x07 ∷ 0x00 ∷ 0x05 ∷ 0x00 ∷ 0x00 ∷ 0x00 ∷ 0x00 ∷ 0x0c ∷ []

-- document 01's call again and again, whatever the memory that neither of them looks at
drained_both : (χ : Chip) (t n b d : List ℕ) → drained χ (fresh_of t (zeros 128) n b d) input
    ≡ record { replies = take 12 output ∷ drop 12 output ∷ []; after = line (fresh_of t (zeros 128) n b d) (holding []); left = [] }
unfolding drained drain at_rest replied step_of answer hear hear_at hear_as heed obey carry_free carry carry_as rested ended free_rule rule apply public_of locked keyed same four find_of find_from start_of marks_at all_but used_of accepts is_identifier limit word_at total sum_of order_of order_as row_of commands acknowledge packet two follow set_bits count_below bit stored verdict fresh
drained_both χ t n b d = refl

-- two replies and no more, 26 bytes with nothing between; and the line is as it was at the start
pub record Writes (d : Ran) : Type 0 where
  pub replies : d.replies ≡ take 12 output ∷ drop 12 output ∷ []
  pub raw : joined d.replies ≡ output
  pub after : d.after ≡ started

-- neither of them is a Search
no_search : Searchless input
unfolding accepts limit is_identifier longest hear_as order_of order_as row_of commands packet sum_of total two joined four
no_search = searchless_all (packet (four 0xffffffff) 0x01 (0x40 ∷ []) ∷ packet (four 0xffffffff) 0x01 (0x1d ∷ []) ∷ []) (packet_passed 0x01 (0x40 ∷ []) tt (λ j. elim j [ ]), (packet_passed 0x01 (0x1d ∷ []) tt (λ j. elim j [ ]), tt))

-- however the input is cut, with 64 scores, five thresholds and a reply room of 700 bytes at each call, whatever the scores are, once the caller is at rest
pub bench_writes : (ts : List Try) → T (lends_fit 64 ts) → (last : Lent) → Rests core (offers core ts started input) last → Writes (resting core (offers core ts started input) last)
unfolding started zeroed emptied bytes_in holding origin_of joined
bench_writes ts u last rests =
    let χ : Chip = last.chip in
    let v : T (served core ts started input) = ready_served core core_holds 64 ts started input started_ready u in
    let all = rests_drained core χ ts started input last v (none_sees core χ ts started input no_search v) rests ∙ drained_both χ (replicate (512 * 64) 0) (replicate 512 0) (replicate 512 0) (replicate 512 0) in
    rw all record { replies = refl; raw = refl; after = refl }
