-- P1 to P12 of document 01: one table under one statement about the whole outcome of a call, whatever the reply room.
use mathlib.Core.Bool.{true}
use mathlib.Core.Path.{◌≡◌, refl}
use mathlib.Core.List.{List, [], ◌∷◌}
use Prim.Native.Nat.{ℕ}
use lib.Dec.{T}
use lib.ListN.{length, take, drop}
use Rattle.protocol.specs.Numbers.{highest_size, longest}
use Rattle.protocol.specs.Tests.{verdict, within, every, count_below}
use Rattle.protocol.specs.Bytes.{zeros, two, four, word_at, total, same, lay, follow, joined}
use Rattle.protocol.specs.Packet.{sum_of, packet, is_identifier, limit, accepts}
use Rattle.protocol.specs.Finder.{marks_at, later, start_of, all_but, find_from, find_of, used_of}
use Rattle.protocol.specs.Index.{bit, stored, set_bit, clear_bit, clear_bits, set_bits, clear_from}
use Rattle.protocol.specs.Reader.{Reader, reader, capacity, size_of, keyed, locked, buffer_of, emptied, loaded_from, stored_on, is_one_of, without, with_mark, with_transfer, with_password, with_address, with_tuning, with_library, with_notepad, with_buffer, without_pages, fresh, zeroed}
use Rattle.protocol.specs.Search.{Chip}
use Rattle.protocol.specs.Commands.{commands, row_of, order_as, order_of}
use Rattle.protocol.specs.Data.{acknowledge, packets, data_packets}
use Rattle.protocol.specs.Table.{apply, is_buffer, in_range, with_parameter, status_of, rule, public_of, free_rule}
use Rattle.protocol.specs.Step.{Outcome, hear_as, hear_at, hear, silence, says, carry_as, carry, carry_free, obey, heed, ended, rested, fits, take_as, take_in, answer, step_of, wiped, switched}
use Rattle.protocol.specs.Call.{Lent, Ended, fit_lent, carried, call_of, core, fit_library, fit_buffers, fit_lengths, fit_plain, fit_transfer, fit_origin, fit_origins, sound, legal}
use Rattle.protocol.proofs.Laws.Lists.{take_lay, drop_lay}
use Rattle.protocol.proofs.Laws.Answers.{call_legal}

-- a call on a reader: the run, and the outcome that it must have
pub record Example : Type 0 where
  pub start : Reader
  pub run : List ℕ
  pub outcome : Outcome

-- no refusal, these bytes used, this reply at the front of the room and its length, the room behind it as it was, this reader after it
pub record Shows (o : Outcome) (lent : Lent) (e : Ended) : Type 0 where
  pub refusal : e.told.refusal ≡ 0
  pub used : e.told.used ≡ o.used
  pub long : e.told.length ≡ length o.reply
  pub reply : take (length o.reply) e.told.room ≡ o.reply
  pub behind : drop (length o.reply) e.told.room ≡ drop (length o.reply) lent.room
  pub after : e.after ≡ o.after

-- whatever the reply room, the scores and the thresholds
abbrev pub Holds : Example → Type 0
Holds x = (lent : Lent) → T (fit_lent (capacity x.start.guarded) lent) → Shows x.outcome lent (call_of core x.start x.run lent)

abbrev pub All : List Example → Type 0
All [] = Unit {0}
All (x ∷ xs) = Holds x × All xs

-- ---- the readers of the table: C = 10, zeroed memory

unfoldable pub fresh10 : Reader
fresh10 = reader fresh (zeroed 10 core.indexed core.noted)

-- password 00000005
unfoldable pub keyed10 : Reader
keyed10 = reader (with_password (four 5) fresh) fresh10.guarded

-- pages 0 and 9 stored, and page 0 alone
pub stored09 : Reader
stored09 = reader fresh (with_library fresh10.guarded.templates (0x01 ∷ 0x02 ∷ zeros 126) fresh10.guarded)

pub stored0 : Reader
stored0 = reader fresh (with_library fresh10.guarded.templates (0x01 ∷ zeros 127) fresh10.guarded)

pub index_begins : stored09.guarded.index ≡ set_bit (set_bit fresh10.guarded.index 0) 9
unfolding highest_size longest verdict within every count_below two four word_at total same lay follow joined sum_of packet is_identifier limit accepts marks_at later start_of all_but find_from find_of used_of bit stored set_bit clear_bit clear_bits set_bits clear_from capacity size_of keyed locked buffer_of emptied loaded_from stored_on is_one_of without with_mark with_transfer with_password with_address with_tuning with_library with_notepad with_buffer without_pages fresh zeroed commands row_of order_as order_of acknowledge packets data_packets apply is_buffer in_range with_parameter status_of rule public_of free_rule hear_as hear_at hear silence says carry_as carry carry_free obey heed ended rested fits take_as take_in answer step_of wiped switched core fit_library fit_buffers fit_lengths fit_plain fit_transfer fit_origin fit_origins sound legal fresh10 stored09
index_begins = refl

-- ---- the table

-- EF 01 A and the rest of a packet
to_a : List ℕ → List ℕ
to_a s = 0xef ∷ 0x01 ∷ 0xff ∷ 0xff ∷ 0xff ∷ 0xff ∷ s

p1 : List ℕ
p1 = to_a (0x01 ∷ 0x00 ∷ 0x03 ∷ 0x40 ∷ 0x00 ∷ 0x44 ∷ [])

p8 : List ℕ
p8 = to_a (0x01 ∷ 0x00 ∷ 0x03 ∷ 0x1d ∷ 0x00 ∷ 0x21 ∷ [])

-- an acknowledge of 00h
yes00 : List ℕ
yes00 = to_a (0x07 ∷ 0x00 ∷ 0x03 ∷ 0x00 ∷ 0x00 ∷ 0x0a ∷ [])

-- the reader, the run, the bytes used, the reply, the reader after it
gives : Reader → List ℕ → ℕ → List ℕ → Reader → Example
gives r s n a t = record { start = r; run = s; outcome = record { used = n; reply = a; after = t } }

pub table : List Example
table =
    -- P1
    gives fresh10 p1 12 yes00 fresh10
    -- P2, P3
    ∷ gives fresh10 [] 0 [] fresh10
    ∷ gives fresh10 (0x41 ∷ 0xef ∷ []) 1 [] fresh10
    -- P4
    ∷ gives fresh10 (to_a (0x01 ∷ 0x00 ∷ 0x03 ∷ 0x40 ∷ 0x00 ∷ 0x45 ∷ [])) 12 (to_a (0x07 ∷ 0x00 ∷ 0x03 ∷ 0x01 ∷ 0x00 ∷ 0x0b ∷ [])) fresh10
    -- P5
    ∷ gives fresh10 (0xef ∷ 0x01 ∷ 0x00 ∷ 0x00 ∷ 0x00 ∷ 0x00 ∷ 0x01 ∷ 0x00 ∷ 0x03 ∷ 0x40 ∷ 0x00 ∷ 0x44 ∷ []) 12 [] fresh10
    -- P6; P7, both lengths
    ∷ gives fresh10 (to_a (0x01 ∷ 0x00 ∷ 0x02 ∷ 0x40 ∷ [])) 2 [] fresh10
    ∷ gives fresh10 (to_a (0x01 ∷ 0x01 ∷ 0x01 ∷ 0x40 ∷ [])) 2 [] fresh10
    ∷ gives fresh10 (to_a (0x01 ∷ 0x01 ∷ 0x00 ∷ 0x40 ∷ [])) 0 [] fresh10
    -- P8
    ∷ gives fresh10 p8 12 (to_a (0x07 ∷ 0x00 ∷ 0x05 ∷ 0x00 ∷ 0x00 ∷ 0x00 ∷ 0x00 ∷ 0x0c ∷ [])) fresh10
    -- P9
    ∷ gives keyed10 p8 12 (to_a (0x07 ∷ 0x00 ∷ 0x03 ∷ 0x21 ∷ 0x00 ∷ 0x2b ∷ [])) keyed10
    -- P10
    ∷ gives keyed10 (to_a (0x01 ∷ 0x00 ∷ 0x07 ∷ 0x13 ∷ 0x00 ∷ 0x00 ∷ 0x00 ∷ 0x05 ∷ 0x00 ∷ 0x20 ∷ [])) 16 yes00 (reader (with_mark true keyed10.plain) keyed10.guarded)
    -- P11: the count, DeletChar (9, 1), and the count again
    ∷ gives stored09 p8 12 (to_a (0x07 ∷ 0x00 ∷ 0x05 ∷ 0x00 ∷ 0x00 ∷ 0x02 ∷ 0x00 ∷ 0x0e ∷ [])) stored09
    ∷ gives stored09 (to_a (0x01 ∷ 0x00 ∷ 0x07 ∷ 0x0c ∷ 0x00 ∷ 0x09 ∷ 0x00 ∷ 0x01 ∷ 0x00 ∷ 0x1e ∷ [])) 16 yes00 stored0
    ∷ gives stored0 p8 12 (to_a (0x07 ∷ 0x00 ∷ 0x05 ∷ 0x00 ∷ 0x00 ∷ 0x01 ∷ 0x00 ∷ 0x0d ∷ [])) stored0
    -- P12: DeletChar (9, 2) and DeletChar (0, 0) leave P11's start, so the count is still 2
    ∷ gives stored09 (to_a (0x01 ∷ 0x00 ∷ 0x07 ∷ 0x0c ∷ 0x00 ∷ 0x09 ∷ 0x00 ∷ 0x02 ∷ 0x00 ∷ 0x1f ∷ [])) 16 (to_a (0x07 ∷ 0x00 ∷ 0x03 ∷ 0x10 ∷ 0x00 ∷ 0x1a ∷ [])) stored09
    ∷ gives stored09 (to_a (0x01 ∷ 0x00 ∷ 0x07 ∷ 0x0c ∷ 0x00 ∷ 0x00 ∷ 0x00 ∷ 0x00 ∷ 0x00 ∷ 0x14 ∷ [])) 16 yes00 stored09
    ∷ []

-- ---- the statement

holds : (x : Example) → T (legal core x.start) → ((χ : Chip) → step_of χ x.start x.run ≡ x.outcome) → Holds x
unfolding carried
holds x t e lent f =
    rw (call_legal core x.start x.run lent t f, e lent.chip)
    record { refusal = refl; used = refl; long = refl; reply = take_lay x.outcome.reply lent.room; behind = drop_lay x.outcome.reply lent.room; after = refl }

pub examples_hold : All table
unfolding highest_size longest verdict within every count_below two four word_at total same lay follow joined sum_of packet is_identifier limit accepts marks_at later start_of all_but find_from find_of used_of bit stored set_bit clear_bit clear_bits set_bits clear_from capacity size_of keyed locked buffer_of emptied loaded_from stored_on is_one_of without with_mark with_transfer with_password with_address with_tuning with_library with_notepad with_buffer without_pages fresh zeroed commands row_of order_as order_of acknowledge packets data_packets apply is_buffer in_range with_parameter status_of rule public_of free_rule hear_as hear_at hear silence says carry_as carry carry_free obey heed ended rested fits take_as take_in answer step_of wiped switched core fit_library fit_buffers fit_lengths fit_plain fit_transfer fit_origin fit_origins sound legal fresh10 keyed10 stored09 stored0 to_a p1 p8 yes00 gives table
examples_hold =
    (holds _ tt (λ χ. refl), (holds _ tt (λ χ. refl), (holds _ tt (λ χ. refl), (holds _ tt (λ χ. refl), (holds _ tt (λ χ. refl), (holds _ tt (λ χ. refl), (holds _ tt (λ χ. refl), (holds _ tt (λ χ. refl), (holds _ tt (λ χ. refl), (holds _ tt (λ χ. refl), (holds _ tt (λ χ. refl), (holds _ tt (λ χ. refl), (holds _ tt (λ χ. refl), (holds _ tt (λ χ. refl), (holds _ tt (λ χ. refl), (holds _ tt (λ χ. refl), tt))))))))))))))))
