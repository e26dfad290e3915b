-- The receiver at work: noise, P1, a lone EF, P8 and one more EF, on the reader of P1, cut in two ways.
use mathlib.Core.Path.{◌≡◌, refl}
use mathlib.Core.List.{List, [], ◌∷◌, ◌++◌}
use Prim.Native.Nat.{ℕ}
use lib.ListN.{replicate}
use Rattle.protocol.specs.Numbers.{highest_size, longest, holds}
use Rattle.protocol.specs.Tests.{verdict, within, every, count_below}
use Rattle.protocol.specs.Bytes.{zeros, two, four, word_at, total, same, lay, follow, joined}
use Rattle.protocol.specs.Packet.{sum_of, packet, is_identifier, limit, accepts}
use Rattle.protocol.specs.Finder.{marks_at, later, start_of, all_but, find_from, find_of, used_of}
use Rattle.protocol.specs.Index.{bit, stored, set_bit, clear_bit, clear_bits, set_bits, clear_from}
use Rattle.protocol.specs.Reader.{capacity, size_of, keyed, locked, buffer_of, emptied, loaded_from, stored_on, is_one_of, without, with_mark, with_transfer, with_password, with_address, with_tuning, with_library, with_notepad, with_buffer, without_pages, fresh, zeroed}
use Rattle.protocol.specs.Search.{Chip}
use Rattle.protocol.specs.Commands.{commands, row_of, order_as, order_of}
use Rattle.protocol.specs.Data.{acknowledge, packets, data_packets}
use Rattle.protocol.specs.Table.{apply, is_buffer, in_range, with_parameter, status_of, rule, public_of, free_rule}
use Rattle.protocol.specs.Step.{hear_as, hear_at, hear, silence, says, carry_as, carry, carry_free, obey, heed, ended, rested, fits, take_as, take_in, answer, step_of, wiped, switched}
use Rattle.protocol.specs.Call.{fit_room, refusal_of, call_as, call_of, refused, carried, reply_of, core, fit_library, fit_buffers, fit_lengths, fit_plain, fit_transfer, fit_origin, fit_origins, sound, legal, fit_chip}
use Rattle.protocol.specs.Receiver.{bytes_in, holding, line, fitting, run_of, handed, receive_refusal, receive_as, receive_of}
use Rattle.dialogues.specs.Caller.{Try, replied, offers, served, resting, at_rest, drain, drained}
use Rattle.dialogues.proofs.Examples.Examples.{fresh10}

to_a : List ℕ → List ℕ
to_a s = 0xef ∷ 0x01 ∷ 0xff ∷ 0xff ∷ 0xff ∷ 0xff ∷ s

p1 : List ℕ
p1 = to_a (0x01 ∷ 0x00 ∷ 0x03 ∷ 0x40 ∷ 0x00 ∷ 0x44 ∷ [])

p8 : List ℕ
p8 = to_a (0x01 ∷ 0x00 ∷ 0x03 ∷ 0x1d ∷ 0x00 ∷ 0x21 ∷ [])

pub run : List ℕ
run = 0x41 ∷ (p1 ++ (0xef ∷ (p8 ++ (0xef ∷ []))))

pub answers : List (List ℕ)
answers =
    to_a (0x07 ∷ 0x00 ∷ 0x03 ∷ 0x00 ∷ 0x00 ∷ 0x0a ∷ []) ∷ to_a (0x07 ∷ 0x00 ∷ 0x05 ∷ 0x00 ∷ 0x00 ∷ 0x00 ∷ 0x00 ∷ 0x0c ∷ []) ∷ []

-- ten scores of k, and five thresholds
pub chip : ℕ → Chip
chip k = record { scores = replicate 10 k; thresholds = zeros 5 }

piece : ℕ → ℕ → Try
piece n k = record { size = n; lent = record { chip = chip k; room = zeros 700 } }

-- piece by piece: five bytes, all that is left, and none; new scores each time, which no Search sees
pub tries : List Try
tries = piece 5 1 ∷ piece 60 2 ∷ piece 0 3 ∷ []

-- both answers and one byte held, whole and piece by piece; the array after the pieces too
pub at_work : (((drained (chip 0) fresh10 run).replies ≡ answers) × (bytes_in (drained (chip 0) fresh10 run).after.receiver ≡ 0xef ∷ []))
    × (((offers core tries (line fresh10 (holding [])) run).replies ≡ answers) × ((offers core tries (line fresh10 (holding [])) run).after.receiver ≡ holding (0xef ∷ [])))
unfolding highest_size longest verdict within every count_below two four word_at total same lay follow joined sum_of packet is_identifier limit accepts marks_at later start_of all_but find_from find_of used_of bit stored set_bit clear_bit clear_bits set_bits clear_from capacity size_of keyed locked buffer_of emptied loaded_from stored_on is_one_of without with_mark with_transfer with_password with_address with_tuning with_library with_notepad with_buffer without_pages fresh zeroed commands row_of order_as order_of acknowledge packets data_packets apply is_buffer in_range with_parameter status_of rule public_of free_rule hear_as hear_at hear silence says carry_as carry carry_free obey heed ended rested fits take_as take_in answer step_of wiped switched core fit_library fit_buffers fit_lengths fit_plain fit_transfer fit_origin fit_origins sound legal fresh10 holds refusal_of call_as call_of refused reply_of fit_room carried bytes_in holding fitting run_of receive_refusal handed receive_as receive_of replied offers served resting at_rest drain drained fit_chip to_a p1 p8 run answers piece chip tries
at_work = ((refl, refl), (refl, refl))
