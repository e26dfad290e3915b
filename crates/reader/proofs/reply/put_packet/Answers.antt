-- The builder refuses neither identifier, content nor room.
use Rattle.std.proofs.Common.{◌≡◌, ℕ, ◌+◌, ◌≤◌, true, List, length, rules, refl, ap, ◌∙◌, Result, le-leb}
use Rattle.std.specs.Result.{result_unwrap_or}
use Rattle.protocol.specs.declared.refusals.Refusal.{Refusal}
use Rattle.protocol.specs.Numbers.{frame_bytes, four_bytes}
use Rattle.protocol.specs.Bytes.{lay}
use Rattle.protocol.specs.Tests.{verdict}
use Rattle.protocol.specs.Packet.{length_of, accepts, packet, Made, build_of, build_refusal, build_as}
use Rattle.protocol.specs.Records.{built_of, made_of}
use Rattle.protocol.proofs.Laws.Finder.{length_packet}
use Rattle.wire.proofs.Packets.{length_kept}
use Rattle.reader.proofs.reply.put_packet.Goals as goal

module _ (a : List ℕ) (i : ℕ) (c room x : List ℕ) (r : Result ℕ Refusal) (t : accepts i (length_of c) ≡ true) (h : length c + frame_bytes ≤ length room)
    (e : made_of (built_of r) x ≡ build_of a i c room) where
  made : made_of (built_of r) x ≡ record { refusal = 0; length = length (packet a i c); room = lay 0 (packet a i c) room }
  unfolding build_of build_refusal build_as verdict
  made = e ∙ rw (t, le-leb (length c + frame_bytes) (length room) h) refl

  laid : x ≡ lay 0 (packet a i c) room
  laid = ap (λ (m : Made). m.room) made

  long : length a ≡ four_bytes → (n : ℕ) → n ≡ result_unwrap_or r 0 → n ≡ length c + frame_bytes
  long f n g = g ∙ length_kept r ∙ ap (λ (m : Made). m.length) made ∙ length_packet a i c f

pub returns-clause-len : goal.returns-clause-len
returns-clause-len c = long _ _ _ _ _ _ c.requires.accepted c.requires.room c.build.ensures (search (rules, c.well_formed)) _ c.unwrap_or.ensures

pub returns-clause-laid : goal.returns-clause-laid
returns-clause-laid c = laid _ _ _ _ _ _ c.requires.accepted c.requires.room c.build.ensures
