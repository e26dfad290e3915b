-- Identifier and length are tested before the room, in the order of the refusals; what passes both is laid as a packet.
use Rattle.std.proofs.Common.{◌≡◌, ℕ, ◌+◌, ◌<◌, ◌≤◌, true, false, List, length, rules, Ok, Err, le-leb}
use borrow.Author.Tests.{lt-leb}
use Rattle.protocol.specs.declared.refusals.Refusal.TheVariants.{BadRoom, BadContent}
use Rattle.protocol.specs.Numbers.{frame_bytes, four_bytes}
use Rattle.protocol.specs.Bytes.{lay}
use Rattle.protocol.specs.Tests.{verdict}
use Rattle.protocol.specs.Packet.{length_of, accepts, packet, build_of, build_refusal, build_as}
use Rattle.protocol.specs.Records.{built_of, made_of}
use Rattle.protocol.proofs.Laws.Finder.{length_packet}
use Rattle.wire.proofs.builder.build.Goals as goal

-- the content c for the room d
module _ (a : List ℕ) (i : ℕ) (c d : List ℕ) where
  unfit : false ≡ accepts i (length_of c) → made_of (built_of (Err BadContent)) d ≡ build_of a i c d
  unfolding build_of build_refusal build_as verdict
  unfit f = rw (← f)

  no_room : true ≡ accepts i (length_of c) → length d < length c + frame_bytes → made_of (built_of (Err BadRoom)) d ≡ build_of a i c d
  unfolding build_of build_refusal build_as verdict
  no_room f h = rw (← f, lt-leb _ _ h)

  made : (n : ℕ) (x : List ℕ) → true ≡ accepts i (length_of c) → length c + frame_bytes ≤ length d → length a ≡ four_bytes
      → n ≡ length c + frame_bytes → x ≡ lay 0 (packet a i c) d → made_of (built_of (Ok n)) x ≡ build_of a i c d
  unfolding build_of build_refusal build_as verdict
  made n x f h l e g = rw (← f, le-leb _ _ h, e, g, length_packet a i c l)

pub returns-then-not-is_head : goal.returns-then-not-is_head
returns-then-not-is_head c = unfit _ _ _ _ c.if-not-is_head.ensures

pub returns-then-room-content : goal.returns-then-room-content
returns-then-room-content c = no_room _ _ _ _ c.if-not-is_head.ensures c.if-room-content.true

pub returns : goal.returns
returns c = made _ _ _ _ _ _ c.if-not-is_head.ensures c.if-room-content.false (search rules) c.lay_packet.ensures.len c.lay_packet.ensures.laid
