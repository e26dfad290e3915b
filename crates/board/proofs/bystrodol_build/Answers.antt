-- The bytes of the address are those of the definition, and the service keeps what the builder made: no length where it refuses.
use Rattle.std.proofs.Common.{◌≡◌, ℕ, List, ap, ◌∙◌, Result}
use Rattle.std.specs.Result.{result_unwrap_or}
use Rattle.protocol.specs.declared.refusals.Refusal.{Refusal}
use Rattle.protocol.specs.Bytes.{four}
use Rattle.protocol.specs.Packet.{Made, build_of}
use Rattle.protocol.specs.Services.{build_service}
use Rattle.protocol.specs.Records.{built_of, made_of}
use Rattle.wire.proofs.Packets.{length_kept}
use Rattle.board.proofs.bystrodol_build.Goals as goal

module _ (r : Result ℕ Refusal) (a i : ℕ) (b c d e : List ℕ) (h : b ≡ four a) (f : made_of (built_of r) e ≡ build_of b i c d) where
  made : made_of (built_of r) e ≡ build_service a i c d
  unfolding build_service
  made = f ∙ ap (λ (x : List ℕ). build_of x i c d) h

  room : e ≡ (build_service a i c d).room
  room = ap (λ (m : Made). m.room) made

  long : (n : ℕ) → n ≡ result_unwrap_or r 0 → n ≡ (build_service a i c d).length
  long n g = g ∙ length_kept r ∙ ap (λ (m : Made). m.length) made

pub returns-clause-length : goal.returns-clause-length
unfolding four
returns-clause-length c = long _ _ _ _ _ _ _ c.to_be_bytes.ensures c.build.ensures _ c.unwrap_or.ensures

pub returns-clause-room : goal.returns-clause-room
unfolding four
returns-clause-room c = room _ _ _ _ _ _ _ c.to_be_bytes.ensures c.build.ensures
