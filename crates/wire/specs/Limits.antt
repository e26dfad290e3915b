-- The limit of a length field: none where no packet has the identifier.
use Rattle.std.specs.Prelude.{ℕ, cond, Option, None, Some}
use Rattle.protocol.specs.Packet.{is_identifier, limit}

unfoldable pub limit_of : ℕ → Option ℕ
limit_of i = cond (is_identifier i) (Some (limit i)) None
