-- A length field fits where the identifier has a limit, and it is no less than 3 and no more than that.
use Rattle.std.proofs.Common.{◌≡◌, ℕ, Bool, true, false, cond, ◌&&◌, leb, Option, None, Some, rules}
use Rattle.protocol.specs.Numbers.{shortest}
use Rattle.protocol.specs.Packet.{is_identifier, limit, accepts}
use Rattle.wire.specs.Limits.{limit_of}
use Rattle.wire.proofs.finder.is_head.Goals as goal

by_limit : (i n : ℕ) (o : Option ℕ) (r : Bool) → o ≡ limit_of i → ((m : ℕ) → o ≡ Some m → r ≡ (leb shortest n && leb n m)) → (o ≡ None → r ≡ false) → r ≡ accepts i n
unfolding accepts limit_of
by_limit i n o r e f g = go (is_identifier i) e
  where
    go : (b : Bool) → o ≡ cond b (Some (limit i)) None → r ≡ (b && leb shortest n && leb n (limit i))
    go true k = f (limit i) k
    go false k = g k

pub returns : goal.returns
returns c = by_limit _ _ _ _ c.limit_of.ensures (λ m e. search rules) (λ e. search rules)
