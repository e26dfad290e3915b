use Rattle.std.proofs.Common.{rules, ◌≡◌, ℕ, ◌+◌, ◌%◌, ◌∙◌, zero-add, arith}
use Rattle.std.specs.List.{fold}
use Rattle.wire.proofs.Sums.{total_folded}
use Rattle.wire.proofs.bytes.sum.Goals as goal

pub returns : goal.returns
returns c =
    let e : c.fold.result ≡ fold (λ (n b : ℕ). (n + b) % 65536) 0 c.args.s.now = search rules in
    e ∙ rw zero-add at (total_folded c.args.s.now 0 (omega arith))
