-- Two runs of equally many bytes are the same where no bit of theirs differs.
use Rattle.std.proofs.Common.{rules, ◌≡◌, ℕ, refl, bit_or, bit_xor}
use Rattle.std.specs.List.{fold, zip}
use Rattle.std.proofs.lemmas.Fn.{fold_over, fronts}
use Rattle.std.proofs.lemmas.List.Sums.{fold_push}
use Rattle.std.proofs.lemmas.Iterator.{YieldsList-from_slice, YieldsList-from_zip, zips}
use Rattle.upkeep.proofs.Comparing.{not_long, none_differ}
use Rattle.upkeep.proofs.lent.is_equal.Goals as goal

pub returns-else-a-b : goal.returns-else-a-b
returns-else-a-b c = search not_long

pub returns-then-a-b : goal.returns-then-a-b
returns-then-a-b c =
    let h : ℕ → ℕ × ℕ → ℕ = λ found p. bit_or found (bit_xor p.0 p.1) in
    let road = YieldsList-from_zip {s = c.zip.result} (YieldsList-from_slice c.args.a.now cc) (YieldsList-from_slice c.args.b.now cc) in
    let found : c.fold.result ≡ fold h 0 (zip c.args.a.now c.args.b.now) =
    fold_over (zips fronts fronts) (λ p. (p.0.now, p.1.now)) _ (λ ys r. r ≡ fold h 0 ys) _ (λ ys a x b f' j k. let push = fold_push h 0 ys (x.0.now, x.1.now) in search rules)
    c.zip.result _ _ _ road.runs refl c.fold.ensures.ran in
    rw found (none_differ 0 c.args.a.now c.args.b.now c.if-a-b.true)
