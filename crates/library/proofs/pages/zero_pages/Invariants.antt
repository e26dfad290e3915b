-- The pages still to be zeroed, zeroed in the templates as they are, give the whole; at the end none is left.
use Rattle.std.proofs.Common.{◌≡◌, ◌-◌}
use Rattle.library.specs.Lent.{zero_pages}
use Rattle.library.proofs.pages.zero_pages.Given as goal

abbrev pub invariant-loop-p : goal.invariant-loop-p
invariant-loop-p l = zero_pages l.page l.n l.initial.templates ≡ zero_pages l.p (l.p-end - l.p) l.templates
