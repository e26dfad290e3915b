-- The part that is lent is the page, and it comes back zero.
use Rattle.std.proofs.Common.{◌≡◌, ℕ, ◌+◌, ◌-◌, ◌*◌, ◌/◌, ◌<◌, List, length, take, drop, arith, lt-ltb}
use Rattle.std.proofs.lemmas.Grind.{common_steps}
use borrow.Rule.Slice.PartMut.{put_mid}
use Rattle.protocol.specs.Numbers.{page_bytes}
use Rattle.protocol.specs.Bytes.{zeros}
use Rattle.library.specs.Lent.{zero_page}
use Rattle.library.proofs.Parts.{part_zeroed}
use Rattle.library.proofs.pages.zero_page.Goals as goal

zeroed_page : (p : ℕ) (t y : List ℕ) → p < length t / page_bytes → y ≡ zeros (length (take (page_bytes * p + page_bytes - page_bytes * p) (drop (page_bytes * p) t)))
    → put_mid (page_bytes * p) (page_bytes * p + page_bytes - page_bytes * p) t y ≡ zero_page p t
unfolding zero_page
zeroed_page p t y h f = rw (lt-ltb _ _ h) (part_zeroed (page_bytes * p) page_bytes t y (omega arith) f)

pub returns-then-page-templates : goal.returns-then-page-templates
returns-then-page-templates c = let z = c.fill.ensures.after (λ y e. e) in zeroed_page _ _ _ c.if-page-templates.true z

pub returns-else-page-templates : goal.returns-else-page-templates
unfolding zero_page
returns-else-page-templates c = grind (arith, common_steps)
