-- A DeletChar behind a closing: of the new number it takes the page away, and of the old one it does not, unless another page moved there.
use mathlib.Core.Bool.{true, false}
use mathlib.Core.Path.{◌≡◌, refl, sym, ap, ◌∙◌, subst}
use mathlib.Core.List.{List, []}
use Prim.Native.Nat.{ℕ, ◌+◌, ◌*◌, ◌/◌, ◌≤◌, ◌<◌}
use native.Mathlib.Omega.{arith}
use lib.Dec.{T}
use lib.ListN.{replicate}
use borrow.Author.Tests.{lt-ltb}
use Rattle.protocol.specs.Tests.{count_below}
use Rattle.protocol.specs.Reader.{Plain, Reader, capacity, locked}
use Rattle.protocol.specs.Commands.{delet_char, barred, command}
use Rattle.protocol.specs.Data.{acknowledge}
use Rattle.protocol.specs.Step.{order, hear}
use Rattle.protocol.specs.Call.{Shape, Lent, fit_lent, Ended, call_of}
use Rattle.protocol.proofs.Laws.Index.{in_among, not_among}
use Rattle.protocol.proofs.Laws.Answers.{spared}
use Rattle.protocol.proofs.Promises.Words.Told.{Replies, pages, page, has}
use Rattle.protocol.proofs.Promises.Commands.Moves.{Deleted, delete_moves}
use Rattle.protocol.proofs.Promises.Refusals.StaysLegal.{Legal}
use Rattle.offline.specs.CloseGaps.{close_of}
use Rattle.offline.proofs.Gaps.Closes.{Closes, closes, keeps_order}
use Rattle.offline.proofs.Gaps.StaysLegal.{closed_legal}

-- a closing of r, and behind it a call that asks for DeletChar of the pages from m to before m + n
module _ (σ : Shape) (ok : σ.most ≤ 8 * σ.indexed) (r : Reader) (l : Legal σ ok r) (u : locked r.plain ≡ false) (table : List ℕ) (z : (close_of σ r table).refusal ≡ 0)
    (s : List ℕ) (lent : Lent) (fit : T (fit_lent (capacity r.guarded) lent)) (m n : ℕ) where
  abbrev deleted : Ended
  deleted = call_of σ (close_of σ r table).after s lent

  -- page p was stored before the closing
  pub record AfterDeleting (p : ℕ) : Type 0 where
    pub reply : Replies (acknowledge r.plain.address 0x00 []) s lent deleted
    -- its new number is among those pages
    pub gone : m ≤ count_below (has r) p → count_below (has r) p < m + n
        → (has deleted.after (count_below (has r) p) ≡ false) × (page deleted.after (count_below (has r) p) ≡ replicate 512 0)
    -- it is not, whether its old number is or not
    pub stays : (m ≤ count_below (has r) p → count_below (has r) p < m + n → ⊥)
        → (has deleted.after (count_below (has r) p) ≡ true) × (page deleted.after (count_below (has r) p) ≡ page r p)

  pub delete_after : hear r.plain.address s ≡ order (command (barred (delet_char m n))) → m < pages r → m + n ≤ pages r → (p : ℕ) → p < pages r → has r p ≡ true → AfterDeleting p
  unfolding capacity
  delete_after h a b p c e =
      record {
        reply = subst (λ (k : List ℕ). Replies (acknowledge k 0x00 []) s lent deleted) ((spared t).address ∙ ap (λ (x : Plain). x.address) k.settings) d.quiet.told;
        gone = λ i j. (d.bits q ∙ rw (in_among m n q i j) refl, d.bytes q i j);
        stays = λ f. (d.bits q ∙ rw (not_among m n q f, there) refl, d.others q f ∙ k.bytes p c e);
      }
    where
      t : Reader
      t = (close_of σ r table).after

      q : ℕ
      q = count_below (has r) p

      k : Closes r (count_below (has r) (pages r)) (close_of σ r table)
      k = closes σ ok r table z

      same : pages t ≡ pages r
      same = ap (λ (i : ℕ). i / 512) k.templates

      there : has t q ≡ true
      there = k.bits q ∙ lt-ltb q (count_below (has r) (pages r)) (keeps_order r p (pages r) c e)

      d : Deleted σ ok t (closed_legal σ ok r table l) (ap locked k.settings ∙ u) s lent (subst (λ (i : ℕ). T (fit_lent i lent)) (sym same) fit) m n
      d =
          delete_moves σ ok t (closed_legal σ ok r table l) (ap locked k.settings ∙ u) s lent (subst (λ (i : ℕ). T (fit_lent i lent)) (sym same) fit) m n
          (ap (λ (x : Plain). hear x.address s) k.settings ∙ h) (omega (arith, same)) (omega (arith, same))
