-- Document 02, request [9]: "moves the stored templates to pages 0, 1, 2 and up in their old order, zeroes the rest, sets the index to match, and fills a table of C
-- 16-bit numbers: each old page's new page, or FFFFh if it was vacant. Buffer origins follow their templates. The count is the same, each template's bytes are the
-- same".
use mathlib.Core.Bool.{Bool, true, false, cond}
use mathlib.Core.Path.{◌≡◌, refl, sym, ap, ◌∙◌, subst}
use mathlib.Core.Logic.{◌≢◌}
use mathlib.Core.List.{List}
use Prim.Native.Nat.{ℕ, ◌*◌, ◌≤◌, ◌<◌}
use native.Mathlib.Omega.{arith}
use lib.Dec.{ltb}
use lib.ListN.{length, get_or, replicate}
use Rattle.protocol.specs.Bytes.{part}
use Rattle.protocol.specs.Tests.{count_below, listed}
use Rattle.protocol.specs.Index.{bit, stored, set_bits}
use Rattle.protocol.specs.Reader.{no_origin, from_page, Buffer, Reader, capacity}
use Rattle.protocol.specs.Call.{Shape}
use Rattle.offline.specs.CloseGaps.{rank, new_page, closed_templates, followed, following, closed_up, table_of, Closed, close_as, close_of}
use Rattle.protocol.proofs.Laws.Below.{length_listed, at_listed}
use Rattle.protocol.proofs.Laws.Count.{count_le, below_capacity}
use Rattle.offline.proofs.Laws.Gaps.{source, rank_lt, rank_one, length_closed, page_moved, page_rest, fine_closed, stored_closed, same_count}
use Rattle.protocol.proofs.Promises.Words.Told.{pages, page, has}
use Rattle.offline.proofs.Gaps.Refusals.{Able, able, close_is, passes}

-- a buffer keeps its bytes and its mark, and its origin follows its template: to the number of stored pages below it
pub record Followed (r : Reader) (b c : Buffer) : Type 0 where
  pub bytes : c.bytes ≡ b.bytes
  pub filled : c.filled ≡ b.filled
  pub none : b.origin ≡ no_origin → c.origin ≡ no_origin
  pub page : (p : ℕ) → b.origin ≡ from_page p → c.origin ≡ from_page (count_below (has r) p)

-- page k is the k-th stored page in the old order, counted from 0: it has that page's bytes, and the table says so of that page alone
pub record Kth (r : Reader) (e : Closed) (k : ℕ) : Type 0 where
  pub old : ℕ
  pub below : old < pages r
  pub there : has r old ≡ true
  pub number : count_below (has r) old ≡ k
  pub bytes : page e.after k ≡ page r old
  pub told : get_or e.table old 0 ≡ k
  pub only : (p : ℕ) → p < pages r → has r p ≡ true → get_or e.table p 0 ≡ k → p ≡ old

-- of a reader of which n pages are stored
pub record Closes (r : Reader) (n : ℕ) (e : Closed) : Type 0 where
  -- "fills a table of C 16-bit numbers: each old page's new page, or FFFFh if it was vacant"
  pub long : length e.table ≡ pages r
  pub moved : (p : ℕ) → p < pages r → has r p ≡ true → get_or e.table p 0 ≡ count_below (has r) p
  pub vacant : (p : ℕ) → p < pages r → has r p ≡ false → get_or e.table p 0 ≡ 0xffff
  -- "moves the stored templates to pages 0, 1, 2 and up in their old order", "each template's bytes are the same"
  pub kth : (k : ℕ) → k < n → Kth r e k
  pub bytes : (p : ℕ) → p < pages r → has r p ≡ true → page e.after (count_below (has r) p) ≡ page r p
  -- "zeroes the rest, sets the index to match", "The count is the same"
  pub rest : (q : ℕ) → n ≤ q → q < pages r → page e.after q ≡ replicate 512 0
  pub bits : (q : ℕ) → has e.after q ≡ ltb q n
  pub stored_pages : set_bits r.guarded.index ≡ n
  pub count : set_bits e.after.guarded.index ≡ set_bits r.guarded.index
  pub templates : length e.after.guarded.templates ≡ length r.guarded.templates
  pub index : length e.after.guarded.index ≡ length r.guarded.index
  -- "Buffer origins follow their templates", and all else stays
  pub buffer1 : Followed r r.guarded.buffer1 e.after.guarded.buffer1
  pub buffer2 : Followed r r.guarded.buffer2 e.after.guarded.buffer2
  pub settings : e.after.plain ≡ r.plain
  pub notepad : e.after.guarded.notepad ≡ r.guarded.notepad
  pub found : e.after.guarded.found ≡ r.guarded.found

-- "in their old order"
pub keeps_order : (r : Reader) (p q : ℕ) → p < q → has r p ≡ true → count_below (has r) p < count_below (has r) q
unfolding rank stored bit
keeps_order r p q l e = rank_lt r.guarded.index p q l e

-- a page goes down or stays
pub goes_down : (r : Reader) (p : ℕ) → count_below (has r) p ≤ p
goes_down r p = count_le (has r) p

-- so where pages are written in their new order, from 0 on, one that is to go to page k or above is still at its old place while those below k are written; and while
-- page k is, it is so too, unless it is page k itself and stays
pub still_there : (r : Reader) (p k : ℕ) → k ≤ count_below (has r) p → (k ≤ p) × (k ≡ p → count_below (has r) p ≡ k)
still_there r p k l = (omega (arith, goes_down r p), λ e. omega (arith, goes_down r p))

follows_one : (r : Reader) (b : Buffer) → Followed r b (following r.guarded.index b)
unfolding followed rank stored bit
follows_one r b = record { bytes = refl; filled = refl; none = λ e. ap (followed r.guarded.index) e; page = λ p e. ap (followed r.guarded.index) e }

module _ (σ : Shape) (ok : σ.most ≤ 8 * σ.indexed) (r : Reader) (table : List ℕ) (z : (close_of σ r table).refusal ≡ 0) where
  pub closes : Closes r (count_below (has r) (pages r)) (close_of σ r table)
  unfolding close_as table_of closed_up new_page capacity rank stored bit
  closes =
      let a = passes σ r table z in
      rw (close_is σ r table a.lengths a.settings)
      record {
        long = length_listed (new_page x) c;
        moved = told;
        vacant = λ p l e. at_listed (new_page x) c p l ∙ ap (λ (b : Bool). cond b (rank x p) 0xffff) e;
        kth =
            λ k l.
            let d = source x c k l in
            record {
              old = d.page;
              below = d.below;
              there = d.there;
              number = d.new;
              bytes = subst (λ (q : ℕ). part (512 * q) 512 (closed_templates c s x) ≡ part (512 * d.page) 512 s) d.new (page_moved c s x fit.long d.page d.below d.there);
              told = told d.page d.below d.there ∙ d.new;
              only = λ p l h q. rank_one x p d.page h d.there (sym (told p l h) ∙ q ∙ sym d.new);
            };
        bytes = page_moved c s x fit.long;
        rest = page_rest c s x fit.long;
        bits = stored_closed σ.indexed c s x fit.long fit.wide small;
        stored_pages = below_capacity x c (omega (arith, fit.wide, fit.high)) fit.clear;
        count = same_count σ.indexed c s x fit.long fit.wide small fit.clear;
        templates = length_closed c s x fit.long;
        index = (fine_closed σ.indexed c s x fit.long fit.wide small).long ∙ sym fit.wide;
        buffer1 = follows_one r r.guarded.buffer1;
        buffer2 = follows_one r r.guarded.buffer2;
        settings = refl;
        notepad = refl;
        found = refl;
      }
    where
      c : ℕ
      c = capacity r.guarded

      x : List ℕ
      x = r.guarded.index

      s : List ℕ
      s = r.guarded.templates

      fit : Able σ r table
      fit = let a = passes σ r table z in able σ r table a.lengths a.settings

      small : c ≤ 8 * σ.indexed
      small = omega (arith, fit.high)

      told : (p : ℕ) → p < c → stored x p ≡ true → get_or (listed (new_page x) c) p 0 ≡ rank x p
      told p l e = at_listed (new_page x) c p l ∙ ap (λ (b : Bool). cond b (rank x p) 0xffff) e

  -- the table the other way: what an entry says of the old page
  pub record TableSays (p : ℕ) (k : ℕ) : Type 0 where
    pub stored : k ≢ 0xffff → (has r p ≡ true) × (count_below (has r) p ≡ k)
    pub vacant : k ≡ 0xffff → pages r ≤ 0xffff → has r p ≡ false

  pub table_says : (p : ℕ) → p < pages r → TableSays p (get_or (close_of σ r table).table p 0)
  table_says p l = go (has r p) refl
    where
      go : (b : Bool) → has r p ≡ b → TableSays p (get_or (close_of σ r table).table p 0)
      go true e =
          let k = closes.moved p l e in
          record { stored = λ n. (e, sym k); vacant = λ f m. absurd (omega (arith, goes_down r p)) }
      go false e = record { stored = λ n. absurd (n (closes.vacant p l e)); vacant = λ f m. e }
