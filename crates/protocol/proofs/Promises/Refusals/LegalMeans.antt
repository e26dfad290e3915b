-- What legal means, in plain numbers: document 01's "Lent memory and settings" and "Legal transfer", and request [7]'s origins.
use mathlib.Core.Bool.{Bool, true, false, true≢false}
use mathlib.Core.Path.{◌≡◌, refl, sym, ap, ◌∙◌}
use mathlib.Core.Logic.{◌⊎◌, inl, inr, ◌↔◌}
use mathlib.Core.List.{List, [], ◌∷◌}
use Prim.Native.Nat.{ℕ, zero, suc, ◌*◌, ◌/◌, ◌%◌, ◌^◌, ◌≤◌, ◌<◌}
use native.Mathlib.Omega.{arith}
use lib.Dec.{T, leb→le, le→leb, ltb→lt, lt→ltb, lit≤}
use borrow.Author.Tests.{eqb-false}
use lib.ListN.{length, get_or}
use Rattle.protocol.specs.Numbers.{highest_size}
use Rattle.protocol.specs.Bytes.{Bytes, four, same}
use Rattle.protocol.specs.Tests.{within}
use Rattle.protocol.specs.Index.{bit, stored}
use Rattle.protocol.specs.Reader.{Marks, Transfer, closed, opened, unfit, Plain, from_page, Buffer, Guarded, Reader, capacity, size_of, keyed, locked, buffer_of}
use Rattle.protocol.specs.Records.{transfer_of}
use Rattle.protocol.specs.Call.{core, fit_buffers, fit_plain, fit_transfer, sound, fit_lengths, legal, Typed}
use Rattle.protocol.proofs.Laws.Logic.{and_l, and_r, and_i, and_false, eq→eqb}
use Rattle.protocol.proofs.Laws.Lists.{same_refl, same_eq}
use Rattle.protocol.proofs.Laws.Index.{clear_above, clear_to_lem}
use Rattle.protocol.proofs.Laws.Marks.{transfer_kinds}
use Rattle.protocol.proofs.Laws.Origins.{Rooted, rooted, fit_origins_lem}
use Rattle.protocol.proofs.Laws.Legal.{buffer_long, moving, Moving, fit_opened, Shelf, shelf, unshelf}
use Rattle.protocol.proofs.Promises.Words.Words.{memory, Marked, kept}

-- document 01's own reader has a bit for every page
pub core_holds : core.most ≤ 8 * core.indexed
unfolding core
core_holds = lit≤ tt

-- "Templates: 512 × C bytes", by request [6] C from 1 to 1000 and "the index becomes 128 bytes for every reader"; "Notepad: 512 bytes." "Character buffers 1
-- and 2: 512 bytes each."
pub record Lengths (g : Guarded) : Type 0 where
  pub pages : ℕ
  pub templates : length g.templates ≡ 512 * pages
  pub least : 1 ≤ pages
  pub most : pages ≤ 1000
  pub index : length g.index ≡ 128
  pub notepad : length g.notepad ≡ 512
  pub buffer1 : length g.buffer1.bytes ≡ 512
  pub buffer2 : length g.buffer2.bytes ≡ 512

-- "The bytes got are a multiple of the size and below 512; the buffer's filled mark is clear; the reader is not locked."
pub record Into (p : Plain) (filled : Bool) (got : ℕ) : Type 0 where
  pub size0 : p.size ≡ 0 → got % 32 ≡ 0
  pub size1 : p.size ≡ 1 → got % 64 ≡ 0
  pub size2 : p.size ≡ 2 → got % 128 ≡ 0
  pub size3 : p.size ≡ 3 → got % 256 ≡ 0
  pub below : got < 512
  pub clear : filled ≡ false
  pub free : (p.password ≡ 0 ∷ 0 ∷ 0 ∷ 0 ∷ []) ⊎ (p.verified ≡ true)

-- none, or into buffer 1 or 2
abbrev pub LegalTransfer : Plain → Guarded → Transfer → Type 0
LegalTransfer p g closed = Unit {0}
LegalTransfer p g (opened false got) = Into p g.buffer1.filled got
LegalTransfer p g (opened true got) = Into p g.buffer2.filled got
LegalTransfer p g (unfit b k m) = ⊥

-- "3 for an origin at or above C, on a vacant page, or on a buffer not filled": page p of a library, and the buffer b whose origin it is
pub record LegalOrigin (templates index : List ℕ) (b : Buffer) (p : ℕ) : Type 0 where
  pub below : (c : ℕ) → length templates ≡ 512 * c → p < c
  -- the bit of weight 2^(p mod 8) in byte p / 8
  pub there : get_or index (p / 8) 0 / 2 ^ (p % 8) % 2 ≡ 1
  pub filled : b.filled ≡ true

-- "security level 1 to 5; size code 0 to 2; baud factor 1 to 12; sensor type, any 16-bit number", by request [3] size code 0 to 3; the transfer; no
-- index bit at or above C; and the origins of both buffers, where they have one
pub record Settled (r : Reader) : Type 0 where
  pub level : (1 ≤ r.plain.level) × (r.plain.level ≤ 5)
  pub size : r.plain.size ≤ 3
  pub baud : (1 ≤ r.plain.baud) × (r.plain.baud ≤ 12)
  pub sensor : r.plain.sensor < 65536
  pub transfer : LegalTransfer r.plain r.guarded r.plain.transfer
  -- page q is the bit of weight 2^(q mod 8) in byte q / 8
  pub clear : (c q : ℕ) → length r.guarded.templates ≡ 512 * c → c ≤ q → get_or r.guarded.index (q / 8) 0 / 2 ^ (q % 8) % 2 ≡ 0
  pub origin1 : (p : ℕ) → r.guarded.buffer1.origin ≡ from_page p → LegalOrigin r.guarded.templates r.guarded.index r.guarded.buffer1 p
  pub origin2 : (p : ℕ) → r.guarded.buffer2.origin ≡ from_page p → LegalOrigin r.guarded.templates r.guarded.index r.guarded.buffer2 p

-- ---- the lent lengths

-- the lengths that refusal 1 tests are these
pub lengths_mean : (g : Guarded) → T (fit_lengths core g) ↔ Lengths g
unfolding core fit_lengths fit_buffers buffer_of capacity
lengths_mean g = (to, from)
  where
    to : T (fit_lengths core g) → Lengths g
    to t =
        let b : T (fit_buffers g) = search (and_r) in
        let s : Shelf core core_holds g = shelf core core_holds g (search (and_l)) in
        record {
          pages = capacity g;
          templates = s.long;
          least = s.low;
          most = s.high;
          index = s.wide;
          notepad = s.notes;
          buffer1 = buffer_long false g b;
          buffer2 = buffer_long true g b;
        }

    from : Lengths g → T (fit_lengths core g)
    from m =
        let c : capacity g ≡ m.pages = omega (arith, m.templates) in
        let s = unshelf core core_holds g record { long = m.templates ∙ ap (λ (n : ℕ). 512 * n) (sym c); low = rw c m.least; high = rw c m.most; wide = m.index; notes = m.notepad } in
        let b1 = eq→eqb (length g.buffer1.bytes) 512 m.buffer1 in
        let b2 = eq→eqb (length g.buffer2.bytes) 512 m.buffer2 in
        search (and_i)

-- ---- the settings

not_locked : (p : Plain) → (locked p ≡ false) ↔ ((p.password ≡ 0 ∷ 0 ∷ 0 ∷ 0 ∷ []) ⊎ (p.verified ≡ true))
unfolding locked keyed four
not_locked p = (go (same p.password (four 0)) p.verified refl refl, back)
  where
    go : (a b : Bool) → same p.password (four 0) ≡ a → p.verified ≡ b → locked p ≡ false → (p.password ≡ four 0) ⊎ (p.verified ≡ true)
    go true b e f l = inl (same_eq p.password (four 0) e)
    go false true e f l = inr f
    go false false e f l = absurd (true≢false (rw (e, f) at l))

    back : (p.password ≡ four 0) ⊎ (p.verified ≡ true) → locked p ≡ false
    back (inl e) = rw (e, same_refl (four 0)) refl
    back (inr f) = rw f (and_false (keyed p) false refl)

into : (p : Plain) (g : Guarded) (w : Bool) (got : ℕ) → p.size ≤ 3 → T (fit_transfer p g (opened w got)) ↔ Into p (buffer_of w g).filled got
unfolding size_of
into p g w got z = (to, from)
  where
    to : T (fit_transfer p g (opened w got)) → Into p (buffer_of w g).filled got
    to t =
        let m : Moving p g w got = moving p g w got t in
        record {
          size0 = λ e. rw e at m.whole;
          size1 = λ e. rw e at m.whole;
          size2 = λ e. rw e at m.whole;
          size3 = λ e. rw e at m.whole;
          below = m.below;
          clear = m.unfilled;
          free = (not_locked p).0 m.free;
        }

    whole : Into p (buffer_of w g).filled got → (k : ℕ) → p.size ≡ k → k ≤ 3 → got % size_of k ≡ 0
    whole m zero e l = m.size0 e
    whole m (suc zero) e l = m.size1 e
    whole m (suc (suc zero)) e l = m.size2 e
    whole m (suc (suc (suc zero))) e l = m.size3 e
    whole m (suc (suc (suc (suc k)))) e l = absurd (omega arith)

    from : Into p (buffer_of w g).filled got → T (fit_transfer p g (opened w got))
    from m = fit_opened p g w got (whole m p.size refl z) m.below m.clear ((not_locked p).1 m.free)

transfer_means : (p : Plain) (g : Guarded) → p.size ≤ 3 → (t : Transfer) → T (fit_transfer p g t) ↔ LegalTransfer p g t
unfolding fit_transfer buffer_of
transfer_means p g z closed = (λ t. tt, λ t. tt)
transfer_means p g z (opened false got) = into p g false got z
transfer_means p g z (opened true got) = into p g true got z
transfer_means p g z (unfit b k m) = (λ t. t, λ t. t)

-- two numbers of a settings record: 0 and 0, which is none, or those of a buffer and the bytes got so far
abbrev pub Numbered : Plain → Guarded → ℕ → ℕ → Type 0
Numbered p g b got = ((b ≡ 0) × (got ≡ 0)) ⊎ ((b ≡ 1) × Into p g.buffer1.filled got) ⊎ ((b ≡ 2) × Into p g.buffer2.filled got)

-- "transfer: none, or buffer 1 or 2 with the bytes got so far", beside marks of 0 and 1
pub transfer_numbers : (p : Plain) (g : Guarded) (m : Marks) (b got : ℕ) → LegalTransfer p g (transfer_of m b got) ↔ (Marked m × Numbered p g b got)
transfer_numbers p g m b got = (to, from)
  where
    to : LegalTransfer p g (transfer_of m b got) → Marked m × Numbered p g b got
    to =
        transfer_kinds m b got (λ t. LegalTransfer p g t → Marked m × Numbered p g b got) (λ f x y h. ((kept.marks_mean m).0 f, inl (x, y)))
        (λ f x h. ((kept.marks_mean m).0 f, inr (inl (x, h)))) (λ f x h. ((kept.marks_mean m).0 f, inr (inr (x, h)))) (λ h. absurd h)

    from : Marked m × Numbered p g b got → LegalTransfer p g (transfer_of m b got)
    from (k, inl (e, f)) = rw (e, f, kept.transfer_none m k) tt
    from (k, inr (inl (e, h))) = rw (e, kept.transfer_one m k got) h
    from (k, inr (inr (e, h))) = rw (e, kept.transfer_two m k got) h

bit_clear : (x : List ℕ) (q : ℕ) → (stored x q ≡ false) ↔ (get_or x (q / 8) 0 / 2 ^ (q % 8) % 2 ≡ 0)
unfolding stored bit
bit_clear x q =
    let n : ℕ = get_or x (q / 8) 0 / 2 ^ (q % 8) in
    (λ e. let d : n % 2 ≡ 1 → ⊥ = eqb-false (n % 2) 1 e in omega (arith, d), λ e. rw e refl)

-- a buffer's origin, of a library whose length is a whole number of pages
origin_means : (t x : List ℕ) (b : Buffer) → length t ≡ 512 * (length t / 512) → Rooted (length t / 512) x b ↔ ((p : ℕ) → b.origin ≡ from_page p → LegalOrigin t x b p)
origin_means t x b m = (
  λ h p e. let k = h p e in record { below = λ c l. omega (arith, k.below); there = (memory.bit_stored x p).0 k.there; filled = k.filled },
  λ h p e. let k = h p e in record { below = k.below (length t / 512) m; there = (memory.bit_stored x p).1 k.there; filled = k.filled },
)

-- what refusal 3 tests is this, of templates of n pages
pub settled_means : (r : Reader) (n : ℕ) → length r.guarded.templates ≡ 512 * n → T (sound r) ↔ Settled r
unfolding core sound fit_plain within highest_size capacity buffer_of
settled_means r n m = (to, from)
  where
    x : List ℕ
    x = r.guarded.index

    whole : length r.guarded.templates ≡ 512 * capacity r.guarded
    whole = omega (arith, m)

    roots : (b : Buffer) → Rooted (capacity r.guarded) x b ↔ ((p : ℕ) → b.origin ≡ from_page p → LegalOrigin r.guarded.templates x b p)
    roots b = origin_means r.guarded.templates x b whole

    to : T (sound r) → Settled r
    to t =
        let z : r.plain.size ≤ 3 = leb→le r.plain.size 3 (search (and_l, and_r) depth 9) in
        let o : (w : Bool) → Rooted (capacity r.guarded) x (buffer_of w r.guarded) = rooted r.guarded (search (and_r)) in
        record {
          level = (leb→le 1 r.plain.level (search (and_l, and_r) depth 9), leb→le r.plain.level 5 (search (and_l, and_r) depth 9));
          size = z;
          baud = (leb→le 1 r.plain.baud (search (and_l, and_r) depth 9), leb→le r.plain.baud 12 (search (and_l, and_r) depth 9));
          sensor = ltb→lt r.plain.sensor 65536 (search (and_l, and_r) depth 9);
          transfer = (transfer_means r.plain r.guarded z r.plain.transfer).0 (search (and_l, and_r));
          clear = λ c q e l. (bit_clear x q).0 (clear_above x (capacity r.guarded) (search (and_l, and_r)) q (omega arith));
          origin1 = (roots r.guarded.buffer1).0 (o false);
          origin2 = (roots r.guarded.buffer2).0 (o true);
        }

    from : Settled r → T (sound r)
    from s =
        let l1 = le→leb 1 r.plain.level s.level.0 in
        let l2 = le→leb r.plain.level 5 s.level.1 in
        let z = le→leb r.plain.size 3 s.size in
        let d1 = le→leb 1 r.plain.baud s.baud.0 in
        let d2 = le→leb r.plain.baud 12 s.baud.1 in
        let k = lt→ltb r.plain.sensor 65536 s.sensor in
        let t = (transfer_means r.plain r.guarded s.size r.plain.transfer).1 s.transfer in
        let c = clear_to_lem x (capacity r.guarded) (λ q l h. (bit_clear x q).1 (s.clear (capacity r.guarded) q (omega (arith, m)) l)) in
        let o = fit_origins_lem r.guarded each in
        search (and_i) depth 9
      where
        each : (w : Bool) → Rooted (capacity r.guarded) x (buffer_of w r.guarded)
        each false = (roots r.guarded.buffer1).1 s.origin1
        each true = (roots r.guarded.buffer2).1 s.origin2

pub settings_mean : (r : Reader) → Lengths r.guarded → T (sound r) ↔ Settled r
settings_mean r m = settled_means r m.pages m.templates

-- ---- "Legal reader: one that gets none of refusals 1 to 3", both ways

pub record Means (r : Reader) : Type 0 where
  pub lengths : Lengths r.guarded
  pub settings : Settled r

module _ (r : Reader) where
  pub legal_means : T (legal core r) → Means r
  unfolding legal
  legal_means t = let m : Lengths r.guarded = (lengths_mean r.guarded).0 (search (and_l)) in record { lengths = m; settings = (settings_mean r m).0 (search (and_r)) }

  pub means_legal : Means r → T (legal core r)
  unfolding legal
  means_legal m = and_i (fit_lengths core r.guarded) (sound r) ((lengths_mean r.guarded).1 m.lengths) ((settings_mean r m.lengths).1 m.settings)

-- ---- what the types of the code say by themselves, both ways: "the password and the address are kept as four bytes each", and a lent index is of bytes

pub typed_means : (r : Reader) → Typed r ↔ ((length r.plain.password ≡ 4) × ((length r.plain.address ≡ 4) × ((i : ℕ) → get_or r.guarded.index i 0 < 256)))
unfolding Bytes
typed_means r = (λ t. (t.password, (t.address, t.index)), λ h. record { password = h.0; address = h.1.0; index = h.1.1 })
