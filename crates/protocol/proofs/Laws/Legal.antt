-- Legal readers: the facts that a legal reader has, and a legal reader with one part anew.
use mathlib.Core.Bool.{Bool, true, false, not, cond}
use mathlib.Core.Path.{◌≡◌}
use mathlib.Core.List.{List}
use Prim.Native.Nat.{ℕ, ◌+◌, ◌*◌, ◌%◌, ◌≤◌, ◌<◌}
use lib.Dec.{T, eqb, ltb, eqb→eq, leb→le, le→leb, ltb→lt}
use borrow.Author.Tests.{lt-ltb}
use lib.ListN.{length}
use Rattle.protocol.specs.Numbers.{page_bytes, four_bytes}
use Rattle.protocol.specs.Tests.{within}
use Rattle.protocol.specs.Index.{clear_from}
use Rattle.protocol.specs.Reader.{Transfer, closed, opened, Plain, Buffer, Guarded, Reader, capacity, size_of, locked, buffer_of, with_transfer, with_buffer, reader}
use Rattle.protocol.specs.Step.{fits}
use Rattle.protocol.specs.Call.{Shape, fit_library, fit_buffers, fit_lengths, fit_plain, fit_transfer, sound, legal, Typed}
use Rattle.protocol.proofs.Laws.Logic.{T→false, and_l, and_r, and_i, eq→eqb}
use Rattle.protocol.proofs.Laws.Index.{Fine}
use Rattle.protocol.proofs.Laws.Effects.{each_buffer}
use Rattle.protocol.proofs.Laws.Origins.{Rooted, rooted, fit_origins_lem}

-- ---- buffers

pub buffer_long : (w : Bool) (g : Guarded) → T (fit_buffers g) → length (buffer_of w g).bytes ≡ page_bytes
unfolding fit_buffers buffer_of
buffer_long false g t = eqb→eq (length g.buffer1.bytes) page_bytes (search (and_l))
buffer_long true g t = eqb→eq (length g.buffer2.bytes) page_bytes (search (and_r))

pub fit_buffer : (w : Bool) (b : Buffer) (g : Guarded) → length b.bytes ≡ page_bytes → T (fit_buffers g) → T (fit_buffers (with_buffer w b g))
unfolding fit_buffers with_buffer
fit_buffer false b g e t = let u = eq→eqb (length b.bytes) page_bytes e in and_i (eqb (length b.bytes) page_bytes) (eqb (length g.buffer2.bytes) page_bytes) u (search (and_r))
fit_buffer true b g e t = let u = eq→eqb (length b.bytes) page_bytes e in and_i (eqb (length g.buffer1.bytes) page_bytes) (eqb (length b.bytes) page_bytes) (search (and_l)) u

-- ---- transfers

pub fit_closed : (p : Plain) (g : Guarded) (t : Transfer) → t ≡ closed → T (fit_transfer p g t)
unfolding fit_transfer
fit_closed p g t e = rw e tt

pub fit_opened : (p : Plain) (g : Guarded) (w : Bool) (got : ℕ) → got % size_of p.size ≡ 0 → got < page_bytes → (buffer_of w g).filled ≡ false → locked p ≡ false
    → T (fit_transfer p g (opened w got))
unfolding fit_transfer
fit_opened p g w got a b c d = rw (a, lt-ltb got page_bytes b, c, d) tt

-- what an open transfer of a legal reader says
pub record Moving (p : Plain) (g : Guarded) (w : Bool) (got : ℕ) : Type 0 where
  pub whole : got % size_of p.size ≡ 0
  pub below : got < page_bytes
  pub unfilled : (buffer_of w g).filled ≡ false
  pub free : locked p ≡ false

pub moving : (p : Plain) (g : Guarded) (w : Bool) (got : ℕ) → T (fit_transfer p g (opened w got)) → Moving p g w got
unfolding fit_transfer
moving p g w got t =
    record {
      whole = eqb→eq (got % size_of p.size) 0 (search (and_l, and_r));
      below = ltb→lt got page_bytes (search (and_l, and_r));
      unfilled = T→false (buffer_of w g).filled (search (and_l, and_r));
      free = T→false (locked p) (search (and_l, and_r));
    }

pub legal_transfer : (σ : Shape) (r : Reader) → T (legal σ r) → T (fit_transfer r.plain r.guarded r.plain.transfer)
unfolding legal sound
legal_transfer σ r t = search (and_l, and_r)

pub legal_origins : (σ : Shape) (r : Reader) → T (legal σ r) → (w : Bool) → Rooted (capacity r.guarded) r.guarded.index (buffer_of w r.guarded)
unfolding legal sound
legal_origins σ r t = rooted r.guarded (search (and_l, and_r))

-- what a data packet that goes in says
pub record Fitting (p : Plain) (got : ℕ) (last : Bool) (content : List ℕ) : Type 0 where
  pub one : length content ≡ size_of p.size
  pub total : T (cond last (eqb (got + size_of p.size) page_bytes) (ltb (got + size_of p.size) page_bytes))

pub fitting : (p : Plain) (got : ℕ) (last right : Bool) (content : List ℕ) → T (fits p got last right content) → Fitting p got last content
unfolding fits
fitting p got last right content t =
    record { one = eqb→eq (length content) (size_of p.size) (search (and_l, and_r)); total = search (and_r) }

module _ (σ : Shape) (ok : σ.most ≤ 8 * σ.indexed) where
  -- ---- legal, taken apart and put together

  pub record Shelf (g : Guarded) : Type 0 where
    pub long : length g.templates ≡ page_bytes * capacity g
    pub low : σ.least ≤ capacity g
    pub high : capacity g ≤ σ.most
    pub wide : length g.index ≡ σ.indexed
    pub notes : length g.notepad ≡ σ.noted

  pub shelf : (g : Guarded) → T (fit_library σ g) → Shelf g
  unfolding fit_library within
  shelf g t =
      record {
        long = eqb→eq (length g.templates) (page_bytes * capacity g) (search (and_l, and_r) depth 8);
        low = leb→le σ.least (capacity g) (search (and_l, and_r) depth 8);
        high = leb→le (capacity g) σ.most (search (and_l, and_r) depth 8);
        wide = eqb→eq (length g.index) σ.indexed (search (and_l, and_r) depth 8);
        notes = eqb→eq (length g.notepad) σ.noted (search (and_l, and_r) depth 8);
      }

  pub unshelf : (g : Guarded) → Shelf g → T (fit_library σ g)
  unfolding fit_library within
  unshelf g s =
      let t₁ = eq→eqb (length g.templates) (page_bytes * capacity g) s.long in
      let t₂ = le→leb σ.least (capacity g) s.low in
      let t₃ = le→leb (capacity g) σ.most s.high in
      let t₄ = eq→eqb (length g.index) σ.indexed s.wide in
      let t₅ = eq→eqb (length g.notepad) σ.noted s.notes in
      search (and_i) depth 8

  -- a legal reader, with what its types say
  pub record Good (r : Reader) : Type 0 where
    pub settings : T (fit_plain r.plain)
    pub shelf : Shelf r.guarded
    pub buffers : T (fit_buffers r.guarded)
    pub transfer : T (fit_transfer r.plain r.guarded r.plain.transfer)
    pub clear : T (clear_from r.guarded.index (capacity r.guarded))
    pub origins : (w : Bool) → Rooted (capacity r.guarded) r.guarded.index (buffer_of w r.guarded)
    pub typed : Typed r

  pub good_of : (r : Reader) → Typed r → T (legal σ r) → Good r
  unfolding legal fit_lengths sound
  good_of r y t =
      record {
        settings = search (and_l, and_r);
        shelf = shelf r.guarded (search (and_l, and_r));
        buffers = search (and_l, and_r);
        transfer = search (and_l, and_r);
        clear = search (and_l, and_r);
        origins = legal_origins σ r t;
        typed = y;
      }

  pub legal_of_lem : (r : Reader) → Good r → T (legal σ r)
  unfolding legal fit_lengths sound
  legal_of_lem r k =
      let a = k.settings in
      let b = unshelf r.guarded k.shelf in
      let c = k.buffers in
      let d = k.transfer in
      let e = k.clear in
      let f = fit_origins_lem r.guarded k.origins in
      search (and_i)

  pub fine_of : (r : Reader) → Good r → Fine σ.indexed r.guarded.index
  fine_of r k = record { long = k.shelf.wide; bytes = k.typed.index }

  -- ---- a good reader with one part anew

  -- other settings with no transfer
  pub good_plain : (r : Reader) (p : Plain) → Good r → T (fit_plain p) → p.transfer ≡ closed → length p.password ≡ four_bytes → length p.address ≡ four_bytes
      → Good (reader p r.guarded)
  good_plain r p k f z w a =
      record {
        settings = f;
        shelf = k.shelf;
        buffers = k.buffers;
        transfer = fit_closed p r.guarded p.transfer z;
        clear = k.clear;
        origins = k.origins;
        typed = record { password = w; address = a; index = k.typed.index };
      }

  -- a buffer anew, and a transfer
  pub good_buffer : (r : Reader) (t : Transfer) (w : Bool) (b : Buffer) → Good r → length b.bytes ≡ page_bytes
      → Rooted (capacity r.guarded) r.guarded.index b → T (fit_transfer (with_transfer t r.plain) (with_buffer w b r.guarded) t) → Good (reader (with_transfer t r.plain) (with_buffer w b r.guarded))
  unfolding with_transfer with_buffer fit_plain capacity
  good_buffer r t w b k e o f =
      record {
        settings = k.settings;
        shelf = record { long = k.shelf.long; low = k.shelf.low; high = k.shelf.high; wide = k.shelf.wide; notes = k.shelf.notes };
        buffers = fit_buffer w b r.guarded e k.buffers;
        transfer = f;
        clear = k.clear;
        origins = each_buffer (Rooted (capacity r.guarded) r.guarded.index) w b r.guarded o (k.origins (not w));
        typed = record { password = k.typed.password; address = k.typed.address; index = k.typed.index };
      }
