-- A download: data packets of a template, sent one to a call, give the buffer those bytes, whatever the size. Proved once over the size.
use mathlib.Core.Bool.{Bool, true, false, cond}
use mathlib.Core.Path.{◌≡◌, refl, sym, ap, ap₂, ◌∙◌, subst}
use mathlib.Core.List.{List, [], ◌∷◌, ◌++◌, append_assoc}
use Prim.Native.Nat.{ℕ, zero, suc, ◌+◌, ◌*◌, ◌/◌, ◌≤◌, ◌<◌}
use native.Mathlib.Omega.{arith}
use lib.Dec.{T, eqb, eqb-suc-zero}
use borrow.Author.Tests.{lt-ltb}
use lib.ListN.{length, take, drop, length-drop, take-append-drop}
use lib.Seq.{take_all, length-take-le}
use Rattle.protocol.specs.Numbers.{page_bytes, four_bytes, data_packet, last_packet}
use Rattle.protocol.specs.Bytes.{lay}
use Rattle.protocol.specs.Packet.{packet, accepts}
use Rattle.protocol.specs.Reader.{Transfer, closed, opened, Plain, Origin, no_origin, Buffer, Guarded, Reader, size_of, buffer_of, locked, with_transfer, with_buffer, reader, capacity}
use Rattle.protocol.specs.Search.{Chip}
use Rattle.protocol.specs.Commands.{barred, down_char, command}
use Rattle.protocol.specs.Data.{acknowledge, packets}
use Rattle.protocol.specs.Step.{order, hear_as, hear, silence, rested, fits, laid_in, take_as, take_in, answer, step_of}
use Rattle.protocol.specs.Call.{Shape, Lent, fit_lent, fit_transfer, reply_of, carried, call_of, Ended}
use Rattle.protocol.specs.Dialogue.{Event, received, on, finally}
use Rattle.dialogues.specs.History.{Exchange, exchanges}
use Rattle.protocol.proofs.Laws.Logic.{eqb_same}
use Rattle.protocol.proofs.Laws.Lists.{length_lay, head_lay, last_lay}
use Rattle.protocol.proofs.Laws.Effects.{buffer_same, buffer_own}
use Rattle.protocol.proofs.Laws.Origins.{unfilled_none}
use Rattle.protocol.proofs.Laws.Answers.{call_legal}
use Rattle.dialogues.proofs.Laws.History.{call_capacity}
use Rattle.protocol.proofs.Laws.Legal.{buffer_long, Good, Moving, moving}
use Rattle.protocol.proofs.Laws.Sizes.{Size}
use Rattle.protocol.proofs.Promises.Words.Told.{Leaves, Numbered, number, blank, WithBuffer, with_buffer_lem, number_is}
use Rattle.protocol.proofs.Promises.Commands.Moves.{down_awaits}
use Rattle.protocol.proofs.Promises.Packets.ReadBack.{heard_packet}
use Rattle.protocol.proofs.Promises.Refusals.ReplyFits.{size_of_lem}
use Rattle.protocol.proofs.Promises.Refusals.StaysLegal.{Legal, good, stays_legal}

buffer_twice : (w : Bool) (a b : Buffer) (g : Guarded) → with_buffer w b (with_buffer w a g) ≡ with_buffer w b g
unfolding with_buffer
buffer_twice true a b g = refl
buffer_twice false a b g = refl

-- a buffer without an origin, not filled and filled
abbrev unfilled : List ℕ → Buffer
unfilled b = record { bytes = b; filled = false; origin = no_origin }

abbrev filled : List ℕ → Buffer
filled b = record { bytes = b; filled = true; origin = no_origin }

-- packets sent one to a call, each with a reply room of its own
unfoldable pub deliver : (ℕ → Lent) → List (List ℕ) → List Event
deliver lent [] = []
deliver lent (p ∷ ps) = received p (lent (length ps)) ∷ deliver lent ps

-- every reply is silence
abbrev pub Silent : List Exchange → Type 0
Silent [] = Unit {0}
Silent (x ∷ xs) = (x.reply ≡ []) × Silent xs

module _ (p : Plain) (g : Guarded) (w : Bool) (h : length p.address ≡ four_bytes) where
  -- a transfer with the bytes got so far, and one that is through
  abbrev under : ℕ → List ℕ → Reader
  under got b = reader (with_transfer (opened w got) p) (with_buffer w (unfilled b) g)

  abbrev through : List ℕ → Reader
  through b = reader (with_transfer closed p) (with_buffer w (filled b) g)

  -- ---- one data packet

  module _ (χ : Chip) (c : List ℕ) (one : length c ≡ size_of p.size) (got : ℕ) (b : List ℕ) where
    abbrev now : Buffer
    now = buffer_of w (with_buffer w (unfilled b) g)

    -- the buffer under way, with the bytes laid in and a mark that goes by it
    again : (f : Bool → Bool) → with_buffer w (laid_in got c (f now.filled) now) (with_buffer w (unfilled b) g) ≡ with_buffer w (laid_in got c (f false) (unfilled b)) g
    again f =
        buffer_twice w (unfilled b) (laid_in got c (f now.filled) now) g
        ∙ ap (λ (x : Buffer). with_buffer w (laid_in got c (f x.filled) x) g) (buffer_same w (unfilled b) g)

    more : T (accepts data_packet (size_of p.size + 2)) → got + size_of p.size < page_bytes
        → (step_of χ (under got b) (packet p.address data_packet c)).after ≡ under (got + size_of p.size) (lay got c b)
    unfolding step_of answer hear_as take_in take_as silence fits with_transfer
    more t l =
        rw (heard_packet p.address data_packet c h (rw one t), one, eqb_same (size_of p.size), lt-ltb (got + size_of p.size) page_bytes l)
        (ap (reader (with_transfer (opened w (got + size_of p.size)) p)) (again (λ m. m)))

    more_silent : T (accepts data_packet (size_of p.size + 2)) → got + size_of p.size < page_bytes → (step_of χ (under got b) (packet p.address data_packet c)).reply ≡ []
    unfolding step_of answer hear_as take_in take_as silence fits with_transfer
    more_silent t l =
        rw (heard_packet p.address data_packet c h (rw one t), one, eqb_same (size_of p.size), lt-ltb (got + size_of p.size) page_bytes l) refl

    last : T (accepts last_packet (size_of p.size + 2)) → got + size_of p.size ≡ page_bytes
        → (step_of χ (under got b) (packet p.address last_packet c)).after ≡ through (lay got c b)
    unfolding step_of answer hear_as take_in take_as silence fits with_transfer
    last t l =
        rw (heard_packet p.address last_packet c h (rw one t), one, eqb_same (size_of p.size), l) (ap (reader (with_transfer closed p)) (again (λ m. true)))

    last_silent : T (accepts last_packet (size_of p.size + 2)) → got + size_of p.size ≡ page_bytes → (step_of χ (under got b) (packet p.address last_packet c)).reply ≡ []
    unfolding step_of answer hear_as take_in take_as silence fits with_transfer
    last_silent t l = rw (heard_packet p.address last_packet c h (rw one t), one, eqb_same (size_of p.size), l) refl

  -- ---- k + 1 packets to come

  module _ (σ : Shape) (ok : σ.most ≤ 8 * σ.indexed) (z : Size (size_of p.size)) (lent : ℕ → Lent) (f : (n : ℕ) → T (fit_lent (capacity g) (lent n))) where
    abbrev n : ℕ
    n = size_of p.size

    -- the buffer has no part in C
    fits_under : (got : ℕ) (b : List ℕ) (k : ℕ) → T (fit_lent (capacity (under got b).guarded) (lent k))
    unfolding capacity with_buffer
    fits_under got b k = f k

    call : (got : ℕ) (b : List ℕ) → Legal σ ok (under got b) → (s : List ℕ) (k : ℕ) → (call_of σ (under got b) s (lent k)).after ≡ (step_of (lent k).chip (under got b) s).after
    unfolding carried
    call got b l s k = ap (λ (e : Ended). e.after) (call_legal σ (under got b) s (lent k) l.legal (fits_under got b k))

    legally : (r t : Reader) → Legal σ ok r → (s : List ℕ) (k : ℕ) → (call_of σ r s (lent k)).after ≡ t → Legal σ ok t
    unfolding on
    legally r t l s k e = subst (Legal σ ok) e (stays_legal σ ok r l (received s (lent k)))

    feeding : (k got : ℕ) (s b : List ℕ) → got + suc k * n ≡ page_bytes → length s ≡ suc k * n → length b ≡ page_bytes → Legal σ ok (under got b)
        → finally σ (under got b) (deliver lent (packets p.address (suc k) n s)) ≡ through (take got b ++ s)
    unfolding finally on deliver packets
    feeding zero got s b e m x l =
        let all : take n s ≡ s = take_all n s (omega arith) in
        call got b l (packet p.address last_packet (take n s)) 0
        ∙ ap (λ (c : List ℕ). (step_of (lent 0).chip (under got b) (packet p.address last_packet c)).after) all
        ∙ last (lent 0).chip s (omega arith) got b z.ends (omega arith)
        ∙ ap through (last_lay got s b (omega arith))
    feeding (suc k) got s b e m x l =
        let c : List ℕ = take n s in
        let ps : List (List ℕ) = packets p.address (suc k) n (drop n s) in
        let one : length c ≡ n = length-take-le n s (omega arith) in
        let fit : got + length c ≤ length b = omega arith in
        let two : cond {A = ℕ} (eqb (suc k) 0) last_packet data_packet ≡ data_packet = ap (λ (t : Bool). cond t last_packet data_packet) (eqb-suc-zero k) in
        let next : (call_of σ (under got b) (packet p.address data_packet c) (lent (length ps))).after ≡ under (got + n) (lay got c b) =
        call got b l (packet p.address data_packet c) (length ps) ∙ more (lent (length ps)).chip c one got b z.carries (omega arith)
        in
        let ahead : take (got + n) (lay got c b) ≡ take got b ++ c = ap (λ (m : ℕ). take (got + m) (lay got c b)) (sym one) ∙ head_lay got c b fit in
        ap (λ (i : ℕ). finally σ (call_of σ (under got b) (packet p.address i c) (lent (length ps))).after (deliver lent ps)) two
        ∙ ap (λ (r : Reader). finally σ r (deliver lent ps)) next
        ∙ feeding k (got + n) (drop n s) (lay got c b) (omega arith) (length-drop n s ∙ omega arith) (length_lay got c b fit ∙ x)
        (legally (under got b) (under (got + n) (lay got c b)) l (packet p.address data_packet c) (length ps) next)
        ∙ ap through (ap (λ (t : List ℕ). t ++ drop n s) ahead ∙ append_assoc (take got b) c (drop n s) ∙ ap (λ (t : List ℕ). take got b ++ t) (take-append-drop n s))

    quiet : (got : ℕ) (b : List ℕ) → Legal σ ok (under got b) → (s : List ℕ) (k : ℕ) → (step_of (lent k).chip (under got b) s).reply ≡ [] → reply_of (call_of σ (under got b) s (lent k)).told ≡ []
    unfolding carried reply_of
    quiet got b l s k e = rw (call_legal σ (under got b) s (lent k) l.legal (fits_under got b k), e) refl

    feeding_silent : (k got : ℕ) (s b : List ℕ) → got + suc k * n ≡ page_bytes → length s ≡ suc k * n → length b ≡ page_bytes → Legal σ ok (under got b)
        → Silent (exchanges σ (under got b) (deliver lent (packets p.address (suc k) n s)))
    unfolding exchanges deliver packets
    feeding_silent zero got s b e m x l =
        let c : List ℕ = take n s in
        let one : length c ≡ n = length-take-le n s (omega arith) in
        (quiet got b l (packet p.address last_packet c) 0 (last_silent (lent 0).chip c one got b z.ends (omega arith)), tt)
    feeding_silent (suc k) got s b e m x l =
        let c : List ℕ = take n s in
        let ps : List (List ℕ) = packets p.address (suc k) n (drop n s) in
        let one : length c ≡ n = length-take-le n s (omega arith) in
        let fit : got + length c ≤ length b = omega arith in
        let two : cond {A = ℕ} (eqb (suc k) 0) last_packet data_packet ≡ data_packet = ap (λ (t : Bool). cond t last_packet data_packet) (eqb-suc-zero k) in
        let i : List ℕ = packet p.address data_packet c in
        let next : (call_of σ (under got b) i (lent (length ps))).after ≡ under (got + n) (lay got c b) = call got b l i (length ps) ∙ more (lent (length ps)).chip c one got b z.carries (omega arith) in
        let on : Legal σ ok (under (got + n) (lay got c b)) = legally (under got b) (under (got + n) (lay got c b)) l i (length ps) next in
        let rest : Silent (exchanges σ (under (got + n) (lay got c b)) (deliver lent ps)) =
        feeding_silent k (got + n) (drop n s) (lay got c b) (omega arith) (length-drop n s ∙ omega arith) (length_lay got c b fit ∙ x) on
        in
        rw two (quiet got b l i (length ps) (more_silent (lent (length ps)).chip c one got b z.carries (omega arith)), subst (λ (r : Reader). Silent (exchanges σ r (deliver lent ps))) (sym next) rest)

-- ---- from an open transfer, and from DownChar

transfer_own : (p : Plain) (t : Transfer) → p.transfer ≡ t → with_transfer t p ≡ p
unfolding with_transfer
transfer_own p t e = rw (← e) refl

unfilled_own : (w : Bool) (g : Guarded) → (buffer_of w g).filled ≡ false → (buffer_of w g).origin ≡ no_origin → with_buffer w (unfilled (buffer_of w g).bytes) g ≡ g
unfilled_own w g e o = ap₂ (λ (m : Bool) (x : Origin). with_buffer w record { bytes = (buffer_of w g).bytes; filled = m; origin = x } g) (sym e) (sym o) ∙ buffer_own w g

-- of c pages
module _ (σ : Shape) (ok : σ.most ≤ 8 * σ.indexed) (c : ℕ) (lent : ℕ → Lent) (f : (n : ℕ) → T (fit_lent c (lent n))) where
  -- the data packets of s in the size in force, to the reader r
  abbrev pub template : Reader → List ℕ → List Event
  template r s = deliver lent (packets r.plain.address (page_bytes / size_of r.plain.size) (size_of r.plain.size) s)

  -- the buffer has the template and its mark and no origin, the transfer is closed, all else is as it was; and no packet was answered
  pub record Downloads (r : Reader) (b : ℕ) (s : List ℕ) : Type 0 where
    pub ends : WithBuffer b record { bytes = s; filled = true; origin = no_origin } closed r (finally σ r (template r s))
    pub silent : Silent (exchanges σ r (template r s))

  pub downloaded : (r : Reader) → capacity r.guarded ≡ c → Legal σ ok r → (w : Bool) → r.plain.transfer ≡ opened w 0 → (s : List ℕ) → length s ≡ 512 → Downloads r (number w) s
  downloaded r many l w e s m =
      let p : Plain = r.plain in
      let g : Guarded = r.guarded in
      let k : Good σ ok r = good σ ok r l in
      let z : Size (size_of p.size) = size_of_lem σ ok r k in
      let b : List ℕ = (buffer_of w g).bytes in
      let moves : Moving p g w 0 = moving p g w 0 (subst (λ (t : Transfer). T (fit_transfer p g t)) e k.transfer) in
      let now : Reader = reader (with_transfer (opened w 0) p) (with_buffer w (unfilled b) g) in
      let own : now ≡ r = ap₂ reader (transfer_own p (opened w 0) e) (unfilled_own w g moves.unfilled (unfilled_none _ _ _ (k.origins w) moves.unfilled)) in
      let legal : Legal σ ok now = subst (Legal σ ok) (sym own) l in
      let fits : (n : ℕ) → T (fit_lent (capacity g) (lent n)) = λ n. rw many (f n) in
      let sent : ℕ → List Event = λ n. deliver lent (packets p.address n (size_of p.size) s) in
      let last : finally σ r (template r s) ≡ reader (with_transfer closed p) (with_buffer w (filled s) g) =
      ap (λ (x : Reader). finally σ x (template r s)) (sym own)
      ∙ ap (λ (n : ℕ). finally σ now (sent n)) z.count
      ∙ feeding p g w k.typed.address σ ok z lent fits z.more 0 s b (omega (arith, z.whole)) (m ∙ sym z.whole) (buffer_long w g k.buffers) legal
      in
      record {
        ends = subst (WithBuffer (number w) (filled s) closed r) (sym last) (with_buffer_lem w (filled s) closed r);
        silent =
            subst (λ (x : Reader). Silent (exchanges σ x (template r s))) own
            (rw z.count
            (feeding_silent p g w k.typed.address σ ok z lent fits z.more 0 s b (omega (arith, z.whole)) (m ∙ sym z.whole) (buffer_long w g k.buffers) legal));
      }

  -- so DownChar, answered 00h, and then the data packets
  pub record Download (r : Reader) (b : ℕ) (d : List ℕ) (given : Lent) (s : List ℕ) : Type 0 where
    pub opens : Leaves (acknowledge (rested r).plain.address 0x00 []) (WithBuffer b blank (opened (eqb b 2) 0) (rested r)) d given (call_of σ r d given)
    pub fills : Downloads (call_of σ r d given).after b s

  pub download : (r : Reader) → capacity r.guarded ≡ c → Legal σ ok r → locked r.plain ≡ false → (b : ℕ) → Numbered b → (d : List ℕ) (given : Lent) → T (fit_lent (capacity r.guarded) given)
      → hear r.plain.address d ≡ order (command (barred (down_char b))) → (s : List ℕ) → length s ≡ 512 → Download r b d given s
  unfolding on
  download r many l u b i d given v h s m =
      let o = down_awaits σ ok r l u d given v b h i in
      let t : Reader = (call_of σ r d given).after in
      record {
        opens = o;
        fills = subst (λ (n : ℕ). Downloads t n s) (number_is b i) (downloaded t (call_capacity σ ok r d given ∙ many) (stays_legal σ ok r l (received d given)) (eqb b 2) (ap (λ (x : Plain). x.transfer) o.after.settings) s m);
      }
