-- A legal reader is legal after every call and line switch.
use mathlib.Core.Bool.{Bool, true, false, cond}
use mathlib.Core.Path.{◌≡◌, refl, ap, ◌∙◌, subst}
use mathlib.Core.Logic.{◌↔◌}
use mathlib.Core.List.{List, [], ◌∷◌}
use Prim.Native.Nat.{ℕ, zero, suc, ◌+◌, ◌*◌, ◌/◌, ◌≤◌, ◌<◌}
use native.Mathlib.Nat.{add-mod_right}
use native.Mathlib.Omega.{arith}
use lib.Dec.{T, eqb, leb, eqb→eq, leb→le, ltb→lt}
use lib.ListN.{length}
use Rattle.protocol.specs.Numbers.{page_bytes, note_bytes, highest_size, lowest_baud, highest_baud, lowest_level, highest_level, baud_parameter, level_parameter}
use Rattle.protocol.specs.Bytes.{lay}
use Rattle.protocol.specs.Tests.{within}
use Rattle.protocol.specs.Index.{stored}
use Rattle.protocol.specs.Reader.{Transfer, closed, opened, unfit, Plain, no_origin, Buffer, Reader, capacity, size_of, keyed, locked, buffer_of, emptied, with_mark, with_transfer, with_password, with_address, with_tuning, with_buffer}
use Rattle.protocol.specs.Search.{Chip}
use Rattle.protocol.specs.Commands.{Free, read_sys_para, verify_password, hand_shake, Barred, search_for, store, load_char, up_char, down_char, delet_char, empty, set_sys_para, set_password, set_address, write_notepad, read_notepad, templete_num, read_index_table}
use Rattle.protocol.specs.Table.{second, in_range, with_parameter, rule, apply, free_rule, public_of}
use Rattle.protocol.specs.Step.{Heard, hear, Said, silence, says, carry_as, carry_free, ended, rested, laid_in, take_as, answer, step_of, wiped, switched}
use Rattle.protocol.specs.Call.{Shape, Lent, fit_buffers, fit_plain, fit_transfer, legal, Typed, Ended, refused, carried, call_of, switch_refusal, switch_as, switch_of}
use Rattle.protocol.specs.Dialogue.{Event, received, switch, on, finally}
use Rattle.protocol.proofs.Laws.Logic.{T→true, T→false, and_l, and_r, and_i, passed}
use Rattle.protocol.proofs.Laws.Lists.{length_lay}
use Rattle.protocol.proofs.Laws.Commands.{Long, LongHeard, long_heard}
use Rattle.protocol.proofs.Laws.Effects.{buffer_same}
use Rattle.protocol.proofs.Laws.Origins.{Rooted, rooted_none, unfilled_none}
use Rattle.protocol.proofs.Laws.Answers.{answer_kinds, call_kinds}
use Rattle.protocol.proofs.Laws.Legal.{buffer_long, fit_closed, fit_opened, Moving, moving, Fitting, fitting, Good, good_of, legal_of_lem, good_plain, good_buffer}
use Rattle.protocol.proofs.Laws.Proper.{Proper, effect_good}

-- ---- SetSysPara

parameter_fits : (k v : ℕ) (p : Plain) → T (in_range k v) → T (fit_plain p) → T (fit_plain (with_parameter k v p))
unfolding in_range with_parameter with_tuning fit_plain within
parameter_fits k v p t f = go (eqb k baud_parameter) (eqb k level_parameter) t
  where
    go : (a b : Bool) → T (cond a (within lowest_baud v highest_baud) (cond b (within lowest_level v highest_level) (leb v highest_size)))
        → T (fit_plain (cond a (with_tuning v p.level p.size p) (cond b (with_tuning p.baud v p.size p) (with_tuning p.baud p.level v p))))
    go true b t = search (and_i, and_l, and_r) depth 9
    go false true t = search (and_i, and_l, and_r) depth 9
    go false false t = search (and_i, and_l, and_r) depth 9

-- it leaves the rest of the settings
record Tuned (p q : Plain) : Type 0 where
  transfer : q.transfer ≡ p.transfer
  password : q.password ≡ p.password
  address : q.address ≡ p.address

parameter_tunes : (k v : ℕ) (p : Plain) → Tuned p (with_parameter k v p)
unfolding with_parameter with_tuning
parameter_tunes k v p = go (eqb k baud_parameter) (eqb k level_parameter)
  where
    go : (a b : Bool) → Tuned p (cond a (with_tuning v p.level p.size p) (cond b (with_tuning p.baud v p.size p) (with_tuning p.baud p.level v p)))
    go true b = record { transfer = refl; password = refl; address = refl }
    go false true = record { transfer = refl; password = refl; address = refl }
    go false false = record { transfer = refl; password = refl; address = refl }

module _ (σ : Shape) (ok : σ.most ≤ 8 * σ.indexed) where
  -- ---- the rows

  -- where a row's tests pass, its effect is proper
  module _ (χ : Chip) (r : Reader) (z : r.plain.transfer ≡ closed) (k : Good σ ok r) (u : locked r.plain ≡ false) where
    pub row_proper : (c : Barred) → Long c → T (passed (rule χ r c).tests) → Proper σ ok r (rule χ r c).effect
    unfolding rule with_password with_address fit_plain
    row_proper (search_for b p n) l t = tt
    row_proper (store b p) l t = (
      ltb→lt p (capacity r.guarded) (search (and_l, and_r)),
      (T→true (buffer_of (second b) r.guarded).filled (search (and_l, and_r)), T→false (stored r.guarded.index p) (search (and_l, and_r))),
    )
    row_proper (load_char b p) l t = (ltb→lt p (capacity r.guarded) (search (and_l, and_r)), T→true (stored r.guarded.index p) (search (and_l, and_r)))
    row_proper (up_char b) l t = tt
    row_proper (down_char b) l t = u
    row_proper (delet_char p n) l t = leb→le (p + n) (capacity r.guarded) (search (and_l, and_r))
    row_proper empty l t = tt
    row_proper (set_sys_para n v) l t =
        let e : Tuned r.plain (with_parameter n v r.plain) = parameter_tunes n v r.plain in
        (parameter_fits n v r.plain (search (and_l, and_r)) k.settings, (e.transfer ∙ z, (ap length e.password ∙ k.typed.password, ap length e.address ∙ k.typed.address)))
    row_proper (set_password w) l t = (k.settings, (z, (l, k.typed.address)))
    row_proper (set_address a) l t = (k.settings, (z, (k.typed.password, l)))
    row_proper (write_notepad p b) l t =
        let h : p < length r.guarded.notepad / note_bytes = ltb→lt p (length r.guarded.notepad / note_bytes) (search (and_l)) in
        omega arith
    row_proper (read_notepad p) l t = tt
    row_proper templete_num l t = tt
    row_proper (read_index_table p) l t = tt

  free_good : (r : Reader) → r.plain.transfer ≡ closed → Good σ ok r → (c : Free) → Good σ ok (carry_free r (free_rule (public_of r) c)).after
  unfolding carry_free free_rule public_of with_mark fit_plain
  free_good r z k read_sys_para = good_plain σ ok r (free_rule (public_of r) read_sys_para).plain k k.settings z k.typed.password k.typed.address
  free_good r z k (verify_password w) = good_plain σ ok r (free_rule (public_of r) (verify_password w)).plain k k.settings z k.typed.password k.typed.address
  free_good r z k hand_shake = k

  -- ---- transfers

  pub good_ended : (r : Reader) (t : Transfer) → r.plain.transfer ≡ t → Good σ ok r → Good σ ok (ended r t)
  unfolding ended emptied with_transfer
  good_ended r closed z k = k
  good_ended r (opened w got) z k =
      good_buffer σ ok r closed w emptied k refl (rooted_none (capacity r.guarded) r.guarded.index emptied refl)
      (fit_closed (with_transfer closed r.plain) (with_buffer w emptied r.guarded) closed refl)
  good_ended r (unfit b j m) z k = k

  pub good_rested : (r : Reader) → Good σ ok r → Good σ ok (rested r)
  unfolding rested
  good_rested r k = good_ended r r.plain.transfer refl k

  -- after an order no transfer is open
  pub rested_closed : (r : Reader) → Good σ ok r → (rested r).plain.transfer ≡ closed
  unfolding rested ended with_transfer fit_transfer
  rested_closed r k = go r.plain.transfer refl k.transfer
    where
      go : (t : Transfer) → r.plain.transfer ≡ t → T (fit_transfer r.plain r.guarded t) → (ended r t).plain.transfer ≡ closed
      go closed e f = e
      go (opened w got) e f = refl
      go (unfit b j m) e f = absurd f

  module _ (r : Reader) (k : Good σ ok r) (w : Bool) (got : ℕ) (content : List ℕ) (m : Moving r.plain r.guarded w got) where
    laid : got + length content ≤ page_bytes → length (lay got content (buffer_of w r.guarded).bytes) ≡ page_bytes
    laid l = let b = buffer_long w r.guarded k.buffers in length_lay got content (buffer_of w r.guarded).bytes (omega arith) ∙ b

    -- the transfer's buffer is not filled, so it has no origin
    origin : (buffer_of w r.guarded).origin ≡ no_origin
    origin = unfilled_none (capacity r.guarded) r.guarded.index (buffer_of w r.guarded) (k.origins w) m.unfilled

    taken_good : (last : Bool) → Fitting r.plain got last content → Good σ ok (take_as r w got content true last).after
    unfolding take_as silence with_transfer locked keyed
    taken_good false f =
        let z : ℕ = size_of r.plain.size in
        let below : got + z < page_bytes = ltb→lt (got + z) page_bytes f.total in
        let b : Buffer = laid_in got content (buffer_of w r.guarded).filled (buffer_of w r.guarded) in
        good_buffer σ ok r (opened w (got + z)) w b k (laid (omega (arith, f.one))) (rooted_none (capacity r.guarded) r.guarded.index b origin)
        (fit_opened (with_transfer (opened w (got + z)) r.plain) (with_buffer w b r.guarded) w (got + z) (add-mod_right got z ∙ m.whole) below
        (ap (λ (x : Buffer). x.filled) (buffer_same w b r.guarded) ∙ m.unfilled) m.free)
    taken_good true f =
        let z : ℕ = size_of r.plain.size in
        let all : got + z ≡ page_bytes = eqb→eq (got + z) page_bytes f.total in
        let b : Buffer = laid_in got content true (buffer_of w r.guarded) in
        good_buffer σ ok r closed w b k (laid (omega (arith, f.one))) (rooted_none (capacity r.guarded) r.guarded.index b origin)
        (fit_closed (with_transfer closed r.plain) (with_buffer w b r.guarded) closed refl)

  -- ---- an answer

  -- a command carried out
  pub row_good : (χ : Chip) (r : Reader) → Good σ ok r → (c : Barred) → Long c → locked (rested r).plain ≡ false → T (passed (rule χ (rested r) c).tests)
      → Good σ ok (apply (rule χ (rested r) c).effect (rested r))
  row_good χ r k c l u t =
      let q : Good σ ok (rested r) = good_rested r k in
      let z : (rested r).plain.transfer ≡ closed = rested_closed r k in
      effect_good σ ok (rule χ (rested r) c).effect (rested r) (row_proper χ (rested r) z q u c l t) z q

  answer_good : (χ : Chip) (r : Reader) → Good σ ok r → (h : Heard) → LongHeard h → Good σ ok (answer χ r h).after
  unfolding silence says carry_as
  answer_good χ r k h l =
      let q : Good σ ok (rested r) = good_rested r k in
      let z : (rested r).plain.transfer ≡ closed = rested_closed r k in
      answer_kinds (λ (a : Said). Good σ ok a.after) χ r h
      record {
        silent = k;
        refuses = λ n. q;
        frees = λ c e. free_good (rested r) z q c;
        takes =
            λ w last right got content e e' f.
            taken_good r k w got content (moving r.plain r.guarded w got (subst (λ (t : Transfer). T (fit_transfer r.plain r.guarded t)) e k.transfer)) last
            (fitting r.plain got last right content f);
        does = λ c e u t. row_good χ r k c (subst LongHeard e l) u t;
      }

  -- ---- calls and line switches

  -- a legal reader, with what its types say
  pub record Legal (r : Reader) : Type 0 where
    pub typed : Typed r
    pub legal : T (legal σ r)

  -- it is these two, and no more. `typed_means`, and at `core` `legal_means` and `means_legal`, have them in plain numbers
  pub legal_and_typed : (r : Reader) → Legal r ↔ (Typed r × T (legal σ r))
  legal_and_typed r = (λ l. (l.typed, l.legal), λ h. record { typed = h.0; legal = h.1 })

  pub good : (r : Reader) → Legal r → Good σ ok r
  good r l = good_of σ ok r l.typed l.legal

  legally : (r : Reader) → Good σ ok r → Legal r
  legally r k = record { typed = k.typed; legal = legal_of_lem σ ok r k }

  call_good : (r : Reader) (s : List ℕ) (lent : Lent) → Good σ ok r → Good σ ok (call_of σ r s lent).after
  unfolding refused carried step_of
  call_good r s lent k =
      call_kinds σ r s lent (λ (e : Ended). Good σ ok e.after) (λ n. k)
      (λ t u. answer_good lent.chip r k (hear r.plain.address s) (long_heard r.plain.address s))

  switch_good : (r : Reader) → Good σ ok r → Good σ ok (switch_of r).after
  unfolding switch_of switch_as refused switched wiped with_mark with_transfer emptied fit_plain capacity fit_buffers buffer_of
  switch_good r k = go (switch_refusal r.guarded)
    where
      origins : (w : Bool) → Rooted (capacity r.guarded) r.guarded.index (buffer_of w (switched r).guarded)
      origins true = rooted_none (capacity r.guarded) r.guarded.index emptied refl
      origins false = rooted_none (capacity r.guarded) r.guarded.index emptied refl

      go : (n : ℕ) → Good σ ok (switch_as r n).after
      go zero =
          record {
            settings = k.settings;
            shelf = record { long = k.shelf.long; low = k.shelf.low; high = k.shelf.high; wide = k.shelf.wide; notes = k.shelf.notes };
            buffers = tt;
            transfer = fit_closed (switched r).plain (switched r).guarded closed refl;
            clear = k.clear;
            origins = origins;
            typed = record { password = k.typed.password; address = k.typed.address; index = k.typed.index };
          }
      go (suc n) = k

  pub stays_legal : (r : Reader) → Legal r → (e : Event) → Legal (on σ r e).after
  unfolding on
  stays_legal r l (received s lent) = legally (call_of σ r s lent).after (call_good r s lent (good r l))
  stays_legal r l switch = legally (switch_of r).after (switch_good r (good r l))

  pub ever_legal : (r : Reader) → Legal r → (es : List Event) → Legal (finally σ r es)
  unfolding finally
  ever_legal r l [] = l
  ever_legal r l (e ∷ es) = ever_legal (on σ r e).after (stays_legal r l e) es
