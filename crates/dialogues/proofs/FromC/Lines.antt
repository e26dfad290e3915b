-- The promises at the doors for C with a receiver, over sequences of calls: over what a caller hands to bystrodol_receive and bystrodol_receiver_switch, what they
-- return, and what lies in its line and its memory after each.
use mathlib.Core.Bool.{true}
use mathlib.Core.Path.{◌≡◌, refl, sym, ap, ◌∙◌, subst}
use mathlib.Core.Logic.{◌⊎◌, ◌↔◌}
use mathlib.Core.List.{List, [], ◌∷◌, ◌++◌}
use Prim.Native.Nat.{ℕ, zero, suc, ◌-◌, ◌*◌, ◌/◌, ◌≤◌}
use native.Mathlib.Omega.{arith}
use lib.ListN.{length, take, replicate}
use Rattle.protocol.specs.declared.Line.{Line}
use Rattle.protocol.specs.declared.Taken.{Taken}
use Rattle.protocol.specs.Numbers.{holds, longest}
use Rattle.protocol.specs.Bytes.{Bytes}
use Rattle.protocol.specs.Tests.{count_below}
use Rattle.protocol.specs.Reader.{from_page, Reader, capacity}
use Rattle.protocol.specs.Call.{core, Lent, Told, reply_of, switch_of}
use Rattle.protocol.specs.Dialogue.{Event, received, switch}
use Rattle.dialogues.specs.History.{Exchange, exchanges, history, live}
use Rattle.protocol.specs.Receiver.{bytes_in, fitting, run_of, Handed, receive_of, line_switch_of}
use Rattle.protocol.specs.Receiver as receivers
use Rattle.dialogues.specs.Caller.{on_line, finally_on, runs, seen}
use Rattle.protocol.specs.Services.{count_service}
use Rattle.protocol.specs.Records.{line_of, lent_of, received_of, emptied_of, received_at, emptied_at}
use Rattle.dialogues.specs.Doors.{Memory, LineVault, reader_at, line_in, Entry, last_of, events_of, handed_in, Receives, sees_on, saw_on}
use Rattle.protocol.proofs.Laws.Lines.{Line as Unless, unless, Follows}
use Rattle.dialogues.proofs.Laws.History.{ever_capacity}
use Rattle.protocol.proofs.Promises.Words.Told.{has, buffer}
use Rattle.protocol.proofs.Promises.Refusals.LegalMeans.{core_holds, Lengths, Settled, legal_means}
use Rattle.protocol.proofs.Promises.Refusals.Refused.{Unused, ChipLengths, switch_refusals}
use Rattle.protocol.proofs.Promises.Refusals.StaysLegal.{Legal}
use Rattle.protocol.proofs.Promises.Refusals.Marks.{FitRecord, settled_fit}
use Rattle.dialogues.proofs.Library.ValidCount.{Tells, tells_none, tells_ever}
use Rattle.dialogues.proofs.Library.SizeCode.{Unset}
use Rattle.dialogues.proofs.Library.Faithful.{Faithful, Holds}
use Rattle.dialogues.proofs.Library.Untouched.{SawDeleted, Untouched}
use Rattle.protocol.proofs.Promises.Lines.Receiver.{bare, Hands, receive_refusals, never_refused, Empties, line_switch_refusals}
use Rattle.dialogues.proofs.Lines.ReceiverCalls.{as_calls, ever_few, seen_is, line_legal, line_only_by_deletion, line_faithful, line_code}
use Rattle.dialogues.proofs.FromC.Steps.{same_vault, switched_settings, switched_memory, switch_leaves, count_of, HeldPages, pages_held}

-- ---- a contract is a step: what the header's names stand for

-- bystrodol_receive: the piece, what is lent with it, what the struct bystrodol_received says, and the reply room after it
pub receive_door : (v w : LineVault) (a : Taken) (piece scores thresholds room reply : List ℕ)
    → received_of (received_at w.line a) w.memory.templates w.memory.index w.memory.notepad w.memory.buffer1 w.memory.buffer2 reply
    ≡ receive_of core (line_of v.line v.memory.templates v.memory.index v.memory.notepad v.memory.buffer1 v.memory.buffer2) piece (lent_of scores thresholds room)
    → Receives v
    (record {
      event = received piece record { chip = record { scores = scores; thresholds = thresholds }; room = room };
      told = record { refusal = a.refusal; used = a.taken; length = a.length; room = reply };
      after = w;
    }
    ∷ [])
unfolding on_line
receive_door v w a piece scores thresholds room reply q = (q, tt)

-- bystrodol_receiver_switch: the refusal that it returns, and the two buffers after it; templates, index and notepad are not lent to it
pub empty_door : (v : LineVault) (x : Line) (refusal : ℕ) (b d : List ℕ)
    → ((t i n : List ℕ) → emptied_of (emptied_at x refusal) t i n b d ≡ line_switch_of (line_of v.line t i n v.memory.buffer1 v.memory.buffer2))
    → Receives v
    (record {
      event = switch;
      told = record { refusal = refusal; used = 0; length = 0; room = [] };
      after = record { line = x; memory = record { templates = v.memory.templates; index = v.memory.index; notepad = v.memory.notepad; buffer1 = b; buffer2 = d } };
    }
    ∷ [])
unfolding on_line
empty_door v x refusal b d q = (q v.memory.templates v.memory.index v.memory.notepad, tt)

-- ---- a sequence of such calls, as `StepsMean` has it without a receiver; what the host saw of a call is of the bytes that were held and of what fits of the piece

pub record ReceivesMean (v w : LineVault) (t : Told) (piece : List ℕ) (lent : Lent) (xs : List (Entry LineVault)) : Type 0 where
  pub none : Receives v []
  pub call : Receives v (record { event = received piece lent; told = t; after = w } ∷ xs)
      ↔ (((t ≡ (receive_of core (line_in v) piece lent).told) × (line_in w ≡ (receive_of core (line_in v) piece lent).after)) × Receives w xs)
  pub switched : Receives v (record { event = switch; told = t; after = w } ∷ xs) ↔ (((t ≡ (line_switch_of (line_in v)).told) × (line_in w ≡ (line_switch_of (line_in v)).after)) × Receives w xs)
  pub saw_none : saw_on v [] ≡ []
  pub saw_call : saw_on v (record { event = received piece lent; told = t; after = w } ∷ xs)
      ≡ (let h = v.line.receiver in
      record { run = take h.count h.held ++ take (267 - h.count) piece; reply = take t.length t.room } ∷ saw_on w xs)
  pub saw_switch : saw_on v (record { event = switch; told = t; after = w } ∷ xs) ≡ saw_on w xs

pub receives_mean : (v w : LineVault) (t : Told) (piece : List ℕ) (lent : Lent) (xs : List (Entry LineVault)) → ReceivesMean v w t piece lent xs
unfolding on_line holds longest
receives_mean v w t piece lent xs =
    record {
      none = tt;
      call = (λ q. ((ap (λ (o : Handed). o.told) q.0, ap (λ (o : Handed). o.after) q.0), q.1), λ q. (λ j. record { told = q.0.0 j; after = q.0.1 j }, q.1));
      switched = (λ q. ((ap (λ (o : Handed). o.told) q.0, ap (λ (o : Handed). o.after) q.0), q.1), λ q. (λ j. record { told = q.0.0 j; after = q.0.1 j }, q.1));
      saw_none = refl;
      saw_call = refl;
      saw_switch = refl;
    }

-- ---- calls from C are the definitions' events

pub receives_end : (xs : List (Entry LineVault)) (v : LineVault) → Receives v xs → line_in (last_of v xs) ≡ finally_on core (line_in v) (events_of xs)
unfolding finally_on
receives_end [] v q = refl
receives_end (x ∷ xs) v q = receives_end xs x.after q.1 ∙ ap (λ (o : Handed). finally_on core o.after (events_of xs)) q.0

pub receives_saw : (xs : List (Entry LineVault)) (v : LineVault) → Receives v xs → saw_on v xs ≡ seen core (line_in v) (events_of xs)
unfolding seen on_line reply_of run_of bytes_in fitting
receives_saw [] v q = refl
receives_saw (x ∷ xs) v q = go x.event q.0 (receives_saw xs x.after q.1)
  where
    go : (e : Event) → handed_in x.told x.after ≡ on_line core (line_in v) e
        → saw_on x.after xs ≡ seen core (line_in x.after) (events_of xs) → sees_on v e x.told (saw_on x.after xs) ≡ seen core (line_in v) (e ∷ events_of xs)
    go (received piece lent) p i =
        ap (λ (z : List Exchange). record { run = run_of v.line.receiver piece; reply = take x.told.length x.told.room } ∷ z) i
        ∙ ap (λ (o : Handed). record { run = run_of v.line.receiver piece; reply = take o.told.length o.told.room } ∷ seen core o.after (events_of xs)) p
    go switch p i = i ∙ ap (λ (o : Handed). seen core o.after (events_of xs)) p

-- ---- demand 1 and request [1]: the refusals, with an unfit record as a line of its own, and a held count above 267

abbrev pub line_lines : Line → Memory → Lent → List Unless
line_lines x m lent =
    let r = reader_at x.settings m in
    unless (Lengths r.guarded) 1 ∷ unless (ChipLengths r lent) 1 ∷ unless (700 ≤ length lent.room) 2 ∷ unless (FitRecord x.settings) 3 ∷ unless (Settled r) 3
    ∷ unless (x.receiver.count ≤ 267) 3 ∷ []

-- 0 is no refusal; a refused call returns its number and zeros, and line, memory and reply room lie as they lay, byte for byte
abbrev pub LineEnds : LineVault → List ℕ → Told → LineVault → ℕ → Type 0
LineEnds v room t w zero = t.refusal ≡ 0
LineEnds v room t w (suc n) = (t ≡ record { refusal = suc n; used = 0; length = 0; room = room }) × (w ≡ v)

pub same_line : (v w : LineVault) → line_in w ≡ line_in v → w ≡ v
same_line v w e =
    let o = same_vault w.line.settings v.line.settings w.memory v.memory (ap (λ (x : receivers.Line). x.reader) e) in
    λ j. record { line = record { settings = o.0 j; receiver = (e j).receiver }; memory = o.1 j }

pub receive_refusal_lem : (v w : LineVault) (piece : List ℕ) (lent : Lent) (t : Told) → Receives v (record { event = received piece lent; told = t; after = w } ∷ [])
    → Follows (line_lines v.line v.memory lent) (LineEnds v lent.room t w)
unfolding on_line
receive_refusal_lem v w piece lent t q =
    let c = receive_refusals (line_in v) piece lent in
    (λ a. (λ b. (λ d. (λ k. (λ h. (λ l. end 0 (((((c.0 a).0 b).0 d).0 h).0 l), λ f. end 3 (((((c.0 a).0 b).0 d).0 h).1 f)), λ f. end 3 ((((c.0 a).0 b).0 d).1 f)), λ f. end 3 ((((c.0 a).0 b).0 d).1 (λ h. f (fit h)))), λ f. end 2 (((c.0 a).0 b).1 f)), λ f. end 1 ((c.0 a).1 f)), λ f. end 1 (c.1 f))
  where
    fit : Settled (line_in v).reader → FitRecord v.line.settings
    fit = settled_fit v.line.settings v.memory.templates v.memory.index v.memory.notepad v.memory.buffer1 v.memory.buffer2

    end : (n : ℕ) → Hands (line_in v) lent (receive_of core (line_in v) piece lent) n → LineEnds v lent.room t w n
    end zero e = ap (λ (o : Handed). o.told.refusal) q.0 ∙ e
    end (suc n) e = (
      ap (λ (o : Handed). o.told) q.0 ∙ (λ j. record { refusal = e.0.refusal j; used = e.0.used j; length = e.0.length j; room = e.0.room j }),
      same_line v w (ap (λ (o : Handed). o.after) q.0 ∙ e.1),
    )

-- the line switch takes any line, whatever bytes it is, and knows only refusal 1; it leaves what it leaves of a vault, and a receiver that holds nothing
abbrev pub EmptyEnds : LineVault → Told → LineVault → ℕ → Type 0
EmptyEnds v t w zero =
    (t ≡ record { refusal = 0; used = 0; length = 0; room = [] })
    × (w
    ≡ record {
      line = record { settings = switched_settings v.line.settings; receiver = record { held = replicate 267 0; spare = 0; count = 0 } };
      memory = switched_memory v.memory;
    })
EmptyEnds v t w (suc n) = (t ≡ record { refusal = suc n; used = 0; length = 0; room = [] }) × (w ≡ v)

pub empty_refusal : (v w : LineVault) (t : Told) → Receives v (record { event = switch; told = t; after = w } ∷ [])
    → Follows (unless ((length v.memory.buffer1 ≡ 512) × (length v.memory.buffer2 ≡ 512)) 1 ∷ []) (EmptyEnds v t w)
unfolding on_line
empty_refusal v w t q =
    let c = line_switch_refusals (line_in v) in
    (λ a. emptied ((switch_refusals (line_in v).reader).0 a).refusal (c.0 a), λ f. let e = c.1 f in (same 1 e.0, same_line v w (ap (λ (o : Handed). o.after) q.0 ∙ e.1)))
  where
    same : (n : ℕ) → Unused [] (bare (line_switch_of (line_in v))) n → t ≡ record { refusal = n; used = 0; length = 0; room = [] }
    same n e = ap (λ (o : Handed). o.told) q.0 ∙ (λ j. record { refusal = e.refusal j; used = e.used j; length = e.length j; room = e.room j })

    emptied : (switch_of (line_in v).reader).told.refusal ≡ 0 → Empties (line_in v) (line_switch_of (line_in v)) 0 → EmptyEnds v t w 0
    emptied z (u, (r, (n, (h, s)))) = (
      same 0 u,
      same_line _ w
          (ap (λ (o : Handed). o.after) q.0
          ∙ (λ j. record { reader = (r ∙ switch_leaves v.line.settings v.memory z) j; receiver = record { held = h j; spare = s j; count = n j } })),
    )

-- ---- demand 1: a legal line is legal after any calls, its record is fit, and no call whose scores, thresholds and reply room are fit is refused

-- by the types of C password and address have four bytes, and a byte of the index is below 256
pub record LegalLine (v : LineVault) : Type 0 where
  pub reader : Legal core core_holds (reader_at v.line.settings v.memory)
  pub few : v.line.receiver.count ≤ 267

pub line_fit : (v : LineVault) → LegalLine v → FitRecord v.line.settings
line_fit v l =
    let m = v.memory in
    settled_fit v.line.settings m.templates m.index m.notepad m.buffer1 m.buffer2 (legal_means (line_in v).reader l.reader.legal).settings

module _ (v : LineVault) (xs : List (Entry LineVault)) (q : Receives v xs) where
  ends : line_in (last_of v xs) ≡ finally_on core (line_in v) (events_of xs)
  ends = receives_end xs v q

  reads : (finally_on core (line_in v) (events_of xs)).reader ≡ (line_in (last_of v xs)).reader
  reads = ap (λ (x : receivers.Line). x.reader) (sym ends)

  pub line_vault_legal : LegalLine v → LegalLine (last_of v xs)
  line_vault_legal l =
      record {
        reader = subst (Legal core core_holds) reads (line_legal core core_holds (line_in v) l.few l.reader (events_of xs));
        few = subst (λ (x : receivers.Line). x.receiver.count ≤ 267) (sym ends) (ever_few core (events_of xs) (line_in v) l.few);
      }

  pub line_vault_serves : LegalLine v → (piece : List ℕ) (lent : Lent) (told : Told) (w : LineVault)
      → Receives (last_of v xs) (record { event = received piece lent; told = told; after = w } ∷ [])
      → ((c : ℕ) → length v.memory.templates ≡ 512 * c → length lent.chip.scores ≡ c) → length lent.chip.thresholds ≡ 5 → 700 ≤ length lent.room
      → told.refusal ≡ 0
  unfolding on_line capacity
  line_vault_serves l piece lent told w p scores thresholds room =
      let x : receivers.Line = line_in (last_of v xs) in
      let k = line_vault_legal l in
      let m = legal_means x.reader k.reader.legal in
      let same : length (last_of v xs).memory.templates / 512 ≡ length v.memory.templates / 512 =
      ap (λ (r : Reader). length r.guarded.templates / 512) (sym reads ∙ as_calls core (events_of xs) (line_in v) l.few) ∙ ever_capacity core core_holds (line_in v).reader (runs core (line_in v) (events_of xs))
      in
      let before = (legal_means (line_in v).reader l.reader.legal).lengths in
      ap (λ (o : Handed). o.told.refusal) p.0
      ∙ never_refused x piece lent m record { scores = λ c n. scores c (omega (arith, same, before.templates)); thresholds = thresholds } room k.few

  -- ---- demand 2: "From an empty library, the valid count always equals the pages stored and not deleted since."

  -- what bystrodol_count gives of the index is the number of pages that the host saw stored and not deleted since
  pub line_vault_count : v.line.receiver.count ≤ 267 → v.memory.index ≡ replicate 128 0 → count_service (last_of v xs).memory.index ≡ count_below (live (history (saw_on v xs) [])) 1024
  unfolding core
  line_vault_count few z =
      let es : List Event = runs core (line_in v) (events_of xs) in
      count_of (last_of v xs).memory.index (history (saw_on v xs) [])
      (rw (receives_saw xs v q, ← seen_is core (events_of xs) (line_in v) few)
      (subst (λ (r : Reader). Tells 128 r.guarded.index (history (exchanges core (line_in v).reader es) [])) (sym (as_calls core (events_of xs) (line_in v) few) ∙ reads)
      (tells_ever core core_holds (line_in v).reader [] (rw z (tells_none 128)) es)))

  -- ---- request [5]: a page that is stored stays so, with its 512 bytes, or the host saw it deleted

  pub line_vault_only_by_deletion : v.line.receiver.count ≤ 267 → Bytes v.memory.index → (p : ℕ) → has (line_in v).reader p ≡ true
      → Untouched p (line_in v).reader (line_in (last_of v xs)).reader ⊎ SawDeleted p (saw_on v xs)
  line_vault_only_by_deletion few y p s =
      rw (receives_saw xs v q)
      (subst (λ (r : Reader). Untouched p (line_in v).reader r ⊎ SawDeleted p (seen core (line_in v) (events_of xs))) reads
      (line_only_by_deletion core core_holds (line_in v) few y p s (events_of xs)))

  -- ---- request [7]: a buffer with an origin holds the template of that page, which is stored

  -- from a start of which that is true, as one without origins (`faithful_start`)
  pub line_vault_faithful : LegalLine v → Faithful (line_in v).reader → HeldPages (last_of v xs).line.settings (last_of v xs).memory
  line_vault_faithful l f =
      pages_held (last_of v xs).line.settings (last_of v xs).memory
      (λ b p.
      subst (λ (r : Reader). (buffer b r.guarded).origin ≡ from_page p → Holds core core_holds r b p) reads
      (line_faithful core core_holds (line_in v) l.few l.reader f (events_of xs) b p))

  -- ---- request [2]: "Stored settings keep their own code.", unless a run that was held asks for parameter 6 and is answered 00h

  pub line_vault_code : v.line.receiver.count ≤ 267 → Unset core (line_in v).reader (runs core (line_in v) (events_of xs)) → (last_of v xs).line.settings.size ≡ v.line.settings.size
  line_vault_code few u = ap (λ (r : Reader). r.plain.size) (sym reads) ∙ line_code core (line_in v) few (events_of xs) u
