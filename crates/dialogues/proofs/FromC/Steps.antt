-- The promises at the doors for C without a receiver, over sequences of calls: over what a caller hands to bystrodol_step and bystrodol_line_switch, what they
-- return, and what lies in its settings and its memory after each.
use mathlib.Core.Bool.{true}
use mathlib.Core.Path.{◌≡◌, refl, sym, ap, ◌∙◌, subst}
use mathlib.Core.Logic.{◌⊎◌, ◌≢◌, ◌↔◌}
use mathlib.Core.List.{List, [], ◌∷◌}
use Prim.Native.Nat.{ℕ, zero, suc, ◌*◌, ◌/◌, ◌%◌, ◌^◌, ◌≤◌}
use native.Mathlib.Omega.{arith}
use lib.ListN.{length, take, drop, get_or, replicate}
use Rattle.protocol.specs.declared.Settings.{Settings}
use Rattle.protocol.specs.declared.Answered.{Answered}
use Rattle.protocol.specs.Bytes.{Bytes}
use Rattle.protocol.specs.Tests.{count_below}
use Rattle.protocol.specs.Reader.{emptied, with_transfer, with_mark, from_page, Reader, capacity}
use Rattle.protocol.specs.Table.{is_buffer}
use Rattle.protocol.specs.Step.{wiped, switched}
use Rattle.protocol.specs.Call.{switch_refusal, switch_as, refused, core, Lent, Told, Ended, reply_of, call_of, switch_of}
use Rattle.protocol.specs.Dialogue.{Event, received, switch, on, finally}
use Rattle.dialogues.specs.History.{Exchange, exchanges, Act, history, live}
use Rattle.protocol.specs.Services.{count_service}
use Rattle.protocol.specs.Records.{transfer_of, fit_marks, fit_mark, origin_of, reader_of, lent_of, ended_of, switched_of, called_at, switched_at}
use Rattle.dialogues.specs.Doors.{Memory, Vault, reader_at, reader_in, Entry, last_of, events_of, told_of, Until, ended_in, Steps, sees, saw}
use borrow.Author.Tests.{eqb-true, ne_eqb}
use Rattle.protocol.proofs.Laws.Lines.{Line, unless, Follows}
use Rattle.dialogues.proofs.Laws.History.{ever_capacity}
use Rattle.protocol.proofs.Promises.Words.Told.{has, buffer}
use Rattle.protocol.proofs.Promises.Refusals.LegalMeans.{core_holds, Lengths, Settled, legal_means}
use Rattle.protocol.proofs.Promises.Refusals.Refused.{Unused, Ends, ChipLengths, call_refusals, Switches, switch_refusals}
use Rattle.protocol.proofs.Promises.Refusals.StaysLegal.{Legal, ever_legal}
use Rattle.protocol.proofs.Promises.Refusals.Marks.{FitRecord, settled_fit}
use Rattle.protocol.proofs.Promises.Words.OneResult.{one_reader}
use Rattle.dialogues.proofs.Library.ValidCount.{Tells, tells_none, tells_count, tells_ever}
use Rattle.dialogues.proofs.Library.SizeCode.{Unset, code_kept}
use Rattle.dialogues.proofs.Library.Faithful.{Faithful, Holds, ever_faithful}
use Rattle.dialogues.proofs.Library.Untouched.{SawDeleted, Untouched, only_by_deletion}

-- ---- a contract is a step: what the header's names stand for

-- bystrodol_step: the run, what is lent with it, what the struct bystrodol_answer says, and the reply room after it
pub step_door : (v w : Vault) (a : Answered) (run scores thresholds room reply : List ℕ)
    → ended_of (called_at w.settings a) w.memory.templates w.memory.index w.memory.notepad w.memory.buffer1 w.memory.buffer2 reply
    ≡ call_of core (reader_of v.settings v.memory.templates v.memory.index v.memory.notepad v.memory.buffer1 v.memory.buffer2) run (lent_of scores thresholds room)
    → Steps v
    (record {
      event = received run record { chip = record { scores = scores; thresholds = thresholds }; room = room };
      told = record { refusal = a.refusal; used = a.used; length = a.length; room = reply };
      after = w;
    }
    ∷ [])
unfolding on
step_door v w a run scores thresholds room reply q = (q, tt)

-- bystrodol_line_switch: the refusal that it returns, and the two buffers after it; templates, index and notepad are not lent to it
pub switch_door : (v : Vault) (s : Settings) (refusal : ℕ) (b d : List ℕ)
    → ((t i n : List ℕ) → switched_of (switched_at s refusal) t i n b d ≡ switch_of (reader_of v.settings t i n v.memory.buffer1 v.memory.buffer2))
    → Steps v
    (record {
      event = switch;
      told = record { refusal = refusal; used = 0; length = 0; room = [] };
      after = record { settings = s; memory = record { templates = v.memory.templates; index = v.memory.index; notepad = v.memory.notepad; buffer1 = b; buffer2 = d } };
    }
    ∷ [])
unfolding on
switch_door v s refusal b d q = (q v.memory.templates v.memory.index v.memory.notepad, tt)

-- ---- a sequence of calls, in the words of its entries

-- each call is made on what the one before it left; what came back, and what lies there after the last
pub record Entries {S : Type 0} (v : S) (x y : Entry S) (xs : List (Entry S)) (mark : S → ℕ) : Type 0 where
  pub last_none : last_of v [] ≡ v
  pub last_more : last_of v (x ∷ xs) ≡ last_of x.after xs
  pub events : events_of (x ∷ xs) ≡ x.event ∷ events_of xs
  pub told : told_of (x ∷ xs) ≡ x.told ∷ told_of xs
  -- no call but the last leaves a mark of 1
  pub until_none : Until mark []
  pub until_one : Until mark (x ∷ [])
  pub until_more : Until mark (x ∷ y ∷ xs) ↔ ((mark x.after ≢ 1) × Until mark (y ∷ xs))

pub entries : {S : Type 0} (v : S) (x y : Entry S) (xs : List (Entry S)) (mark : S → ℕ) → Entries v x y xs mark
entries v x y xs mark =
    record { last_none = refl; last_more = refl; events = refl; told = refl; until_none = tt; until_one = tt; until_more = (λ u. u, λ u. u) }

-- a call of bystrodol_step in it, and a line switch: what each told, and the reader that it left; and what the host saw
pub record StepsMean (v w : Vault) (t : Told) (run : List ℕ) (lent : Lent) (xs : List (Entry Vault)) : Type 0 where
  pub none : Steps v []
  pub call : Steps v (record { event = received run lent; told = t; after = w } ∷ xs)
      ↔ (((t ≡ (call_of core (reader_in v) run lent).told) × (reader_in w ≡ (call_of core (reader_in v) run lent).after)) × Steps w xs)
  pub switched : Steps v (record { event = switch; told = t; after = w } ∷ xs) ↔ (((t ≡ (switch_of (reader_in v)).told) × (reader_in w ≡ (switch_of (reader_in v)).after)) × Steps w xs)
  pub saw_none : saw [] ≡ []
  pub saw_call : saw (record { event = received run lent; told = t; after = w } ∷ xs) ≡ record { run = run; reply = take t.length t.room } ∷ saw xs
  pub saw_switch : saw (record { event = switch; told = t; after = w } ∷ xs) ≡ saw xs

pub steps_mean : (v w : Vault) (t : Told) (run : List ℕ) (lent : Lent) (xs : List (Entry Vault)) → StepsMean v w t run lent xs
unfolding on
steps_mean v w t run lent xs =
    record {
      none = tt;
      call = (λ q. ((ap (λ (e : Ended). e.told) q.0, ap (λ (e : Ended). e.after) q.0), q.1), λ q. (λ j. record { told = q.0.0 j; after = q.0.1 j }, q.1));
      switched = (λ q. ((ap (λ (e : Ended). e.told) q.0, ap (λ (e : Ended). e.after) q.0), q.1), λ q. (λ j. record { told = q.0.0 j; after = q.0.1 j }, q.1));
      saw_none = refl;
      saw_call = refl;
      saw_switch = refl;
    }

-- ---- calls from C are the definitions' events

pub steps_end : (xs : List (Entry Vault)) (v : Vault) → Steps v xs → reader_in (last_of v xs) ≡ finally core (reader_in v) (events_of xs)
unfolding finally
steps_end [] v q = refl
steps_end (x ∷ xs) v q = steps_end xs x.after q.1 ∙ ap (λ (e : Ended). finally core e.after (events_of xs)) q.0

pub steps_saw : (xs : List (Entry Vault)) (v : Vault) → Steps v xs → saw xs ≡ exchanges core (reader_in v) (events_of xs)
unfolding exchanges on reply_of
steps_saw [] v q = refl
steps_saw (x ∷ xs) v q = go x.event q.0 (steps_saw xs x.after q.1)
  where
    go : (e : Event) → ended_in x.told x.after ≡ on core (reader_in v) e
        → saw xs ≡ exchanges core (reader_in x.after) (events_of xs) → sees e x.told (saw xs) ≡ exchanges core (reader_in v) (e ∷ events_of xs)
    go (received run lent) p i =
        ap (λ (z : List Exchange). record { run = run; reply = take x.told.length x.told.room } ∷ z) i
        ∙ ap (λ (e : Ended). record { run = run; reply = take e.told.length e.told.room } ∷ exchanges core e.after (events_of xs)) p
    go switch p i = i ∙ ap (λ (e : Ended). exchanges core e.after (events_of xs)) p

-- ---- demand 1: "refusal 1, 2, 3 .. as document 01 says; no reply is written and no byte changes", with an unfit record as a line of its own

-- one reader comes of one settings record and one memory
pub same_vault : (s z : Settings) (m n : Memory) → reader_at s m ≡ reader_at z n → (s ≡ z) × (m ≡ n)
same_vault s z m n e =
    let o = one_reader s z m.templates m.index m.notepad m.buffer1 m.buffer2 n.templates n.index n.notepad n.buffer1 n.buffer2 e in
    (o.settings, λ j. record { templates = o.templates j; index = o.index j; notepad = o.notepad j; buffer1 = o.buffer1 j; buffer2 = o.buffer2 j })

abbrev pub door_lines : Settings → Memory → Lent → List Line
door_lines s m lent =
    let r = reader_at s m in
    unless (Lengths r.guarded) 1 ∷ unless (ChipLengths r lent) 1 ∷ unless (700 ≤ length lent.room) 2 ∷ unless (FitRecord s) 3 ∷ unless (Settled r) 3 ∷ []

-- 0 is no refusal; a refused call returns its number and zeros, and settings, memory and reply room lie as they lay, byte for byte
abbrev pub DoorEnds : Vault → Lent → Told → Vault → ℕ → Type 0
DoorEnds v lent t w zero = t.refusal ≡ 0
DoorEnds v lent t w (suc n) = (t ≡ record { refusal = suc n; used = 0; length = 0; room = lent.room }) × (w ≡ v)

pub step_refusals : (v w : Vault) (run : List ℕ) (lent : Lent) (t : Told) → Steps v (record { event = received run lent; told = t; after = w } ∷ [])
    → Follows (door_lines v.settings v.memory lent) (DoorEnds v lent t w)
unfolding on
step_refusals v w run lent t q =
    let c = call_refusals (reader_in v) run lent in
    (λ a. (λ b. (λ d. (λ k. (λ h. end 0 ((((c.0 a).0 b).0 d).0 h), λ f. end 3 ((((c.0 a).0 b).0 d).1 f)), λ f. end 3 ((((c.0 a).0 b).0 d).1 (λ h. f (fit h)))), λ f. end 2 (((c.0 a).0 b).1 f)), λ f. end 1 ((c.0 a).1 f)), λ f. end 1 (c.1 f))
  where
    fit : Settled (reader_in v) → FitRecord v.settings
    fit = settled_fit v.settings v.memory.templates v.memory.index v.memory.notepad v.memory.buffer1 v.memory.buffer2

    end : (n : ℕ) → Ends (reader_in v) lent.room (call_of core (reader_in v) run lent) n → DoorEnds v lent t w n
    end zero e = ap (λ (x : Ended). x.told.refusal) q.0 ∙ e
    end (suc n) e =
        let o = same_vault w.settings v.settings w.memory v.memory (ap (λ (x : Ended). x.after) q.0 ∙ e.1) in (
          ap (λ (x : Ended). x.told) q.0 ∙ (λ j. record { refusal = e.0.refusal j; used = e.0.used j; length = e.0.length j; room = e.0.room j }),
          λ j. record { settings = o.0 j; memory = o.1 j },
        )

-- what the line switch leaves: marks, transfer and bytes got 0, no origins, both buffers 512 zeros; all else as it lay
abbrev pub switched_settings : Settings → Settings
switched_settings s =
    record {
      password = s.password;
      address = s.address;
      level = s.level;
      size = s.size;
      baud = s.baud;
      transfer = 0;
      sensor = s.sensor;
      got = 0;
      verified = 0;
      filled1 = 0;
      filled2 = 0;
      found = 0;
      origin1 = 65535;
      origin2 = 65535;
    }

abbrev pub switched_memory : Memory → Memory
switched_memory m = record { templates = m.templates; index = m.index; notepad = m.notepad; buffer1 = replicate 512 0; buffer2 = replicate 512 0 }

pub switch_leaves : (s : Settings) (m : Memory) → (switch_of (reader_at s m)).told.refusal ≡ 0 → (switch_of (reader_at s m)).after ≡ reader_at (switched_settings s) (switched_memory m)
unfolding switch_of switch_as refused switched wiped emptied with_transfer with_mark transfer_of fit_marks fit_mark is_buffer origin_of
switch_leaves s m = go (switch_refusal (reader_at s m).guarded)
  where
    go : (k : ℕ) → (switch_as (reader_at s m) k).told.refusal ≡ 0 → (switch_as (reader_at s m) k).after ≡ reader_at (switched_settings s) (switched_memory m)
    go zero z = refl
    go (suc k) z = absurd (omega (arith, z))

-- it takes any settings, whatever bytes they are, and knows only refusal 1
abbrev pub SwitchEnds : Vault → Told → Vault → ℕ → Type 0
SwitchEnds v t w zero =
    (t ≡ record { refusal = 0; used = 0; length = 0; room = [] }) × (w ≡ record { settings = switched_settings v.settings; memory = switched_memory v.memory })
SwitchEnds v t w (suc n) = (t ≡ record { refusal = suc n; used = 0; length = 0; room = [] }) × (w ≡ v)

pub switch_refusal_lem : (v w : Vault) (t : Told) → Steps v (record { event = switch; told = t; after = w } ∷ [])
    → Follows (unless ((length v.memory.buffer1 ≡ 512) × (length v.memory.buffer2 ≡ 512)) 1 ∷ []) (SwitchEnds v t w)
unfolding on
switch_refusal_lem v w t q = let c = switch_refusals (reader_in v) in (λ a. end 0 (c.0 a), λ f. end 1 (c.1 f))
  where
    same : (n : ℕ) → Unused [] (switch_of (reader_in v)) n → t ≡ record { refusal = n; used = 0; length = 0; room = [] }
    same n e = ap (λ (x : Ended). x.told) q.0 ∙ (λ j. record { refusal = e.refusal j; used = e.used j; length = e.length j; room = e.room j })

    lies : (s : Settings) (m : Memory) → (switch_of (reader_in v)).after ≡ reader_at s m → w ≡ record { settings = s; memory = m }
    lies s m e = let o = same_vault w.settings s w.memory m (ap (λ (x : Ended). x.after) q.0 ∙ e) in λ j. record { settings = o.0 j; memory = o.1 j }

    end : (n : ℕ) → Switches (reader_in v) (switch_of (reader_in v)) n → SwitchEnds v t w n
    end zero e = (same 0 e, lies (switched_settings v.settings) (switched_memory v.memory) (switch_leaves v.settings v.memory e.refusal))
    end (suc n) e = (same (suc n) e.0, lies v.settings v.memory e.1)

-- ---- demand 1: a legal vault is legal after any calls, its record is fit, and no call whose scores, thresholds and reply room are fit is refused

-- by the types of C password and address have four bytes, and a byte of the index is below 256
abbrev pub LegalVault : Vault → Type 0
LegalVault v = Legal core core_holds (reader_in v)

pub vault_fit : (v : Vault) → LegalVault v → FitRecord v.settings
vault_fit v l =
    let m = v.memory in
    settled_fit v.settings m.templates m.index m.notepad m.buffer1 m.buffer2 (legal_means (reader_in v) l.legal).settings

-- the set bits of an index that tells of the acts so far, as bystrodol_count gives them
pub count_of : (x : List ℕ) (acts : List Act) → Tells 128 x acts → count_service x ≡ count_below (live acts) 1024
unfolding count_service core
count_of x acts t = rw t.fine.long (tells_count 128 x acts t)

-- page p of this memory is stored, and this filled mark and these bytes are those of a buffer that holds its template
pub record HoldsPage (m : Memory) (p mark : ℕ) (b : List ℕ) : Type 0 where
  pub there : get_or m.index (p / 8) 0 / 2 ^ (p % 8) % 2 ≡ 1
  pub filled : mark ≡ 1
  pub bytes : b ≡ take 512 (drop (512 * p) m.templates)

-- so do both buffers, where they have an origin
pub record HeldPages (s : Settings) (m : Memory) : Type 0 where
  pub first : s.origin1 ≢ 65535 → HoldsPage m s.origin1 s.filled1 m.buffer1
  pub second : s.origin2 ≢ 65535 → HoldsPage m s.origin2 s.filled2 m.buffer2

pub pages_held : (s : Settings) (m : Memory) → ((b p : ℕ) → (buffer b (reader_at s m).guarded).origin ≡ from_page p → Holds core core_holds (reader_at s m) b p) → HeldPages s m
unfolding origin_of
pages_held s m holds =
    record {
      first = λ d. (let h = holds 1 s.origin1 (from_page_lem s.origin1 d) in record { there = eqb-true _ 1 h.stored_there; filled = eqb-true _ 1 h.filled; bytes = h.bytes });
      second = λ d. (let h = holds 2 s.origin2 (from_page_lem s.origin2 d) in record { there = eqb-true _ 1 h.stored_there; filled = eqb-true _ 1 h.filled; bytes = h.bytes });
    }
  where
    from_page_lem : (n : ℕ) → n ≢ 65535 → origin_of n ≡ from_page n
    from_page_lem n d = rw (ne_eqb n 65535 d) refl

module _ (v : Vault) (xs : List (Entry Vault)) (q : Steps v xs) where
  pub vault_legal : LegalVault v → LegalVault (last_of v xs)
  vault_legal l = subst (Legal core core_holds) (sym (steps_end xs v q)) (ever_legal core core_holds (reader_in v) l (events_of xs))

  pub vault_serves : LegalVault v → (run : List ℕ) (lent : Lent) (told : Told) (w : Vault) → Steps (last_of v xs) (record { event = received run lent; told = told; after = w } ∷ [])
      → ((c : ℕ) → length v.memory.templates ≡ 512 * c → length lent.chip.scores ≡ c) → length lent.chip.thresholds ≡ 5 → 700 ≤ length lent.room
      → told.refusal ≡ 0
  unfolding on capacity
  vault_serves l run lent told w p scores thresholds room =
      let r : Reader = reader_in (last_of v xs) in
      let m = legal_means r (vault_legal l).legal in
      let same : length (last_of v xs).memory.templates / 512 ≡ length v.memory.templates / 512 =
      ap (λ (x : Reader). length x.guarded.templates / 512) (steps_end xs v q) ∙ ever_capacity core core_holds (reader_in v) (events_of xs)
      in
      let before = (legal_means (reader_in v) l.legal).lengths in
      ap (λ (e : Ended). e.told.refusal) p.0
      ∙ ((((call_refusals r run lent).0 m.lengths).0 record { scores = λ c k. scores c (omega (arith, same, before.templates)); thresholds = thresholds }).0 room).0 m.settings

  -- ---- demand 2: "From an empty library, the valid count always equals the pages stored and not deleted since."

  -- what bystrodol_count gives of the index is the number of pages that the host saw stored and not deleted since
  pub vault_count : v.memory.index ≡ replicate 128 0 → count_service (last_of v xs).memory.index ≡ count_below (live (history (saw xs) [])) 1024
  unfolding core
  vault_count z =
      count_of (last_of v xs).memory.index (history (saw xs) [])
      (rw (steps_saw xs v q)
      (subst (λ (r : Reader). Tells 128 r.guarded.index (history (exchanges core (reader_in v) (events_of xs)) [])) (sym (steps_end xs v q))
      (tells_ever core core_holds (reader_in v) [] (rw z (tells_none 128)) (events_of xs))))

  -- ---- request [5]: a page that is stored stays so, with its 512 bytes, or the host saw it deleted

  pub vault_only_by_deletion : Bytes v.memory.index → (p : ℕ) → has (reader_in v) p ≡ true
      → Untouched p (reader_in v) (reader_in (last_of v xs)) ⊎ SawDeleted p (saw xs)
  vault_only_by_deletion y p s =
      rw (steps_saw xs v q)
      (subst (λ (r : Reader). Untouched p (reader_in v) r ⊎ SawDeleted p (exchanges core (reader_in v) (events_of xs))) (sym (steps_end xs v q))
      (only_by_deletion core core_holds (reader_in v) y p s (events_of xs)))

  -- ---- request [7]: a buffer with an origin holds the template of that page, which is stored

  -- from a start of which that is true, as one without origins (`faithful_start`)
  pub vault_faithful : LegalVault v → Faithful (reader_in v) → HeldPages (last_of v xs).settings (last_of v xs).memory
  vault_faithful l f =
      pages_held (last_of v xs).settings (last_of v xs).memory
      (λ b p.
      subst (λ (r : Reader). (buffer b r.guarded).origin ≡ from_page p → Holds core core_holds r b p) (sym (steps_end xs v q))
      (ever_faithful core core_holds (reader_in v) l f (events_of xs) b p))

  -- ---- request [2]: "Stored settings keep their own code.", whatever bytes the settings are, unless a run asks for parameter 6 and is answered 00h

  pub vault_code : Unset core (reader_in v) (events_of xs) → (last_of v xs).settings.size ≡ v.settings.size
  vault_code u = ap (λ (r : Reader). r.plain.size) (steps_end xs v q) ∙ code_kept core (events_of xs) (reader_in v) u
