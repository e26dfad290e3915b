-- Document 02, request [2]: "Fresh settings take size code 2. Stored settings keep their own code."
use mathlib.Core.Bool.{Bool, true, false}
use mathlib.Core.Path.{◌≡◌, refl, ap, ◌∙◌, subst}
use mathlib.Core.Logic.{◌⊎◌, inl, inr, ◌≢◌}
use mathlib.Core.List.{List, [], ◌∷◌}
use Prim.Native.Nat.{ℕ, zero, suc}
use lib.Dec.{T}
use Rattle.protocol.specs.Tests.{within}
use Rattle.protocol.specs.Reader.{Reader, fresh, size_of, with_mark, with_transfer, with_tuning, with_password, with_address}
use Rattle.protocol.specs.Commands.{Free, read_sys_para, verify_password, hand_shake, Barred, search_for, store, load_char, up_char, down_char, delet_char, empty, set_sys_para, set_password, set_address, write_notepad, read_notepad, templete_num, read_index_table, barred, command}
use Rattle.protocol.specs.Bytes.{follow}
use Rattle.protocol.specs.Search.{Chip}
use Rattle.protocol.specs.Data.{acknowledge}
use Rattle.protocol.specs.Table.{rule, apply, free_rule, public_of, with_parameter}
use Rattle.protocol.specs.Step.{Heard, order, hear, Said, silence, says, carry_as, carry_free, rested, take_as, answer, step_of, switched}
use Rattle.protocol.specs.Call.{Shape, Lent, reply_of, refused, carried, call_of, switch_refusal, switch_as, switch_of, Ended}
use Rattle.protocol.specs.Records.{fresh_of}
use Rattle.protocol.specs.Dialogue.{Event, received, switch, on, finally}
use Rattle.protocol.proofs.Laws.Logic.{and_l, passed}
use Rattle.protocol.proofs.Laws.Lists.{take_lay}
use Rattle.protocol.proofs.Laws.Answers.{spared, answer_kinds, call_kinds}
use Rattle.protocol.proofs.Promises.Commands.Rows.{parameter}

-- ---- "Fresh settings take size code 2."

pub fresh_code : (t i n b d : List ℕ) → (fresh_of t i n b d).plain.size ≡ 2
unfolding fresh
fresh_code t i n b d = refl

-- it means 128 data bytes
pub fresh_size_lem : (t i n b d : List ℕ) → size_of (fresh_of t i n b d).plain.size ≡ 128
unfolding fresh size_of
fresh_size_lem t i n b d = refl

-- ---- "Stored settings keep their own code."

-- what was heard does not ask for parameter 6, or the reply is not 00h
abbrev pub Denied : Reader → Heard → List ℕ → Type 0
Denied r h reply = (v : ℕ) → h ≡ order (command (barred (set_sys_para 6 v))) → reply ≢ acknowledge r.plain.address 0x00 []

-- no host sets parameter 6 by one of these
abbrev pub Unset : Shape → Reader → List Event → Type 0
Unset σ r [] = Unit {0}
Unset σ r (received s lent ∷ es) = Denied r (hear r.plain.address s) (reply_of (call_of σ r s lent).told) × Unset σ (call_of σ r s lent).after es
Unset σ r (switch ∷ es) = Unset σ (switch_of r).after es

module _ (χ : Chip) (r : Reader) (h : Heard) where
  set_keeps : (k v : ℕ) → h ≡ order (command (barred (set_sys_para k v))) → T (within 4 k 6) → Denied r h (carry_as (rested r) (rule χ (rested r) (set_sys_para k v)) zero).reply
      → (with_parameter k v (rested r).plain).size ≡ (rested r).plain.size
  unfolding with_parameter with_tuning carry_as rule apply follow
  set_keeps k v e t u = go ((parameter k).0 t)
    where
      go : (k ≡ 4) ⊎ ((k ≡ 5) ⊎ (k ≡ 6)) → (with_parameter k v (rested r).plain).size ≡ (rested r).plain.size
      go (inl q) = rw q refl
      go (inr (inl q)) = rw q refl
      go (inr (inr q)) =
          absurd
          (u v (e ∙ ap (λ (j : ℕ). order (command (barred (set_sys_para j v)))) q)
          (rw q (ap (λ (b : List ℕ). acknowledge b 0x00 []) (spared r).address)))

  does_keeps : (c : Barred) → h ≡ order (command (barred c)) → T (passed (rule χ (rested r) c).tests) → Denied r h (carry_as (rested r) (rule χ (rested r) c) zero).reply
      → (apply (rule χ (rested r) c).effect (rested r)).plain.size ≡ (rested r).plain.size
  unfolding rule apply with_transfer with_password with_address
  does_keeps (set_sys_para k v) e t u = set_keeps k v e (search (and_l)) u
  does_keeps (search_for b p n) e t u = refl
  does_keeps (store b p) e t u = refl
  does_keeps (load_char b p) e t u = refl
  does_keeps (up_char b) e t u = refl
  does_keeps (down_char b) e t u = refl
  does_keeps (delet_char p n) e t u = refl
  does_keeps empty e t u = refl
  does_keeps (set_password w) e t u = refl
  does_keeps (set_address b) e t u = refl
  does_keeps (write_notepad p b) e t u = refl
  does_keeps (read_notepad p) e t u = refl
  does_keeps templete_num e t u = refl
  does_keeps (read_index_table p) e t u = refl

  frees_keeps : (c : Free) → (free_rule (public_of (rested r)) c).plain.size ≡ r.plain.size
  unfolding free_rule public_of with_mark
  frees_keeps read_sys_para = (spared r).size
  frees_keeps (verify_password w) = (spared r).size
  frees_keeps hand_shake = (spared r).size

  takes_keeps : (w last : Bool) (got : ℕ) (content : List ℕ) → (take_as r w got content true last).after.plain.size ≡ r.plain.size
  unfolding take_as silence with_transfer
  takes_keeps w true got content = refl
  takes_keeps w false got content = refl

  answer_keeps : Denied r h (answer χ r h).reply → (answer χ r h).after.plain.size ≡ r.plain.size
  unfolding silence says carry_as carry_free
  answer_keeps =
      answer_kinds (λ (o : Said). Denied r h o.reply → o.after.plain.size ≡ r.plain.size) χ r h
      record {
        silent = λ u. refl;
        refuses = λ n u. (spared r).size;
        frees = λ c e u. frees_keeps c;
        takes = λ w last right got content e e' f u. takes_keeps w last got content;
        does = λ c e l t u. does_keeps c e t u ∙ (spared r).size;
      }

pub call_keeps : (σ : Shape) (r : Reader) (s : List ℕ) (lent : Lent) → Denied r (hear r.plain.address s) (reply_of (call_of σ r s lent).told)
    → (call_of σ r s lent).after.plain.size ≡ r.plain.size
unfolding refused carried step_of reply_of
call_keeps σ r s lent =
    call_kinds σ r s lent (λ (e : Ended). Denied r (hear r.plain.address s) (reply_of e.told) → e.after.plain.size ≡ r.plain.size) (λ n u. refl)
    (λ t f u. answer_keeps lent.chip r (hear r.plain.address s) (subst (Denied r (hear r.plain.address s)) (take_lay _ lent.room) u))

pub switch_keeps : (r : Reader) → (switch_of r).after.plain.size ≡ r.plain.size
unfolding switch_of switch_as refused switched with_transfer with_mark
switch_keeps r = go (switch_refusal r.guarded)
  where
    go : (n : ℕ) → (switch_as r n).after.plain.size ≡ r.plain.size
    go zero = refl
    go (suc n) = refl

-- over any other runs, whatever they are answered, and any line switches; whatever the reader, legal or not
pub code_kept : (σ : Shape) (es : List Event) (r : Reader) → Unset σ r es → (finally σ r es).plain.size ≡ r.plain.size
unfolding finally on
code_kept σ [] r u = refl
code_kept σ (received s lent ∷ es) r (u, v) = code_kept σ es (call_of σ r s lent).after v ∙ call_keeps σ r s lent u
code_kept σ (switch ∷ es) r u = code_kept σ es (switch_of r).after u ∙ switch_keeps r
