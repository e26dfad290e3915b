-- Document 02, request [13]: "Fitters need the parameters before the password." What a locked reader tells of itself, and what it tells again once the password is
-- given. Which commands the lock bars is in Order, and what demand 3 says now in Lock.
use mathlib.Core.Bool.{true, false, cond}
use mathlib.Core.Path.{◌≡◌, refl, sym, ap, ◌∙◌, subst}
use mathlib.Core.List.{List, [], ◌∷◌, ◌++◌, foldr}
use Prim.Native.Nat.{ℕ, ◌+◌, ◌/◌, ◌%◌}
use native.Mathlib.Omega.{arith}
use lib.Dec.{T}
use lib.ListN.{length, length-append}
use Rattle.protocol.specs.declared.Found.TheVariants.{Whole}
use Rattle.protocol.specs.Bytes.{two, total, joined}
use Rattle.protocol.specs.Packet.{sum_of, packet, is_identifier, limit, accepts}
use Rattle.protocol.specs.Finder.{find_of}
use Rattle.protocol.specs.Reader.{Reader, capacity, locked, with_mark}
use Rattle.protocol.specs.Commands.{read_sys_para, verify_password, free, command}
use Rattle.protocol.specs.Data.{acknowledge}
use Rattle.protocol.specs.Table.{status_of, parameters_of, free_rule, public_of}
use Rattle.protocol.specs.Step.{order, hear, carry_free, obey, heed, rested, answer}
use Rattle.protocol.specs.Call.{Shape, Lent, fit_lent, legal, Ended, call_of}
use Rattle.protocol.proofs.Laws.Lists.{by_four}
use Rattle.protocol.proofs.Laws.Answers.{spared}
use Rattle.protocol.proofs.Laws.Locked.{Shut, shut_of, veils, rested_still}
use Rattle.protocol.proofs.Promises.Words.Told.{Gives, answered, word, pages}
use Rattle.protocol.proofs.Promises.Packets.ReadBack.{packet_reads}
use Rattle.protocol.proofs.Promises.Commands.Parameters.{parameters, asked_by}
use Rattle.protocol.proofs.Promises.Packets.Packets.{packet_is, acknowledge_is}
use Rattle.protocol.proofs.Promises.Commands.Opens.{keyed_locked, unlocked_marked, right_password}
use Rattle.protocol.proofs.Promises.Secrets.Lock.{mark, marked_legal}

-- the 16 bytes: status, type, C, level, address, size code, baud factor
abbrev pub listed : ℕ → Reader → List ℕ
listed status r =
    word status ++ (word r.plain.sensor ++ (word (pages r) ++ (word r.plain.level ++ (r.plain.address ++ (word r.plain.size ++ word r.plain.baud)))))

module _ (σ : Shape) (r : Reader) (s : List ℕ) (lent : Lent) (f : T (legal σ r)) (u : T (fit_lent (capacity r.guarded) lent))
    (h : hear r.plain.address s ≡ order (command (free read_sys_para))) where
  abbrev Tells : ℕ → Reader → Type 0
  Tells status t = Gives (acknowledge t.plain.address 0x00 (listed status t)) t s lent (call_of σ r s lent)

  -- "ReadSysPara becomes open while locked"; "status bit 1 from [8] shows as 0 while locked", and bit 2 is the verified mark: the status word is 0. Nothing changes
  pub locked_parameters : T (locked r.plain) → Tells 0 r
  unfolding answer heed obey carry_free free_rule parameters_of joined two status_of capacity
  locked_parameters l =
      let k : Shut r.plain = shut_of σ r f l in
      answered σ r s lent f u _ (rw (h, rested_still r k.still, veils r k, k.unverified) refl)

  -- not locked: 4 if the verified mark is set, otherwise 0, and by request [8] 2 more if status bit 1 is. An open transfer is ended first, and nothing else changes
  pub reads_parameters : locked r.plain ≡ false → Tells (cond (rested r).plain.verified 4 0 + cond (rested r).guarded.found 2 0) (rested r)
  unfolding answer heed obey carry_free free_rule public_of parameters_of joined two status_of capacity
  reads_parameters l = answered σ r s lent f u _ (rw (h, (spared r).lock ∙ l) refl)

-- ---- "With a locked reader the fitter cannot see its baud factor or capacity": he sends twelve bytes, and sees both

-- EF 01, address, 01, length 0003h, 0Fh, sum 0013h
abbrev pub asking : Reader → List ℕ
asking r = 0xef ∷ 0x01 ∷ (r.plain.address ++ (0x01 ∷ 0x00 ∷ 0x03 ∷ 0x0f ∷ 0x00 ∷ 0x13 ∷ []))

-- EF 01, address, 07, length 0013h, 00h, 16 bytes, and the sum
abbrev pub telling : List ℕ → List ℕ → List ℕ
telling a bytes =
    let sum = (0x07 + 0x00 + 0x13 + foldr ◌+◌ 0 (0x00 ∷ bytes)) % 65536 in
    0xef ∷ 0x01 ∷ (a ++ (0x07 ∷ 0x00 ∷ 0x13 ∷ 0x00 ∷ (bytes ++ (sum / 256 ∷ sum % 256 ∷ []))))

asked : (r : Reader) → length r.plain.address ≡ 4 → hear r.plain.address (asking r) ≡ order (command (free read_sys_para))
unfolding packet two sum_of total accepts is_identifier limit
asked r four = asked_by r.plain.address (0x0f ∷ []) (free read_sys_para) four tt parameters.parameters_read

in_bytes : (a bytes : List ℕ) → length a ≡ 4 → length bytes ≡ 16 → acknowledge a 0x00 bytes ≡ telling a bytes
in_bytes a bytes four long =
    by_four a four (λ (b : List ℕ). acknowledge b 0x00 bytes ≡ telling b bytes)
    (λ i j k l. acknowledge_is (i ∷ j ∷ k ∷ l ∷ []) 0x00 bytes ∙ (rw long at (packet_is i j k l 7 (0x00 ∷ bytes) (omega (arith, long)))))

found : (r : Reader) → length r.plain.address ≡ 4 → find_of (asking r) ≡ Whole 0 3
unfolding packet two sum_of total accepts is_identifier limit
found r four = (packet_reads r.plain.address 0x01 (0x0f ∷ []) four tt).found

-- all twelve are used, and the reply is 28 bytes
pub record Sees (r : Reader) (lent : Lent) (e : Ended) : Type 0 where
  pub used : e.told.used ≡ 12
  pub long : e.told.length ≡ 28
  pub gives : Gives (telling r.plain.address (listed 0 r)) r (asking r) lent e

-- an address has four bytes by its type
pub fitter_sees : (σ : Shape) (r : Reader) (lent : Lent) → T (legal σ r) → T (fit_lent (capacity r.guarded) lent) → T (locked r.plain) → length r.plain.address ≡ 4
    → Sees r lent (call_of σ r (asking r) lent)
fitter_sees σ r lent f u l four = record { used = gives.told.used 0 3 (found r four); long = gives.told.long ∙ simp length-append (omega arith); gives = gives }
  where
    gives : Gives (telling r.plain.address (listed 0 r)) r (asking r) lent (call_of σ r (asking r) lent)
    gives =
        subst (λ (reply : List ℕ). Gives reply r (asking r) lent (call_of σ r (asking r) lent)) (in_bytes r.plain.address (listed 0 r) four (simp length-append (omega arith)))
        (locked_parameters σ r (asking r) lent f u (asked r four) l)

-- ---- once the password is given, status bit 1 shows again, and bit 2 with it

module _ (σ : Shape) (r : Reader) (s : List ℕ) (lent : Lent) (s' : List ℕ) (lent' : Lent) where
  abbrev Shows : Reader → Type 0
  Shows t = Gives (acknowledge r.plain.address 0x00 (listed (4 + cond r.guarded.found 2 0) r)) (mark true r) s' lent' (call_of σ t s' lent')

  pub shows_again : T (legal σ r) → T (locked r.plain) → T (fit_lent (capacity r.guarded) lent) → T (fit_lent (capacity r.guarded) lent')
      → hear r.plain.address s ≡ order (command (free (verify_password r.plain.password))) → hear r.plain.address s' ≡ order (command (free read_sys_para))
      → Shows (call_of σ r s lent).after
  unfolding with_mark
  shows_again f l u u' h h' = subst Shows (sym opened) again
    where
      k : Shut r.plain
      k = shut_of σ r f l

      opened : (call_of σ r s lent).after ≡ mark true r
      opened =
          let still : rested r ≡ r = rested_still r k.still in
          (right_password σ r s lent f u r.plain.password h (ap (λ (x : Reader). x.plain.password) (sym still))).after ∙ ap (mark true) still

      again : Shows (mark true r)
      again =
          subst (λ (t : Reader). Gives (acknowledge t.plain.address 0x00 (listed (cond t.plain.verified 4 0 + cond t.guarded.found 2 0) t)) t s' lent' (call_of σ (mark true r) s' lent'))
          (rested_still (mark true r) k.still)
          (reads_parameters σ (mark true r) s' lent' (marked_legal r (keyed_locked r.plain l) k.still σ true f) u' h' (unlocked_marked (mark true r).plain refl))
