-- Of a legal reader no host notices that its library was salvaged: every call and line switch from then on is answered as it would have been, whatever runs come, whatever is lent with
-- them, and whether a password is accepted or not. For salvage changes the bytes of vacant pages alone, and no command looks at those.
use mathlib.Core.Bool.{true}
use mathlib.Core.Path.{◌≡◌, refl}
use mathlib.Core.List.{List, [], ◌∷◌}
use Prim.Native.Nat.{ℕ, ◌*◌, ◌≤◌}
use native.Mathlib.Omega.{arith}
use lib.ListN.{length}
use Rattle.protocol.specs.Bytes.{part}
use Rattle.protocol.specs.Index.{bit, stored}
use Rattle.protocol.specs.Reader.{Reader, with_library}
use Rattle.protocol.specs.Call.{Shape, call_of, reply_of, switch_of}
use Rattle.protocol.specs.Dialogue.{Event, received, switch, on, finally}
use Rattle.dialogues.specs.History.{exchanges}
use Rattle.protocol.proofs.Promises.Words.Told.{pages, page, has}
use Rattle.protocol.proofs.Promises.Refusals.StaysLegal.{Legal, stays_legal, ever_legal}
use Rattle.offline.specs.Salvage.{Salvaged, salvage_as, salvaged_in}
use Rattle.offline.proofs.Laws.Salvage.{length_salvaged, page_stays}
use Rattle.offline.proofs.Salvage.Refusals.{salvage_kinds}
use Rattle.offline.proofs.Salvage.StaysLegal.{legal_index}
use Rattle.offline.proofs.Laws.Vacant.{AlikeStored, told_alike}

module _ (σ : Shape) (ok : σ.most ≤ 8 * σ.indexed) where
  -- ---- two readers alike but for the bytes of vacant pages, over any sequence of calls and line switches

  -- they stay alike
  pub ever_alike : (es : List Event) (a b : Reader) → Legal σ ok b → AlikeStored a b → AlikeStored (finally σ a es) (finally σ b es)
  unfolding finally
  ever_alike [] a b l k = k
  ever_alike (e ∷ es) a b l k = ever_alike es (on σ a e).after (on σ b e).after (stays_legal σ ok b l e) (told_alike σ ok a b l k e).after

  -- and their hosts see the same
  pub exchanges_alike : (es : List Event) (a b : Reader) → Legal σ ok b → AlikeStored a b → exchanges σ a es ≡ exchanges σ b es
  unfolding exchanges on
  exchanges_alike [] a b l k = refl
  exchanges_alike (received s lent ∷ es) a b l k =
      let t = told_alike σ ok a b l k (received s lent) in
      let rest = exchanges_alike es (call_of σ a s lent).after (call_of σ b s lent).after (stays_legal σ ok b l (received s lent)) t.after in
      λ j. record { run = s; reply = reply_of (t.told j) } ∷ rest j
  exchanges_alike (switch ∷ es) a b l k = exchanges_alike es (switch_of a).after (switch_of b).after (stays_legal σ ok b l switch) (told_alike σ ok a b l k switch).after

  -- ---- a legal reader beside its salvaged library

  module _ (r : Reader) (l : Legal σ ok r) (report : List ℕ) where
    -- it keeps its index, and the bytes of every stored page
    pub salvaged_alike : AlikeStored (salvaged_in σ r report) r
    unfolding salvaged_in salvage_as with_library stored bit
    salvaged_alike =
        record {
          plain = refl;
          index = legal_index σ ok r report l;
          notepad = refl;
          buffer1 = refl;
          buffer2 = refl;
          found = refl;
          long = salvage_kinds σ t x report (λ (e : Salvaged). length e.templates ≡ length t) (λ n. refl) (λ h. length_salvaged t x (pages r) (omega (arith, h.long)));
          pages =
              salvage_kinds σ t x report (λ (e : Salvaged). (q : ℕ) → has r q ≡ true → part (512 * q) 512 e.templates ≡ page r q) (λ n q s. refl)
              (λ h q s. page_stays t x (pages r) (omega (arith, h.long)) q (λ m. s));
        }
      where
        t : List ℕ
        t = r.guarded.templates

        x : List ℕ
        x = r.guarded.index

    -- what a host sees of any sequence of calls and line switches
    pub unnoticed : (es : List Event) → exchanges σ (salvaged_in σ r report) es ≡ exchanges σ r es
    unnoticed es = exchanges_alike es (salvaged_in σ r report) r l salvaged_alike

    -- and all that its caller is told by any call or line switch behind such a sequence: the refusal, the bytes used, the reply's length and the whole reply room
    pub told_unnoticed : (es : List Event) (e : Event) → (on σ (finally σ (salvaged_in σ r report) es) e).told ≡ (on σ (finally σ r es) e).told
    told_unnoticed es e =
        (told_alike σ ok (finally σ (salvaged_in σ r report) es) (finally σ r es) (ever_legal σ ok r l es) (ever_alike es (salvaged_in σ r report) r l salvaged_alike) e).told
