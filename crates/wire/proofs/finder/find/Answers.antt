-- The tests come in the order of steps 1 to 4, and the start that is found lies in the run, so that what is left of it is no less than 0.
use Rattle.std.proofs.Common.{◌≡◌, ℕ, ◌+◌, ◌-◌, ◌*◌, ◌<◌, ◌≤◌, Bool, true, false, List, length, get_or, take, drop, ap, ◌∙◌, arith, rules, le-ltb, lt-ltb, length-drop, get_or-drop, Option, None, Some}
use Rattle.std.proofs.lemmas.List.{take_rest}
use Rattle.protocol.specs.declared.Found.TheVariants.{Noise, Unfinished, Unfit, Whole}
use Rattle.protocol.specs.Numbers.{head_bytes}
use Rattle.protocol.specs.Bytes.{byte_at, word_at}
use Rattle.protocol.specs.Packet.{accepts, identifier_at, length_at, end_at}
use Rattle.protocol.specs.Finder.{start_of, all_but, find_of, find_from}
use Rattle.wire.proofs.Starts.{start_in}
use Rattle.wire.proofs.finder.find.Goals as goal

-- the list from the place i on, as the code has it
abbrev from : ℕ → List ℕ → List ℕ
from i s = take (length s - i) (drop i s)

from_long : (i : ℕ) (s : List ℕ) → length (from i s) ≡ length s - i
from_long i s = rw (take_rest s i) (length-drop i s)

from_byte : (i k : ℕ) (s : List ℕ) → get_or (from i s) k 0 ≡ byte_at s (i + k)
from_byte i k s = rw (take_rest s i) (get_or-drop i s k 0)

module _ (s : List ℕ) (f : Option ℕ) (e : f ≡ start_of s) where
  noise : (u : ℕ) → f ≡ None → u ≡ all_but s → Noise u ≡ find_of s
  unfolding find_of find_from
  noise u g a = rw (← e, g, a)

  module _ (p : ℕ) (g : f ≡ Some p) where
    no_head : length (from p s) < head_bytes → Unfinished p ≡ find_of s
    unfolding find_of find_from
    no_head l =
        let i = start_in s f p e g in
        let h : length s < p + head_bytes = omega (arith, from_long p s) in
        rw (← e, g, lt-ltb _ _ h)

    -- the head is there, with the length field n, and fit says whether a packet can have it
    module _ (n : ℕ) (fit : Bool) (l : head_bytes ≤ length (from p s)) (a : fit ≡ accepts (get_or (from p s) 6 0) n) (w : n ≡ get_or (from p s) 7 0 * 256 + get_or (from p s) 8 0) where
      headed : p + head_bytes ≤ length s
      headed = omega (arith, from_long p s)

      fits : fit ≡ accepts (identifier_at s p) n
      fits = a ∙ ap (λ (i : ℕ). accepts i n) (from_byte p 6 s)

      long : n ≡ length_at s p
      unfolding word_at
      long = let q : p + 7 + 1 ≡ p + 8 = omega arith in w ∙ rw (from_byte p 7 s, from_byte p 8 s, q)

      unfit : fit ≡ false → Unfit p ≡ find_of s
      unfolding find_of find_from
      unfit t = rw (← e, g, le-ltb _ _ headed, ← long, ← fits, t)

      unfinished : fit ≡ true → length (from head_bytes (from p s)) < n → Unfinished p ≡ find_of s
      unfolding find_of find_from
      unfinished t k =
          let h : length s < end_at p n = omega (arith, headed, from_long p s, from_long head_bytes (from p s)) in
          rw (← e, g, le-ltb _ _ headed, ← long, ← fits, t, lt-ltb _ _ h)

      whole : fit ≡ true → n ≤ length (from head_bytes (from p s)) → Whole p n ≡ find_of s
      unfolding find_of find_from
      whole t k =
          let h : end_at p n ≤ length s = omega (arith, headed, from_long p s, from_long head_bytes (from p s)) in
          rw (← e, g, le-ltb _ _ headed, ← long, ← fits, t, le-ltb _ _ h)

pub returns-in_default : goal.returns-in_default
returns-in_default c = search noise

pub slice_bounds-packet-count : goal.slice_bounds-packet-count
slice_bounds-packet-count c = let i = start_in _ _ _ c.start.ensures c.in-Some.is in omega arith

pub slice_bounds-packet-start : goal.slice_bounds-packet-start
slice_bounds-packet-start c = let i = start_in _ _ _ c.start.ensures c.in-Some.is in search rules

pub returns-in_default-packet : goal.returns-in_default-packet
returns-in_default-packet c = no_head _ _ c.start.ensures _ c.in-Some.is c.in_default-packet.len_below

pub returns-then-not-is_head : goal.returns-then-not-is_head
returns-then-not-is_head c = unfit _ _ c.start.ensures _ c.in-Some.is _ _ c.in-len9-up.len_at_least c.is_head.ensures (c.from-len.ensures ∙ c.from_be_bytes.ensures) c.if-not-is_head.true

pub returns-then-behind-len : goal.returns-then-behind-len
returns-then-behind-len c =
    unfinished _ _ c.start.ensures _ c.in-Some.is _ _ c.in-len9-up.len_at_least c.is_head.ensures (c.from-len.ensures ∙ c.from_be_bytes.ensures) c.if-not-is_head.false c.if-behind-len.true

pub returns : goal.returns
returns c = whole _ _ c.start.ensures _ c.in-Some.is _ _ c.in-len9-up.len_at_least c.is_head.ensures (c.from-len.ensures ∙ c.from_be_bytes.ensures) c.if-not-is_head.false c.if-behind-len.false
