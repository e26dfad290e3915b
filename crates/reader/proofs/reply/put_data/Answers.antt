-- A buffer is a whole number of packets of each size, and they fit the room.
use mathlib.Core.Path.{◌≡◌, refl, ◌∙◌}
use lib.ListN.{length}
use borrow.Author.Rules.{rules}
use Rattle.protocol.specs.Numbers.{four_bytes}
use Rattle.rules.proofs.Sizes.{size_legal}
use Rattle.reader.proofs.Replies.{is_last, is_not_last, data_accepted, last_accepted, code_size, sending, sent, next_in, again, data_long}
use Rattle.reader.proofs.reply.put_data.Goals as goal
use Rattle.reader.proofs.reply.put_data.Goals.{then-next-end, else-next-end}

pub loop-content-init : goal.loop-content-init
loop-content-init c =
    let z = code_size c.size_of-size.ensures c.requires.legal in
    let s = c.chunks_exact-content-items.ensures in
    rw (c.into_iter-content-iterator.ensures.into_iter_gives, s.size) (z.some, refl, sending c.args.settings.address _ _ _ _ z c.requires.page c.requires.room s.rest)

pub overflow_add-next : goal.overflow_add-next
overflow_add-next c =
    let i = c.loop-content.invariant in
    let x = c.in-Some.ensures.steps in
    let n = next_in i.2 _ _ x.1.0 (x.1.1 ∙ i.1) in
    search rules

pub slice_bounds-put_packet-end : goal.slice_bounds-put_packet-end
slice_bounds-put_packet-end c =
    let i = c.loop-content.invariant in
    let x = c.in-Some.ensures.steps in
    next_in i.2 _ _ x.1.0 (x.1.1 ∙ i.1)

pub loop-content-preserved : goal.loop-content-preserved
loop-content-preserved c =
    let a : length c.args.settings.address ≡ four_bytes = search (rules, c.well_formed) in
    let i = c.loop-content.invariant in
    let x = c.in-Some.ensures.steps in
    (rw (x.0) i.0, x.0 ∙ i.1, again i.2 _ _ x.1.0 (x.1.1 ∙ i.1) _ _ (elim c.if-next-end.branch [ then-next-end w ↦ search is_last | else-next-end w ↦ search is_not_last ]) a c.put_packet.ensures.laid)

pub returns-clause-end : goal.returns-clause-end
returns-clause-end c =
    let z = code_size c.size_of-size.ensures c.requires.legal in
    let a : length c.args.settings.address ≡ four_bytes = search (rules, c.well_formed) in
    rw (← size_legal _ _ c.size_of-size.ensures c.requires.legal, data_long _ _ z c.requires.page a) refl

pub returns-clause-written : goal.returns-clause-written
returns-clause-written c =
    let i = c.loop-content.invariant in
    rw (← size_legal _ _ c.size_of-size.ensures c.requires.legal) (sent i.2 (rw (i.1) at c.in-None.ensures.steps.1.0))

pub put_packet-requires-clause-accepted : goal.put_packet-requires-clause-accepted
put_packet-requires-clause-accepted c =
    let i = c.loop-content.invariant in
    let x = c.in-Some.ensures.steps in
    let l = x.1.1 ∙ i.1 in
    elim c.if-next-end.branch [ then-next-end w ↦ last_accepted c.size_of-size.ensures c.requires.legal _ l _ (w.identifier-is) | else-next-end w ↦ data_accepted c.size_of-size.ensures c.requires.legal _ l _ (w.identifier-is) ]
