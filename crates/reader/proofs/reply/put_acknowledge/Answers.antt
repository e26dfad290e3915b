-- The content is the code and up to 32 bytes.
use mathlib.Core.Path.{◌≡◌, sym, ◌∙◌}
use mathlib.Core.List.{◌∷◌}
use native.Mathlib.Omega.{arith}
use lib.ListN.{length}
use borrow.Author.Rules.{rules}
use Rattle.protocol.specs.Numbers.{four_bytes}
use Rattle.protocol.specs.Codes.{code_number}
use Rattle.protocol.specs.Data.{acknowledge}
use Rattle.reader.proofs.Replies.{content_front, acknowledge_accepted, acknowledge_long}
use Rattle.reader.proofs.reply.put_acknowledge.Goals as goal

pub returns-clause-length : goal.returns-clause-length
returns-clause-length g c =
    let h : length c.args.bytes ≡ g.row.N = search (rules, c.well_formed) in
    let a : length c.args.address ≡ four_bytes = search (rules, c.well_formed) in
    let z : c.copy_from_slice.new.self ≡ c.args.bytes = search rules in
    let e = rw (content_front g.row.N (code_number c.args.code) _ c.args.bytes _ _ h z c.from.ensures) at c.put_packet.ensures.len in
    e ∙ sym (acknowledge_long c.args.address (code_number c.args.code) c.args.bytes a)

pub returns-clause-written : goal.returns-clause-written
unfolding acknowledge
returns-clause-written g c =
    let h : length c.args.bytes ≡ g.row.N = search (rules, c.well_formed) in
    let z : c.copy_from_slice.new.self ≡ c.args.bytes = search rules in
    rw (content_front g.row.N (code_number c.args.code) _ c.args.bytes _ _ h z c.from.ensures) at c.put_packet.ensures.laid

pub put_packet-requires-clause-accepted : goal.put_packet-requires-clause-accepted
put_packet-requires-clause-accepted g c =
    let h : length c.args.bytes ≡ g.row.N = search (rules, c.well_formed) in
    let z : c.copy_from_slice.new.self ≡ c.args.bytes = search rules in
    let f = c.requires.few in
    rw (content_front g.row.N (code_number c.args.code) _ c.args.bytes _ _ h z c.from.ensures) (acknowledge_accepted (code_number c.args.code ∷ c.args.bytes) (omega arith) (omega arith))
