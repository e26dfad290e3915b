-- The acknowledge is twelve bytes long, and there is room for the data packets behind it.
use mathlib.Core.Path.{◌≡◌, ◌∙◌}
use mathlib.Core.List.{[]}
use native.Mathlib.Omega.{arith}
use lib.ListN.{length}
use borrow.Author.Rules.{rules}
use Rattle.protocol.specs.Numbers.{four_bytes, done}
use Rattle.reader.proofs.Replies.{acknowledge_long, both_long, both_laid, sent_length}
use Rattle.reader.proofs.reply.put_upload.Goals as goal

pub put_data-requires-clause-room : goal.put_data-requires-clause-room
put_data-requires-clause-room c =
    let a : length c.args.settings.address ≡ four_bytes = search (rules, c.well_formed) in
    let n = c.put_acknowledge-at.ensures.length ∙ acknowledge_long c.args.settings.address done [] a in
    let r = c.requires.room in
    omega arith

pub returns-clause-length : goal.returns-clause-length
returns-clause-length c = search both_long

pub returns-clause-written : goal.returns-clause-written
returns-clause-written c =
    let s = c.args.settings in
    let a : length c.args.settings.address ≡ four_bytes = search (rules, c.well_formed) in
    let n = c.put_acknowledge-at.ensures.length ∙ acknowledge_long s.address done [] a in
    let r = c.requires.room in
    let d = sent_length s.address s.size c.args.bytes.now a c.requires.legal c.requires.page in
    both_laid _ _ _ c.put_acknowledge-at.ensures.length _ _ _ (omega arith) c.put_acknowledge-at.ensures.written c.put_data.ensures.written
