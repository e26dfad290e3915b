-- The sixteen bytes are those of the definition, in its order.
use borrow.Author.Rules.{rules}
use Rattle.reader.proofs.Laws.{parameter_list}
use Rattle.reader.proofs.parameters.parameter_bytes.Goals as goal

pub returns : goal.returns
returns c =
    rw (c.to_be_bytes.ensures, c.to_be_bytes-2.ensures, c.to_be_bytes-3.ensures, c.to_be_bytes-4.ensures, c.to_be_bytes-5.ensures, c.to_be_bytes-6.ensures)
    (parameter_list c.args.status c.args.sensor c.args.pages c.args.level c.args.address c.args.size c.args.baud (search rules))
