-- The record has document 01's fresh values, field by field, two numbers 0 are no transfer, and FFFFh is no origin.
use mathlib.Core.Path.{refl}
use Rattle.protocol.specs.Bytes.{four}
use Rattle.protocol.specs.Reader.{fresh}
use Rattle.protocol.specs.Table.{is_buffer}
use Rattle.protocol.specs.Records.{fit_mark, fit_marks, transfer_of, origin_of}
use Rattle.rules.proofs.settings.fresh.Goals as goal

pub returns : goal.returns
unfolding fresh four fit_mark fit_marks is_buffer transfer_of origin_of
returns c = λ t i n b d. refl
