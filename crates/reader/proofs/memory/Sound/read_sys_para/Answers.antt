-- The sixteen bytes are made of the settings, each number widened, and of the number of pages.
use mathlib.Core.Path.{refl}
use Rattle.protocol.specs.Reader.{capacity}
use Rattle.protocol.specs.Table.{parameters_of, free_rule, public_of}
use Rattle.protocol.specs.Step.{carry_free}
use Rattle.rules.specs.Settings.{shown_of}
use Rattle.reader.proofs.memory.Sound.read_sys_para.Goals as goal

pub returns : goal.returns
unfolding carry_free free_rule public_of parameters_of shown_of capacity
returns c = rw (c.parameter_bytes.ensures, c.status.ensures, c.shows_found.ensures, c.from.ensures, c.from-2.ensures, c.from-3.ensures) refl
