-- The refusals stand in their order; what passes them is a library whose gaps may be closed, and a table that has each origin's new number.
use Rattle.upkeep.proofs.Closing.{bad_length_lem, bad_setting_lem, lies, done}
use Rattle.upkeep.proofs.gaps.close_gaps.Goals as goal

pub returns-then-not-is_fit : goal.returns-then-not-is_fit
returns-then-not-is_fit c = search bad_length_lem

pub returns-then-not-is_sound_of : goal.returns-then-not-is_sound_of
returns-then-not-is_sound_of c = search bad_setting_lem

pub close_library-requires : goal.close_library-requires
close_library-requires c = search lies

pub returns : goal.returns
returns c = search done
