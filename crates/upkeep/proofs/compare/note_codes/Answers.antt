use Rattle.upkeep.proofs.Comparing.{other_first, other_second, other_codes, none_noted, one_noted, all_noted}
use Rattle.upkeep.proofs.compare.note_codes.Goals as goal

pub returns-then-notepad1-ne-NOTEPAD : goal.returns-then-notepad1-ne-NOTEPAD
returns-then-notepad1-ne-NOTEPAD c = search other_first

pub returns-then-notepad2-ne-NOTEPAD : goal.returns-then-notepad2-ne-NOTEPAD
returns-then-notepad2-ne-NOTEPAD c = search other_second

pub returns-then-codes-ne-NOTES : goal.returns-then-codes-ne-NOTES
returns-then-codes-ne-NOTES c = search other_codes

pub loop-n-init : goal.loop-n-init
loop-n-init c = search none_noted

pub loop-n-preserved : goal.loop-n-preserved
loop-n-preserved c = search one_noted

pub returns : goal.returns
returns c = search all_noted
