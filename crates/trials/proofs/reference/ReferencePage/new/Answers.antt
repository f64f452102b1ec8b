use Rattle.trials.proofs.Telling.{none_known}
use Rattle.trials.proofs.reference.ReferencePage.new.Goals as goal

pub returns-clause-letters : goal.returns-clause-letters
returns-clause-letters c = none_known 1000
