use Rattle.bridge.proofs.Parts.{row_at, no_row_at}
use Rattle.bridge.proofs.pages.demborugy_row.Goals as goal

pub returns-in-Some : goal.returns-in-Some
returns-in-Some c = row_at _ _ _ _ c.in-Some.ensures

pub returns-in-None : goal.returns-in-None
returns-in-None c = no_row_at _ _ _ c.in-None.ensures
