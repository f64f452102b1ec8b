use Rattle.bridge.specs.Numbers.{took, refused}
use Rattle.bridge.proofs.lines.demborugy_take_lines.Goals as goal

pub returns-in-Ok : goal.returns-in-Ok
returns-in-Ok c = took _ _ c.in-Ok.ensures

pub returns-in-Err : goal.returns-in-Err
returns-in-Err c = rw c.from.ensures (refused _ _ _ c.in-Err.ensures)
