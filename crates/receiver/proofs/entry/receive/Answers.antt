use Rattle.receiver.proofs.Calls.{continues, two_turned_lost}
use Rattle.receiver.proofs.entry.receive.Goals as goal

pub returns-clause-promises : goal.returns-clause-promises
returns-clause-promises c = continues _ _ _ _ c.take_line-done.ensures

pub returns-clause-two_turned : goal.returns-clause-two_turned
returns-clause-two_turned c = two_turned_lost _ _ _ _ _ _ c.take_line-done.ensures c.count.ensures
