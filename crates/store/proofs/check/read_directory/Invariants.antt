use Rattle.store.proofs.Faults.{Passed}
use Rattle.store.proofs.check.read_directory.Given as goal

abbrev pub invariant-loop-slot : goal.invariant-loop-slot
invariant-loop-slot l = Passed l.store l.slot-iterator.iter.rest.now l.slot-iterator.iter.size l.slot-iterator.count l.entries
