use Rattle.std.proofs.Common.{◌≡◌, length}
use Rattle.trials.specs.Told.{RowPut}
use Rattle.trials.proofs.reference.ReferencePage.with_row.Given as goal

abbrev pub invariant-loop-column : goal.invariant-loop-column
invariant-loop-column l = (length l.letters ≡ 1000) × RowPut l.came l.initial.letters l.letters l.column
