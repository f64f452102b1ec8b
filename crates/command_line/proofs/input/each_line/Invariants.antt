use Rattle.std.proofs.Common.{◌≡◌, ℕ, List, length}
use Rattle.command_line.specs.Input.{TookEach}
use Rattle.command_line.proofs.LinesTaken.{Begins}
use Rattle.command_line.proofs.input.each_line.Given as goal

-- as many lines as the number says were taken, from the front of what the input had
abbrev pub invariant-loop-number : goal.invariant-loop-number
invariant-loop-number g l =
    goal.F-IsAlwaysCallable g l.take
    × ((lines : List (List ℕ)) × (length lines ≡ l.number) × TookEach g.F.FnMut l.initial.take lines l.take
    × Begins (g.R.Read.remaining l.initial.input) lines (g.R.Read.remaining l.input))
