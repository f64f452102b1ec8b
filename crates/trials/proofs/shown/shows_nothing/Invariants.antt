use Rattle.std.proofs.Common.{◌≡◌, ℕ, ◌<◌, false}
use Rattle.store.specs.Slots.{has_row}
use Rattle.trials.proofs.shown.shows_nothing.Given as goal

abbrev pub invariant-loop-at : goal.invariant-loop-at
invariant-loop-at l = (r : ℕ) → r < l.at → has_row l.store l.number r ≡ false
