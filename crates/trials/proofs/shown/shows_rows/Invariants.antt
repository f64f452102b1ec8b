use Rattle.std.proofs.Common.{◌≡◌, ℕ, ◌<◌, true}
use Rattle.store.specs.Slots.{has_row}
use Rattle.trials.specs.Same.{RowShown}
use Rattle.trials.proofs.shown.shows_rows.Given as goal

abbrev pub invariant-loop-at : goal.invariant-loop-at
invariant-loop-at l = (r : ℕ) → r < l.at → has_row l.store l.number r ≡ true → RowShown l.store l.number l.page r
