use Rattle.std.proofs.Common.{◌≡◌, ℕ, ◌<◌, true}
use Rattle.store.specs.Layout.{well_formed}
use Rattle.trials.specs.Same.{PageShown}
use Rattle.trials.proofs.shown.shows_pages.Given as goal

abbrev pub invariant-loop-number : goal.invariant-loop-number
invariant-loop-number l = (n : ℕ) → n < l.number → well_formed l.store ≡ true → PageShown l.store l.reference n
