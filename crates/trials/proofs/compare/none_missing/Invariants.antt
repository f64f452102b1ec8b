use Rattle.std.proofs.Common.{ℕ, ◌<◌, IsSome}
use Rattle.store.specs.Writes.{Found}
use Rattle.trials.specs.Told.{told}
use Rattle.trials.proofs.compare.none_missing.Given as goal

abbrev pub invariant-loop-number : goal.invariant-loop-number
invariant-loop-number l = (n : ℕ) → n < l.number → IsSome (told l.reference.pages.items n) → (i : ℕ) × Found l.store n i
