use Rattle.std.proofs.Common.{◌≡◌, ℕ, ◌<◌, length, get_or}
use Rattle.trials.proofs.recovery.shuffled_rows.Given as goal

abbrev pub invariant-loop-k : goal.invariant-loop-k
invariant-loop-k l = (length l.rows ≡ 25) × ((k : ℕ) → k < 25 → get_or l.rows k 0 < 25)
