use Rattle.std.proofs.Common.{◌≡◌, ℕ, ◌<◌}
use Rattle.store.specs.Layout.{page_in}
use Rattle.trials.specs.Text.{text_letter}
use Rattle.trials.proofs.recovery.Recovery.is_whole.Given as goal

abbrev pub invariant-loop-at : goal.invariant-loop-at
invariant-loop-at l = (r : ℕ) → r < l.at → (c : ℕ) → c < 40 → (page_in l.self.store.items l.sent.page).letters r c ≡ text_letter l.sent.page l.sent.version r c
