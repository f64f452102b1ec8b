use Rattle.std.proofs.Common.{◌≡◌, ◌<◌}
use Rattle.store.specs.Layout.{letters_fine}
use Rattle.store.proofs.LetterSums.{sums_fine}
use Rattle.store.proofs.check.letters_fine.Given as goal

-- the sums tell of the letters before this one
abbrev pub invariant-loop-byte : goal.invariant-loop-byte
invariant-loop-byte l = (sums_fine l.low l.high ≡ letters_fine l.letters 0 l.byte-index) × (l.low < 64) × (l.high < 256)
