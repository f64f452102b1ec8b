use Rattle.std.proofs.Common.{◌≡◌, ℕ, ◌*◌, ◌<◌, get_or}
use Rattle.channel.specs.Random.{later}
use Rattle.channel.specs.Air.{number_bits, letter_bits}
use Rattle.channel.proofs.air.turned_bits.Given as goal

abbrev pub invariant-loop-number : goal.invariant-loop-number
invariant-loop-number l =
    (l.random.state ≡ later (4 * l.number-index) l.initial.random.state)
    × ((i : ℕ) → i < l.number-index → get_or l.numbers i 0 ≡ number_bits l.rates.numbers (later (4 * i) l.initial.random.state))

abbrev pub invariant-loop-letter : goal.invariant-loop-letter
invariant-loop-letter l =
    (l.random.state ≡ later (2 * l.letter-index) l.initial.random.state)
    × ((c : ℕ) → c < l.letter-index → get_or l.letters c 0 ≡ letter_bits l.rates.letters (later (2 * c) l.initial.random.state))
