-- What the air does to a line: which bits are turned. Assumes nothing: these are definitions.
use Rattle.std.specs.Prelude.{◌≡◌, ℕ, ◌+◌, ◌*◌, ◌%◌, ◌^◌, ◌<◌, ◌≤◌, cond, List, length, bit_or, bit_xor, slice_index}
use Rattle.std.specs.Int.Count.{ones_in}
use Rattle.line.specs.Damage.{Kind}
use Rattle.channel.specs.Random.{later, drawn_below, comes_about}

-- a byte with two bits set: the one at a place, and another so many places further on, round the byte
abbrev pub two_bits : (place further : ℕ) → ℕ
two_bits place further = bit_or (2 ^ place) (2 ^ ((place + 1 + further) % 8))

-- the bits to turn in a letter's byte, set in a byte, as they are drawn by two numbers from a state on
unfoldable pub letter_bits : (rate s : ℕ) → ℕ
letter_bits rate s = cond (comes_about rate s) (2 ^ drawn_below 8 (later 1 s)) 0

-- the bits to turn in a number's byte, by four numbers: if it is damaged, every other time two
unfoldable pub number_bits : (rate s : ℕ) → ℕ
number_bits rate s = cond (comes_about rate s) (cond (comes_about 500 (later 2 s)) (two_bits (drawn_below 8 (later 1 s)) (drawn_below 7 (later 3 s))) (2 ^ drawn_below 8 (later 1 s))) 0

-- the bits for the bytes of a line, drawn one byte after the other: four numbers for each of the six numbers, two for each letter
pub record Drawn (numbers_rate letters_rate s : ℕ) (bits : List ℕ) : Type 0 where
  pub long : length bits ≡ 46
  pub numbers : (i : ℕ) → i < 6 → slice_index bits i ≡ number_bits numbers_rate (later (4 * i) s)
  pub letters : (c : ℕ) → c < 40 → slice_index bits (6 + c) ≡ letter_bits letters_rate (later (24 + 2 * c) s)

-- bits to turn in a byte: no more than a limit, and by a rate, in a thousand, that some are
pub record BitsBy (limit rate bits : ℕ) : Type 0 where
  pub few : ones_in 8 bits ≤ limit
  pub never : rate ≡ 0 → bits ≡ 0
  pub always : 1000 ≤ rate → 1 ≤ ones_in 8 bits

-- such bits for each byte of a line, with the limits of its kind, by a rate for numbers and one for letters
pub record LineBy (k : Kind) (numbers_rate letters_rate : ℕ) (bits : List ℕ) : Type 0 where
  pub long : length bits ≡ k.numbers + k.letters
  pub numbers : (i : ℕ) → i < k.numbers → BitsBy k.number_limit numbers_rate (slice_index bits i)
  pub letters : (c : ℕ) → c < k.letters → BitsBy k.letter_limit letters_rate (slice_index bits (k.numbers + c))

-- the bytes that come for bytes that were sent, with bits turned
pub record Turned (sent bits came : List ℕ) : Type 0 where
  pub long : length came ≡ length sent
  pub bytes : (k : ℕ) → k < length sent → slice_index came k ≡ bit_xor (slice_index sent k) (slice_index bits k)

-- the bytes that come for bytes that were sent while the generator was in a state
abbrev pub Damaged : (numbers_rate letters_rate s : ℕ) (sent came : List ℕ) → Type 0
Damaged p q s sent came = (bits : List ℕ) × Drawn p q s bits × Turned sent bits came
