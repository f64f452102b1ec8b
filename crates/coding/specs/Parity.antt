-- Letters with odd parity: a letter from 32 to 127 is sent in seven bits, with an eighth such that an odd number of the eight are set. Assumes nothing: these are definitions.
use Rattle.std.specs.Prelude.{ℕ, ◌+◌, ◌%◌, Bool, cond, ◌&&◌, ◌==◌, nat_le, nat_lt}
use Rattle.std.specs.Int.Count.{ones_in}

-- whether a number is a letter
unfoldable pub is_letter : ℕ → Bool
is_letter c = nat_le 32 c && nat_lt c 128

-- whether an odd number of a byte's eight bits are set
unfoldable pub odd_parity : ℕ → Bool
odd_parity b = ones_in 8 b % 2 == 1

-- the byte that a letter is sent as: its lower seven bits, and the eighth for odd parity
unfoldable pub encode_letter : ℕ → ℕ
encode_letter c = cond (odd_parity (c % 128)) (c % 128) (c % 128 + 128)

-- the letter that a byte is read as; 0 for a byte that is no letter
unfoldable pub decode_letter : ℕ → ℕ
decode_letter b = cond (odd_parity b && is_letter (b % 128)) (b % 128) 0
