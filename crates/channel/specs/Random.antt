-- A generator of numbers that look like chance: 64 bits of state, shifted onto themselves three times for each number. Assumes nothing: these are definitions.
use Rattle.std.specs.Prelude.{ℕ, zero, suc, ◌*◌, ◌/◌, ◌%◌, ◌^◌, Bool, cond, ◌==◌, bit_xor, nat_lt}

-- the state that a seed begins with: itself, and a constant for 0, which would stay 0
unfoldable pub seeded : ℕ → ℕ
seeded seed = cond (seed == 0) 0x9E37_79B9_7F4A_7C15 seed

-- a number with its bits moved down by so many places over it
abbrev pub folded_down : (places n : ℕ) → ℕ
folded_down places n = bit_xor n (n / 2 ^ places)

-- a number of 64 bits with its bits moved up by so many places over it
abbrev pub folded_up : (places n : ℕ) → ℕ
folded_up places n = bit_xor n ((n * 2 ^ places) % 2 ^ 64)

-- the state after a state
unfoldable pub next_state : ℕ → ℕ
next_state s = folded_down 27 (folded_up 25 (folded_down 12 s))

-- the state so many numbers later
abbrev pub later : (count s : ℕ) → ℕ
later zero s = s
later (suc count) s = next_state (later count s)

-- the number that is drawn in a state
unfoldable pub drawn : ℕ → ℕ
drawn s = (next_state s * 0x2545_F491_4F6C_DD1D) % 2 ^ 64

-- the number below a limit that is drawn in a state; 0 if there is none
unfoldable pub drawn_below : (limit s : ℕ) → ℕ
drawn_below limit s = cond (limit == 0) 0 (drawn s % limit)

-- whether a chance of so many in a thousand comes about in a state
abbrev pub comes_about : (per_mille s : ℕ) → Bool
comes_about per_mille s = nat_lt (drawn_below 1000 s) per_mille
