-- How a row of the store is shown. Assumes nothing: these are definitions.
use Rattle.std.specs.Prelude.{◌≡◌, ℕ, true, false, cond, List, map, ◌==◌, ◌≢◌}
use Rattle.std.proofs.Math.Utf8.{encodes}
use Rattle.coding.specs.Parity.{is_letter}

-- the block ■ that the letter 127 is shown as
abbrev pub block_sign : ℕ
block_sign = 9632

-- the dot · that is shown where no letter is known
abbrev pub gap_sign : ℕ
gap_sign = 183

-- the sign of a letter of the store: itself, but a block for 127, and a dot for what is no letter
unfoldable pub sign_of : ℕ → ℕ
sign_of c = cond (is_letter c) (cond (c == 127) block_sign c) gap_sign

-- the bytes that a row is shown as: the signs of its letters in UTF-8
unfoldable pub shown : List ℕ → List ℕ
shown row = encodes (map sign_of row)

-- each letter has a sign of its own, and a letter is never shown as a gap
abbrev pub SignsDiffer : Type 0
SignsDiffer =
    ((a b : ℕ) → is_letter a ≡ true → is_letter b ≡ true → sign_of a ≡ sign_of b → a ≡ b) × ((a b : ℕ) → is_letter a ≡ true → is_letter b ≡ false → sign_of a ≢ sign_of b)
