-- What the two codes promise. Each is a statement that the contract of a function names. Assumes nothing: these are definitions.
use Rattle.std.specs.Prelude.{◌≡◌, ℕ, ◌<◌, ◌≤◌, true, ◌≢◌, Option, Some, None}
use Rattle.coding.specs.Hamming.{distance, encode_number, decode_number}
use Rattle.coding.specs.Parity.{is_letter, encode_letter, decode_letter}

-- r is the number that byte b was sent as, if at most one bit was turned on the way
abbrev pub CorrectsOne : (b : ℕ) (r : Option ℕ) → Type 0
CorrectsOne b r = (n : ℕ) → n < 16 → distance (encode_number n) b ≤ 1 → r ≡ Some n

-- r says that byte b is no number, if it was sent as one and two bits were turned
abbrev pub DetectsTwo : (b : ℕ) (r : Option ℕ) → Type 0
DetectsTwo b r = (n : ℕ) → n < 16 → distance (encode_number n) b ≡ 2 → r ≡ None

-- r is the letter that byte b was sent as, if no bit was turned
abbrev pub ReadsWhole : (b : ℕ) (r : Option ℕ) → Type 0
ReadsWhole b r = (c : ℕ) → is_letter c ≡ true → distance (encode_letter c) b ≡ 0 → r ≡ Some c

-- r says that byte b is no letter, if it was sent as one and a bit was turned
abbrev pub DetectsOne : (b : ℕ) (r : Option ℕ) → Type 0
DetectsOne b r = (c : ℕ) → is_letter c ≡ true → distance (encode_letter c) b ≡ 1 → r ≡ None

-- any two code words differ in four bits at least
abbrev pub MinimumDistance : Type 0
MinimumDistance = (m n : ℕ) → m < 16 → n < 16 → (m ≢ n) → 4 ≤ distance (encode_number m) (encode_number n)

-- with three bits turned a number is always read as another one
abbrev pub NumberLimitSharp : Type 0
NumberLimitSharp = (n b : ℕ) → n < 16 → b < 256 → distance (encode_number n) b ≡ 3 → (decode_number b < 16) × (decode_number b ≢ n)

-- with two bits turned any letter can be read as another one
abbrev pub LetterLimitSharp : Type 0
LetterLimitSharp =
    (c : ℕ) → is_letter c ≡ true → (b : ℕ) × (b < 256) × (distance (encode_letter c) b ≡ 2) × (is_letter (decode_letter b) ≡ true) × (decode_letter b ≢ c)

-- bytes to try: a code word, one with a bit turned, one with two
abbrev pub Examples : Type 0
Examples = (decode_number 21 ≡ 0) × (decode_number 20 ≡ 0) × (decode_number 22 ≡ 16)
