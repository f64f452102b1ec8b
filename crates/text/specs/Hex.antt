-- Lines in hex: how bytes are spelled in a line of text. Assumes nothing: these are definitions.
use Rattle.std.specs.Prelude.{◌≡◌, ℕ, ◌+◌, ◌-◌, ◌*◌, ◌/◌, ◌%◌, ◌<◌, Bool, cond, ◌&&◌, List, [], ◌∷◌, ◌++◌, Some, None, Option, ◌==◌, nat_le, nat_lt, slice_index}
use Rattle.std.specs.Option.{option_map}
use Rattle.text.specs.Lines.{without_return}

-- the code of the blank that may stand before, between and after bytes
abbrev pub blank : ℕ
blank = 32

-- whether a code lies between two others, both included
unfoldable pub between : ℕ → ℕ → ℕ → Bool
between low high c = nat_le low c && nat_le c high

-- the value of a hex digit of either case, by its code; 255 for what is no digit
unfoldable pub digit_value : ℕ → ℕ
digit_value c = cond (between 48 57 c) (c - 48) (cond (between 65 70 c) (c - 55) (cond (between 97 102 c) (c - 87) 255))

-- the byte that two digits spell, the high one first; none if one of them is no digit
unfoldable pub byte_of : ℕ → ℕ → Option ℕ
byte_of high low =
    cond (nat_lt (digit_value high) 16 && nat_lt (digit_value low) 16) (Some (16 * digit_value high + digit_value low)) None

-- a byte, if there is one, in front of the bytes of the rest, if those are bytes
unfoldable pub in_front : Option ℕ → Option (List ℕ) → Option (List ℕ)
in_front None rest = None
in_front (Some b) rest = option_map (λ bs. b ∷ bs) rest

-- the bytes that a text spells, two digits each, with blanks anywhere but inside a byte; none if the text isn't that
unfoldable pub hex_bytes : List ℕ → Option (List ℕ)
hex_bytes [] = Some []
hex_bytes (c ∷ []) = cond (c == blank) (Some []) None
hex_bytes (c ∷ d ∷ text) = cond (c == blank) (hex_bytes (d ∷ text)) (in_front (byte_of c d) (hex_bytes text))

-- the bytes that a line spells; none if it isn't bytes in hex
unfoldable pub line_bytes : List ℕ → Option (List ℕ)
line_bytes line = hex_bytes (without_return line)

-- the lower-case digit of a value below 16
unfoldable pub digit_of : ℕ → ℕ
digit_of v = cond (nat_lt v 10) (48 + v) (87 + v)

-- a byte as two digits
unfoldable pub hex_byte : ℕ → List ℕ
hex_byte b = digit_of (b / 16) ∷ digit_of (b % 16) ∷ []

-- bytes as text: two digits each, one blank between two
unfoldable pub hex_text : List ℕ → List ℕ
hex_text [] = []
hex_text (b ∷ []) = hex_byte b
hex_text (b ∷ c ∷ bs) = hex_byte b ++ blank ∷ hex_text (c ∷ bs)

-- whether each of some numbers is a byte
abbrev pub Bytes : List ℕ → Type 0
Bytes bs = (k : ℕ) → slice_index bs k < 256

-- reading what was written gives the same bytes
abbrev pub WrittenIsRead : Type 0
WrittenIsRead = (bs : List ℕ) → Bytes bs → line_bytes (hex_text bs) ≡ Some bs
