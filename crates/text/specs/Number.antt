-- Numbers that a word writes in decimal digits. Assumes nothing: these are definitions.
use Rattle.std.specs.Prelude.{ℕ, ◌+◌, ◌-◌, ◌*◌, Bool, cond, ◌&&◌, List, length, Some, None, fold, Option, nat_le, nat_lt}
use Rattle.std.specs.Str.{all_ascii_digits}

-- the number that decimal digits write
unfoldable pub digits_value : List ℕ → ℕ
digits_value ds = fold (λ v d. 10 * v + (d - 48)) 0 ds

-- whether a word is decimal digits, one at least, and the number that they write lies between two others, both included
unfoldable pub is_number_in : (least greatest : ℕ) (word : List ℕ) → Bool
is_number_in least greatest word =
    all_ascii_digits word && (nat_lt 0 (length word) && (nat_le least (digits_value word) && nat_le (digits_value word) greatest))

-- the number that a word writes in decimal digits, if it lies between two others, both included
unfoldable pub number_in : (least greatest : ℕ) (word : List ℕ) → Option ℕ
number_in least greatest word = cond (is_number_in least greatest word) (Some (digits_value word)) None
