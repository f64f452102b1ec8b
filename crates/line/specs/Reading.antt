-- What is read of bytes that came: whether they are a line that can be made out, and the fragment of a page that it gives. Assumes nothing: these are definitions.
use Rattle.std.specs.Prelude.{◌≡◌, ℕ, zero, suc, ◌+◌, ◌*◌, ◌<◌, ◌⊎◌, Bool, true, cond, ◌&&◌, List, length, Option, MatchOption, ◌==◌, nat_lt, slice_index}
use Rattle.coding.specs.Hamming.{decode_number}
use Rattle.coding.specs.Parity.{decode_letter}
use Rattle.line.specs.Size.{rows, columns}
use Rattle.line.specs.Line.{Fragment}
use Rattle.line.specs.declared.Header.{Header}

-- the number that byte k is read as
unfoldable pub number_of : List ℕ → ℕ → ℕ
number_of l k = decode_number (slice_index l k)

-- the k-th number of the header, of its sixteens and its ones
unfoldable pub pair_of : List ℕ → ℕ → ℕ
pair_of l k = 16 * number_of l (2 * k) + number_of l (2 * k + 1)

-- r is the number of two such digits, or there is none, since one of them is no number
abbrev pub IsPairOf : (high low : ℕ) (r : Option ℕ) → Type 0
IsPairOf high low r = MatchOption r ((high ≡ 16) ⊎ (low ≡ 16)) (λ n. (high < 16) × (low < 16) × (n ≡ 16 * high + low))

-- the page, the version and the row that the header names
abbrev pub page_of : List ℕ → ℕ
page_of l = pair_of l 0

abbrev pub version_of : List ℕ → ℕ
version_of l = pair_of l 1

abbrev pub row_of : List ℕ → ℕ
row_of l = pair_of l 2

-- whether each of the first n bytes is a number
unfoldable pub all_numbers : List ℕ → ℕ → Bool
all_numbers l zero = true
all_numbers l (suc k) = nat_lt (number_of l k) 16 && all_numbers l k

-- whether bytes are a line that can be made out: a line that can't is lost
unfoldable pub readable : List ℕ → Bool
readable l = length l == 46 && (all_numbers l 6 && nat_lt (row_of l) rows)

-- the letters that came, at the line's row; 0 where none came
unfoldable pub letters_of : List ℕ → ℕ → ℕ → ℕ
letters_of l r c = cond (r == row_of l && nat_lt c columns) (decode_letter (slice_index l (6 + c))) 0

-- what a line that can be made out says of its page
abbrev pub fragment : List ℕ → Fragment
fragment l = record { page = page_of l; version = version_of l; letters = letters_of l }

-- the header of a line that can be made out
pub record HeaderOf (l : List ℕ) (h : Header) : Type 0 where
  pub readable : readable l ≡ true
  pub page : h.page ≡ page_of l
  pub version : h.version ≡ version_of l
  pub row : h.row ≡ row_of l
