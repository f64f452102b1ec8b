-- A line as it is meant, and the 46 bytes that it is sent as. Assumes nothing: these are definitions.
use Rattle.std.specs.Prelude.{◌≡◌, ℕ, ◌/◌, ◌%◌, ◌<◌, true, cond, ◌&&◌, List, [], ◌∷◌, ◌++◌, map, length, ◌==◌, nat_lt, slice_index}
use Rattle.coding.specs.Hamming.{encode_number}
use Rattle.coding.specs.Parity.{is_letter, encode_letter}
use Rattle.line.specs.Size.{rows, columns}
use Rattle.line.specs.declared.Line.{Line}

-- a line that can be sent: its numbers are in range, and it has forty letters
pub record Valid (m : Line) : Type 0 where
  pub page : m.page < 256
  pub version : m.version < 256
  pub row : m.row < rows
  pub long : length m.letters ≡ columns
  pub letters : (c : ℕ) → c < columns → is_letter (slice_index m.letters c) ≡ true

-- page, version and row, each as sixteens and ones
abbrev pub header_numbers : Line → List ℕ
header_numbers m = m.page / 16 ∷ m.page % 16 ∷ m.version / 16 ∷ m.version % 16 ∷ m.row / 16 ∷ m.row % 16 ∷ []

-- the bytes of a line: six code words, then forty letters with parity
unfoldable pub encode_line : Line → List ℕ
encode_line m = map encode_number (header_numbers m) ++ map encode_letter m.letters

-- letters of a page in a version, by row and column; 0 where there is none
pub record Fragment : Type 0 where
  pub page : ℕ
  pub version : ℕ
  pub letters : ℕ → ℕ → ℕ

-- the letters of a line at their row, and nothing elsewhere
unfoldable pub letters_at : (row : ℕ) (letters : List ℕ) → ℕ → ℕ → ℕ
letters_at row letters r c = cond (r == row && nat_lt c columns) (slice_index letters c) 0

-- what a line says of its page
abbrev pub meaning : Line → Fragment
meaning m = record { page = m.page; version = m.version; letters = letters_at m.row m.letters }
