-- How much a line may be damaged on the way. Assumes nothing: these are definitions.
use Rattle.std.specs.Prelude.{◌≡◌, ℕ, ◌+◌, ◌<◌, ◌≤◌, List, length, slice_index}
use Rattle.coding.specs.Hamming.{distance}
use Rattle.line.specs.Size.{columns}
use Rattle.line.specs.Line.{Valid, encode_line}
use Rattle.line.specs.declared.Line.{Line}

-- a kind of line: how many bytes of numbers and of letters it has, and how many bits of each may be turned on the way
pub record Kind : Type 0 where
  pub numbers : ℕ
  pub letters : ℕ
  pub number_limit : ℕ
  pub letter_limit : ℕ

-- the line that carries a row: six numbers and forty letters
abbrev pub row_line : Kind
row_line = record { numbers = 6; letters = columns; number_limit = 2; letter_limit = 1 }

-- bytes that came for bytes that were sent, with no more bits turned than a kind of line allows
pub record WithinLimits (k : Kind) (sent came : List ℕ) : Type 0 where
  pub sent_long : length sent ≡ k.numbers + k.letters
  pub came_long : length came ≡ k.numbers + k.letters
  pub numbers : (i : ℕ) → i < k.numbers → distance (slice_index sent i) (slice_index came i) ≤ k.number_limit
  pub letters : (c : ℕ) → c < k.letters → distance (slice_index sent (k.numbers + c)) (slice_index came (k.numbers + c)) ≤ k.letter_limit

-- bytes that came are a copy of a line, damaged within the limits
pub record Copy (m : Line) (came : List ℕ) : Type 0 where
  pub valid : Valid m
  pub bytes : (k : ℕ) → slice_index came k < 256
  pub damage : WithinLimits row_line (encode_line m) came

-- the copy brings the letter at row r and column c: each number came within a bit, and the letter's byte undamaged
pub record Brings (m : Line) (came : List ℕ) (r c : ℕ) : Type 0 where
  pub copy : Copy m came
  pub row : m.row ≡ r
  pub column : c < columns
  pub numbers : (k : ℕ) → k < 6 → distance (slice_index (encode_line m) k) (slice_index came k) ≤ 1
  pub letter : distance (slice_index (encode_line m) (6 + c)) (slice_index came (6 + c)) ≡ 0
