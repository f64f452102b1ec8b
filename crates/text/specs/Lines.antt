-- The end of a line of text. Assumes nothing: these are definitions.
use Rattle.std.specs.Prelude.{ℕ, ◌-◌, cond, List, length, take, ◌==◌, slice_index}

-- a line without a byte that it may end with
abbrev pub without_end : ℕ → List ℕ → List ℕ
without_end b l = cond (slice_index l (length l - 1) == b) (take (length l - 1) l) l

-- a line without the carriage return that it may end with
unfoldable pub without_return : List ℕ → List ℕ
without_return l = without_end 13 l

-- a line without the newline that it may end with
unfoldable pub without_newline : List ℕ → List ℕ
without_newline l = without_end 10 l
