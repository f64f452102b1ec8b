-- How large a page is. Assumes nothing: these are definitions.
use Rattle.std.specs.Prelude.{ℕ}

-- the rows of a page
abbrev pub rows : ℕ
rows = 25

-- the letters of a row
abbrev pub columns : ℕ
columns = 40
