-- The lines that send a page. Assumes nothing: these are definitions.
use Rattle.std.specs.Prelude.{◌≡◌, ℕ, ◌*◌, ◌<◌, take, drop}
use Rattle.line.specs.Line.{Valid}
use Rattle.line.specs.Size.{rows, columns}
use Rattle.line.specs.declared.Line.{Line}
use Rattle.page_text.specs.declared.Page.{Page}
use Rattle.page_text.specs.Laws.{Whole}

-- the line of row r of a page
abbrev pub page_line : Page → ℕ → Line
page_line p r = record { page = p.number; version = p.version; row = r; letters = take columns (drop (columns * r) p.letters) }

-- a line that sends row r of a page: if the page is whole, it can be sent
pub record LineOf (p : Page) (r : ℕ) (m : Line) : Type 0 where
  pub row : r < rows
  pub line : m ≡ page_line p r
  pub valid : Whole p → Valid m
