-- Page texts as they are written: a heading, and then every row of the page. Assumes nothing: these are definitions.
use Rattle.std.specs.Prelude.{ℕ, zero, suc, ◌*◌, List, [], ◌∷◌, ◌++◌, take, drop, codes, decimal}
use Rattle.std.specs.List.{flat_map}
use Rattle.line.specs.Size.{rows, columns}
use Rattle.page_text.specs.declared.Page.{Page}

-- a line with its newline
abbrev pub ended : List ℕ → List ℕ
ended l = l ++ 10 ∷ []

-- a page's heading
unfoldable pub heading_line : ℕ → ℕ → List ℕ
heading_line n v = codes "page " ++ (decimal n ++ (codes " version " ++ decimal v))

-- a page's row r: its number, a blank, and its letters
unfoldable pub row_line : ℕ → List ℕ → List ℕ
row_line r letters = decimal r ++ (32 ∷ take columns (drop (columns * r) letters))

-- the first r rows of a page
unfoldable pub rows_text : ℕ → List ℕ → List ℕ
rows_text zero letters = []
rows_text (suc r) letters = rows_text r letters ++ ended (row_line r letters)

-- the text of a page
unfoldable pub page_text : Page → List ℕ
page_text p = ended (heading_line p.number p.version) ++ rows_text rows p.letters

-- the text of some pages
abbrev pub pages_text : List Page → List ℕ
pages_text ps = flat_map page_text ps
