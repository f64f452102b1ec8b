-- What is printed of a store. Assumes nothing: these are definitions.
use Rattle.std.specs.Prelude.{ℕ, zero, suc, Bool, cond, not, ◌&&◌, List, [], ◌∷◌, ◌++◌, map, codes, decimal}
use Rattle.std.specs.List.{flat_map, range_with_len}
use Rattle.std.specs.Str.{bytes_eq}
use Rattle.line.specs.Size.{rows, columns}
use Rattle.store.specs.Layout.{well_formed, page_in}
use Rattle.store.specs.Page.{Page}
use Rattle.receiver.specs.declared.entry.Counts.{Counts}
use Rattle.text.specs.Screen.{shown}

-- the forty letters of a row
unfoldable pub row_letters : Page → ℕ → List ℕ
row_letters p r = map (λ c. p.letters r c) (range_with_len 0 columns)

-- the first k rows of a page, as signs, each with a newline
unfoldable pub row_lines : Page → ℕ → List ℕ
row_lines p zero = []
row_lines p (suc k) = row_lines p k ++ (shown (row_letters p k) ++ 10 ∷ [])

-- the line above the rows of page n in version v
abbrev pub heading_line : ℕ → ℕ → List ℕ
heading_line n v = codes "page " ++ (decimal n ++ (codes " version " ++ (decimal v ++ 10 ∷ [])))

-- the line in place of page n, if it isn't there
abbrev pub missing_line : ℕ → List ℕ
missing_line n = codes "page " ++ (decimal n ++ (codes " not received" ++ 10 ∷ []))

-- page n of a store as it is printed
unfoldable pub page_report : List ℕ → ℕ → List ℕ
page_report s n =
    cond (well_formed s && (page_in s n).there) (heading_line n (page_in s n).version ++ row_lines (page_in s n) rows) (missing_line n)

-- whether page n of a store is printed otherwise than it was shown
abbrev pub shown_otherwise : (before : List ℕ) (s : List ℕ) (n : ℕ) → Bool
shown_otherwise before s n = not (bytes_eq before (page_report s n))

-- the last line: how many lines were lost, and for how many there was no room
abbrev pub counts_line : ℕ → ℕ → List ℕ
counts_line lost full = codes "lost " ++ (decimal lost ++ (codes ", full " ++ (decimal full ++ 10 ∷ [])))

-- the numbers below k of the pages that are there, in order
unfoldable pub pages_there : List ℕ → ℕ → List ℕ
pages_there s zero = []
pages_there s (suc k) = pages_there s k ++ cond (well_formed s && (page_in s k).there) (k ∷ []) []

-- the pages to print: those that are asked for, or all that are there if none is
abbrev pub pages_printed : List ℕ → List ℕ → List ℕ
pages_printed s [] = pages_there s 256
pages_printed s (n ∷ ns) = n ∷ ns

-- pages of a store as they are printed, one after the other
abbrev pub pages_report : List ℕ → List ℕ → List ℕ
pages_report s ns = flat_map (page_report s) ns

-- what is printed at the end
abbrev pub last_report : List ℕ → List ℕ → Counts → List ℕ
last_report s ns k = pages_report s (pages_printed s ns) ++ counts_line k.lost k.full
