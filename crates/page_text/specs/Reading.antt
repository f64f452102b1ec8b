-- Page texts: what a text of headings and rows says, line by line. Assumes nothing: these are definitions.
use Rattle.std.specs.Prelude.{ℕ, ◌+◌, ◌-◌, ◌*◌, Bool, true, false, cond, not, ◌&&◌, ◌||◌, List, [], ◌∷◌, ◌++◌, length, take, drop, replicate, Some, None, codes, Option, ◌==◌, nat_le, nat_lt, slice_index_or, slice_set}
use Rattle.std.specs.List.{prefix_len}
use Rattle.std.specs.Char.{is_ascii_digit}
use Rattle.coding.specs.Parity.{is_letter}
use Rattle.line.specs.Size.{rows, columns}
use Rattle.text.specs.Lines.{without_return}
use Rattle.text.specs.Number.{digits_value}
use Rattle.page_text.specs.declared.Page.{Page}

-- whether a byte stands within a line: every byte but the newline
abbrev pub in_line : ℕ → Bool
in_line b = not (b == 10)

-- a byte put before the first of some lines
unfoldable pub before_first : ℕ → List (List ℕ) → List (List ℕ)
before_first b [] = (b ∷ []) ∷ []
before_first b (l ∷ ls) = (b ∷ l) ∷ ls

-- the lines of a text: each ends at a newline, the last perhaps without one
unfoldable pub lines_of : List ℕ → List (List ℕ)
lines_of [] = []
lines_of (b ∷ bs) = cond (in_line b) (before_first b (lines_of bs)) ([] ∷ lines_of bs)

-- the bytes after a word that some bytes begin with
unfoldable pub after : List ℕ → List ℕ → Option (List ℕ)
after [] bs = Some bs
after (w ∷ ws) [] = None
after (w ∷ ws) (b ∷ bs) = cond (w == b) (after ws bs) None

-- the decimal number at the front of some bytes, and the bytes after it: all the digits that stand there, one at least and `places` at most (leading zeros are digits too), of a value of at most `greatest`
unfoldable pub read_number : ℕ → ℕ → List ℕ → Option (ℕ × List ℕ)
read_number places greatest bs =
    let n : ℕ = prefix_len is_ascii_digit bs in
    let v : ℕ = digits_value (take n bs) in
    cond (nat_lt 0 n && (nat_le n places && nat_le v greatest)) (Some (v, drop n bs)) None

-- a reading that goes on from what another gave
unfoldable pub and_then : {A B : Type 0} → Option A → (A → Option B) → Option B
and_then None f = None
and_then (Some a) f = f a

-- a heading's page and version: `page 18 version 3`, each a number of one to three digits, 0 to 255
unfoldable pub read_heading : List ℕ → Option (ℕ × ℕ)
read_heading l =
    and_then (after (codes "page ") l) (λ a. and_then (read_number 3 255 a) (λ n.
    and_then (after (codes " version ") n.1) (λ b. and_then (read_number 3 255 b) (λ m.
    cond (length m.1 == 0) (Some (n.0, m.0)) None))))

-- whether every byte is a letter
unfoldable pub all_letters : List ℕ → Bool
all_letters [] = true
all_letters (b ∷ bs) = is_letter b && all_letters bs

-- a row's number and letters: `1 HELLO`, a number of one or two digits, 0 to 24, and at most forty letters
unfoldable pub read_row : List ℕ → Option (ℕ × List ℕ)
read_row l =
    and_then (read_number 2 24 l) (λ n. and_then (after (codes " ") n.1) (λ ls.
    cond (nat_le (length ls) columns && all_letters ls) (Some (n.0, ls)) None))

-- a row's letters, and blanks up to the last column
unfoldable pub padded : List ℕ → List ℕ
padded ls = ls ++ replicate (columns - length ls) 32

-- the letters of a page, with those of row `r` put in their place
unfoldable pub with_row : ℕ → List ℕ → List ℕ → List ℕ
with_row r ls old = take (columns * r) old ++ (padded ls ++ drop (columns * r + columns) old)

-- what one line says
pub data Said : Type 0 where
  nothing : Said
  heading : ℕ → ℕ → Said
  row : ℕ → List ℕ → Said
  unreadable : Said

-- what a line says that is not passed over: a heading, a row, or nothing that can be read
unfoldable pub heading_or_row : Option (ℕ × ℕ) → Option (ℕ × List ℕ) → Said
heading_or_row (Some h) r = heading h.0 h.1
heading_or_row None (Some r) = row r.0 r.1
heading_or_row None None = unreadable

-- what a line says: an empty line, or one that begins with `#`, says nothing
unfoldable pub what_says : List ℕ → Said
what_says [] = nothing
what_says (b ∷ bs) = cond (b == 35) nothing (heading_or_row (read_heading (b ∷ bs)) (read_row (b ∷ bs)))

-- a page that no row is given of yet
unfoldable pub blank_page : ℕ → ℕ → Page
blank_page n v = record { number = n; version = v; letters = replicate (rows * columns) 32 }

-- a page with the letters of a row
unfoldable pub page_with_row : ℕ → List ℕ → Page → Page
page_with_row r ls p = record { number = p.number; version = p.version; letters = with_row r ls p.letters }

-- whether one of some pages has a number
unfoldable pub has_page : ℕ → List Page → Bool
has_page n [] = false
has_page n (p ∷ ps) = p.number == n || has_page n ps

-- the last of some pages changed
unfoldable pub on_last : (Page → Page) → List Page → List Page
on_last f [] = []
on_last f (p ∷ []) = f p ∷ []
on_last f (p ∷ (q ∷ ps)) = p ∷ on_last f (q ∷ ps)

-- a text read so far: the pages begun, and which rows of the last one were given
pub record Reading : Type 0 where
  pub begun : List Page
  pub given : List Bool

-- no row given
unfoldable pub no_rows : List Bool
no_rows = replicate rows false

-- the start of a text
unfoldable pub at_start : Reading
at_start = record { begun = []; given = no_rows }

-- a text read one line further, if that line can be read: no page twice, no row before a heading, no row twice
unfoldable pub read_on : Said → Reading → Option Reading
read_on nothing s = Some s
read_on (heading n v) s =
    cond (has_page n s.begun) None (Some (record { begun = s.begun ++ blank_page n v ∷ []; given = no_rows }))
read_on (row r ls) s =
    cond (length s.begun == 0 || slice_index_or s.given r false) None
    (Some (record { begun = on_last (page_with_row r ls) s.begun; given = slice_set s.given r true }))
read_on unreadable s = None

-- what comes of a text: its pages, in its order, or the place of the first line that can't be read
pub data Outcome : Type 0 where
  pages_read : List Page → Outcome
  bad_line : ℕ → Outcome

-- what comes of the lines from place `k` on, by whether line `k` can be read
unfoldable pub by_reading : ℕ → Option Reading → (Reading → Outcome) → Outcome
by_reading k None f = bad_line k
by_reading k (Some s) f = f s

-- what comes of the lines from place `k` on
unfoldable pub read_lines : ℕ → Reading → List (List ℕ) → Outcome
read_lines k s [] = pages_read s.begun
read_lines k s (l ∷ ls) = by_reading k (read_on (what_says (without_return l)) s) (λ t. read_lines (k + 1) t ls)

-- what comes of a text
unfoldable pub read_text : List ℕ → Outcome
read_text text = read_lines 0 at_start (lines_of text)
