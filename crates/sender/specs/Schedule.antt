-- Which line goes next: round over the pages, row by row. Assumes nothing: these are definitions.
use Rattle.std.specs.Prelude.{◌≡◌, ℕ, zero, suc, ◌+◌, ◌*◌, ◌<◌, cond, Some, None, Option, ◌==◌, nat_lt}
use Rattle.line.specs.Size.{rows}
use Rattle.sender.specs.declared.turns.Schedule.{Schedule}
use Rattle.sender.specs.declared.turns.Turn.{Turn}

-- a number that is out of range counts as 0
unfoldable pub in_range : ℕ → ℕ → ℕ
in_range limit n = cond (nat_lt n limit) n 0

-- the line of a page and a row
abbrev pub line_of : ℕ → ℕ → Turn
line_of p r = record { page = p; row = r }

-- the line that goes now; none with no pages
unfoldable pub turn : ℕ → Schedule → Option Turn
turn pages s = cond (pages == 0) None (Some (line_of (in_range pages s.page) (in_range rows s.row)))

-- the schedule behind a line: the same row of the next page; behind the last page the next row of the first, and behind the last row the first
unfoldable pub one_on : ℕ → ℕ → ℕ → Schedule
one_on pages p r = cond (nat_lt (p + 1) pages) (record { page = p + 1; row = r }) (record { page = 0; row = in_range rows (r + 1) })

-- the schedule once the line has gone; with no pages it stays
unfoldable pub after : ℕ → Schedule → Schedule
after pages s = cond (pages == 0) s (one_on pages (in_range pages s.page) (in_range rows s.row))

-- the schedule once k lines have gone
unfoldable pub after_turns : ℕ → ℕ → Schedule → Schedule
after_turns pages zero s = s
after_turns pages (suc k) s = after pages (after_turns pages k s)

-- the line that goes after k others
abbrev pub turn_at : ℕ → Schedule → ℕ → Option Turn
turn_at pages s k = turn pages (after_turns pages k s)

-- that the line of page p and row r is the k-th to go from s on
abbrev pub Goes : ℕ → Schedule → ℕ → ℕ → ℕ → Type 0
Goes pages s p r k = turn_at pages s k ≡ Some (line_of p r)

-- in any stretch of as many turns as there are lines, wherever it begins, each row of each page goes exactly once
abbrev pub EachLineOnce : Type 0
EachLineOnce =
    (pages : ℕ) (s : Schedule) (p r : ℕ) → p < pages → r < rows → (k : ℕ) × (k < pages * rows) × Goes pages s p r k × ((j : ℕ) → j < pages * rows → Goes pages s p r j → j ≡ k)
