-- The pages as the reference keeps them: for each number a page, in a version and with its letters row by row, or none. Assumes nothing: these are definitions.
use Rattle.std.specs.Prelude.{◌≡◌, ℕ, ◌+◌, ◌*◌, ◌/◌, ◌%◌, ◌<◌, true, cond, List, Some, None, Option, ◌==◌, ◌≢◌, count_ones, slice_index, slice_index_or}
use Rattle.store.specs.Page.{Page, no_page}
use Rattle.trials.specs.Text.{text_letter}
use Rattle.line.specs.declared.Line.{Line}
use Rattle.trials.specs.declared.came.Came.{Came}
use Rattle.trials.specs.declared.reference.ReferencePage.{ReferencePage}
use Rattle.trials.specs.declared.sent.Sent.{Sent}

-- page n, if it is there
abbrev pub told : (pages : List (Option ReferencePage)) → ℕ → Option ReferencePage
told pages n = slice_index_or pages n None

-- the letter of a page at row r and column c
abbrev pub letter_told : (letters : List ℕ) (r c : ℕ) → ℕ
letter_told letters r c = slice_index letters (40 * r + c)

-- the page that the reference has, or none
abbrev pub page_of : Option ReferencePage → Page
page_of None = no_page
page_of (Some p) = record { there = true; version = p.version; letters = letter_told p.letters }

-- page n
abbrev pub page_told : (pages : List (Option ReferencePage)) → ℕ → Page
page_told pages n = page_of (told pages n)

-- the letter that was sent at the k-th place of page n in version v
abbrev pub sent_at : (n v : ℕ) → ℕ → ℕ
sent_at n v k = text_letter n v (k / 40) (k % 40)

-- each letter of page n that is known is the one that was sent there in the version that the page has
abbrev pub OnlySent : ℕ → ReferencePage → Type 0
OnlySent n p = (k : ℕ) → 0 < slice_index p.letters k → slice_index p.letters k ≡ sent_at n p.version k

-- so it is of every page
abbrev pub AllSent : (pages : List (Option ReferencePage)) → Type 0
AllSent pages = (n : ℕ) (p : ReferencePage) → told pages n ≡ Some p → OnlySent n p

-- a line is the one that is sent
pub record LineOf (sent : Sent) (line : Line) : Type 0 where
  pub page : line.page ≡ sent.page
  pub version : line.version ≡ sent.version
  pub row : line.row ≡ sent.row
  pub letters : (c : ℕ) → c < 40 → slice_index line.letters c ≡ text_letter sent.page sent.version sent.row c

-- two bits are turned in the byte of a number
abbrev pub TwoTurned : List ℕ → Type 0
TwoTurned bits = (i : ℕ) × (i < 6) × (count_ones (slice_index bits i) ≡ 2)

-- the letter of a byte in which these bits were turned; where any was, what was there stays
abbrev pub letter_after : (page version row c bits old : ℕ) → ℕ
letter_after page version row c bits old = cond (bits == 0) (text_letter page version row c) old

-- the first n letters of a line that came were put over those of its row, and no other letter of its page changed
pub record RowPut (came : Came) (s t : List ℕ) (n : ℕ) : Type 0 where
  pub inside : (c : ℕ) → c < n →
      letter_told t came.sent.row c ≡ letter_after came.sent.page came.sent.version came.sent.row c (slice_index came.bits (6 + c)) (letter_told s came.sent.row c)
  pub outside : (k : ℕ) → ((c : ℕ) → c < n → k ≢ 40 * came.sent.row + c) → slice_index t k ≡ slice_index s k
