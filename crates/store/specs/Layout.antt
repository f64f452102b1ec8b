-- The bytes of the store: slots of 1,003 bytes, at most 60: a mark (1 if a page is there), the page's number, its version, and a thousand letters row by row, 0 where none is known. Assumes nothing: these are definitions.
use Rattle.std.specs.Prelude.{◌≡◌, ℕ, zero, suc, ◌+◌, ◌*◌, ◌/◌, ◌<◌, Bool, true, false, cond, not, ◌&&◌, ◌||◌, List, length, take, drop, ◌==◌, nat_le, nat_lt, slice_index}
use Rattle.coding.specs.Parity.{is_letter}
use Rattle.store.specs.Page.{Page, Pages, no_page}

-- how many whole slots there are
abbrev pub slots : List ℕ → ℕ
slots s = length s / 1003

-- the bytes of slot i, fewer in a last one that is cut
abbrev pub slot_bytes : List ℕ → ℕ → List ℕ
slot_bytes s i = take 1003 (drop (1003 * i) s)

-- the mark, the page's number, the version and the letters of slot i
abbrev pub mark_at : List ℕ → ℕ → ℕ
mark_at s i = slice_index s (1003 * i)

abbrev pub number_at : List ℕ → ℕ → ℕ
number_at s i = slice_index s (1003 * i + 1)

abbrev pub version_at : List ℕ → ℕ → ℕ
version_at s i = slice_index s (1003 * i + 2)

abbrev pub letter_at : List ℕ → ℕ → ℕ → ℕ → ℕ
letter_at s i r c = slice_index s (1003 * i + 3 + (40 * r + c))

-- whether slot i holds page n
unfoldable pub holds : List ℕ → ℕ → ℕ → Bool
holds s n i = mark_at s i == 1 && number_at s i == n

-- what a letter's byte may be: a letter, or 0
unfoldable pub letter_fine : ℕ → Bool
letter_fine x = x == 0 || is_letter x

-- whether the first n letters from a place on are fine
unfoldable pub letters_fine : List ℕ → ℕ → ℕ → Bool
letters_fine s at zero = true
letters_fine s at (suc k) = letter_fine (slice_index s (at + k)) && letters_fine s at k

-- whether the page of slot i, if it holds one, stands in none of the first j slots
unfoldable pub alone : List ℕ → ℕ → ℕ → Bool
alone s i zero = true
alone s i (suc j) = not (holds s (number_at s i) j && mark_at s i == 1) && alone s i j

-- whether slot i is as it should be: one of sixty, whole, with a mark, letters, and a page that no slot before it holds
unfoldable pub slot_fine : List ℕ → ℕ → Bool
slot_fine s i = nat_lt i 60 && (nat_le (1003 * i + 1003) (length s) && (nat_le (mark_at s i) 1 && (letters_fine s (1003 * i + 3) 1000 && alone s i i)))

-- how many slots there are, a last one that is cut counted too
abbrev pub slot_count : List ℕ → ℕ
slot_count s = (length s + 1002) / 1003

-- whether each of the first n slots is as it should be
unfoldable pub fine_below : List ℕ → ℕ → Bool
fine_below s zero = true
fine_below s (suc i) = slot_fine s i && fine_below s i

-- whether a store is as it should be
unfoldable pub well_formed : List ℕ → Bool
well_formed s = fine_below s (slot_count s)

-- slot i is the first that isn't as it should be
pub record FirstFault (s : List ℕ) (i : ℕ) : Type 0 where
  pub within : i < slot_count s
  pub here : slot_fine s i ≡ false
  pub before : (k : ℕ) → k < i → slot_fine s k ≡ true

-- the page that slot i holds
unfoldable pub slot_page : List ℕ → ℕ → Page
slot_page s i = record { there = true; version = version_at s i; letters = λ r c. cond (nat_lt r 25 && nat_lt c 40) (letter_at s i r c) 0 }

-- page n, as one of the first i slots holds it
unfoldable pub page_below : List ℕ → ℕ → ℕ → Page
page_below s n zero = no_page
page_below s n (suc i) = cond (holds s n i) (slot_page s i) (page_below s n i)

-- the pages of a store
unfoldable pub page_in : List ℕ → Pages
page_in s n = page_below s n (slots s)
