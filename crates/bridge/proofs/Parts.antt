-- What the numbers rest on: a row that is handed back as a part of the store. Assumes nothing.
use Rattle.std.proofs.Common.{◌≡◌, ℕ, false, List, refl}
use Rattle.std.proofs.lemmas.Bool.{both_ways}
use Rattle.store.specs.Slots.{has_row, RowPlace}
use Rattle.store.proofs.HandedBack.{no_row, row_part}
use Rattle.bridge.specs.Numbers.{RowAt}

-- a row by its place and length
pub row_at : (s : List ℕ) (n r p : ℕ) → RowPlace s n r p → RowAt s n r p 40
row_at s n r p w = record { row = row_part s n r p 40 w refl; none = λ e. absurd (both_ways _ e w.there); place = λ _. let i = w.slot in (i.0, i.1, i.2, i.3, refl) }

-- no row by both being 0
pub no_row_at : (s : List ℕ) (n r : ℕ) → has_row s n r ≡ false → RowAt s n r 0 0
no_row_at s n r e = record { row = no_row s n r e; none = λ _. (refl, refl); place = λ t. absurd (both_ways _ e t) }
