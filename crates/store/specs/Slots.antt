-- What applying a fragment does to the bytes of a store, and what a row that is asked for is. Assumes nothing: these are definitions.
use Rattle.std.specs.Prelude.{◌≡◌, ℕ, ◌+◌, ◌*◌, ◌<◌, ◌≤◌, Bool, true, false, ◌&&◌, ◌⊎◌, List, length, take, drop, ◌≢◌, nat_lt, slice_index}
use Rattle.line.specs.Size.{rows, columns}
use Rattle.line.specs.Line.{Fragment}
use Rattle.store.specs.Page.{apply, ShowsSame}
use Rattle.store.specs.Layout.{slots, mark_at, version_at, holds, well_formed, page_in}

-- no byte but those of slot i changed
abbrev pub OnlySlot : (s s₁ : List ℕ) → ℕ → Type 0
OnlySlot s s₁ i = (k : ℕ) → (k < 1003 * i) ⊎ (1003 * i + 1003 ≤ k) → slice_index s₁ k ≡ slice_index s k

-- no slot holds page n, and slot i is the lowest that is free
pub record LowestFree (s : List ℕ) (n i : ℕ) : Type 0 where
  pub absent : (k : ℕ) → k < slots s → holds s n k ≡ false
  pub free : mark_at s i ≡ 0
  pub before : (k : ℕ) → k < i → mark_at s k ≢ 0

-- no slot holds page n, and none is free
pub record NoRoom (s : List ℕ) (n : ℕ) : Type 0 where
  pub absent : (k : ℕ) → k < slots s → holds s n k ≡ false
  pub taken : (k : ℕ) → k < slots s → mark_at s k ≢ 0

-- slot i holds page n: the one that held it before, or the lowest that was free; no other slot changed
pub record InSlot (n : ℕ) (s s₁ : List ℕ) (i : ℕ) : Type 0 where
  pub within : i < slots s
  pub here : holds s₁ n i ≡ true
  pub was : (holds s n i ≡ true) ⊎ LowestFree s n i
  pub only : OnlySlot s s₁ i

-- a fragment was applied to the store's pages, in its page's slot
pub record Applied (f : Fragment) (s s₁ : List ℕ) : Type 0 where
  pub long : length s₁ ≡ length s
  pub formed : well_formed s₁ ≡ true
  pub pages : (n : ℕ) → ShowsSame (page_in s₁ n) (apply (page_in s) f n)
  pub slot : (i : ℕ) × InSlot f.page s s₁ i

-- whether row r of page n can be handed back
abbrev pub has_row : (s : List ℕ) (n r : ℕ) → Bool
has_row s n r = well_formed s && ((page_in s n).there && nat_lt r rows)

-- row r of page n begins at place p of the store
pub record RowPlace (s : List ℕ) (n r p : ℕ) : Type 0 where
  pub there : has_row s n r ≡ true
  pub slot : (i : ℕ) × (i < slots s) × (holds s n i ≡ true) × (p ≡ 1003 * i + 3 + 40 * r)

-- t is row r of page n: the forty letters of that part of the store, or nothing
pub record RowOf (s : List ℕ) (n r : ℕ) (t : List ℕ) : Type 0 where
  pub nothing : has_row s n r ≡ false → length t ≡ 0
  pub long : has_row s n r ≡ true → length t ≡ columns
  pub letters : has_row s n r ≡ true → (c : ℕ) → c < columns → slice_index t c ≡ (page_in s n).letters r c
  pub part : has_row s n r ≡ true → (i : ℕ) × (i < slots s) × (holds s n i ≡ true) × (t ≡ take columns (drop (1003 * i + 3 + 40 * r) s))

-- page n stands in the store in version v
pub record VersionOf (s : List ℕ) (n v : ℕ) : Type 0 where
  pub formed : well_formed s ≡ true
  pub there : (page_in s n).there ≡ true
  pub version : v ≡ (page_in s n).version
  pub slot : (i : ℕ) × (i < slots s) × (holds s n i ≡ true) × (v ≡ version_at s i)
