-- What the steps of applying a line find in the store and leave in it. Assumes nothing: these are definitions.
use Rattle.std.specs.Prelude.{◌≡◌, ℕ, zero, suc, ◌+◌, ◌*◌, ◌<◌, ◌≤◌, Bool, true, false, ◌||◌, ◌⊎◌, List, ◌≢◌, slice_index, slice_index_or}
use Rattle.coding.specs.Parity.{decode_letter}
use Rattle.store.specs.Page.{merge, in_version, ShowsSame}
use Rattle.store.specs.Layout.{slots, mark_at, number_at, version_at, holds, slot_page, page_in}
use Rattle.store.specs.Slots.{OnlySlot, LowestFree}

-- where the letters of row r of slot i begin
abbrev pub row_start : ℕ → ℕ → ℕ
row_start i r = 1003 * i + 3 + 40 * r

-- whether one of the first i slots holds page n
unfoldable pub held_below : List ℕ → ℕ → ℕ → Bool
held_below s n zero = false
held_below s n (suc i) = holds s n i || held_below s n i

-- slot i holds page n
pub record Found (s : List ℕ) (n i : ℕ) : Type 0 where
  pub within : i < slots s
  pub here : holds s n i ≡ true

-- slot i is the lowest that is free
pub record Free (s : List ℕ) (i : ℕ) : Type 0 where
  pub within : i < slots s
  pub here : mark_at s i ≡ 0
  pub before : (k : ℕ) → k < i → mark_at s k ≢ 0

-- slot i was begun with page n in version v, no letter known
pub record Begun (s s₁ : List ℕ) (i n v : ℕ) : Type 0 where
  pub mark : mark_at s₁ i ≡ 1
  pub number : number_at s₁ i ≡ n
  pub version : version_at s₁ i ≡ v
  pub letters : (k : ℕ) → k < 1000 → slice_index s₁ (1003 * i + 3 + k) ≡ 0
  pub only : OnlySlot s s₁ i

-- slot i holds page n as it is in version v: the slot that held it before, or the lowest that was free; no other slot changed
pub record Claimed (s s₁ : List ℕ) (n v i : ℕ) : Type 0 where
  pub within : i < slots s
  pub here : holds s₁ n i ≡ true
  pub shows : ShowsSame (slot_page s₁ i) (in_version (page_in s n) v)
  pub was : (holds s n i ≡ true) ⊎ LowestFree s n i
  pub only : OnlySlot s s₁ i

-- n letters of a line, from byte k of it on, were merged from a place of the store on, and no other byte changed
pub record MergedFrom (s l s₁ : List ℕ) (at k n : ℕ) : Type 0 where
  pub inside : (c : ℕ) → c < n → slice_index s₁ (at + c) ≡ merge (decode_letter (slice_index l (k + c))) (slice_index s (at + c))
  pub outside : (j : ℕ) → (j < at) ⊎ (at + n ≤ j) → slice_index s₁ j ≡ slice_index s j

-- the first n letters of a line were
abbrev pub Merged : (s l s₁ : List ℕ) (at n : ℕ) → Type 0
Merged s l s₁ at n = MergedFrom s l s₁ at 6 n
