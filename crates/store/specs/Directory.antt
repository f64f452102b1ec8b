-- What a directory says of a store: in which slot each page stands. Assumes nothing: these are definitions.
use Rattle.std.specs.Prelude.{◌≡◌, ℕ, ◌<◌, true, false, List, length, None, MatchOption, Option, ◌≢◌, slice_index_or}
use Rattle.store.specs.Layout.{slots, mark_at, holds}
use Rattle.store.specs.declared.directory.Directory.{Directory}

-- what a directory has for page n: none of the first i slots, if none of them holds it, or the one that does
abbrev pub EntryOf : (s : List ℕ) (n : ℕ) (entry : Option ℕ) (i : ℕ) → Type 0
EntryOf s n entry i = MatchOption entry ((j : ℕ) → j < i → holds s n j ≡ false) (λ k. (k < i) × (holds s n k ≡ true))

-- a table has the slot of each page that stands in one of the first i slots
abbrev pub ListsBelow : (s : List ℕ) (table : List (Option ℕ)) (i : ℕ) → Type 0
ListsBelow s table i = (n : ℕ) → n < 256 → EntryOf s n (slice_index_or table n None) i

-- none of the first n slots is free
abbrev pub TakenBelow : (s : List ℕ) (n : ℕ) → Type 0
TakenBelow s n = (k : ℕ) → k < n → k < slots s → mark_at s k ≢ 0

-- a directory agrees with a store
pub record Lists (s : List ℕ) (d : Directory) : Type 0 where
  pub pages : ListsBelow s d.entries (slots s)
  pub taken : TakenBelow s d.taken

-- the same slots of two stores are free, and the same hold each page
pub record SamePlaces (s t : List ℕ) : Type 0 where
  pub long : length t ≡ length s
  pub marks : (j : ℕ) → mark_at t j ≡ mark_at s j
  pub pages : (n j : ℕ) → holds t n j ≡ holds s n j
