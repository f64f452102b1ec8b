-- Lines laid end to end, taken one after the other. Assumes nothing: these are definitions.
use Rattle.std.specs.Prelude.{◌≡◌, ℕ, zero, suc, ◌*◌, ◌/◌, ◌%◌, ◌<◌, List, [], ◌∷◌, ◌++◌, length, take, drop, ◌==◌}
use Rattle.receiver.specs.Entry.{turned_away, PlaceOf, counted}
use Rattle.receiver.specs.Runs.{Run}
use Rattle.receiver.specs.Promises.{Continue}
use Rattle.receiver.specs.declared.entry.Done.{Done}
use Rattle.receiver.specs.declared.entry.Counts.{Counts}

-- the first n of lines laid end to end, each 46 bytes
unfoldable pub first_lines : List ℕ → ℕ → List (List ℕ)
first_lines bytes zero = []
first_lines bytes (suc k) = first_lines bytes k ++ (take 46 (drop (46 * k) bytes) ∷ [])

-- all of them
abbrev pub lines_in : List ℕ → List (List ℕ)
lines_in bytes = first_lines bytes (length bytes / 46)

-- why they are turned away: 1 if they aren't whole lines, 2 if the store isn't as it should be, 0 if they are not turned away
abbrev pub lines_refusal : (bytes s : List ℕ) → ℕ
lines_refusal bytes s = turned_away (length bytes % 46 == 0) s

-- the counts with answers more, one after the other
unfoldable pub counted_all : Counts → List Done → Counts
counted_all k [] = k
counted_all k (r ∷ rs) = counted_all (counted k r) rs

-- the first n lines were taken by a run, and counted
pub record TakenFirst (bytes s : List ℕ) (k : Counts) (s₁ : List ℕ) (k₁ : Counts) (n : ℕ) : Type 0 where
  pub answers : List Done
  pub run : Run s (first_lines bytes n) answers s₁
  pub count : k₁ ≡ counted_all k answers

-- the lines were taken by a run of calls, each as if it came alone, and counted; whatever run led to the store, it keeps its promises with these lines after it
pub record TookLines (bytes s : List ℕ) (k : Counts) (s₁ : List ℕ) (k₁ : Counts) : Type 0 where
  pub accepted : lines_refusal bytes s ≡ 0
  pub answers : List Done
  pub run : Run s (lines_in bytes) answers s₁
  pub count : k₁ ≡ counted_all k answers
  pub promises : Continue (lines_in bytes) s answers s₁

-- the lines were turned away with a number, and nothing changed
pub record RefusedLines (f : ℕ) (bytes s : List ℕ) (k : Counts) (s₁ : List ℕ) (k₁ : Counts) : Type 0 where
  pub refused : 0 < f
  pub number : f ≡ lines_refusal bytes s
  pub same : s₁ ≡ s
  pub count : k₁ ≡ k

-- p is the place of a refusal: the length of the lines, or the first slot that isn't as it should be
abbrev pub LinesRefusedAt : (bytes s : List ℕ) (p : ℕ) → Type 0
LinesRefusedAt bytes s p = PlaceOf (lines_refusal bytes s) (length bytes) s p
