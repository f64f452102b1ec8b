-- What the numbers say that C is given, by the definitions of the entries beneath. Assumes nothing: these are definitions.
use Rattle.std.specs.Prelude.{◌≡◌, ℕ, ◌+◌, ◌-◌, ◌*◌, ◌^◌, ◌<◌, true, false, ◌&&◌, List, take, drop}
use Rattle.line.specs.Size.{columns}
use Rattle.store.specs.Layout.{slots, holds, well_formed, page_in}
use Rattle.store.specs.Slots.{has_row, RowOf, VersionOf}
use Rattle.receiver.specs.Entry.{number, refusal, Answers, RefusedAt}
use Rattle.receiver.specs.Batch.{lines_refusal, TookLines, RefusedLines, LinesRefusedAt}
use Rattle.receiver.specs.declared.entry.Counts.{Counts}
use Rattle.receiver.specs.declared.entry.Done.{Done}
use Rattle.receiver.specs.declared.entry.Done.TheVariants.{Took, Lost, Full, Refused}

-- the number of an answer
abbrev pub answer_number : Done → ℕ
answer_number Took = 0
answer_number Lost = 1
answer_number Full = 2
answer_number (Refused f) = 2 + number f

-- a is the number of the answer to line l that comes to store s, which is then s₁
pub record Answered (l s : List ℕ) (a : ℕ) (s₁ : List ℕ) : Type 0 where
  pub done : Done
  pub answers : Answers l s done s₁
  pub number : a ≡ answer_number done

-- p is the place of a refusal, or the largest number where nothing is turned away
pub record PlaceOrNone (l s : List ℕ) (p : ℕ) : Type 0 where
  pub none : refusal l s ≡ 0 → p ≡ 2 ^ 64 - 1
  pub place : 0 < refusal l s → RefusedAt l s p

-- a is the number of the answer to lines laid end to end: 0 if they were taken, 2 + n if they were turned away with number n
pub data AnsweredLines (ls s : List ℕ) (k : Counts) : ℕ → List ℕ → Counts → Type 0 where
  took : (s₁ : List ℕ) (k₁ : Counts) → TookLines ls s k s₁ k₁ → AnsweredLines ls s k 0 s₁ k₁
  refused : (n : ℕ) (s₁ : List ℕ) (k₁ : Counts) → RefusedLines n ls s k s₁ k₁ → AnsweredLines ls s k (2 + n) s₁ k₁

-- p is the place of a refusal of many lines, or the largest number where nothing is turned away
pub record LinesPlaceOrNone (ls s : List ℕ) (p : ℕ) : Type 0 where
  pub none : lines_refusal ls s ≡ 0 → p ≡ 2 ^ 64 - 1
  pub place : 0 < lines_refusal ls s → LinesRefusedAt ls s p

-- the bytes of the store from place p on, so many as k says, are row r of page n: those of its slot, or none
pub record RowAt (s : List ℕ) (n r p k : ℕ) : Type 0 where
  pub row : RowOf s n r (take k (drop p s))
  pub none : has_row s n r ≡ false → (p ≡ 0) × (k ≡ 0)
  pub place : has_row s n r ≡ true → (i : ℕ) × (i < slots s) × (holds s n i ≡ true) × (p ≡ 1003 * i + 3 + 40 * r) × (k ≡ columns)

-- v is the version of page n, or 256 where it isn't in the store
pub record VersionOrNone (s : List ℕ) (n v : ℕ) : Type 0 where
  pub none : (well_formed s && (page_in s n).there) ≡ false → v ≡ 256
  pub version : (well_formed s && (page_in s n).there) ≡ true → VersionOf s n v
