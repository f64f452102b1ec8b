-- The lines of an input, taken one after the other. Assumes nothing: these are definitions.
use Rattle.std.specs.Prelude.{◌≡◌, ℕ, ◌+◌, ◌<◌, List, [], ◌∷◌, length, Ok, Result}
use Rattle.std.specs.Borrow.{Bor}
use Rattle.std.specs.Fn.{Mut, Called}
use Rattle.std.specs.Io.BufRead.{take_through, drop_through}
use Rattle.std.specs.List.{FoldsTo}

-- the lines of a text, each with the newline that ends it; the last may have none
abbrev pub AreLinesOf : List ℕ → List (List ℕ) → Type 0
AreLinesOf text [] = text ≡ []
AreLinesOf text (line ∷ lines) = (0 < length line) × (line ≡ take_through 10 text) × AreLinesOf (drop_through 10 text) lines

-- lines with their numbers, from a first number on
abbrev pub numbered : ℕ → List (List ℕ) → List (ℕ × List ℕ)
numbered n [] = []
numbered n (line ∷ lines) = (n, line) ∷ numbered (n + 1) lines

-- lines were taken one after the other, each with its number, and all of them well: a call for each took the taker from f to last
abbrev pub TookEach : {F E : Type 0} → Mut F (ℕ × (Bor (List ℕ) × Unit {0})) (Result Unit E) → F → List (List ℕ) → F → Type 0
TookEach g f lines last = FoldsTo (λ p x q. (line : Bor (List ℕ)) × (line.now ≡ x.1) × Called g p (x.0, (line, tt)) (Ok tt) q) f (numbered 0 lines) last
