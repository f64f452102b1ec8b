-- What the code's own values stand for when it reads page texts. Assumes nothing: these are definitions.
use Rattle.std.specs.Prelude.{◌≡◌, ℕ, List, ◌++◌, Some, None, Ok, Err, codes, decimal, vec_items, Option, Result}
use Rattle.page_text.specs.declared.reading.Draft.{Draft}
use Rattle.page_text.specs.declared.items.Item.{Item}
use Rattle.page_text.specs.declared.items.Item.TheVariants.{Pass, Heading, Row}
use Rattle.page_text.specs.declared.TextError.{TextError}
use Rattle.page_text.specs.declared.TextError.TheVariants.{Refused, Memory}
use Rattle.page_text.specs.Reading.{Said, nothing, heading, row, unreadable, Reading, Outcome, bad_line}

-- what a line says, by the item that is read of it; of a line that can't be read, there is none
abbrev pub said : Option Item → Said
said (Some Pass) = nothing
said (Some (Heading h)) = heading h.page h.version
said (Some (Row r)) = row r.number r.letters.now
said None = unreadable

-- the text read so far that a draft holds
abbrev pub reading : Draft → Reading
reading d = record { begun = vec_items d.pages; given = d.given }

-- a draft was taken one line further, or the line at `place` was refused, or memory was wanting; in both of these the draft stands as it was
abbrev pub Taken : Option Reading → Draft → Draft → ℕ → Result (Unit {0}) TextError → Type 0
Taken next before draft place (Ok _) = next ≡ Some (reading draft)
Taken next before draft place (Err (Refused k)) = (next ≡ None) × (k ≡ place) × (reading draft ≡ reading before)
Taken next before draft place (Err Memory) = reading draft ≡ reading before

-- an error tells of a text's outcome the line that can't be read, or only that memory was wanting
abbrev pub Tells : Outcome → TextError → Type 0
Tells outcome (Refused k) = outcome ≡ bad_line k
Tells outcome Memory = Unit {0}

-- what is printed of an error: the number of a text that can't be read, and the place of its first line that can't, or that memory was wanting
abbrev pub error_text : TextError → List ℕ
error_text (Refused k) = codes "refused " ++ (decimal 3 ++ (codes ", place " ++ decimal k))
error_text Memory = codes "no memory"

-- some bytes stand as they were, with others after them
pub record Begins (was bytes : List ℕ) : Type 0 where
  pub more : List ℕ
  pub is : bytes ≡ was ++ more

-- a text was appended to some bytes, or memory was wanting, and a part of it may have been
abbrev pub Appended : {E : Type 0} → List ℕ → List ℕ → List ℕ → Result (Unit {0}) E → Type 0
Appended was bytes text (Ok _) = bytes ≡ was ++ text
Appended was bytes text (Err _) = Begins was bytes
