-- The words of a command line. Assumes nothing: these are definitions.
use Rattle.std.specs.Prelude.{◌≡◌, ℕ, cond, List, is_some, None, Ok, Err, Option, Result}
use Rattle.std.specs.IoError.{error_kind}
use Rattle.std.specs.declared.io.Error.{Error}
use Rattle.std.specs.declared.io.ErrorKind.TheVariants.{InvalidData}
use Rattle.text.specs.Number.{number_in}

-- a number within bounds, and not given twice
abbrev pub first_number : {A : Type 0} → Option A → (least greatest : ℕ) → List ℕ → Option ℕ
first_number before least greatest word = cond (is_some before) None (number_in least greatest word)

-- what is said of arguments that could not be read: none of them is known if one isn't UTF-8, and any other error is passed on
abbrev pub Unread : {A : Type 0} → Error → Result (Option A) Error → Type 0
Unread e r = (error_kind e ≡ InvalidData → r ≡ Ok None) × ((error_kind e ≡ InvalidData → ⊥) → r ≡ Err e)
