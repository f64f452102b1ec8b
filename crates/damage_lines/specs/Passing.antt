-- What comes of a row of the input on the air. Assumes nothing: these are definitions.
use Rattle.std.specs.Prelude.{◌≡◌, ℕ, true, false, cond, List, [], ◌∷◌, ◌++◌, length, Some, None, Option, ◌==◌}
use Rattle.line.specs.Damage.{row_line, WithinLimits}
use Rattle.text.specs.Hex.{line_bytes, hex_text}
use Rattle.text.specs.Lines.{without_newline}
use Rattle.channel.specs.Random.{later, comes_about}
use Rattle.channel.specs.Air.{Damaged}
use Rattle.command_line.specs.declared.damage.Settings.{Settings}

-- bytes, if they are as many as a line has
unfoldable pub if_line : Option (List ℕ) → Option (List ℕ)
if_line None = None
if_line (Some l) = cond (length l == 46) (Some l) None

-- the line that a row spells; none if it isn't 46 bytes in hex
unfoldable pub line_in : List ℕ → Option (List ℕ)
line_in row = if_line (line_bytes (without_newline row))

-- what comes of a line that goes while the generator is in a state: it is lost, or damaged within its limits
abbrev pub Came : (t : Settings) (s : ℕ) (line : List ℕ) (r : Option (List ℕ)) → Type 0
Came t s line None = comes_about t.lose s ≡ true
Came t s line (Some came) = (comes_about t.lose s ≡ false) × Damaged t.numbers t.letters (later 1 s) line came × WithinLimits row_line line came

-- the state after it: one number for the loss, and 104 for the damage
abbrev pub after_line : Settings → ℕ → ℕ
after_line t s = cond (comes_about t.lose s) (later 1 s) (later 105 s)

-- a line that came as it is written; nothing if it was lost
abbrev pub line_text : Option (List ℕ) → List ℕ
line_text None = []
line_text (Some came) = hex_text came ++ 10 ∷ []

-- what is written for a row, by the line in it: what came of the line, or the row itself
abbrev pub Written : (t : Settings) (s : ℕ) (row : List ℕ) (line : Option (List ℕ)) (text : List ℕ) → Type 0
Written t s row None text = text ≡ row
Written t s row (Some line) text = (r : Option (List ℕ)) × Came t s line r × (text ≡ line_text r)

-- the state after a row, by the line in it
abbrev pub after_row : Settings → Option (List ℕ) → ℕ → ℕ
after_row t None s = s
after_row t (Some line) s = after_line t s
