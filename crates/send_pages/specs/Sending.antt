-- The text that goes: lines in hex, in the schedule's order. Assumes nothing: these are definitions.
use Rattle.std.specs.Prelude.{ℕ, zero, suc, List, [], ◌∷◌, ◌++◌, length, Some, None, Option, slice_index_or}
use Rattle.line.specs.Line.{encode_line}
use Rattle.line.specs.declared.Line.{Line}
use Rattle.sender.specs.Schedule.{turn_at}
use Rattle.sender.specs.declared.turns.Schedule.{Schedule}
use Rattle.sender.specs.declared.turns.Turn.{Turn}
use Rattle.text.specs.Hex.{hex_text}
use Rattle.page_text.specs.Lines.{page_line}
use Rattle.page_text.specs.Reading.{blank_page}
use Rattle.page_text.specs.declared.Page.{Page}

-- a line as it is written: its bytes in hex, and a newline
unfoldable pub line_text : Line → List ℕ
line_text l = hex_text (encode_line l) ++ 10 ∷ []

-- the line of a turn as it is written
unfoldable pub turn_text : List Page → Option Turn → List ℕ
turn_text pages None = []
turn_text pages (Some t) = line_text (page_line (slice_index_or pages t.page (blank_page 0 0)) t.row)

-- the lines of the first k turns from a schedule on
unfoldable pub turns_text : List Page → Schedule → ℕ → List ℕ
turns_text pages s zero = []
turns_text pages s (suc k) = turns_text pages s k ++ turn_text pages (turn_at (length pages) s k)
