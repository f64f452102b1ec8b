-- What is sent of a text's pages. Assumes nothing: these are definitions.
use Rattle.std.specs.Prelude.{◌≡◌, ℕ, ◌<◌, List, length, Some, slice_index_or}
use Rattle.line.specs.Line.{encode_line}
use Rattle.line.specs.Size.{rows}
use Rattle.line.specs.declared.Line.{Line}
use Rattle.receiver.specs.Broadcast.{Among}
use Rattle.sender.specs.Schedule.{turn, line_of}
use Rattle.sender.specs.declared.turns.Schedule.{Schedule}
use Rattle.page_text.specs.Lines.{page_line}
use Rattle.page_text.specs.declared.Page.{Page}

-- a line that sends some row of some page of a text
pub record LineOfText (ps : List Page) (m : Line) : Type 0 where
  pub page : Page
  pub among : Among page ps
  pub row : ℕ
  pub within : row < rows
  pub line : m ≡ page_line page row

-- a broadcast of a text: each line that is sent sends some row of some of its pages, however many rounds it goes
abbrev pub BroadcastOf : List Page → List Line → Type 0
BroadcastOf ps sent = (m : Line) → Among m sent → LineOfText ps m

-- the bytes of the line that the schedule has next: those of its page's row
pub record Sends (ps : List Page) (s : Schedule) (bytes : List ℕ) : Type 0 where
  pub place : ℕ
  pub row : ℕ
  pub turn : turn (length ps) s ≡ Some (line_of place row)
  pub within : place < length ps
  pub low : row < rows
  pub page : Page
  pub at : slice_index_or ps place page ≡ page
  pub encoded : bytes ≡ encode_line (page_line page row)
  pub line : LineOfText ps (page_line page row)
