-- What becomes of lines of the input that are taken many at once. Assumes nothing: these are definitions.
use Rattle.std.specs.Prelude.{ℕ, cond, List, ◌++◌, length, Some, None, Option, ◌==◌}
use Rattle.receiver.specs.Batch.{RefusedLines, LinesRefusedAt}
use Rattle.receiver.specs.declared.entry.Counts.{Counts}
use Rattle.receiver.specs.declared.refusal.Refusal.TheVariants.{Line}
use Rattle.receive_pages.specs.Refusal.{number}
use Rattle.receive_pages.specs.declared.refusal.Reason.TheVariants.{Receiver, Text}
use Rattle.receive_pages.specs.declared.refusal.Refusal.{Refusal}

-- what is said of the line with number n, by the bytes that it spells: no bytes in hex are refused with number 3 and the line's number, bytes that aren't 46 with number 1 and their length; a line of no byte is passed over
abbrev pub said_of : (n : ℕ) → Option (List ℕ) → Option Refusal
said_of n None = Some (record { reason = Text; place = n })
said_of n (Some bytes) = cond (length bytes == 46) None (cond (length bytes == 0) None (Some (record { reason = Receiver Line; place = length bytes })))

-- the lines that wait with this one: 46 bytes are laid behind them
abbrev pub waiting_with : Option (List ℕ) → List ℕ → List ℕ
waiting_with None waiting = waiting
waiting_with (Some bytes) waiting = cond (length bytes == 46) (waiting ++ bytes) waiting

-- lines were turned away with the number and the place that are said, and nothing changed
pub record TurnedAway (said : Refusal) (bytes s : List ℕ) (k : Counts) (s₁ : List ℕ) (k₁ : Counts) : Type 0 where
  pub refused : RefusedLines (number said.reason) bytes s k s₁ k₁
  pub place : LinesRefusedAt bytes s said.place
