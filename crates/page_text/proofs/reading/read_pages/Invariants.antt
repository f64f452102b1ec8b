use Rattle.std.proofs.Common.{◌≡◌, ℕ, drop, length}
use Rattle.page_text.specs.Reading.{read_lines, read_text}
use Rattle.page_text.specs.Code.{reading}
use Rattle.page_text.proofs.TextLines.{parts}
use Rattle.page_text.proofs.reading.read_pages.Given as goal

abbrev pub invariant-loop-place : goal.invariant-loop-place
invariant-loop-place l =
    let i : ℕ = length l.yielded in
    read_lines i (reading l.draft) (drop i (parts l.fn.text)) ≡ read_text l.fn.text
