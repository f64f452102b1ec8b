use Rattle.std.proofs.Common.{◌≡◌, ◌++◌, vec_items}
use Rattle.page_text.specs.Written.{ended, heading_line, rows_text}
use Rattle.page_text.proofs.writing.write_page.Given as goal

abbrev pub invariant-loop-row : goal.invariant-loop-row
invariant-loop-row l = vec_items l.out ≡ ended (heading_line l.page.number l.page.version) ++ rows_text l.row l.page.letters
