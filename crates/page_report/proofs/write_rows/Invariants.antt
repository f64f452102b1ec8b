use Rattle.std.proofs.Common.{◌≡◌, ◌++◌, string_bytes}
use Rattle.store.specs.Layout.{page_in}
use Rattle.page_report.specs.Report.{row_lines}
use Rattle.page_report.proofs.write_rows.Given as goal

abbrev pub invariant-loop-at : goal.invariant-loop-at
invariant-loop-at l = string_bytes l.out ≡ string_bytes l.initial.out ++ row_lines (page_in l.store l.page) l.at
