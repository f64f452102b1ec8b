use Rattle.std.proofs.Common.{◌≡◌, ◌++◌, string_bytes}
use Rattle.page_report.specs.Report.{pages_report, pages_there}
use Rattle.page_report.proofs.write_pages_there.Given as goal

-- the pages up to here that are there are written
abbrev pub invariant-loop-page : goal.invariant-loop-page
invariant-loop-page l = string_bytes l.out ≡ string_bytes l.initial.out ++ pages_report l.store (pages_there l.store l.page)
