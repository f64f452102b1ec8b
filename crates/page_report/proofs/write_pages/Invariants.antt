use Rattle.std.proofs.Common.{◌≡◌, ◌++◌, drop, string_bytes}
use Rattle.page_report.specs.Report.{pages_report}
use Rattle.page_report.proofs.write_pages.Given as goal

-- what was written, with the pages that are left
abbrev pub invariant-loop-page : goal.invariant-loop-page
invariant-loop-page l = string_bytes l.out ++ pages_report l.store (drop l.page-index l.pages) ≡ string_bytes l.initial.out ++ pages_report l.store l.pages
