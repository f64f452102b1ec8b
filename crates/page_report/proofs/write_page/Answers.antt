use Rattle.std.proofs.Common.{string_bytes}
use Rattle.std.proofs.lemmas.Result.{on_ok_weaker}
use Rattle.page_report.proofs.PageReports.{report_there}
use Rattle.page_report.proofs.write_page.Goals as goal

pub returns-in_ok-write_heading-in-Some : goal.returns-in_ok-write_heading-in-Some
returns-in_ok-write_heading-in-Some c =
    on_ok_weaker c.write_rows.result
    (report_there c.args.store.now c.args.page c.into.result c.in-Some.version (string_bytes c.args.out.now) (string_bytes c.write_heading.new.out) (string_bytes c.write_rows.new.out)
    c.into.ensures c.in-Some.ensures.version c.in_ok-write_heading-in-Some.ensures)
    c.write_rows.ensures
