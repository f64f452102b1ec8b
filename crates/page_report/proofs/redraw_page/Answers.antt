use Rattle.std.proofs.Common.{◌≡◌, ◌++◌, string_bytes, ap, ◌∙◌}
use Rattle.page_report.specs.Report.{page_report}
use Rattle.page_report.proofs.PageReports.{compared}
use Rattle.page_report.proofs.redraw_page.Goals as goal

pub returns : goal.returns
returns c =
    let s = c.args.store.now in
    let drawn : string_bytes c.write_page.new.out ≡ page_report s c.args.page = c.in_ok-write_page.ensures ∙ ap (λ x. x ++ page_report s c.args.page) c.new-text.ensures.bytes in
    (drawn, compared c.eq-same.result (string_bytes c.args.shown.now) (string_bytes c.write_page.new.out) c.as_str.result.now c.as_str-2.result.now s c.args.page c.as_str.ensures.value c.as_str-2.ensures.value drawn c.eq-same.ensures)
