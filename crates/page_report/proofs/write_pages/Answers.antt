use Rattle.std.proofs.Common.{string_bytes}
use Rattle.page_report.proofs.PageReports.{pages_more, pages_done}
use Rattle.page_report.proofs.write_pages.Goals as goal

pub loop-page-preserved : goal.loop-page-preserved
loop-page-preserved c =
    pages_more c.args.store.now c.args.pages.now c.loop-page.page-index (string_bytes c.loop-page.out) (string_bytes c.write_page.new.out) _
    c.loop-page-test.true c.loop-page.invariant c.in_ok-write_page.ensures

pub returns : goal.returns
returns c = pages_done c.args.store.now c.args.pages.now c.loop-page.page-index (string_bytes c.loop-page.out) _ c.loop-page-test.false c.loop-page.invariant
