use Rattle.std.proofs.Common.{◌++◌, string_bytes, ap, ◌∙◌, arith}
use Rattle.page_report.proofs.PageReports.{row_lines_more}
use Rattle.page_report.proofs.write_rows.Goals as goal

pub loop-at-preserved : goal.loop-at-preserved
loop-at-preserved c =
    let w = c.in_ok-show_row.ensures.row in
    row_lines_more c.args.store.now c.args.page c.into.result c.loop-at.at w.0
    (string_bytes c.args.out.now) (string_bytes c.loop-at.out) (string_bytes c.show_row.new.out) (string_bytes c.push.new.self)
    c.into.ensures c.requires c.loop-at-test.true w.1 c.loop-at.invariant w.3 (c.in_ok-push.ensures.bytes ∙ ap (λ x. string_bytes c.show_row.new.out ++ x) (c.in_ok-push.ensures.ascii (omega arith)))
