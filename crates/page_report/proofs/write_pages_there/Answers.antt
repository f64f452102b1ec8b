use Rattle.std.proofs.Common.{◌≡◌, ◌+◌, ◌++◌, string_bytes, ap, sym, ◌∙◌, arith}
use Rattle.page_report.specs.Report.{pages_report, pages_there}
use Rattle.page_report.proofs.PageReports.{there_written, none_written, none_there}
use Rattle.page_report.proofs.write_pages_there.Goals as goal
use Rattle.page_report.proofs.write_pages_there.Goals.{Joined-is_some, then-is_some+in_ok-write_page, else-is_some}

pub loop-page-init : goal.loop-page-init
loop-page-init c = none_there _ _

more : (c : Joined-is_some) → string_bytes c.if-is_some.out ≡ string_bytes c.args.out.now ++ pages_report c.args.store.now (pages_there c.args.store.now (c.loop-page.page + 1))
more c =
    let s = c.args.store.now in
    let before = string_bytes c.args.out.now in
    elim c.if-is_some.branch [
      | then-is_some+in_ok-write_page w ↦
          ap string_bytes w.out-is
          ∙ there_written s before (string_bytes c.loop-page.out) c.loop-page.page c.into.result c.shown_version.result c.into.ensures c.shown_version.ensures.version c.loop-page.invariant _ (sym c.is_some.ensures ∙ w.if-is_some.true) w.in_ok-write_page.ensures
      | else-is_some w ↦
          ap string_bytes w.out-is
          ∙ none_written s before (string_bytes c.loop-page.out) c.loop-page.page c.into.result c.shown_version.result c.into.ensures c.shown_version.ensures.version c.loop-page.invariant (sym c.is_some.ensures ∙ w.if-is_some.false)
    ]

pub loop-page-preserved : goal.loop-page-preserved
loop-page-preserved c = more (goal.at.loop-page-preserved c).Joined-is_some

pub returns-after-is_some : goal.returns-after-is_some
returns-after-is_some c =
    let last : c.loop-page.page + 1 ≡ 256 = omega arith in
    more (goal.at.returns-after-is_some c).Joined-is_some ∙ ap (λ k. string_bytes c.args.out.now ++ pages_report c.args.store.now (pages_there c.args.store.now k)) last
