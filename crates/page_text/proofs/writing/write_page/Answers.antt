use Rattle.std.proofs.Common.{◌≡◌, ◌++◌, sym, ap, ◌∙◌, append-nil, arith}
use Rattle.line.specs.Size.{rows}
use Rattle.page_text.specs.Written.{ended, heading_line, rows_text, page_text}
use Rattle.page_text.proofs.WrittenText.{rows_more}
use Rattle.page_text.proofs.writing.write_page.Goals as goal

pub loop-row-init : goal.loop-row-init
unfolding rows_text
loop-row-init c =
    let p = c.args.page.now in
    c.in_ok-write_heading.ensures ∙ ap (λ l. l ++ ended (heading_line p.number p.version)) c.new-out.ensures.items ∙ sym (append-nil (ended (heading_line p.number p.version)))

pub loop-row-preserved : goal.loop-row-preserved
loop-row-preserved c = rows_more c.loop-row.row _ _ _ _ _ c.loop-row.invariant c.in_ok-write_row.ensures (c.rows-rows.ensures.each c.loop-row.row c.loop-row-test.true)

pub returns-clause-text : goal.returns-clause-text
unfolding page_text
returns-clause-text c =
    let p = c.args.page.now in
    let all : c.loop-row.row ≡ rows = omega (arith, c.rows-rows.ensures.long) in
    c.loop-row.invariant ∙ ap (λ r. ended (heading_line p.number p.version) ++ rows_text r p.letters) all
