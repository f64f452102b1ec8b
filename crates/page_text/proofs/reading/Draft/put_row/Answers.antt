use Rattle.std.proofs.Common.{◌≡◌, ◌-◌, ◌<◌, get_or, subst, arith, rules}
use Rattle.std.specs.Prelude.{IfSome, vec_len, vec_items}
use Rattle.page_text.specs.Code.{reading}
use Rattle.page_text.proofs.DraftPages.{row_taken}
use Rattle.page_text.proofs.reading.Draft.put_row.Goals as goal

pub returns : goal.returns
returns c =
    let d = c.args.self.now in
    let p = c.in_ok-page.page in
    let is = c.in_ok-page.ensures.ok_part in
    let at = subst (λ o. IfSome o (λ x. x.now ≡ get_or (vec_items d.pages) (vec_len d.pages - 1) x.now)) is c.last_mut.ensures.value in
    let some : 0 < vec_len d.pages = search (rules, is, c.last_mut.ensures.variant) in
    row_taken c.args.row.number c.from-index.result c.args.row.letters.now (reading d) (vec_len d.pages - 1) p.now c.set_row.new.self c.from-index.ensures (omega (arith, d.pages.ok.0)) c.if-self-index.false at c.set_row.ensures.number c.set_row.ensures.version c.set_row.ensures.letters
