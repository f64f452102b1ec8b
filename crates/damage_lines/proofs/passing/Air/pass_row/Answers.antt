use Rattle.std.proofs.Common.{◌++◌, vec_items, sym, ap, ◌∙◌}
use Rattle.damage_lines.specs.Passing.{line_in}
use Rattle.damage_lines.proofs.Rows.{written_line}
use Rattle.damage_lines.proofs.passing.Air.pass_row.Goals as goal

pub returns-in_ok-push-clause-written : goal.returns-in_ok-push-clause-written
returns-in_ok-push-clause-written c =
    let air = c.args.self.now in
    let row = c.args.row.now in
    written_line air.settings air.random.state row c.in-Some.line c.in-Some-carry.came (line_in row)
    (vec_items air.out) _ _
    c.as_bytes.result.now _ (sym c.in_ok-line.ensures ∙ c.in-Some.is) c.in-Some-carry.ensures.came c.clear.ensures.bytes
    (c.as_bytes.ensures.value ∙ c.in_ok-write_hex.ensures.written) (c.in_ok-extend_from_slice.ensures.items ∙ ap (λ o. vec_items o ++ c.as_bytes.result.now) c.carry.ensures.out) c.in_ok-push.ensures.items
