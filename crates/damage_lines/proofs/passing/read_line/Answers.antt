use Rattle.std.proofs.Common.{Some, sym, ap, ◌∙◌}
use Rattle.damage_lines.proofs.Rows.{no_line, spelt_line}
use Rattle.damage_lines.proofs.passing.read_line.Goals as goal

pub returns-in-Ok : goal.returns-in-Ok
returns-in-Ok c =
    c.ok.ensures.value
    ∙ spelt_line c.args.row.now _ _ c.try_from.result c.trim_newline.ensures (c.in-Ok.ensures.spelt ∙ ap Some (sym c.as_slice.ensures.value)) c.try_from.ensures

pub returns-in-Err-NotHex : goal.returns-in-Err-NotHex
returns-in-Err-NotHex c = no_line c.args.row.now _ c.trim_newline.ensures (c.in-Err-NotHex.ensures.not_hex (cc))
