use Rattle.std.proofs.Common.{length, string_bytes, zero-mul, refl, ◌∙◌}
use Rattle.send_pages.proofs.Turns.{none_gone, row_gone}
use Rattle.send_pages.proofs.sending.Sending.write_round.Goals as goal

pub loop-row-init : goal.loop-row-init
loop-row-init c =
    let s = c.args.self.now in
    (none_gone s.pages.now s.schedule (string_bytes s.lines) _ (zero-mul (length s.pages.now)), refl)

pub loop-row-preserved : goal.loop-row-preserved
loop-row-preserved c =
    let s = c.args.self.now in
    let same = c.loop-row.invariant.1 in (
      row_gone s.pages.now s.schedule (string_bytes s.lines) c.loop-row._row
          _ _ _ _ c.loop-row.invariant.0 (rw same at c.in_ok-write_row.ensures.written) (rw same at c.in_ok-write_row.ensures.moved),
      c.write_row.ensures.same ∙ same,
    )
