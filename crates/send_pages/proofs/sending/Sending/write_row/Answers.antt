use Rattle.std.proofs.Common.{string_bytes, refl, ◌∙◌}
use Rattle.send_pages.proofs.Turns.{none_gone, turn_gone}
use Rattle.send_pages.proofs.sending.Sending.write_row.Goals as goal

pub loop-page-init : goal.loop-page-init
loop-page-init c =
    let s = c.args.self.now in
    (none_gone s.pages.now s.schedule (string_bytes s.lines) 0 refl, refl)

pub loop-page-preserved : goal.loop-page-preserved
loop-page-preserved c =
    let s = c.args.self.now in
    let same = c.loop-page.invariant.1 in (
      turn_gone s.pages.now s.schedule (string_bytes s.lines) c.loop-page._page
          _ _ _ _ c.loop-page.invariant.0 (rw same at c.in_ok-write_turn.ensures.written) (rw same at c.write_turn.ensures.moved),
      c.write_turn.ensures.same ∙ same,
    )
