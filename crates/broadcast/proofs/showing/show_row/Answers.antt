use Rattle.broadcast.proofs.Screens.{text_to_screen}
use Rattle.broadcast.proofs.showing.show_row.Goals as goal

pub returns : goal.returns
returns c = record { row = (_, c.row.ensures.part, text_to_screen _ _ _ _ c.row.ensures.part, c.render_row.ensures.written) }
