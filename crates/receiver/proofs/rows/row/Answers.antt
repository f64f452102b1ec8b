use Rattle.receiver.proofs.Calls.{row_sound, row_text, row_of_run}
use Rattle.receiver.proofs.rows.row.Goals as goal

pub returns : goal.returns
returns c =
    let w = c.row.ensures in
    record { part = w; sound = row_sound _ _ _ _ w; text = row_text _ _ _ _ w; after_run = row_of_run _ _ _ _ w }
