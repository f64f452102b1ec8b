use Rattle.std.proofs.Common.{length, arith}
use Rattle.broadcast.proofs.Sent.{sends}
use Rattle.broadcast.proofs.Turns.{TurnWithin, turn_within, no_pages}
use Rattle.broadcast.proofs.sending.next_line.Goals as goal
use Rattle.broadcast.proofs.sending.next_line.Goals.{In_ok-turn}

-- the turn's page and row
found : (c : In_ok-turn) → TurnWithin (length c.args.pages.now) c.args.schedule.now c.in_ok-turn.turn
found c = turn_within _ _ _ c.in_ok-turn.ensures.answer

pub returns-in_err-turn-clause-bytes : goal.returns-in_err-turn-clause-bytes
returns-in_err-turn-clause-bytes c = rw c.from_residual.ensures (no_pages _ _ c.in_err-turn.ensures.answer)

pub offset_bounds-pages-turn : goal.offset_bounds-pages-turn
offset_bounds-pages-turn c = omega (arith, (found c).page, c.well_formed)

pub bounds-pages-turn : goal.bounds-pages-turn
bounds-pages-turn c = (found c).page

pub overflow_cast-turn : goal.overflow_cast-turn
overflow_cast-turn c = omega (arith, (found (goal.at.overflow_cast-turn c).In_ok-turn).row)

pub returns-in_err-line-clause-bytes : goal.returns-in_err-line-clause-bytes
returns-in_err-line-clause-bytes c = absurd (omega (arith, (found (goal.at.returns-in_err-line-clause-bytes c).In_ok-turn).row, c.in_err-line.ensures))

pub returns-clause-bytes : goal.returns-clause-bytes
returns-clause-bytes c = sends _ _ c.in_ok-turn.turn _ _ _ (found (goal.at.returns-clause-bytes c).In_ok-turn) c.in_ok-line.ensures c.encode.ensures.bytes
