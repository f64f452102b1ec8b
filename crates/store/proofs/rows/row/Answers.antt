use Rattle.std.proofs.Common.{arith}
use Rattle.store.proofs.HandedBack.{no_row, row_part}
use Rattle.store.proofs.rows.row.Goals as goal

pub returns-in-None : goal.returns-in-None
returns-in-None c = no_row c.args.store.now c.args.page c.args.at c.in-None.ensures

pub returns-in-Some : goal.returns-in-Some
returns-in-Some c = row_part c.args.store.now c.args.page c.args.at c.in-Some.place _ c.in-Some.ensures (omega arith)
