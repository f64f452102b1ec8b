use Rattle.std.proofs.Common.{arith}
use Rattle.store.proofs.Formed.{formed}
use Rattle.store.proofs.HandedBack.{place_found}
use Rattle.store.proofs.rows.row_place.Goals as goal

pub row_start-requires : goal.row_start-requires
row_start-requires c = let w = c.in_ok-slot.ensures in record { slot = omega (arith, w.1.within, (formed c.args.store.now w.0).few); row = omega (arith, c.if-at.false) }

pub returns : goal.returns
returns c = let w = c.in_ok-slot.ensures in rw c.row_start.ensures (place_found c.args.store.now c.args.page c.args.at _ c.if-at.false w.0 w.1)
