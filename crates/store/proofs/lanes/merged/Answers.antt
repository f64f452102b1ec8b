use Rattle.std.proofs.Common.{w8}
use Rattle.std.proofs.lemmas.Simd.{below_from_Fits}
use Rattle.store.proofs.LaneBytes.{lanes_of}
use Rattle.store.proofs.lanes.merged.Goals as goal

pub returns : goal.returns
returns g c = lanes_of g.row.N c.args.came c.args.old c.fits-came.0 (below_from_Fits w8 _ c.fits-came.1)
