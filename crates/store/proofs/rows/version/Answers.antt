use Rattle.store.proofs.HandedBack.{version_held}
use Rattle.store.proofs.rows.version.Goals as goal

pub returns : goal.returns
returns c = let w = c.in_ok-slot.ensures in rw c.version_in.ensures (version_held c.args.store.now c.args.page _ w.0 w.1)
