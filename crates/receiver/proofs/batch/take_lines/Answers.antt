use Rattle.std.proofs.Common.{subst, rules}
use Rattle.receiver.specs.Batch.{TookLines}
use Rattle.receiver.proofs.Calls.{took_lines}
use Rattle.receiver.proofs.batch.take_lines.Goals as goal

pub returns : goal.returns
returns c =
    let a = c.in_ok-directory.ensures in
    subst (λ s. TookLines c.args.lines.now c.args.store.now c.args.counts.now s c.take_each.new.counts) (search rules) (took_lines _ _ _ _ _ a.0 a.1 c.take_each.ensures.taken)
