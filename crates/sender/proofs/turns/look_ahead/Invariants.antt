use Rattle.std.proofs.Common.{◌≡◌}
use Rattle.sender.specs.Schedule.{after_turns}
use Rattle.sender.proofs.turns.look_ahead.Given as goal

-- the turns so far have gone
abbrev pub invariant-loop-gone : goal.invariant-loop-gone
invariant-loop-gone l = l.later ≡ after_turns l.pages l._gone l.schedule
