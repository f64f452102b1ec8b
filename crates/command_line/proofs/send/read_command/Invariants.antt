use Rattle.std.proofs.Common.{◌≡◌, map, length, string_bytes}
use Rattle.std.specs.Slice.Iter.{iter_rest}
use Rattle.command_line.specs.Send.{asked, asked_behind}
use Rattle.command_line.proofs.send.read_command.Given as goal

-- the words that are left ask, behind what was given, for what all the words ask for
abbrev pub invariant-loop-word : goal.invariant-loop-word
invariant-loop-word l = asked_behind l.rounds (map string_bytes (iter_rest l.words)) ≡ asked (map string_bytes l.fn.words)

abbrev pub decreases-loop-word : goal.decreases-loop-word
decreases-loop-word l = length (iter_rest l.words)
