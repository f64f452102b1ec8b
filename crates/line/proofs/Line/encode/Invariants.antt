use Rattle.std.proofs.Common.{◌+◌}
use Rattle.line.proofs.Encoding.{Encoded}
use Rattle.line.proofs.Line.encode.Given as goal

-- the bytes before the next letter are the line's
abbrev pub invariant-loop-c : goal.invariant-loop-c
invariant-loop-c l = Encoded l.self l.bytes (6 + l.c)
