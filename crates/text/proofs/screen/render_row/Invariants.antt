use Rattle.std.proofs.Common.{◌≡◌, ◌+◌, ◌-◌, ◌*◌, ◌≤◌, ◌++◌, length, take, string_bytes, string_len, string_capacity}
use Rattle.text.specs.Screen.{shown}
use Rattle.text.proofs.screen.render_row.Given as goal

-- the letters up to here are shown, and there is room for the others
abbrev pub invariant-loop-letter : goal.invariant-loop-letter
invariant-loop-letter l =
    (string_bytes l.out ≡ string_bytes l.initial.out ++ shown (take l.letter-index l.row)) × (string_len l.out + (length l.row - l.letter-index) * 3 ≤ string_capacity l.out)
