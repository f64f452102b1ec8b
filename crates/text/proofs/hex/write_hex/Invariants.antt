use Rattle.std.proofs.Common.{◌≡◌, ◌+◌, ◌-◌, ◌*◌, ◌≤◌, ◌++◌, length, take, string_bytes, string_len, string_capacity}
use Rattle.text.specs.Hex.{hex_text}
use Rattle.text.proofs.hex.write_hex.Given as goal

-- the bytes up to here are written, and there is room for the others
abbrev pub invariant-loop-i : goal.invariant-loop-i
invariant-loop-i l =
    (string_bytes l.out ≡ string_bytes l.initial.out ++ hex_text (take l.i l.bytes)) × (string_len l.out + (length l.bytes - l.i) * 3 ≤ string_capacity l.out)
