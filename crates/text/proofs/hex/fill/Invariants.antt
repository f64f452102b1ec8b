use Rattle.std.proofs.Common.{◌≡◌, ◌+◌, ◌/◌, ◌≤◌, length, vec_items, vec_len, vec_capacity}
use Rattle.std.specs.Slice.Iter.{iter_rest}
use Rattle.text.specs.Hex.{hex_bytes}
use Rattle.text.proofs.HexReading.{after}
use Rattle.text.proofs.hex.fill.Given as goal

-- what was read stands in front of what is left, for which there is room
abbrev pub invariant-loop-high : goal.invariant-loop-high
invariant-loop-high l = record {
  read : hex_bytes l.line ≡ after (vec_items l.bytes) (hex_bytes (iter_rest l.codes));
  room : vec_len l.bytes + length (iter_rest l.codes) / 2 ≤ vec_capacity l.bytes;
}
