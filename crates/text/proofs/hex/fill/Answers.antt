use Rattle.std.proofs.Common.{length, ap, arith}
use Rattle.text.proofs.HexReading.{all_read, blank_read, half_read, not_read, byte_read}
use Rattle.text.proofs.hex.fill.Goals as goal

pub returns : goal.returns
returns c = all_read _ _ _ c.loop-high.invariant.read c.in_default.ensures.steps.0

pub loop-high-preserved : goal.loop-high-preserved
loop-high-preserved c =
    let next = c.in-Some.ensures.steps in
    record { read = blank_read _ _ _ c.loop-high.invariant.read _ _ next c.if-high-ne-BLANK.false; room = omega (arith, ap length next) }

pub returns-in_err-low : goal.returns-in_err-low
returns-in_err-low c =
    rw c.from_residual.ensures (half_read _ _ _ c.loop-high.invariant.read _ _ c.in-Some.ensures.steps c.if-high-ne-BLANK.true c.in_err-low.ensures.steps.0)

pub returns-in_err-byte_of : goal.returns-in_err-byte_of
returns-in_err-byte_of c =
    rw c.from_residual-in_err-byte_of.ensures
    (not_read _ _ _ c.loop-high.invariant.read _ _ _ _ c.in-Some.ensures.steps c.if-high-ne-BLANK.true c.in_ok-low.ensures.steps c.in_err-byte_of.ensures)

pub loop-high-preserved-then-high-ne-BLANK : goal.loop-high-preserved-then-high-ne-BLANK
loop-high-preserved-then-high-ne-BLANK c =
    let first = c.in-Some.ensures.steps in
    let second = c.in_ok-low.ensures.steps in
    record {
      read = byte_read _ _ _ c.loop-high.invariant.read _ _ _ _ first c.if-high-ne-BLANK.true second _ _ c.in_ok-byte_of.ensures c.push_reserved.ensures.items;
      room = omega (arith, ap length first, ap length second, c.push_reserved.ensures.len, c.push_reserved.ensures.capacity);
    }
