use Rattle.std.proofs.Common.{◌/◌, ◌%◌, ◌<◌, ◌++◌, ap, ◌∙◌, arith, rules}
use lib.Utf8.{encode}
use Rattle.text.proofs.HexWriting.{digit_length, byte_text}
use Rattle.text.proofs.hex.write_byte.Goals as goal

pub push-requires : goal.push-requires
push-requires c =
    let h : c.args.byte < 256 = search rules in
    omega (arith, digit_length (c.args.byte / 16) c.digit_of.result (omega arith) c.digit_of.ensures)

pub push-requires-2 : goal.push-requires-2
push-requires-2 c =
    let h : c.args.byte < 256 = search rules in
    omega (arith, digit_length (c.args.byte / 16) c.digit_of.result (omega arith) c.digit_of.ensures, digit_length (c.args.byte % 16) c.digit_of-2.result (omega arith) c.digit_of-2.ensures, c.push.ensures.len, c.push.ensures.capacity)

pub returns : goal.returns
returns c =
    let h : c.args.byte < 256 = search rules in
    record {
      bytes = c.push-2.ensures.bytes ∙ ap (λ t. t ++ encode c.digit_of-2.result) c.push.ensures.bytes ∙ byte_text _ c.args.byte _ _ h c.digit_of.ensures c.digit_of-2.ensures;
      len = omega (arith, digit_length (c.args.byte / 16) c.digit_of.result (omega arith) c.digit_of.ensures, digit_length (c.args.byte % 16) c.digit_of-2.result (omega arith) c.digit_of-2.ensures, c.push.ensures.len, c.push-2.ensures.len);
      capacity = omega (arith, c.push.ensures.capacity, c.push-2.ensures.capacity);
    }
