use Rattle.std.proofs.Common.{get_or, arith, rules}
use lib.Bits.{bit_xor}
use Rattle.channel.proofs.Turning.{each_filled}
use Rattle.channel.proofs.air.turn_bits.Goals as goal

pub returns : goal.returns
returns c =
    let filled = c.from_fn.ensures.items in
    record {
      long = omega (arith, filled.long);
      bytes = λ k h. each_filled _ _ (λ f i. bit_xor (get_or f.0.now i 0) (get_or f.1.now i 0)) _ 0 46 filled.each (λ p q i y called. search rules) k (omega arith) (omega arith);
    }
