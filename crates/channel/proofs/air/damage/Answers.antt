use Rattle.std.proofs.Common.{◌≡◌, length, arith, rules}
use Rattle.channel.proofs.Turning.{turned_within, turned_none, distance_at, letter_at}
use Rattle.channel.proofs.air.damage.Goals as goal

pub returns : goal.returns
returns c =
    let sent = c.args.line.now in
    let p = c.args.rates.now.numbers in
    let q = c.args.rates.now.letters in
    let bits = c.turned_bits-bits.result in
    let came = c.turn_bits.result in
    let d = c.turned_bits-bits.ensures.law in
    let t = c.turn_bits.ensures in
    let long : length c.args.line.now ≡ 46 = search rules in
    record {
      bits = (bits, c.turned_bits-bits.ensures.bits, t);
      state = c.turned_bits-bits.ensures.state;
      limits = turned_within p q sent bits came long d t;
      undamaged = λ zp zq. turned_none p q sent bits came long zp zq d t;
      numbers = λ big k h. omega (arith, distance_at sent bits came long t k (omega arith), (d.numbers k h).always big);
      letters = λ big k lo hi. omega (arith, distance_at sent bits came long t k hi, (letter_at p q bits d k lo hi).always big, (letter_at p q bits d k lo hi).few);
    }
