use Rattle.std.proofs.Common.{◌<◌, rules}
use Rattle.text.specs.Hex.{between, digit_value}
use Rattle.text.proofs.HexReading.{table, digit_there}
use Rattle.text.proofs.hex.digit_value.Goals as goal

pub returns : goal.returns
unfolding table between digit_value
returns c = let low : c.args.code < 256 = search rules in digit_there c.args.code c.from.result c.then_some.result low c.from.ensures c.then_some.ensures
