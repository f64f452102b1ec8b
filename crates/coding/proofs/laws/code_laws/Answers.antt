use Rattle.std.proofs.Common.{refl}
use lib.Count.{ones_in}
use Rattle.coding.specs.Hamming.{distance, code_words, nearest, decode_number}
use Rattle.coding.proofs.Numbers.{minimum_distance, number_limit_sharp}
use Rattle.coding.proofs.Letters.{letter_limit_sharp}
use Rattle.coding.proofs.laws.code_laws.Goals as goal

pub returns : goal.returns
unfolding distance ones_in code_words nearest decode_number
returns c = record { apart = minimum_distance; number_limit = number_limit_sharp; letter_limit = letter_limit_sharp; examples = (refl, refl, refl) }
