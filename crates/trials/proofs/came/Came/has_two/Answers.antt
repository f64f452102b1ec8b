use Rattle.std.proofs.Common.{◌≡◌, Decides, length, take, rules, arith}
use lib.Count.{ones}
use Rattle.std.proofs.lemmas.Grind.{common_steps}
use Rattle.trials.proofs.Slots.{byte_places, any_places, first_bytes}
use Rattle.trials.proofs.came.Came.has_two.Goals as goal

pub returns : goal.returns
returns c =
    let bits = c.args.self.now.bits in
    let all : length bits ≡ 46 = omega arith in
    let long : length (take 6 bits) ≡ 6 = grind (arith, common_steps, all) in
    first_bytes bits 6 (λ x. ones x ≡ 2) c.any.result long
    (any_places _ _ _ _ _ _ (byte_places _ _ _ _ (λ x. ones x ≡ 2) c.iter.ensures.runs c.iter.ensures.rest (λ a b q h. search rules) (λ x b q h. let is : Decides b (ones x.now ≡ 2) = search rules in is)) c.any.result
    c.any.ensures.runs)
