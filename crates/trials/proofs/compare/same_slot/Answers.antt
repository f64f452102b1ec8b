use Rattle.std.proofs.Common.{◌≡◌, ◌-◌, length, take, drop, rules, arith, slice_index}
use Rattle.std.proofs.lemmas.Grind.{common_steps}
use Rattle.trials.proofs.Comparing.{slot_page, letters_behind}
use Rattle.trials.proofs.compare.same_slot.Goals as goal

pub returns-then-page-version : goal.returns-then-page-version
returns-then-page-version c = λ long.
    let slot = c.args.slot.now in
    let n = length slot - 3 in
    let rest : length (take n (drop 3 slot)) ≡ 1000 = grind (arith, common_steps, long) in
    let mark : slice_index slot 0 ≡ 1 = search rules in
    let d = slot_page slot (take n (drop 3 slot)) c.args.reference.now c.in-Some.page.now c.has_letters.result (λ k h. letters_behind slot n k long (omega (arith, long)) h) c.in-Some.ensures c.if-page-version.true (c.has_letters.ensures rest) in
    (λ e _. d.0 e, λ f. d.1 (f mark))
