-- Each way out is one of the cases of a word: a plus in front, no digits, or digits inside or outside the limits.
use Rattle.std.proofs.Common.{◌≡◌, ◌≤◌, Decides, get_or, sym, ◌∙◌, arith, rules}
use Rattle.text.proofs.Numbers.{none_at_plus, none_unparsed, parsed, chosen, plus_in_front, none_in_front}
use Rattle.text.proofs.number.read_number.Goals as goal
use Rattle.text.proofs.number.read_number.Goals.{Else-starts_with}

pub returns-then-starts_with-clause-value : goal.returns-then-starts_with-clause-value
returns-then-starts_with-clause-value c =
    sym (none_at_plus _ _ _ (plus_in_front c.args.word.now c.starts_with.result (c.starts_with.ensures.byte (omega arith) (omega arith) (λ _ _ h. h)) c.if-starts_with.true))

-- no plus stands in front
plain : (c : Else-starts_with) → get_or c.args.word.now 0 0 ≡ 43 → ⊥
plain c = none_in_front c.args.word.now c.starts_with.result (c.starts_with.ensures.byte (omega arith) (omega arith) (λ _ _ h. h)) c.if-starts_with.false

pub returns-in_err-number-clause-value : goal.returns-in_err-number-clause-value
returns-in_err-number-clause-value c =
    c.from_residual.ensures
    ∙ none_unparsed _ _ c.args.word.now c.parse.result c.parse.ensures.value.0 (plain (goal.at.returns-in_err-number-clause-value c).Else-starts_with) (omega (arith, c.ranges.greatest.fits)) c.in_err-number.ensures.value

pub returns-clause-value : goal.returns-clause-value
returns-clause-value c =
    let within : Decides c.contains.result ((c.args.least ≤ c.in_ok-number.number) × (c.in_ok-number.number ≤ c.args.greatest)) = search rules in
    let number = parsed c.in_ok-number.number c.args.word.now c.parse.result c.parse.ensures.value.0 (plain (goal.at.returns-clause-value c).Else-starts_with) c.in_ok-number.ensures.value in
    chosen _ _ _ _ _ _ number within c.then_some.ensures
