-- Each turn takes the word at hand, by what the word is.
use Rattle.std.proofs.Common.{None, string_bytes, sym, ap, ◌∙◌}
use Rattle.std.specs.Result.{result_ok}
use Rattle.std.proofs.lemmas.Result.{err_from_is_err_and}
use Rattle.command_line.proofs.ReceiveWords.{at_help, at_option, at_last, at_page, if_some, if_denied, says_wrong, at_end}
use Rattle.command_line.proofs.WordsLeft.{none_left, first_left, last_left, two_left}
use Rattle.command_line.specs.Receive.{asked_behind, given}
use Rattle.command_line.proofs.receive.read_command.Goals as goal

pub returns-then-eq : goal.returns-then-eq
returns-then-eq c =
    let g = given c.loop-word.options in
    sym (first_left (asked_behind None g) string_bytes _ _ c.loop-word.invariant _ _ c.in-Some.ensures.steps _ c.as_str-word.ensures.value)
    ∙ at_help g _ _ (sym c.eq.ensures ∙ c.if-eq.true)

pub returns-in_err-value-in-Some-valued_option : goal.returns-in_err-value-in-Some-valued_option
returns-in_err-value-in-Some-valued_option c =
    let g = given c.loop-word.options in
    let p = err_from_is_err_and c.from_residual.result c.from_residual.ensures.1 in
    let none = c.ok_or.ensures.ok_part ∙ ap result_ok c.in_err-value-in-Some-valued_option.was in
    let ended = rw none at c.next-in-Some-valued_option.ensures.steps in
    let error = rw none at (sym c.ok_or.ensures.value ∙ c.in_err-value-in-Some-valued_option.was) in
    rw (p.1, p.2)
    (says_wrong _ _ (cc)
    (sym (last_left (asked_behind None g) string_bytes _ _ c.loop-word.invariant _ _ c.in-Some.ensures.steps _ c.as_str-word.ensures.value ended.0)
    ∙ at_last g _ _ (sym c.eq.ensures ∙ c.if-eq.false) (sym c.valued_option.ensures ∙ c.in-Some-valued_option.is)))

pub returns-in_err-options-in-Some-valued_option : goal.returns-in_err-options-in-Some-valued_option
returns-in_err-options-in-Some-valued_option c =
    let g = given c.loop-word.options in
    let p = err_from_is_err_and c.from_residual-in_err-options-in-Some-valued_option.result c.from_residual-in_err-options-in-Some-valued_option.ensures.1 in
    let here = rw (c.ok_or.ensures.ok_part ∙ ap result_ok c.in_ok-value-in-Some-valued_option.was) at c.next-in-Some-valued_option.ensures.steps in
    rw (p.1, p.2)
    (if_denied c.in_err-options-in-Some-valued_option.field-0.0 _ _ _ c.in_err-options-in-Some-valued_option.ensures
    (sym (two_left (asked_behind None g) string_bytes _ _ c.loop-word.invariant _ _ c.in-Some.ensures.steps _ c.as_str-word.ensures.value _ _ _ here c.as_str.ensures.value)
    ∙ at_option g _ _ _ _ (sym c.eq.ensures ∙ c.if-eq.false) (sym c.valued_option.ensures ∙ c.in-Some-valued_option.is)))

pub returns-in_err-options-in-None : goal.returns-in_err-options-in-None
returns-in_err-options-in-None c =
    let g = given c.loop-word.options in
    let p = err_from_is_err_and c.from_residual-in_err-options-in-None.result c.from_residual-in_err-options-in-None.ensures.1 in
    rw (p.1, p.2)
    (if_denied c.in_err-options-in-None.field-0.0 _ _ _ c.in_err-options-in-None.ensures
    (sym (first_left (asked_behind None g) string_bytes _ _ c.loop-word.invariant _ _ c.in-Some.ensures.steps _ c.as_str-word.ensures.value)
    ∙ at_page g _ _ (sym c.eq.ensures ∙ c.if-eq.false) (sym c.valued_option.ensures ∙ c.in-None.is)))

pub loop-word-preserved-in_ok-options-in-Some-valued_option : goal.loop-word-preserved-in_ok-options-in-Some-valued_option
loop-word-preserved-in_ok-options-in-Some-valued_option c =
    let g = given c.loop-word.options in
    let here = rw (c.ok_or.ensures.ok_part ∙ ap result_ok c.in_ok-value-in-Some-valued_option.was) at c.next-in-Some-valued_option.ensures.steps in
    sym (if_some _ _ _ c.in_ok-options-in-Some-valued_option.ensures)
    ∙ sym (at_option g _ _ _ _ (sym c.eq.ensures ∙ c.if-eq.false) (sym c.valued_option.ensures ∙ c.in-Some-valued_option.is))
    ∙ two_left (asked_behind None g) string_bytes _ _ c.loop-word.invariant _ _ c.in-Some.ensures.steps _ c.as_str-word.ensures.value _ _ _ here c.as_str.ensures.value

pub loop-word-preserved : goal.loop-word-preserved
loop-word-preserved c =
    let g = given c.loop-word.options in
    sym (if_some _ _ _ c.in_ok-options-in-None.ensures)
    ∙ sym (at_page g _ _ (sym c.eq.ensures ∙ c.if-eq.false) (sym c.valued_option.ensures ∙ c.in-None.is))
    ∙ first_left (asked_behind None g) string_bytes _ _ c.loop-word.invariant _ _ c.in-Some.ensures.steps _ c.as_str-word.ensures.value

pub returns : goal.returns
returns c =
    let g = given c.loop-word.options in
    sym (none_left (asked_behind None g) string_bytes _ _ c.loop-word.invariant c.in_default.ensures.steps.0) ∙ at_end g
