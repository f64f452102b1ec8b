-- Each turn takes the word at hand, by what the word is.
use Rattle.std.proofs.Common.{string_bytes, sym, ap, ◌∙◌}
use Rattle.command_line.proofs.SendWords.{at_help, at_rounds, at_last, at_other, with_some, with_none, at_end}
use Rattle.command_line.proofs.WordsLeft.{none_left, first_left, last_left, two_left}
use Rattle.command_line.specs.Send.{asked_behind, send, meant}
use Rattle.command_line.proofs.send.read_command.Goals as goal

pub returns-in-text : goal.returns-in-text
returns-in-text c =
    let k = c.loop-word.rounds in
    sym (first_left (asked_behind k) string_bytes _ _ c.loop-word.invariant _ _ c.in-Some.ensures.steps _ c.as_str.ensures.value)
    ∙ at_help k _ _ c.in-text.is

pub returns-in_err-number-in-text-2 : goal.returns-in_err-number-in-text-2
returns-in_err-number-in-text-2 c =
    let k = c.loop-word.rounds in
    sym (last_left (asked_behind k) string_bytes _ _ c.loop-word.invariant _ _ c.in-Some.ensures.steps _ c.as_str.ensures.value c.in_err-number-in-text-2.ensures.steps.0)
    ∙ at_last k _ c.in-text-2.not-text ∙ ap meant (sym c.from_residual.ensures)

pub returns-in_err-first_number-in-text-2 : goal.returns-in_err-first_number-in-text-2
returns-in_err-first_number-in-text-2 c =
    let k = c.loop-word.rounds in
    sym (two_left (asked_behind k) string_bytes _ _ c.loop-word.invariant _ _ c.in-Some.ensures.steps _ c.as_str.ensures.value _ _ _ c.in_ok-number-in-text-2.ensures.steps c.as_str-in-text-2.ensures.value)
    ∙ at_rounds k _ _ _ c.in-text-2.not-text c.in-text-2.is
    ∙ with_none _ _ (sym c.first_number.ensures.value ∙ c.in_err-first_number-in-text-2.was)
    ∙ ap meant (sym c.from_residual-in_err-first_number-in-text-2.ensures)

pub loop-word-preserved : goal.loop-word-preserved
loop-word-preserved c =
    let k = c.loop-word.rounds in
    sym (with_some _ _ _ (sym c.first_number.ensures.value ∙ c.in_ok-first_number-in-text-2.was))
    ∙ sym (at_rounds k _ _ _ c.in-text-2.not-text c.in-text-2.is)
    ∙ two_left (asked_behind k) string_bytes _ _ c.loop-word.invariant _ _ c.in-Some.ensures.steps _ c.as_str.ensures.value _ _ _ c.in_ok-number-in-text-2.ensures.steps c.as_str-in-text-2.ensures.value

pub returns-in_default-as_str : goal.returns-in_default-as_str
returns-in_default-as_str c =
    let k = c.loop-word.rounds in
    sym (first_left (asked_behind k) string_bytes _ _ c.loop-word.invariant _ _ c.in-Some.ensures.steps _ c.as_str.ensures.value)
    ∙ at_other k _ _ c.in_default-as_str.not-text c.in_default-as_str.not-text-2

pub returns : goal.returns
returns c =
    let k = c.loop-word.rounds in
    sym (none_left (asked_behind k) string_bytes _ _ c.loop-word.invariant c.in_default.ensures.steps.0)
    ∙ at_end k ∙ ap send (sym c.unwrap_or.ensures)
