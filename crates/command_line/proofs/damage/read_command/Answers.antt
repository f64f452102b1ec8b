-- Each turn takes the word at hand, with the number behind it.
use Rattle.std.proofs.Common.{string_bytes, sym, ◌∙◌}
use Rattle.command_line.proofs.DamageWords.{at_help, at_last, at_setting, no_number, no_setting, one_setting, at_end}
use Rattle.command_line.proofs.WordsLeft.{none_left, first_left, last_left, two_left}
use Rattle.command_line.specs.Damage.{asked}
use Rattle.command_line.proofs.damage.read_command.Goals as goal

pub returns-then-eq : goal.returns-then-eq
returns-then-eq c =
    let s = c.loop-word.settings in
    sym (at_help s _ _ (sym c.eq.ensures ∙ c.if-eq.true))
    ∙ first_left (asked s) string_bytes _ _ c.loop-word.invariant _ _ c.in-Some.ensures.steps _ c.as_str-word.ensures.value

pub returns-in_err-next : goal.returns-in_err-next
returns-in_err-next c =
    let s = c.loop-word.settings in
    c.from_residual.ensures ∙ sym (at_last s _ (sym c.eq.ensures ∙ c.if-eq.false))
    ∙ last_left (asked s) string_bytes _ _ c.loop-word.invariant _ _ c.in-Some.ensures.steps _ c.as_str-word.ensures.value c.in_err-next.ensures.steps.0

pub returns-in_err-number : goal.returns-in_err-number
returns-in_err-number c =
    let s = c.loop-word.settings in
    c.from_residual-in_err-number.ensures
    ∙ sym (no_number s _ _ _ (sym c.read_number.ensures.value ∙ c.in_err-number.was))
    ∙ sym (at_setting s _ _ _ (sym c.eq.ensures ∙ c.if-eq.false))
    ∙ two_left (asked s) string_bytes _ _ c.loop-word.invariant _ _ c.in-Some.ensures.steps _ c.as_str-word.ensures.value _ _ _ c.in_ok-next.ensures.steps c.as_str.ensures.value

pub returns-in_err-settings : goal.returns-in_err-settings
returns-in_err-settings c =
    let s = c.loop-word.settings in
    c.from_residual-in_err-settings.ensures
    ∙ sym (no_setting s _ _ _ _ (sym c.read_number.ensures.value ∙ c.in_ok-number.was) (sym c.with.ensures ∙ c.in_err-settings.was))
    ∙ sym (at_setting s _ _ _ (sym c.eq.ensures ∙ c.if-eq.false))
    ∙ two_left (asked s) string_bytes _ _ c.loop-word.invariant _ _ c.in-Some.ensures.steps _ c.as_str-word.ensures.value _ _ _ c.in_ok-next.ensures.steps c.as_str.ensures.value

pub loop-word-preserved : goal.loop-word-preserved
loop-word-preserved c =
    let s = c.loop-word.settings in
    sym (one_setting s _ _ _ _ _ (sym c.read_number.ensures.value ∙ c.in_ok-number.was) (sym c.with.ensures ∙ c.in_ok-settings.was))
    ∙ sym (at_setting s _ _ _ (sym c.eq.ensures ∙ c.if-eq.false))
    ∙ two_left (asked s) string_bytes _ _ c.loop-word.invariant _ _ c.in-Some.ensures.steps _ c.as_str-word.ensures.value _ _ _ c.in_ok-next.ensures.steps c.as_str.ensures.value

pub returns : goal.returns
returns c =
    let s = c.loop-word.settings in
    sym (at_end s) ∙ none_left (asked s) string_bytes _ _ c.loop-word.invariant c.in_default.ensures.steps.0
