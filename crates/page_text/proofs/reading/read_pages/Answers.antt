use Rattle.std.proofs.Common.{length, drop, vec_items, sym, ap, ◌∙◌, arith, rules, tests}
use Rattle.std.proofs.lemmas.Result.{err_from_is_err_and}
use Rattle.std.proofs.lemmas.List.{length_push}
use Rattle.std.proofs.lemmas.List.FromFn.{length-enumerate_from}
use Rattle.std.proofs.lemmas.Iterator.Consumers.{YieldsList-turn, YieldsList-end}
use Rattle.page_text.specs.Reading.{read_lines, read_text, pages_read, bad_line, what_says, read_on}
use Rattle.page_text.specs.Code.{reading}
use Rattle.page_text.proofs.TextLines.{parts, parts_read, numbered_parts, part_at}
use Rattle.page_text.proofs.DraftPages.{read_further, read_refused, read_end, tells}
use Rattle.page_text.proofs.FirstRefused.{refusals_are_first}
use Rattle.page_text.proofs.SoundPages.{pages_are_sound}
use Rattle.page_text.proofs.reading.read_pages.Goals as goal

pub loop-place-init : goal.loop-place-init
loop-place-init c = ap (λ s. read_lines 0 s (parts c.args.text.now)) c.new-draft.ensures ∙ parts_read c.args.text.now

pub loop-place-preserved : goal.loop-place-preserved
loop-place-preserved c =
    let bs = c.args.text.now in
    let s = reading c.loop-place.draft in
    let t = YieldsList-turn (numbered_parts _ bs c.into_iter-place-iterator.ensures.into_iter_gives c.enumerate-place-items.ensures.source c.enumerate-place-items.ensures.count c.split.ensures.rest c.split.ensures.done c.split.ensures.closure (λ x b q k. search (rules, tests)))
    c.loop-place.yielded c.loop-place.place-iterator c.loop-place.yielded_by c.next.result c.next.new.self (c.in-Some.place, c.in-Some.line) c.in-Some.is c.next.ensures.steps in
    let a = part_at bs (length c.loop-place.yielded) c.in-Some.place c.in-Some.line.now t in
    ap (λ n. read_lines n (reading c.take_line.new.self) (drop n (parts bs))) (length_push c.loop-place.yielded (c.in-Some.place, c.in-Some.line))
    ∙ sym (read_further (parts bs) (length c.loop-place.yielded) s (reading c.take_line.new.self) c.in-Some.line.now c.in-Some.line.now a.within a.is (ap (λ l. read_on (what_says l) s) (sym c.trim_return.ensures) ∙ c.in_ok-take_line.ensures))
    ∙ c.loop-place.invariant

pub returns-in_err-take_line-clause-outcome : goal.returns-in_err-take_line-clause-outcome
returns-in_err-take_line-clause-outcome c =
    let bs = c.args.text.now in
    let s = reading c.loop-place.draft in
    let t = YieldsList-turn (numbered_parts _ bs c.into_iter-place-iterator.ensures.into_iter_gives c.enumerate-place-items.ensures.source c.enumerate-place-items.ensures.count c.split.ensures.rest c.split.ensures.done c.split.ensures.closure (λ x b q k. search (rules, tests)))
    c.loop-place.yielded c.loop-place.place-iterator c.loop-place.yielded_by c.next.result c.next.new.self (c.in-Some.place, c.in-Some.line) c.in-Some.is c.next.ensures.steps in
    let a = part_at bs (length c.loop-place.yielded) c.in-Some.place c.in-Some.line.now t in
    let p = err_from_is_err_and c.from_residual.result c.from_residual.ensures.1 in
    rw (p.1, p.2) (tells c.in_err-take_line.field-0.0 _ c.loop-place.draft c.take_line.new.self c.in-Some.place (read_text bs) c.in_err-take_line.ensures
    (λ none. sym c.loop-place.invariant ∙ read_refused (parts bs) (length c.loop-place.yielded) s c.in-Some.line.now c.in-Some.line.now a.within a.is (ap (λ l. read_on (what_says l) s) (sym c.trim_return.ensures) ∙ none) ∙ ap bad_line (sym a.at)))

pub returns-in_err-take_line-clause-laws : goal.returns-in_err-take_line-clause-laws
returns-in_err-take_line-clause-laws c = (pages_are_sound, refusals_are_first)

-- at the end every part was read
whole : goal.returns-clause-outcome
whole c =
    let bs = c.args.text.now in
    let e = YieldsList-end (numbered_parts _ bs c.into_iter-place-iterator.ensures.into_iter_gives c.enumerate-place-items.ensures.source c.enumerate-place-items.ensures.count c.split.ensures.rest c.split.ensures.done c.split.ensures.closure (λ x b q k. search (rules, tests)))
    c.loop-place.yielded c.loop-place.place-iterator c.loop-place.yielded_by c.next.result c.next.new.self c.in-None.is c.next.ensures.steps in
    sym c.loop-place.invariant ∙ read_end (parts bs) (length c.loop-place.yielded) (reading c.loop-place.draft) (omega (arith, e.1, length-enumerate_from 0 (parts bs))) ∙ ap pages_read (sym c.finish.ensures)

pub returns-clause-outcome : goal.returns-clause-outcome
returns-clause-outcome c = whole c

pub returns-clause-sound : goal.returns-clause-sound
returns-clause-sound c = pages_are_sound c.args.text.now (vec_items c.finish.result) (whole c)

pub returns-clause-laws : goal.returns-clause-laws
returns-clause-laws c = (pages_are_sound, refusals_are_first)
