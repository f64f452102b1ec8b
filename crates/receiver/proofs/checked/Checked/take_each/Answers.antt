use Rattle.std.proofs.Common.{◌≡◌, ◌*◌, ◌-◌, ◌/◌, ◌<◌, length, refl, ap, ◌∙◌, subst, rules, arith}
use Rattle.std.proofs.lemmas.List.{length_push, length-drop}
use Rattle.receiver.specs.Entry.{Answers}
use Rattle.receiver.specs.Batch.{TakenFirst}
use Rattle.receiver.proofs.Batches.{taken_none, taken_more, cut_more, one_line}
use Rattle.receiver.proofs.checked.Checked.take_each.Goals as goal

pub loop-line-init : goal.loop-line-init
loop-line-init c = record {
  taken = taken_none _ _ _;
  within = search rules;
  size = search rules;
  rest = search rules;
  named = refl;
  first = λ _. refl;
  single = λ _ one. absurd (omega (arith, one));
}

pub loop-line-preserved : goal.loop-line-preserved
loop-line-preserved c =
    let w = c.loop-line.invariant in
    let a = c.take-done.ensures in
    let step = c.in-Some.ensures.steps in
    let n = length c.loop-line.yielded in
    let more = length_push c.loop-line.yielded c.in-Some.line in
    let cut = cut_more c.args.lines.now _ c.in-Some.line.now _ n _ w.within w.rest step.1.0 step.1.1 w.size in
    record {
      taken = taken_more _ _ _ _ _ _ _ _ n _ _ cut.0 more w.taken a.answer c.count.ensures;
      within = rw more cut.2;
      size = step.0 ∙ w.size;
      rest = rw more cut.1;
      named = a.named ∙ w.named;
      first = λ none. absurd (omega (arith, none, more));
      single = λ long one.
          let none : n ≡ 0 = omega (arith, one, more) in
          subst (λ s. Answers c.args.lines.now s c.take-done.result c.take-done.new.self.store.now) (w.first none)
          (subst (λ l. Answers l c.loop-line.self.store.now c.take-done.result c.take-done.new.self.store.now) (cut.0 ∙ one_line c.args.lines.now n long none) a.answer);
    }

pub returns : goal.returns
returns c =
    let w = c.loop-line.invariant in
    let step = c.in-None.ensures.steps in
    let n = length c.loop-line.yielded in
    let few : length c.args.lines.now - 46 * n < 46 = omega (arith, step.1.0, ap length w.rest, length-drop (46 * n) c.args.lines.now, w.size) in
    let all : n ≡ length c.args.lines.now / 46 = omega arith in
    record {
      taken = subst (TakenFirst c.args.lines.now c.args.self.now.store.now c.args.counts.now c.loop-line.self.store.now c.loop-line.total) all w.taken;
      single = λ long. w.single long (omega arith);
      named = w.named;
    }
