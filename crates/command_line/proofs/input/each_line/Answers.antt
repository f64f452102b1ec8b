use Rattle.std.proofs.Common.{◌+◌, [], ◌∷◌, ◌++◌, refl, ap, ◌∙◌, arith, of_calls}
use Rattle.std.proofs.lemmas.List.{length_push}
use Rattle.command_line.proofs.LinesTaken.{took_more, begins_none, begins_more, begins_end}
use Rattle.command_line.proofs.input.each_line.Goals as goal

pub loop-number-init : goal.loop-number-init
loop-number-init g c = (c.requires, ([], refl, refl, begins_none _))

pub loop-number-preserved : goal.loop-number-preserved
loop-number-preserved g c =
    let t = c.loop-number.invariant.1 in
    let line = c.as_slice.result in (
      search of_calls,
      (
        t.0 ++ line.now ∷ [],
        length_push t.0 line.now ∙ ap (λ k. k + 1) t.1,
        took_more _ _ _ _ t.0 _ line t.1 t.2 c.in_ok-take.ensures,
        begins_more _ _ _ t.0 _ _ line.now t.3 c.clear.ensures.items c.in_ok-read_until.ensures.bytes c.as_slice.ensures.value c.in_ok-read_until.ensures.rest (omega (arith, c.in_ok-read_until.ensures.ok, c.if-branch-eq0.false, c.as_slice.ensures.len)),
      ),
    )

pub returns-then-branch-eq0 : goal.returns-then-branch-eq0
returns-then-branch-eq0 g c =
    let t = c.loop-number.invariant.1 in
    (t.0, c.loop-number.take, t.1, t.2, λ _. begins_end _ _ t.0 t.3 (c.in_ok-read_until.ensures.end c.if-branch-eq0.true))

pub returns : goal.returns
returns g c =
    let t = c.loop-number.invariant.1 in
    (t.0, c.loop-number.take, omega arith, t.2, λ below. absurd (omega arith))
