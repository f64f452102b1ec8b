use Rattle.std.proofs.Common.{◌≡◌, ◌+◌, ◌*◌, ◌<◌, length, length-set, get_or, set, sym, ap, ◌∙◌, subst, arith, eqb, eq-eqb}
use Rattle.std.proofs.lemmas.Bool.{cond-true}
use Rattle.trials.specs.Told.{RowPut, letter_after, letter_told}
use Rattle.trials.proofs.Telling.{row_more, row_kept, letter_bits}
use Rattle.trials.proofs.reference.ReferencePage.with_row.Goals as goal
use Rattle.trials.proofs.reference.ReferencePage.with_row.Goals.{then-turned-eq-NO_BITS, else-turned-eq-NO_BITS}

pub loop-column-preserved : goal.loop-column-preserved
loop-column-preserved c =
    let came = c.args.came.now in
    let sent = came.sent in
    let before = c.args.self.letters in
    let letters = c.loop-column.letters in
    let n = c.loop-column.column in
    let bits = letter_bits came.bits n c.loop-column-test.true in
    elim c.if-turned-eq-NO_BITS.branch [
      | then-turned-eq-NO_BITS w ↦
          let v = w.letter.result in
          let at : 40 * c.from-row.result + n ≡ 40 * sent.row + n = omega (arith, c.from-row.ensures) in
          let room : 40 * sent.row + n < length letters = omega (arith, c.from-row.ensures, c.if-row-lt-ROWS.true, bits.0, c.loop-column.invariant.0) in
          let is : v ≡ letter_after sent.page sent.version sent.row n (get_or came.bits (6 + n) 0) (letter_told letters sent.row n) =
          w.letter.ensures.value ∙ sym (cond-true (eqb (get_or came.bits (6 + n) 0) 0) _ _ (eq-eqb _ _ (sym bits.1 ∙ w.if-turned-eq-NO_BITS.true))) in (
            ap length w.letters-is ∙ length-set _ _ _ ∙ c.loop-column.invariant.0,
            subst (λ t. RowPut came before t (n + 1)) (sym (w.letters-is ∙ ap (λ j. set letters j v) at)) (row_more came before letters n v c.loop-column.invariant.1 room is),
          )
      | else-turned-eq-NO_BITS w ↦ (
        ap length w.letters-is ∙ c.loop-column.invariant.0,
        subst (λ t. RowPut came before t (n + 1)) (sym w.letters-is) (row_kept came before letters n c.loop-column.invariant.1 (λ e. w.if-turned-eq-NO_BITS.false (bits.1 ∙ e))),
      )
    ]

pub returns-after-loop-column-clause-put : goal.returns-after-loop-column-clause-put
returns-after-loop-column-clause-put c = λ low.
    let end : c.loop-column.column ≡ 40 = omega (arith, c.loop-column.auto.column-end, c.loop-column-test.false) in
    subst (λ n. RowPut c.args.came.now c.args.self.letters c.loop-column.letters n) end c.loop-column.invariant.1
