use Rattle.std.proofs.Common.{get_or, refl, ap, sym, ◌∙◌, zero-add, arith}
use Rattle.store.specs.Layout.{letters_fine}
use Rattle.store.proofs.LetterSums.{sums_more, sums_end}
use Rattle.store.proofs.check.letters_fine.Goals as goal

pub loop-byte-init : goal.loop-byte-init
unfolding letters_fine
loop-byte-init c = (refl, omega arith, omega arith)

pub loop-byte-preserved : goal.loop-byte-preserved
loop-byte-preserved c =
    let w = c.loop-byte.invariant in
    let k = c.loop-byte.byte-index in
    let b = get_or c.args.letters.now k 0 in
    sums_more c.args.letters.now 0 k c.loop-byte.low c.loop-byte.high b c.min-low.result (ap (λ j. get_or c.args.letters.now j 0) (sym (zero-add k))) (omega (arith, c.type_inv.letters k)) w.1 w.2 c.min-low.ensures w.0

pub returns : goal.returns
returns c =
    let w = c.loop-byte.invariant in
    sums_end c.loop-byte.low c.loop-byte.high w.1 w.2 ∙ w.0 ∙ ap (letters_fine c.args.letters.now 0) (omega (arith, c.loop-byte.auto.byte-index-end, c.loop-byte-test.false))
