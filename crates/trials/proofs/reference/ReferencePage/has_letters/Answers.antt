use Rattle.std.proofs.Common.{◌≡◌, ℕ, List, length, get_or, sym, ◌∙◌, ap, arith}
use Rattle.std.proofs.lemmas.Grind.{same_number_lists}
use Rattle.std.proofs.lemmas.Slice.Eq.{slice_eq-Decides}
use Rattle.std.proofs.lemmas.Bool.Decides.{Decides-eqb}
use Rattle.trials.proofs.reference.ReferencePage.has_letters.Goals as goal

pub returns : goal.returns
returns c = λ long.
    let full : length c.args.self.now.letters ≡ 1000 = omega arith in
    let d = slice_eq-Decides Decides-eqb c.as_slice.result.now c.args.letters.now c.eq.result c.eq.ensures in
    let is = c.as_slice.ensures in
    (λ e k h. ap (λ (l : List ℕ). get_or l k 0) (sym (d.0 e) ∙ is), λ f. d.1 (is ∙ same_number_lists _ _ (full ∙ sym long) (λ k h. sym (f k (omega (arith, h, full))))))
