use Rattle.std.proofs.Common.{eqb, ◌∙◌, rules, tests}
use Rattle.std.proofs.lemmas.Iterator.{YieldsList-from_slice}
use Rattle.std.proofs.lemmas.Iterator.Search.{any_from_yields_List}
use Rattle.page_text.proofs.DraftPages.{each_number}
use Rattle.page_text.proofs.reading.has_number.Goals as goal

pub returns : goal.returns
returns c =
    let ps = c.args.pages.now in
    any_from_yields_List (λ p. eqb p.number c.args.number) _ _ _ c.any.ensures.ran (YieldsList-from_slice ps cc) (λ x b q k. search (rules, tests)) ∙ each_number c.args.number ps
