use Rattle.std.proofs.Common.{◌∙◌, rules, tests}
use Rattle.std.proofs.lemmas.Iterator.{YieldsList-from_slice}
use Rattle.std.proofs.lemmas.Iterator.Search.{all_from_yields_List}
use Rattle.coding.specs.Parity.{is_letter}
use Rattle.page_text.proofs.LineItems.{each_letter}
use Rattle.page_text.proofs.row.are_letters.Goals as goal

pub returns : goal.returns
returns c =
    let bs = c.args.bytes.now in
    all_from_yields_List is_letter _ _ _ c.all.ensures.ran (YieldsList-from_slice bs cc) (λ x b q k. search (rules, tests)) ∙ each_letter bs
