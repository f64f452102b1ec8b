use Rattle.std.proofs.Common.{◌≡◌, true, false, rules}
use Rattle.std.proofs.lemmas.Iterator.{first_from_Range}
use borrow.Author.Tests.{tests}
use Rattle.store.specs.Layout.{holds}
use Rattle.store.proofs.Listing.{page_searched}
use Rattle.store.proofs.search.SearchSlotIndex.find.Goals as goal

pub returns : goal.returns
unfolding holds
returns c =
    let s = c.args.store.now in
    let n = c.args.page in
    page_searched s n c.find.result
    (first_from_Range _ _ _ c.find.result (λ k. holds s n k ≡ true) (λ k. holds s n k ≡ false) c.find.ensures.ran (λ x q k. search (rules, tests)) (λ x q k. search (rules, tests)))
