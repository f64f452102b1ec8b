use Rattle.std.proofs.Common.{◌≡◌, rules}
use Rattle.std.proofs.lemmas.Iterator.{first_from_Range}
use borrow.Author.Tests.{tests}
use Rattle.store.specs.Layout.{mark_at}
use Rattle.store.proofs.Listing.{lowest_free}
use Rattle.store.proofs.slots.free_from.Goals as goal

pub returns : goal.returns
returns c =
    let s = c.args.store.now in
    lowest_free s c.args.taken c.find.result c.requires
    (first_from_Range _ _ _ c.find.result (λ k. mark_at s k ≡ 0) (λ k. mark_at s k ≡ 0 → ⊥) c.find.ensures.ran (λ x q k. search (rules, tests)) (λ x q k. search (rules, tests)))
