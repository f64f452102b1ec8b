use Rattle.std.proofs.Common.{◌≡◌, ◌<◌, true, false, is_some, refl, rules}
use Rattle.std.proofs.lemmas.Bool.{both_ways}
use Rattle.store.specs.Layout.{number_at}
use Rattle.trials.proofs.Comparing.{fault_found, no_fault, same_from, same_slot, same_found, true_letters}
use Rattle.trials.proofs.compare.same_pages.Goals as goal

pub returns-then-is_some : goal.returns-then-is_some
returns-then-is_some c =
    let fault : is_some c.find_fault.result ≡ true = search rules in
    record {
      same = (λ e. absurd (both_ways false refl e), λ w. absurd (both_ways _ (fault_found _ _ c.find_fault.ensures fault) w.formed));
      letters = λ e. absurd (both_ways false refl e);
    }

pub returns-then-same_slots : goal.returns-then-same_slots
returns-then-same_slots c =
    let s = c.args.store.now in
    let ref = c.args.reference.now in
    let none : is_some c.find_fault.result ≡ false = search rules in
    let same = λ (e : c.none_missing.result ≡ true). same_from s ref (no_fault s _ c.find_fault.ensures none) (c.same_slots.ensures.0 c.if-same_slots.true) (c.none_missing.ensures.0 e) in
    record { same = (same, λ w. c.none_missing.ensures.1 (same_found s ref w)); letters = λ e. true_letters s ref (same e) }

pub returns-else-same_slots : goal.returns-else-same_slots
returns-else-same_slots c =
    let s = c.args.store.now in
    record {
      same = (λ e. absurd (both_ways _ c.if-same_slots.false e), λ w. c.same_slots.ensures.1 (λ i h mark. let small : number_at s i < 256 = search rules in same_slot s c.args.reference.now w i h small mark));
      letters = λ e. absurd (both_ways _ c.if-same_slots.false e);
    }
