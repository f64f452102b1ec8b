use Rattle.std.proofs.Common.{◌≡◌, ◌∙◌, sym, Decides, length, rules, slice_index}
use Rattle.std.proofs.lemmas.Bool.Decides.{Decides-like}
use Rattle.trials.specs.Same.{SlotSame}
use Rattle.trials.proofs.Slots.{slot_places, all_places, slot_mark}
use Rattle.trials.proofs.compare.same_slots.Goals as goal

pub returns : goal.returns
returns c =
    let s = c.args.store.now in
    let ref = c.args.reference.now in
    let cuts = c.chunks_exact.ensures in
    let tells = all_places _ _ _ _ _ _
    (slot_places _ _ _ s (λ t. slice_index t 0 ≡ 1 → SlotSame t ref) cuts.runs cuts.rest cuts.size (λ a b q h. search rules)
    (λ x b q h long. let is : length x.now ≡ 1003 → Decides b (slice_index x.now 0 ≡ 1 → SlotSame x.now ref) = search rules in is long)) c.all.result c.all.ensures.runs in
    Decides-like c.all.result (λ f k h e. f k h (slot_mark s k ∙ e)) (λ f k h e. f k h (sym (slot_mark s k) ∙ e)) tells
