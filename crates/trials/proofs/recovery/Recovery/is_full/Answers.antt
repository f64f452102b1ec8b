use Rattle.std.proofs.Common.{◌≡◌, ◌∙◌, ◌≢◌, refl, sym, not, [], ◌∷◌, eqb, rules, arith, slice_index}
use Rattle.std.specs.List.{starts_with}
use Rattle.std.proofs.lemmas.Bool.Decides.{Decides-at, Decides-like, Decides-not}
use Rattle.trials.proofs.Slots.{slot_places, all_places, slot_mark, one_first}
use Rattle.trials.proofs.recovery.Recovery.is_full.Goals as goal

pub returns : goal.returns
returns c =
    let s = c.args.self.now.store.items in
    let cuts = c.chunks_exact.ensures in
    let tells = all_places _ _ _ _ _ _
    (slot_places _ _ _ s (λ t. slice_index t 0 ≢ 0) cuts.runs (cuts.rest ∙ c.as_slice.ensures.value) cuts.size (λ a b q h. search rules)
    (λ x b q h long. let is : b ≡ not (starts_with eqb x.now (0 ∷ [])) = search rules in Decides-at b _ is (Decides-not _ (one_first x.now 0 _ (omega (arith, long)) refl)))) c.all.result c.all.ensures.runs in
    Decides-like c.all.result (λ f k h e. f k h (slot_mark s k ∙ e)) (λ f k h e. f k h (sym (slot_mark s k) ∙ e)) tells
