use Rattle.std.proofs.Common.{◌≡◌, ◌∙◌, sym, [], ◌∷◌, eqb, rules, arith, slice_index}
use Rattle.std.specs.List.{starts_with}
use Rattle.std.proofs.lemmas.Bool.Decides.{Decides-like}
use Rattle.store.proofs.Formed.{holds_from, holds_parts}
use Rattle.trials.proofs.Slots.{slot_places, any_places, slot_byte, slot_mark, two_first}
use Rattle.trials.proofs.compare.holds_page.Goals as goal

pub returns : goal.returns
returns c =
    let s = c.args.store.now in
    let n = c.args.number in
    let cuts = c.chunks_exact-slots.ensures in
    let tells = any_places _ _ _ _ _ _
    (slot_places _ _ _ s (λ t. (slice_index t 0 ≡ 1) × (slice_index t 1 ≡ n)) cuts.runs cuts.rest cuts.size (λ a b q h. search rules)
    (λ x b q h long. let is : b ≡ starts_with eqb x.now (1 ∷ n ∷ []) = search rules in two_first x.now 1 n b (omega (arith, long)) is)) c.any.result c.any.ensures.runs in
    Decides-like c.any.result
    (λ w. (w.0, record { within = w.1; here = holds_from s n w.0 (sym (slot_mark s w.0) ∙ w.2.0) (sym (slot_byte s w.0 1 (omega arith)) ∙ w.2.1) }))
    (λ w. let parts = holds_parts s n w.0 w.1.here in (w.0, w.1.within, (slot_mark s w.0 ∙ parts.0, slot_byte s w.0 1 (omega arith) ∙ parts.1))) tells
