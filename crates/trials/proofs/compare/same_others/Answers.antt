use Rattle.std.proofs.Common.{◌≡◌, ◌∙◌, refl, ap, ◌⊎◌, ◌||◌, [], ◌∷◌, eqb, rules, tests, arith, slice_index}
use Rattle.std.specs.List.{starts_with}
use Rattle.std.specs.Cmp.Lexicographic.{pointwise}
use Rattle.std.specs.Iterator.Adapters.{zip_second}
use Rattle.std.specs.Slice.Iter.{chunks_exact_rest, chunks_exact_size}
use Rattle.std.proofs.lemmas.Slice.Eq.{slice_eq-Decides}
use Rattle.std.proofs.lemmas.Bool.Decides.{Decides-at, Decides-eqb, Decides-or}
use Rattle.trials.proofs.Slots.{pair_places, all_places, others_same, two_first}
use Rattle.trials.proofs.compare.same_others.Goals as goal

pub returns-then-before-after : goal.returns-then-before-after
returns-then-before-after c =
    let s = c.args.before.now in
    let t = c.args.after.now in
    let n = c.args.page in
    let one = c.chunks_exact.ensures in
    let two = c.chunks_exact-2.ensures in
    let zip = c.zip-slots.ensures in
    let second : zip_second c.zip-slots.result ≡ c.chunks_exact-2.result = search rules in
    let tells = all_places _ _ _ _ _ _
    (pair_places _ _ _ c.chunks_exact.result (zip_second c.zip-slots.result) s t (λ x y. ((slice_index y 0 ≡ 1) × (slice_index y 1 ≡ n)) ⊎ (x ≡ y)) zip.runs one.runs one.rest one.size
    two.runs (ap chunks_exact_rest second ∙ two.rest) (ap chunks_exact_size second ∙ two.size) c.if-before-after.true (λ a b q h. search rules)
    (λ x b q h long.
    let is : b ≡ (starts_with eqb x.1.now (1 ∷ n ∷ []) || pointwise eqb x.0.now x.1.now) = search (rules, tests) in
    Decides-at b _ is (Decides-or _ _ (two_first x.1.now 1 n _ (omega (arith, long)) refl) (slice_eq-Decides Decides-eqb _ _ _ refl)))) c.all.result c.all.ensures.runs in
    others_same s t n c.all.result c.if-before-after.true tells
