-- What the vectors' operators make of each lane, by one computed test over all bytes. Assumes nothing.
use Rattle.std.proofs.Common.{◌≡◌, ℕ, ◌*◌, ◌%◌, ◌^◌, ◌<◌, Bool, true, false, cond, ◌&&◌, eqb, ltb, leb, List, [], ◌∷◌, map, length, replicate, sym, refl, ◌∙◌, subst, ⊎_elim}
use lib.Count.{ones_in}
use lib.Bits.{bit_and, bit_xor}
use lib.Lanes.{zip2, sel_l, top, Each1}
use Rattle.std.proofs.lemmas.Bool.{and_parts, eqb-true, cond-true, cond-false, cases_Bool}
use Rattle.coding.specs.Parity.{is_letter, odd_parity, decode_letter}
use Rattle.coding.proofs.Below.{all_below, below_at, ◌implies◌, implied}
use Rattle.store.specs.Page.{merge}

-- shifts and tests of a lane
abbrev shift : ℕ → ℕ → ℕ
shift a b = (a * 2 ^ b) % 256

abbrev at_most : ℕ → ℕ → ℕ
at_most a b = cond (leb a b) 255 0

-- n bytes folded onto themselves by so many bits
abbrev fold : ℕ → List ℕ → ℕ → List ℕ
fold k bs n = zip2 bit_xor bs (zip2 shift bs (replicate n k))

abbrev sevens : List ℕ → ℕ → List ℕ
sevens bs n = zip2 bit_and bs (replicate n 127)

abbrev parities : List ℕ → ℕ → List ℕ
parities bs n = fold 1 (fold 2 (fold 4 bs n) n) n

abbrev pub merged_lanes : List ℕ → List ℕ → ℕ → List ℕ
merged_lanes bs os n = sel_l (map (top 7) (zip2 bit_and (zip2 at_most (replicate n 128) (parities bs n)) (zip2 at_most (replicate n 32) (sevens bs n)))) (sevens bs n) os

-- the same of one byte
abbrev fold_one : ℕ → ℕ → ℕ
fold_one k b = bit_xor b (shift b k)

abbrev is_one : ℕ → Bool
is_one b = top 7 (bit_and (at_most 128 (fold_one 1 (fold_one 2 (fold_one 4 b)))) (at_most 32 (bit_and b 127)))

abbrev lane_test : ℕ → Bool
lane_test b = ((is_one b implies ltb 0 (decode_letter b)) && (ltb 0 (decode_letter b) implies is_one b)) && (is_one b implies eqb (bit_and b 127) (decode_letter b))

lane_tests : all_below 256 lane_test ≡ true
unfolding decode_letter odd_parity is_letter ones_in
lane_tests = refl

lane : (b o : ℕ) → b < 256 → cond (is_one b) (bit_and b 127) o ≡ merge (decode_letter b) o
unfolding merge
lane b o h =
    let p = and_parts _ _ (below_at 256 lane_test lane_tests b h) in
    let q = and_parts _ _ p.0 in
    ⊎_elim
    (λ t. cond-true (is_one b) _ _ t ∙ eqb-true _ _ (implied (is_one b) _ p.1 t) ∙ sym (cond-true (ltb 0 (decode_letter b)) _ _ (implied (is_one b) _ q.0 t)))
    (λ f. cond-false (is_one b) _ _ f ∙ sym (cond-false (ltb 0 (decode_letter b)) _ _ (not_implied (ltb 0 (decode_letter b)) (is_one b) q.1 f)))
    (cases_Bool (is_one b))
  where
    not_implied : (x y : Bool) → (x implies y) ≡ true → y ≡ false → x ≡ false
    not_implied true y e f = sym e ∙ f
    not_implied false y e f = refl

cons : {a b : ℕ} {xs ys : List ℕ} → a ≡ b → xs ≡ ys → ◌≡◌ {A = List ℕ} (a ∷ xs) (b ∷ ys)
cons p q = cc

lanes_are : (bs os : List ℕ) → Each1 (λ x. x < 256) bs → merged_lanes bs os (length bs) ≡ zip2 (λ x y. merge (decode_letter x) y) bs os
lanes_are [] os e = refl
lanes_are (b ∷ bs) [] e = refl
lanes_are (b ∷ bs) (o ∷ os) e = cons (lane b o e.0) (lanes_are bs os e.1)

-- of any number of lanes
pub lanes_of : (n : ℕ) (bs os : List ℕ) → length bs ≡ n → Each1 (λ x. x < 256) bs → merged_lanes bs os n ≡ zip2 (λ x y. merge (decode_letter x) y) bs os
lanes_of n bs os e f = subst (λ k. merged_lanes bs os k ≡ zip2 (λ x y. merge (decode_letter x) y) bs os) e (lanes_are bs os f)
