-- Lemmas on numbers in decimal digits: what `parse` answers, in the words of the spec.
use Rattle.std.proofs.Common.{◌≡◌, ℕ, ◌+◌, ◌-◌, ◌*◌, ◌^◌, ◌<◌, ◌≤◌, Bool, true, false, eqb, List, length, get_or, Some, None, Option, Ok, Err, Decides, fold, Result, sym, refl, ap, ◌∙◌, ⊎_elim, arith, rules}
use Rattle.std.specs.Bool.{then_some}
use Rattle.std.specs.Result.{result_ok}
use Rattle.std.specs.Str.{all_ascii_digits}
use Rattle.std.specs.Str.Parse.{ParsesUnsigned}
use Rattle.std.proofs.lemmas.Str.Parse.{IsNumeralModel, numerals_by_fold, not_in_digits, parse_plain}
use Rattle.std.proofs.lemmas.Result.{OkIff-at_ok, OkIff-at_err}
use Rattle.std.proofs.lemmas.Bool.{and_parts, cases_Bool, cond-false, eqb-true, eq-eqb, ltb-true, leb-true, both_ways}
use Rattle.std.proofs.lemmas.Bool.Decides.{nat_tests}
use Rattle.text.specs.Number.{digits_value, is_number_in, number_in}

-- the spec's words are those of the shelf
pub own : IsNumeralModel (λ ds. all_ascii_digits ds ≡ true) digits_value
unfolding digits_value
own = numerals_by_fold _ (search rules) (λ n ds. fold (λ v d. 10 * v + (d - 48)) n ds) (search rules)

-- what a number in a range is
pub record Written (least greatest : ℕ) (word : List ℕ) : Type 0 where
  pub digits : all_ascii_digits word ≡ true
  pub some : 0 < length word
  pub above : least ≤ digits_value word
  pub below : digits_value word ≤ greatest

pub number_there : (least greatest : ℕ) (word : List ℕ) → Written least greatest word → number_in least greatest word ≡ Some (digits_value word)
unfolding number_in is_number_in
number_there least greatest word h = grind (arith, nat_tests, h.digits, h.some, h.above, h.below)

pub number_not_there : (least greatest : ℕ) (word : List ℕ) → (Written least greatest word → ⊥) → number_in least greatest word ≡ None
unfolding number_in is_number_in
number_not_there least greatest word no_number =
    ⊎_elim
    (λ e.
    let a = and_parts _ _ e in
    let b = and_parts _ _ a.1 in
    let d = and_parts _ _ b.1 in
    absurd (no_number (record { digits = a.0; some = ltb-true _ _ b.0; above = leb-true _ _ d.0; below = leb-true _ _ d.1 })))
    (λ e. cond-false _ _ _ e)
    (cases_Bool (is_number_in least greatest word))

-- a word that begins with a plus is no number
pub none_at_plus : (least greatest : ℕ) (word : List ℕ) → get_or word 0 0 ≡ 43 → number_in least greatest word ≡ None
none_at_plus least greatest word plus =
    number_not_there least greatest word
    (λ h. not_in_digits own word 43 h.digits (λ d. omega (arith, d.0, d.1)) 0 h.some plus)

-- what `parse` answers at a word with no plus in front: digits, and the number that they write
pub record Parsed (n : ℕ) (word : List ℕ) : Type 0 where
  pub digits : all_ascii_digits word ≡ true
  pub some : 0 < length word
  pub value : n ≡ digits_value word

was_ok : {E : Type 0} (n : ℕ) (r : Result ℕ E) → Some n ≡ result_ok r → r ≡ Ok n
was_ok n (Ok m) is = cc
was_ok n (Err e) is = cc

was_err : {E : Type 0} (r : Result ℕ E) → None ≡ result_ok r → (e : E) × (r ≡ Err e)
was_err (Ok m) is = absurd (let z : ◌≡◌ {A = ℕ} 0 1 = cc in omega arith)
was_err (Err e) is = (e, refl)

pub parsed : {E : Type 0} (n : ℕ) (word : List ℕ) (r : Result ℕ E) → ParsesUnsigned 64 10 word r → (get_or word 0 0 ≡ 43 → ⊥) → Some n ≡ result_ok r → Parsed n word
parsed n word r reads plain is =
    let h = OkIff-at_ok r _ _ n (parse_plain own 64 word r reads plain) (was_ok n r is) in
    record { digits = h.0.0; some = h.0.1; value = h.1 }

-- a number within the limits, and one outside
pub chosen : (least greatest n : ℕ) (word : List ℕ) (b : Bool) (r : Option ℕ) → Parsed n word → Decides b ((least ≤ n) × (n ≤ greatest)) → r ≡ then_some b n → r ≡ number_in least greatest word
chosen least greatest n word b r h within e =
    ⊎_elim
    (λ is. let at = within.0 is in
    let w : Written least greatest word = record { digits = h.digits; some = h.some; above = omega (arith, h.value, at.0); below = omega (arith, h.value, at.1) } in
    e ∙ ap (λ x. then_some x n) is ∙ ap Some h.value ∙ sym (number_there least greatest word w))
    (λ is. e ∙ ap (λ x. then_some x n) is
    ∙ sym (number_not_there least greatest word (λ w. both_ways b is (within.1 (omega (arith, h.value, w.above), omega (arith, h.value, w.below))))))
    (cases_Bool b)

-- a word that isn't parsed
pub none_unparsed : {E : Type 0} (least greatest : ℕ) (word : List ℕ) (r : Result ℕ E) → ParsesUnsigned 64 10 word r → (get_or word 0 0 ≡ 43 → ⊥) → greatest < 2 ^ 64 → None ≡ result_ok r → None ≡ number_in least greatest word
none_unparsed least greatest word r reads plain fits is =
    let err = was_err r is in
    sym (number_not_there least greatest word
    (λ w. OkIff-at_err r _ _ err.0 (parse_plain own 64 word r reads plain) err.1 (w.digits, w.some, omega (arith, w.below))))

-- the test for a plus
pub plus_in_front : (word : List ℕ) (b : Bool) → b ≡ eqb (get_or word 0 0) 43 → b ≡ true → get_or word 0 0 ≡ 43
plus_in_front word b tells is = eqb-true _ _ (sym tells ∙ is)

pub none_in_front : (word : List ℕ) (b : Bool) → b ≡ eqb (get_or word 0 0) 43 → b ≡ false → get_or word 0 0 ≡ 43 → ⊥
none_in_front word b tells is plus = both_ways b is (tells ∙ eq-eqb _ _ plus)
