-- The decimal digits of bytes: what is written as a number is read as that number. Assumes nothing.
use Rattle.std.proofs.Common.{◌≡◌, ℕ, suc, ◌+◌, ◌/◌, ◌%◌, ◌<◌, ◌≤◌, Bool, true, false, cond, ◌&&◌, eqb, ltb, leb, List, [], ◌∷◌, ◌++◌, length, get_or, take, drop, Some, sym, refl, ap, ◌∙◌, ⊎_elim, one-add, arith}
use Rattle.std.specs.Char.{is_ascii_digit}
use Rattle.std.specs.Fmt.{digits, decimal}
use Rattle.std.specs.List.{prefix_len, AllByRecursion}
use Rattle.std.proofs.ByRecursion.{All-push}
use Rattle.std.proofs.lemmas.Fmt.{decimal_digit, decimal_step, decimal_by_steps}
use Rattle.std.proofs.lemmas.List.{take_at, drop_at}
use Rattle.std.proofs.lemmas.Bool.{and_parts, eqb-true, leb-true, ltb-true, ltb-false, cond_both, cond-true, cond-false, cases_Bool}
use Rattle.coding.proofs.Below.{all_below, below_at}
use Rattle.text.specs.Number.{digits_value}
use Rattle.page_text.specs.Reading.{read_number}
use Rattle.page_text.proofs.LineWords.{number_found}

-- what is seen of every byte's digits
digits_test : ℕ → Bool
digits_test n =
    eqb (prefix_len is_ascii_digit (decimal n)) (length (decimal n))
    && (eqb (digits_value (decimal n)) n && (ltb 0 (length (decimal n)) && (leb (length (decimal n)) 3 && (leb 48 (get_or (decimal n) 0 0) && leb (get_or (decimal n) 0 0) 57))))

digits_tested : all_below 256 digits_test ≡ true
unfolding digits_test digits digits_value
digits_tested = refl

short_test : all_below 25 (λ n. leb (length (decimal n)) 2) ≡ true
unfolding digits
short_test = refl

pub row_digits : (n : ℕ) → n < 25 → length (decimal n) ≤ 2
row_digits n h = leb-true _ 2 (below_at 25 (λ n. leb (length (decimal n)) 2) short_test n h)

pub record Digits (n : ℕ) : Type 0 where
  pub all : prefix_len is_ascii_digit (decimal n) ≡ length (decimal n)
  pub value : digits_value (decimal n) ≡ n
  pub some : 0 < length (decimal n)
  pub few : length (decimal n) ≤ 3
  pub low : 48 ≤ get_or (decimal n) 0 0
  pub high : get_or (decimal n) 0 0 ≤ 57

pub digits_of : (n : ℕ) → n < 256 → Digits n
unfolding digits_test
digits_of n h =
    let t = and_parts _ _ (below_at 256 digits_test digits_tested n h) in
    let u = and_parts _ _ t.1 in
    let v = and_parts _ _ u.1 in
    let w = and_parts _ _ v.1 in
    let x = and_parts _ _ w.1 in
    record {
      all = eqb-true _ _ t.0;
      value = eqb-true _ _ u.0;
      some = ltb-true 0 _ v.0;
      few = leb-true _ 3 w.0;
      low = leb-true 48 _ x.0;
      high = leb-true _ 57 x.1;
    }

-- digits before something that begins with none
leading_then : (p : ℕ → Bool) (ds rest : List ℕ) → prefix_len p ds ≡ length ds → prefix_len p rest ≡ 0 → prefix_len p (ds ++ rest) ≡ length ds
leading_then p [] rest e f = f
leading_then p (d ∷ ds) rest e f =
    ⊎_elim
    (λ (pass : p d ≡ true).
    let more : 1 + prefix_len p ds ≡ suc (length ds) = sym (cond-true (p d) (1 + prefix_len p ds) 0 pass) ∙ e in
    let all : prefix_len p ds ≡ length ds = omega arith in
    cond-true (p d) (1 + prefix_len p (ds ++ rest)) 0 pass ∙ ap (λ n. 1 + n) (leading_then p ds rest all f) ∙ one-add (length ds))
    (λ (fail : p d ≡ false).
    let none : 0 ≡ suc (length ds) = sym (cond-false (p d) (1 + prefix_len p ds) 0 fail) ∙ e in
    absurd (omega arith))
    (cases_Bool (p d))

-- a number as it is written is read as that number
pub number_written : (places greatest n : ℕ) (rest : List ℕ) → n < 256 → length (decimal n) ≤ places → n ≤ greatest → prefix_len is_ascii_digit rest ≡ 0 → read_number places greatest (decimal n ++ rest) ≡ Some (n, rest)
number_written places greatest n rest h short low end =
    let ds : List ℕ = decimal n in
    let d = digits_of n h in
    let count : prefix_len is_ascii_digit (ds ++ rest) ≡ length ds = leading_then is_ascii_digit ds rest d.all end in
    let front : take (prefix_len is_ascii_digit (ds ++ rest)) (ds ++ rest) ≡ ds = ap (λ k. take k (ds ++ rest)) count ∙ take_at ds rest (length ds) refl in
    let back : drop (prefix_len is_ascii_digit (ds ++ rest)) (ds ++ rest) ≡ rest = ap (λ k. drop k (ds ++ rest)) count ∙ drop_at ds rest (length ds) refl in
    let is : digits_value (take (prefix_len is_ascii_digit (ds ++ rest)) (ds ++ rest)) ≡ n = ap digits_value front ∙ d.value in
    number_found places greatest (ds ++ rest) (omega (arith, d.some)) (omega arith) (omega arith) ∙ (λ i. Some (is i, back i))

-- digits are no control codes
pub digits_plain : (n : ℕ) → n < 256 → AllByRecursion (λ b. 32 ≤ b) (decimal n)
digits_plain n h =
    decimal_by_steps (λ _ ds. AllByRecursion (λ b. 32 ≤ b) ds) (λ m l. (omega arith, tt)) (λ m ds l a. All-push (λ b. 32 ≤ b) ds (48 + m % 10) a (omega arith)) n (omega arith)

-- the digits of a number below 1000, written out
pub decimal_short : (n : ℕ) → n < 1000 → decimal n ≡ cond (ltb n 10) ((48 + n % 10) ∷ []) (cond (ltb n 100) ((48 + n / 10 % 10) ∷ ((48 + n % 10) ∷ [])) ((48 + n / 100) ∷ ((48 + n / 10 % 10) ∷ ((48 + n % 10) ∷ []))))
decimal_short n h =
    cond_both (ltb n 10) _ _ (λ ds. decimal n ≡ ds)
    (λ one. let units : n ≡ n % 10 = omega (arith, ltb-true n 10 one) in decimal_digit n (ltb-true n 10 one) ∙ ap (λ d. (48 + d) ∷ []) units)
    (λ more.
    let some : 10 ≤ n = ltb-false n 10 more in
    let last : decimal n ≡ decimal (n / 10) ++ (48 + n % 10) ∷ [] = decimal_step n some (omega arith) in
    last ∙ cond_both (ltb n 100) _ _ (λ ds. decimal (n / 10) ++ (48 + n % 10) ∷ [] ≡ ds)
    (λ two.
    let few : n < 100 = ltb-true n 100 two in
    let tens : n / 10 ≡ n / 10 % 10 = omega arith in
    ap (λ ds. ds ++ (48 + n % 10) ∷ []) (decimal_digit (n / 10) (omega arith)) ∙ ap (λ d. (48 + d) ∷ ((48 + n % 10) ∷ [])) tens)
    (λ three.
    let many : 100 ≤ n = ltb-false n 100 three in
    let hundreds : n / 10 / 10 ≡ n / 100 = omega arith in
    ap (λ ds. ds ++ (48 + n % 10) ∷ []) (decimal_step (n / 10) (omega arith) (omega arith) ∙ ap (λ ds. ds ++ (48 + n / 10 % 10) ∷ []) (decimal_digit (n / 10 / 10) (omega arith)))
    ∙ ap (λ d. (48 + d) ∷ ((48 + n / 10 % 10) ∷ ((48 + n % 10) ∷ []))) hundreds))
