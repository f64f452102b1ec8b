-- Lemmas on the words and numbers that a line begins with. Assumes nothing.
use Rattle.std.proofs.Common.{◌≡◌, ℕ, suc, ◌+◌, ◌^◌, ◌<◌, ◌≤◌, Bool, true, false, cond, ◌&&◌, eqb, ltb, leb, List, [], ◌∷◌, ◌++◌, length, take, drop, Some, None, Ok, Err, Option, Result, sym, refl, ap, subst, ◌∙◌, ⊎_elim, one-add, arith, Bor, MatchOption}
use Rattle.std.specs.List.{prefix_len}
use Rattle.std.specs.Char.{is_ascii_digit}
use Rattle.std.specs.Str.{IsUtf8, all_ascii_digits}
use Rattle.std.specs.Str.Parse.{ParsesUnsigned}
use Rattle.std.specs.Result.{OkIff, MatchResult, result_ok}
use Rattle.std.proofs.lemmas.Fmt.{IsAscii-from_digits}
use Rattle.std.proofs.lemmas.List.Folds.{length-prefix_len}
use Rattle.std.proofs.lemmas.Result.{OkIff-at_ok, OkIff-at_err}
use Rattle.std.proofs.lemmas.Str.{IsUtf8-from_ascii}
use Rattle.std.proofs.lemmas.Str.Parse.{parse_digits}
use Rattle.std.proofs.lemmas.Bool.{eq-eqb, eqb-true, cases_Bool, cases_lt, cond-true, cond-false, lt-ltb, le-ltb, le-leb, lt-leb, leb-true, and_parts, and_from, and_left, and_right}
use Rattle.text.specs.Number.{digits_value}
use Rattle.text.proofs.Numbers.{own}
use Rattle.page_text.specs.Reading.{after, read_number, and_then}

-- what a result was, by its `ok`
was_ok : {T E : Type 0} (r : Result T E) (x : T) → Some x ≡ result_ok r → r ≡ Ok x
was_ok (Ok y) x e = cc
was_ok (Err d) x e = let z : ◌≡◌ {A = ℕ} 0 1 = cc in absurd (omega arith)

was_err : {T E : Type 0} (r : Result T E) → None ≡ result_ok r → (d : E) × (r ≡ Err d)
was_err (Ok y) e = let z : ◌≡◌ {A = ℕ} 0 1 = cc in absurd (omega arith)
was_err (Err d) e = (d, refl)

-- bytes that are UTF-8, as text
module _ {E : Type 0} (Q : E → Type 0) (bs : List ℕ) (r : Result (Bor (List ℕ)) E) (cases : MatchResult r (λ t. (t.now ≡ bs) × IsUtf8 bs) (λ e. (IsUtf8 bs → ⊥) × Q e)) where
  pub utf8_is_text : IsUtf8 bs → None ≡ result_ok r → ⊥
  utf8_is_text utf8 is = let err = was_err r is in (subst (λ x. MatchResult x (λ t. (t.now ≡ bs) × IsUtf8 bs) (λ e. (IsUtf8 bs → ⊥) × Q e)) err.1 cases).0 utf8

  pub text_is : (t : Bor (List ℕ)) → Some t ≡ result_ok r → t.now ≡ bs
  text_is t is = (subst (λ x. MatchResult x (λ t. (t.now ≡ bs) × IsUtf8 bs) (λ e. (IsUtf8 bs → ⊥) × Q e)) (was_ok r t is) cases).0

-- the digits at the front of some bytes
front_digits : (bs : List ℕ) → all_ascii_digits (take (prefix_len is_ascii_digit bs) bs) ≡ true
front_digits [] = refl
front_digits (b ∷ bs) =
    ⊎_elim
    (λ (e : is_ascii_digit b ≡ true).
    let more : prefix_len is_ascii_digit (b ∷ bs) ≡ suc (prefix_len is_ascii_digit bs) = cond-true (is_ascii_digit b) (1 + prefix_len is_ascii_digit bs) 0 e ∙ one-add (prefix_len is_ascii_digit bs) in
    ap (λ n. all_ascii_digits (take n (b ∷ bs))) more ∙ and_from (is_ascii_digit b) _ e (front_digits bs))
    (λ (e : is_ascii_digit b ≡ false). ap (λ n. all_ascii_digits (take n (b ∷ bs))) (cond-false (is_ascii_digit b) (1 + prefix_len is_ascii_digit bs) 0 e))
    (cases_Bool (is_ascii_digit b))

pub after_found : (w rest : List ℕ) → after w (w ++ rest) ≡ Some rest
unfolding after
after_found [] rest = refl
after_found (b ∷ w) rest = cond-true (eqb b b) (after w (w ++ rest)) None (eq-eqb b b refl) ∙ after_found w rest

pub after_none : (w s : List ℕ) → ((rest : List ℕ) → s ≡ w ++ rest → ⊥) → after w s ≡ None
unfolding after
after_none [] s none = absurd (none s refl)
after_none (b ∷ w) [] none = refl
after_none (b ∷ w) (c ∷ s) none =
    ⊎_elim
    (λ (same : eqb b c ≡ true). cond-true (eqb b c) (after w s) None same ∙ after_none w s (λ rest e. none rest (ap (λ x. x ∷ s) (sym (eqb-true b c same)) ∙ ap (λ l. b ∷ l) e)))
    (λ (other : eqb b c ≡ false). cond-false (eqb b c) (after w s) None other)
    (cases_Bool (eqb b c))

-- what `strip_prefix` says, by `after`
pub after_cases : (w s : List ℕ) (r : Option (Bor (List ℕ))) → MatchOption r ((rest : List ℕ) → s ≡ w ++ rest → ⊥) (λ x. s ≡ w ++ x.now) → MatchOption r (after w s ≡ None) (λ x. after w s ≡ Some x.now)
after_cases w s None h = after_none w s h
after_cases w s (Some x) h = ap (after w) h ∙ after_found w x.now

module _ (places greatest : ℕ) (bs : List ℕ) where
  abbrev digits : ℕ
  digits = prefix_len is_ascii_digit bs

  abbrev value : ℕ
  value = digits_value (take digits bs)

  pub number_found : 0 < digits → digits ≤ places → value ≤ greatest → read_number places greatest bs ≡ Some (value, drop digits bs)
  unfolding read_number
  number_found some few low = cond-true (ltb 0 digits && (leb digits places && leb value greatest)) (Some (value, drop digits bs)) None (and_from (ltb 0 digits) _ (lt-ltb 0 digits some) (and_from (leb digits places) _ (le-leb digits places few) (le-leb value greatest low)))

  pub number_empty : digits ≤ 0 → read_number places greatest bs ≡ None
  unfolding read_number
  number_empty none = cond-false (ltb 0 digits && (leb digits places && leb value greatest)) (Some (value, drop digits bs)) None (and_left (ltb 0 digits) _ (le-ltb 0 digits none))

  pub number_long : places < digits → read_number places greatest bs ≡ None
  unfolding read_number
  number_long long = cond-false (ltb 0 digits && (leb digits places && leb value greatest)) (Some (value, drop digits bs)) None (and_right (ltb 0 digits) _ (and_left (leb digits places) _ (lt-leb digits places long)))

  pub number_great : greatest < value → read_number places greatest bs ≡ None
  unfolding read_number
  number_great great = cond-false (ltb 0 digits && (leb digits places && leb value greatest)) (Some (value, drop digits bs)) None (and_right (ltb 0 digits) _ (and_right (leb digits places) _ (lt-leb value greatest great)))

  -- the same, by what `parse` makes of the digits
  module _ (ds : List ℕ) (front : ds ≡ take digits bs) where
    pub front_utf8 : IsUtf8 ds
    front_utf8 = subst IsUtf8 (sym front) (IsUtf8-from_ascii (take digits bs) (IsAscii-from_digits (take digits bs) (own.to (take digits bs) (front_digits bs))))

    module _ {E : Type 0} (r : Result ℕ E) (text : List ℕ) (same : text ≡ ds) (parsed : ParsesUnsigned 8 10 text r) where
      reads : OkIff r ((0 < length (take digits bs)) × (value < 2 ^ 8)) value
      reads = parse_digits own 8 (take digits bs) r (subst (λ x. ParsesUnsigned 8 10 x r) (same ∙ front) parsed) (front_digits bs)

      pub number_read : (v : ℕ) → Some v ≡ result_ok r → digits ≤ places → v ≤ greatest → read_number places greatest bs ≡ Some (v, drop digits bs)
      number_read v is few low =
          let got = OkIff-at_ok r _ _ v reads (was_ok r v is) in
          number_found (omega (arith, got.0.0, length-prefix_len is_ascii_digit bs)) few (omega (arith, got.1)) ∙ ap (λ x. Some (x, drop digits bs)) (sym got.1)

      pub number_over : (v : ℕ) → Some v ≡ result_ok r → greatest < v → read_number places greatest bs ≡ None
      number_over v is great = number_great (omega (arith, (OkIff-at_ok r _ _ v reads (was_ok r v is)).1))

      pub number_unparsed : None ≡ result_ok r → greatest < 256 → read_number places greatest bs ≡ None
      number_unparsed is byte =
          let err = was_err r is in
          let wrong = OkIff-at_err r _ _ err.0 reads err.1 in
          ⊎_elim
          (λ (some : 0 < digits). ⊎_elim (λ (low : value < 256). absurd (wrong (omega (arith, length-prefix_len is_ascii_digit bs), low))) (λ (high : 256 ≤ value). number_great (omega arith)) (cases_lt value 256))
          number_empty (cases_lt 0 digits)

-- what a reading that gave something went through
pub and_then_some : {A B : Type 0} (o : Option A) (f : A → Option B) (b : B) → and_then o f ≡ Some b → (a : A) × (o ≡ Some a) × (f a ≡ Some b)
unfolding and_then
and_then_some None f b e = let z : ◌≡◌ {A = ℕ} 0 1 = cc in absurd (omega arith)
and_then_some (Some a) f b e = (a, refl, e)

pub cond_some : {A : Type 0} (t : Bool) (x y : A) → cond t (Some x) None ≡ Some y → (t ≡ true) × (x ≡ y)
cond_some true x y e = (refl, cc)
cond_some false x y e = let z : ◌≡◌ {A = ℕ} 0 1 = cc in absurd (omega arith)

-- a number read is at most the greatest
pub number_bound : (places greatest : ℕ) (bs : List ℕ) (v : ℕ) (rest : List ℕ) → read_number places greatest bs ≡ Some (v, rest) → v ≤ greatest
unfolding read_number
number_bound places greatest bs v rest e =
    let n : ℕ = prefix_len is_ascii_digit bs in
    let w : ℕ = digits_value (take n bs) in
    let got = cond_some (ltb 0 n && (leb n places && leb w greatest)) (w, drop n bs) (v, rest) e in
    let low : w ≤ greatest = leb-true w greatest (and_parts (leb n places) (leb w greatest) (and_parts (ltb 0 n) (leb n places && leb w greatest) got.0).1).1 in
    let same : w ≡ v = ap (λ (p : ℕ × List ℕ). p.0) got.1 in
    omega arith
