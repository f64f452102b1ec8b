-- The signs of letters: what each is, that they differ, and a row with one sign more. Assumes nothing.
use Rattle.std.proofs.Common.{◌≡◌, ℕ, ◌+◌, ◌<◌, ◌≤◌, true, false, ltb, leb, ◌⊎◌, List, [], ◌∷◌, ◌++◌, map, length, get_or, take, sym, ap, ◌∙◌, inl, inr, ⊎_elim, append_assoc, append-nil, arith}
use lib.Utf8.{encode, encodes}
use Rattle.std.proofs.lemmas.List.{map_more}
use Rattle.std.proofs.lemmas.Bool.{and_parts, leb-true, ltb-true, eq-eqb, ne_eqb, cond-true, cond-false, cases_eq, cases_Bool}
use Rattle.std.proofs.lemmas.Str.{encode_ascii, encodes-append}
use Rattle.coding.specs.Parity.{is_letter}
use Rattle.text.specs.Screen.{block_sign, gap_sign, sign_of, shown, SignsDiffer}

letter_range : (c : ℕ) → is_letter c ≡ true → (32 ≤ c) × (c < 128)
unfolding is_letter
letter_range c e = let parts = and_parts (leb 32 c) (ltb c 128) e in (leb-true 32 c parts.0, ltb-true c 128 parts.1)

letter_sign : (c : ℕ) → is_letter c ≡ true → (c ≡ 127 → ⊥) → sign_of c ≡ c
unfolding sign_of
letter_sign c e ne = cond-true _ _ _ e ∙ cond-false _ _ _ (ne_eqb c 127 ne)

last_sign : (c : ℕ) → is_letter c ≡ true → c ≡ 127 → sign_of c ≡ block_sign
unfolding sign_of
last_sign c e last = cond-true _ _ _ e ∙ cond-true _ _ _ (eq-eqb c 127 last)

none_sign : (c : ℕ) → is_letter c ≡ false → sign_of c ≡ gap_sign
unfolding sign_of
none_sign c e = cond-false _ _ _ e

-- a letter's sign is the letter, or the block
letter_cases : (c : ℕ) → is_letter c ≡ true → ((c < 127) × (sign_of c ≡ c)) ⊎ ((c ≡ 127) × (sign_of c ≡ block_sign))
letter_cases c e =
    let range = letter_range c e in
    ⊎_elim (λ h. inr (h, last_sign c e h)) (λ h. inl (omega (arith, range.1), letter_sign c e h)) (cases_eq c 127)

pub signs_differ : SignsDiffer
signs_differ = (
  λ a b la lb e. ⊎_elim
      (λ x. ⊎_elim (λ y. omega arith) (λ y. absurd (omega arith)) (letter_cases b lb))
      (λ x. ⊎_elim (λ y. absurd (omega arith)) (λ y. omega arith) (letter_cases b lb)) (letter_cases a la),
  λ a b la lb e. let gap = none_sign b lb in ⊎_elim (λ x. omega arith) (λ x. omega arith) (letter_cases a la),
)

-- a sign has three bytes at most
block_width : length (encode block_sign) ≤ 3
unfolding encode
block_width = omega arith

gap_width : length (encode gap_sign) ≤ 3
unfolding encode
gap_width = omega arith

pub sign_width : (c s : ℕ) → s ≡ sign_of c → length (encode s) ≤ 3
sign_width c s e =
    ⊎_elim
    (λ l. ⊎_elim
    (λ x. omega (arith, ap (λ n. length (encode n)) (e ∙ x.1), ap length (encode_ascii c (omega arith))))
    (λ x. omega (arith, ap (λ n. length (encode n)) (e ∙ x.1), block_width)) (letter_cases c l))
    (λ n. omega (arith, ap (λ n. length (encode n)) (e ∙ none_sign c n), gap_width)) (cases_Bool (is_letter c))

pub shown_none : (old : List ℕ) → old ≡ old ++ shown []
unfolding shown
shown_none old = sym (append-nil old)

-- one letter more is shown
pub shown_more : (old row : List ℕ) (i s : ℕ) → i < length row → s ≡ sign_of (get_or row i 0) → (old ++ shown (take i row)) ++ encode s ≡ old ++ shown (take (i + 1) row)
unfolding shown
shown_more old row i s h e =
    let more : shown (take (i + 1) row) ≡ shown (take i row) ++ encode (sign_of (get_or row i 0)) =
    ap encodes (map_more sign_of row i 0 h) ∙ encodes-append (map sign_of (take i row)) (sign_of (get_or row i 0) ∷ []) ∙ ap (λ t. shown (take i row) ++ t) (append-nil (encode (sign_of (get_or row i 0)))) in
    append_assoc old (shown (take i row)) (encode s) ∙ ap (λ c. old ++ (shown (take i row) ++ encode c)) e ∙ ap (λ t. old ++ t) (sym more)
