-- The bytes of a line, one by one. Assumes nothing.
use Rattle.std.proofs.Common.{◌≡◌, ℕ, zero, suc, ◌+◌, ◌-◌, ◌<◌, ◌≤◌, ◌&&◌, eqb, ltb, List, ◌++◌, map, length, get_or, set, sym, refl, ap, ◌∙◌, subst, ⊎_elim, arith, length-set, get_or-set_other, get_or-set_same}
use denote.Param.Members.{Mut, Called}
use Rattle.std.specs.Array.{IsMapOf}
use Rattle.std.proofs.lemmas.List.{length-append, length-map, get_or_append_left, get_or-append-add, get_or-map, ext_get_or, get_or_past}
use Rattle.std.proofs.lemmas.Bool.{and_from, lt-ltb, eq-eqb, cond-true, cases_lt}
use Rattle.coding.specs.Hamming.{encode_number}
use Rattle.coding.specs.Parity.{encode_letter}
use Rattle.coding.proofs.Numbers.{word_byte}
use Rattle.coding.proofs.Letters.{letter_byte}
use Rattle.line.specs.Line.{Valid, header_numbers, encode_line, letters_at}
use Rattle.line.specs.declared.Line.{Line}

-- what holds of each number below six, case by case
pub six : (P : ℕ → Type 0) → P 0 → P 1 → P 2 → P 3 → P 4 → P 5 → (k : ℕ) → k < 6 → P k
six P a b c d e f zero h = a
six P a b c d e f (suc zero) h = b
six P a b c d e f (suc (suc zero)) h = c
six P a b c d e f (suc (suc (suc zero))) h = d
six P a b c d e f (suc (suc (suc (suc zero)))) h = e
six P a b c d e f (suc (suc (suc (suc (suc zero))))) h = f
six P a b c d e f (suc (suc (suc (suc (suc (suc k)))))) h = absurd (omega arith)

pub word_at : (m : Line) (k : ℕ) → k < 6 → get_or (encode_line m) k 0 ≡ encode_number (get_or (header_numbers m) k 0)
unfolding encode_line
word_at m k h = get_or_append_left (map encode_number (header_numbers m)) (map encode_letter m.letters) 0 k h ∙ get_or-map encode_number (header_numbers m) k 0 0 h

pub letter_at : (m : Line) (c : ℕ) → c < length m.letters → get_or (encode_line m) (6 + c) 0 ≡ encode_letter (get_or m.letters c 0)
unfolding encode_line
letter_at m c h = get_or-append-add (map encode_number (header_numbers m)) (map encode_letter m.letters) c 0 ∙ get_or-map encode_letter m.letters c 0 0 h

pub encode_length : (m : Line) → length (encode_line m) ≡ 6 + length m.letters
unfolding encode_line
encode_length m = length-append (map encode_number (header_numbers m)) (map encode_letter m.letters) ∙ ap (λ n. 6 + n) (length-map m.letters encode_letter)

pub number_small : (m : Line) → Valid m → (k : ℕ) → k < 6 → get_or (header_numbers m) k 0 < 16
number_small m v =
    let page = v.page in let version = v.version in let row = v.row in
    six (λ k. get_or (header_numbers m) k 0 < 16) (omega arith) (omega arith) (omega arith) (omega arith) (omega arith) (omega arith)

pub encoded_byte : (m : Line) → Valid m → (k : ℕ) → get_or (encode_line m) k 0 < 256
encoded_byte m v k =
    ⊎_elim (λ lt. subst (λ x. x < 256) (sym (word_at m k lt)) (word_byte (get_or (header_numbers m) k 0)))
    (λ ge. ⊎_elim
    (λ lt. let c : ℕ = k - 6 in let at : 6 + c ≡ k = omega arith in let h : c < length m.letters = omega (arith, v.long) in
    subst (λ j. get_or (encode_line m) j 0 < 256) at (subst (λ x. x < 256) (sym (letter_at m c h)) (letter_byte (get_or m.letters c 0))))
    (λ le. subst (λ x. x < 256) (sym (get_or_past (encode_line m) k 0 (omega (arith, encode_length m, v.long)))) (omega arith)) (cases_lt k 46))
    (cases_lt k 6)

pub meant_at : (m : Line) (c : ℕ) → c < 40 → letters_at m.row m.letters m.row c ≡ get_or m.letters c 0
unfolding letters_at
meant_at m c h = cond-true (eqb m.row m.row && ltb c 40) _ _ (and_from _ _ (eq-eqb _ _ refl) (lt-ltb _ _ h))

-- what an array's `map` gives, by a function that gives just f of each number
pub mapped : {F : Type 0} (g : Mut F (ℕ × Unit {0}) ℕ) (h : F) (f : ℕ → ℕ) (xs ys : List ℕ) (n : ℕ) →
    IsMapOf g h xs ys n → length xs ≡ n → ((p q : F) (x y : ℕ) → Called g p (x, tt) y q → y ≡ f x) → ys ≡ map f xs
mapped g h f xs ys n is long gives =
    ext_get_or 0 ys (map f xs) (is.long ∙ sym (length-map xs f ∙ long))
    (λ k lt. let at = is.at k 0 0 (omega (arith, is.long)) in gives at.0 at.1 _ _ at.2 ∙ sym (get_or-map f xs k 0 0 (omega (arith, is.long, long))))

-- the first n bytes are the line's
pub record Encoded (m : Line) (bytes : List ℕ) (n : ℕ) : Type 0 where
  pub long : length bytes ≡ 46
  pub same : (k : ℕ) → k < n → get_or bytes k 0 ≡ get_or (encode_line m) k 0

-- the numbers' bytes are, over whatever stood there
pub encoded_header : (m : Line) (numbers over : List ℕ) → numbers ≡ map encode_number (header_numbers m) → length over ≡ 40 → Encoded m (numbers ++ over) 6
unfolding encode_line
encoded_header m numbers over e long = record {
  long = length-append numbers over ∙ omega (arith, ap length e, long);
  same = λ k lt.
      let here : k < length numbers = omega (arith, ap length e, lt) in
      get_or_append_left numbers over 0 k here ∙ ap (λ x. get_or x k 0) e ∙ sym (get_or_append_left (map encode_number (header_numbers m)) (map encode_letter m.letters) 0 k lt);
}

pub encoded_more : (m : Line) (bytes : List ℕ) (c b : ℕ) → Encoded m bytes (6 + c) → c < 40 → length m.letters ≡ 40 → b ≡ encode_letter (get_or m.letters c 0) → Encoded m (set bytes (6 + c) b) (6 + (c + 1))
encoded_more m bytes c b w h long is = record {
  long = length-set bytes (6 + c) b ∙ w.long;
  same = λ k lt.
      ⊎_elim (λ low. get_or-set_other bytes (6 + c) k b 0 (omega arith) ∙ w.same k low)
      (λ here. let e : 6 + c ≡ k = omega arith in
      subst (λ j. get_or (set bytes (6 + c) b) j 0 ≡ get_or (encode_line m) j 0) e (get_or-set_same bytes (6 + c) b 0 (omega (arith, w.long)) ∙ is ∙ sym (letter_at m c (omega arith)))) (cases_lt k (6 + c));
}

pub encoded_all : (m : Line) (bytes : List ℕ) (n : ℕ) → 46 ≤ n → length m.letters ≡ 40 → Encoded m bytes n → bytes ≡ encode_line m
encoded_all m bytes n h long w = ext_get_or 0 bytes (encode_line m) (w.long ∙ sym (encode_length m ∙ ap (λ k. 6 + k) long)) (λ k lt. w.same k (omega (arith, w.long)))
