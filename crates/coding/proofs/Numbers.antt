-- The Hamming code's laws, each by one computed test over all bytes. Assumes nothing.
use Rattle.std.proofs.Common.{◌≡◌, ℕ, suc, ◌%◌, ◌<◌, ◌≤◌, Bool, true, false, not, ◌&&◌, eqb, ltb, leb, List, [], ◌∷◌, map, length, get_or, Option, Some, None, MatchOption, sym, refl, ap, ◌∙◌, zero-add, arith}
use lib.Bits.{bit_xor, xor_lt, xor_self}
use Rattle.std.specs.Bool.{then_some}
use lib.Count.{ones, ones_in}
use Rattle.std.specs.List.{range_with_len}
use Rattle.std.proofs.lemmas.List.FromFn.{get_or-map-range_with_len}
use Rattle.std.proofs.lemmas.Bool.{and_parts, le-leb, leb-true, ltb-true, eq-eqb, eqb-true, eqb-false, ne_eqb, not-true, not_from_false, ltb-false, cond_both}
use Rattle.coding.specs.Hamming.{distance, code_words, encode_number, nearest, decode_number}
use Rattle.coding.specs.Laws.{CorrectsOne, DetectsTwo, MinimumDistance, NumberLimitSharp}
use Rattle.coding.proofs.Below.{all_below, below_at, below_both, ◌implies◌, implied}

-- eight bits are all that a byte has
ones_test : all_below 256 (λ b. eqb (ones b) (ones_in 8 b)) ≡ true
unfolding ones ones_in
ones_test = refl

pub ones_byte : (b : ℕ) → b < 256 → ones b ≡ ones_in 8 b
ones_byte b h = eqb-true _ _ (below_at 256 (λ b. eqb (ones b) (ones_in 8 b)) ones_test b h)

pub ones_distance : (a b : ℕ) → a < 256 → b < 256 → ones (bit_xor a b) ≡ distance a b
unfolding distance
ones_distance a b ha hb = ones_byte (bit_xor a b) (xor_lt 8 a b ha hb)

pub distance_self : (a : ℕ) → distance a a ≡ 0
unfolding distance ones_in
distance_self a = ap (ones_in 8) (xor_self a)

-- the table of the numbers of all bytes
unfoldable pub table : List ℕ
table = map decode_number (range_with_len 0 256)

pub table_at : (b : ℕ) → b < 256 → get_or table b 0 ≡ decode_number b
unfolding table
table_at b h = get_or-map-range_with_len decode_number 0 256 b b 0 h (zero-add b)

-- what the distance of byte b from the word of n says of the number that it is read as
numbers_at : ℕ → ℕ → Bool
numbers_at b n =
    let d = distance (encode_number n) b in let r = decode_number b in
    (leb d 1 implies eqb r n) && ((eqb d 2 implies eqb r 16) && (eqb d 3 implies (ltb r 16 && not (eqb r n))))

numbers_test : all_below 256 (λ b. all_below 16 (numbers_at b)) ≡ true
unfolding distance ones_in code_words encode_number nearest decode_number numbers_at
numbers_test = refl

record Numbers (b n : ℕ) : Type 0 where
  one : distance (encode_number n) b ≤ 1 → decode_number b ≡ n
  two : distance (encode_number n) b ≡ 2 → decode_number b ≡ 16
  three : distance (encode_number n) b ≡ 3 → (decode_number b < 16) × (decode_number b ≡ n → ⊥)

numbers : (b n : ℕ) → b < 256 → n < 16 → Numbers b n
unfolding numbers_at
numbers b n hb hn =
    let t = and_parts _ _ (below_both 256 16 numbers_at numbers_test b n hb hn) in
    let u = and_parts _ _ t.1 in
    record {
      one = λ h. eqb-true _ _ (implied _ _ t.0 (le-leb _ _ h));
      two = λ h. eqb-true _ _ (implied _ _ u.0 (eq-eqb _ _ h));
      three = λ h. let w = and_parts _ _ (implied _ _ u.1 (eq-eqb _ _ h)) in (ltb-true _ _ w.0, eqb-false _ _ (not-true _ w.1));
    }

pub corrects_one : (b : ℕ) → b < 256 → (n : ℕ) → n < 16 → distance (encode_number n) b ≤ 1 → decode_number b ≡ n
corrects_one b hb n hn = (numbers b n hb hn).one

pub detects_two : (b : ℕ) → b < 256 → (n : ℕ) → n < 16 → distance (encode_number n) b ≡ 2 → decode_number b ≡ 16
detects_two b hb n hn = (numbers b n hb hn).two

-- r is the number that byte b is read as, or there is none
abbrev pub IsRead : (b : ℕ) (r : Option ℕ) → Type 0
IsRead b r = MatchOption r (decode_number b ≡ 16) (λ n. (n < 16) × (n ≡ decode_number b))

nearest_most : (ws : List ℕ) (b : ℕ) → nearest ws b ≤ length ws
unfolding nearest
nearest_most [] b = omega arith
nearest_most (w ∷ ws) b = cond_both (leb (distance w b) 1) 0 (suc (nearest ws b)) (λ x. x ≤ suc (length ws)) (λ _. omega arith) (λ _. omega (arith, nearest_most ws b))

number_most : (b : ℕ) → decode_number b ≤ 16
unfolding code_words decode_number
number_most b = nearest_most code_words b

-- the table's entry x, if it is below 16
pub number_read : (b x : ℕ) (below : Bool) → below ≡ ltb x 16 → x ≡ decode_number b → IsRead b (then_some below x)
number_read b x true t e = (ltb-true _ _ (sym t), e)
number_read b x false f e = omega (arith, e, number_most b, ltb-false _ _ (sym f))

pub read_corrects : (b : ℕ) (r : Option ℕ) → b < 256 → IsRead b r → CorrectsOne b r
read_corrects b None hb w n hn near = absurd (omega (arith, w, corrects_one b hb n hn near))
read_corrects b (Some x) hb w n hn near = ap Some (w.1 ∙ corrects_one b hb n hn near)

pub read_detects : (b : ℕ) (r : Option ℕ) → b < 256 → IsRead b r → DetectsTwo b r
read_detects b None hb w n hn two = refl
read_detects b (Some x) hb w n hn two = absurd (omega (arith, w.0, w.1, detects_two b hb n hn two))

pub number_limit_sharp : NumberLimitSharp
number_limit_sharp n b hn hb = (numbers b n hb hn).three

apart_at : ℕ → ℕ → Bool
apart_at m n = not (eqb m n) implies leb 4 (distance (encode_number m) (encode_number n))

apart_test : all_below 16 (λ m. all_below 16 (apart_at m)) ≡ true
unfolding distance ones_in code_words encode_number apart_at
apart_test = refl

pub minimum_distance : MinimumDistance
unfolding apart_at
minimum_distance m n hm hn ne = leb-true _ _ (implied _ _ (below_both 16 16 apart_at apart_test m n hm hn) (not_from_false _ (ne_eqb _ _ ne)))

word_test : all_below 16 (λ k. ltb (get_or code_words k 0) 256) ≡ true
unfolding code_words
word_test = refl

pub word_byte : (n : ℕ) → encode_number n < 256
unfolding encode_number
word_byte n = ltb-true _ _ (below_at 16 (λ k. ltb (get_or code_words k 0) 256) word_test (n % 16) (omega arith))
