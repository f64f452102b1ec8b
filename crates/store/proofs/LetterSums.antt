-- Many letters tested by two sums of their bits. Assumes nothing.
use Rattle.std.proofs.Common.{◌≡◌, ℕ, zero, suc, ◌+◌, ◌%◌, ◌<◌, min, Bool, true, false, ◌&&◌, eqb, ltb, List, get_or, sym, refl, ap, ◌∙◌, zero-add, add-one, arith}
use lib.Bits.{bit_and, bit_or}
use Rattle.std.proofs.lemmas.Bool.{and_parts, ltb-true}
use Rattle.coding.specs.Parity.{is_letter}
use Rattle.coding.proofs.Below.{all_below, below_at, below_both, ◌implies◌}
use Rattle.store.specs.Layout.{letter_fine, letters_fine}

-- what the sums tell of the bytes in them: none has one of the lower five bits alone, and none the highest bit
abbrev pub sums_fine : (low high : ℕ) → Bool
sums_fine low high = eqb (low % 32) 0 && ltb high 128

abbrev same : Bool → Bool → Bool
same p q = (p implies q) && (q implies p)

same_is : (p q : Bool) → same p q ≡ true → p ≡ q
same_is true true e = refl
same_is true false e = sym e
same_is false true e = e
same_is false false e = refl

-- one more in the lower sum, and one more in the higher, over all numbers that there may be
abbrev low_test : ℕ → ℕ → Bool
low_test low m = same (eqb (bit_or low m % 32) 0) (eqb (low % 32) 0 && eqb (m % 32) 0) && ltb (bit_or low m) 64

abbrev high_test : ℕ → ℕ → Bool
high_test high b = same (ltb (bit_or high b) 128) (ltb high 128 && ltb b 128) && ltb (bit_or high b) 256

low_tests : all_below 64 (λ low. all_below 64 (low_test low)) ≡ true
low_tests = refl

high_tests : all_below 256 (λ high. all_below 256 (high_test high)) ≡ true
high_tests = refl

-- both sums in one test
abbrev end_test : ℕ → ℕ → Bool
end_test low high = same (eqb (bit_or (bit_and low 31) (bit_and high 128)) 0) (sums_fine low high)

end_tests : all_below 64 (λ low. all_below 256 (end_test low)) ≡ true
end_tests = refl

pub sums_end : (low high : ℕ) → low < 64 → high < 256 → eqb (bit_or (bit_and low 31) (bit_and high 128)) 0 ≡ sums_fine low high
sums_end low high lo hi = same_is _ _ (below_both 64 256 end_test end_tests low high lo hi)

-- a byte's share of the sums
abbrev byte_test : ℕ → Bool
byte_test b = same (letter_fine b) (sums_fine (min b 32) b) && ltb (min b 32) 64

byte_tests : all_below 256 byte_test ≡ true
unfolding letter_fine is_letter
byte_tests = refl

between : (a b c d : Bool) → ((a && c) && (b && d)) ≡ ((a && b) && (c && d))
between true true c d = refl
between true false true d = refl
between true false false d = refl
between false b c d = refl

swapped : (a b : Bool) → (a && b) ≡ (b && a)
swapped true true = refl
swapped true false = refl
swapped false true = refl
swapped false false = refl

-- one letter more
pub sums_more : (s : List ℕ) (at k low high b m : ℕ) → b ≡ get_or s (at + k) 0 → b < 256 → low < 64 → high < 256 → m ≡ min b 32 → sums_fine low high ≡ letters_fine s at k →
    (sums_fine (bit_or low m) (bit_or high b) ≡ letters_fine s at (k + 1)) × (bit_or low m < 64) × (bit_or high b < 256)
unfolding letters_fine
sums_more s at k low high b m here small lo hi is before =
    let own = and_parts _ _ (below_at 256 byte_test byte_tests b small) in
    let m-small : m < 64 = rw is (ltb-true (min b 32) 64 own.1) in
    let p = and_parts _ _ (below_both 64 64 low_test low_tests low m lo m-small) in
    let q = and_parts _ _ (below_both 256 256 high_test high_tests high b hi small) in (
      ap (λ x. x && ltb (bit_or high b) 128) (same_is _ _ p.0) ∙ ap (λ x. (eqb (low % 32) 0 && eqb (m % 32) 0) && x) (same_is _ _ q.0)
          ∙ between (eqb (low % 32) 0) (ltb high 128) (eqb (m % 32) 0) (ltb b 128) ∙ ap (λ x. x && sums_fine m b) before ∙ swapped (letters_fine s at k) (sums_fine m b)
          ∙ ap (λ x. sums_fine x b && letters_fine s at k) is ∙ ap (λ x. x && letters_fine s at k) (sym (same_is _ _ own.0) ∙ ap letter_fine here) ∙ ap (letters_fine s at) (sym (add-one k)),
      ltb-true _ _ p.1,
      ltb-true _ _ q.1,
    )

-- letters that stand elsewhere too
pub letters_there : (s t : List ℕ) (at n : ℕ) → ((k : ℕ) → k < n → get_or t k 0 ≡ get_or s (at + k) 0) → letters_fine t 0 n ≡ letters_fine s at n
unfolding letters_fine
letters_there s t at zero f = refl
letters_there s t at (suc k) f =
    ap (λ x. letter_fine x && letters_fine t 0 k) (ap (λ j. get_or t j 0) (zero-add k) ∙ f k (omega arith)) ∙ ap (λ x. letter_fine (get_or s (at + k) 0) && x) (letters_there s t at k (λ j h. f j (omega arith)))
