-- The bits that are drawn for a byte: how many they are. Assumes nothing.
use Rattle.std.proofs.Common.{◌≡◌, ℕ, ◌^◌, ◌<◌, ◌≤◌, Bool, true, cond, eqb, refl, arith}
use lib.Count.{ones_in}
use Rattle.std.proofs.lemmas.Bool.{eqb-true, ltb-true, ltb-false, cond_both}
use Rattle.coding.proofs.Below.{all_below, below_at, below_both}
use Rattle.channel.specs.Random.{later, drawn_below, comes_about}
use Rattle.channel.specs.Air.{two_bits, letter_bits, number_bits, BitsBy}

one_test : all_below 8 (λ k. eqb (ones_in 8 (2 ^ k)) 1) ≡ true
unfolding ones_in
one_test = refl

one_set : (k : ℕ) → k < 8 → ones_in 8 (2 ^ k) ≡ 1
one_set k h = eqb-true _ _ (below_at 8 (λ k. eqb (ones_in 8 (2 ^ k)) 1) one_test k h)

two_test : all_below 8 (λ a. all_below 7 (λ b. eqb (ones_in 8 (two_bits a b)) 2)) ≡ true
unfolding ones_in
two_test = refl

two_set : (a b : ℕ) → a < 8 → b < 7 → ones_in 8 (two_bits a b) ≡ 2
two_set a b ha hb = eqb-true _ _ (below_both 8 7 (λ a b. eqb (ones_in 8 (two_bits a b)) 2) two_test a b ha hb)

none_set : ones_in 8 0 ≡ 0
unfolding ones_in
none_set = refl

drawn_low_8 : (s : ℕ) → drawn_below 8 s < 8
unfolding drawn_below
drawn_low_8 s = omega arith

drawn_low_7 : (s : ℕ) → drawn_below 7 s < 7
unfolding drawn_below
drawn_low_7 s = omega arith

drawn_low_1000 : (s : ℕ) → drawn_below 1000 s < 1000
unfolding drawn_below
drawn_low_1000 s = omega arith

-- by a chance there are some bits or none: as the rate says, if some are one at least and few enough
by_chance : (limit rate s bits : ℕ) → 1 ≤ ones_in 8 bits → ones_in 8 bits ≤ limit → BitsBy limit rate (cond (comes_about rate s) bits 0)
by_chance limit rate s bits some few =
    cond_both (comes_about rate s) bits 0 (BitsBy limit rate)
    (λ t. let h : drawn_below 1000 s < rate = ltb-true _ _ t in record { few = few; never = λ z. absurd (omega arith); always = λ _. some })
    (λ t. let h : rate ≤ drawn_below 1000 s = ltb-false _ _ t in record { few = omega (arith, none_set); never = λ _. refl; always = λ big. absurd (omega (arith, drawn_low_1000 s)) })

pub letter_by : (rate s : ℕ) → BitsBy 1 rate (letter_bits rate s)
unfolding letter_bits
letter_by rate s =
    let one = one_set (drawn_below 8 (later 1 s)) (drawn_low_8 (later 1 s)) in
    by_chance 1 rate s (2 ^ drawn_below 8 (later 1 s)) (omega (arith, one)) (omega (arith, one))

one_or_two : (b : Bool) (p f : ℕ) → p < 8 → f < 7 → (1 ≤ ones_in 8 (cond b (two_bits p f) (2 ^ p))) × (ones_in 8 (cond b (two_bits p f) (2 ^ p)) ≤ 2)
one_or_two b p f hp hf =
    cond_both b (two_bits p f) (2 ^ p) (λ x. (1 ≤ ones_in 8 x) × (ones_in 8 x ≤ 2))
    (λ _. (omega (arith, two_set p f hp hf), omega (arith, two_set p f hp hf)))
    (λ _. (omega (arith, one_set p hp), omega (arith, one_set p hp)))

pub number_by : (rate s : ℕ) → BitsBy 2 rate (number_bits rate s)
unfolding number_bits
number_by rate s =
    let some = one_or_two (comes_about 500 (later 2 s)) (drawn_below 8 (later 1 s)) (drawn_below 7 (later 3 s)) (drawn_low_8 (later 1 s)) (drawn_low_7 (later 3 s)) in
    by_chance 2 rate s _ some.0 some.1
