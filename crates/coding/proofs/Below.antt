-- What a computed test over all numbers below a bound says of each. Assumes nothing.
use Rattle.std.proofs.Common.{◌≡◌, ℕ, zero, suc, ◌<◌, Bool, true, false, not, ◌&&◌, ◌||◌, refl, ap, ◌∙◌, ⊎_elim, le_of_suc-le-suc, eq-or-lt_of_le, arith}
use Rattle.std.proofs.lemmas.Bool.{and_parts, both_ways}

-- the test f passes at each number below n
abbrev pub all_below : ℕ → (ℕ → Bool) → Bool
all_below zero f = true
all_below (suc n) f = f n && all_below n f

pub below_at : (n : ℕ) (f : ℕ → Bool) → all_below n f ≡ true → (k : ℕ) → k < n → f k ≡ true
below_at zero f t k h = absurd (omega arith)
below_at (suc n) f t k h =
    let here = and_parts (f n) (all_below n f) t in
    ⊎_elim (λ e. ap f e ∙ here.0) (λ lt. below_at n f here.1 k lt) (eq-or-lt_of_le (le_of_suc-le-suc h))

-- the same for a test of two numbers
pub below_both : (m n : ℕ) (f : ℕ → ℕ → Bool) → all_below m (λ a. all_below n (f a)) ≡ true → (a b : ℕ) → a < m → b < n → f a b ≡ true
below_both m n f t a b ha hb = below_at n (f a) (below_at m (λ x. all_below n (f x)) t a ha) b hb

infixl 20 ◌implies◌
-- if the test p passes, so does q
abbrev pub ◌implies◌ : Bool → Bool → Bool
p implies q = not p || q

pub implied : (p q : Bool) → (p implies q) ≡ true → p ≡ true → q ≡ true
implied true q e h = e
implied false q e h = absurd (both_ways false refl h)
