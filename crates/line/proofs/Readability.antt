-- When a line can be made out. Assumes nothing.
use Rattle.std.proofs.Common.{◌≡◌, ℕ, ◌+◌, ◌*◌, ◌<◌, ◌⊎◌, true, false, ◌&&◌, eqb, ltb, List, length, Decides, refl, ⊎_elim, arith}
use Rattle.std.proofs.lemmas.Bool.{and_parts, and_from, lt-ltb, ltb-true, eq-eqb, eqb-true, cases_Bool}
use Rattle.std.proofs.lemmas.Bool.Decides.{Decides-below_and, Decides-ltb}
use Rattle.line.specs.Reading.{number_of, row_of, all_numbers, readable}

all_numbers_is : (l : List ℕ) (n : ℕ) → Decides (all_numbers l n) ((k : ℕ) → k < n → number_of l k < 16)
unfolding all_numbers
all_numbers_is l = Decides-below_and (λ k. ltb (number_of l k) 16) (λ k. number_of l k < 16) (all_numbers l) (λ k. Decides-ltb (number_of l k) 16) refl (λ _. refl)

-- the three things that a line that can be made out has
pub record Readable (l : List ℕ) : Type 0 where
  pub long : length l ≡ 46
  pub numbers : (k : ℕ) → k < 6 → number_of l k < 16
  pub row : row_of l < 25

pub readable_parts : (l : List ℕ) → readable l ≡ true → Readable l
unfolding readable
readable_parts l e =
    let a = and_parts (eqb (length l) 46) (all_numbers l 6 && ltb (row_of l) 25) e in
    let b = and_parts (all_numbers l 6) (ltb (row_of l) 25) a.1 in
    record { long = eqb-true _ _ a.0; numbers = (all_numbers_is l 6).0 b.0; row = ltb-true _ _ b.1 }

pub readable_from : (l : List ℕ) → Readable l → readable l ≡ true
unfolding readable
readable_from l w = and_from _ _ (eq-eqb _ _ w.long) (and_from _ _ ((all_numbers_is l 6).1 w.numbers) (lt-ltb _ _ w.row))

pub unreadable : (l : List ℕ) → (Readable l → ⊥) → readable l ≡ false
unreadable l f = ⊎_elim (λ e. absurd (f (readable_parts l e))) (λ e. e) (cases_Bool (readable l))

-- a byte of one of the three pairs is no number
pub unreadable_pair : (l : List ℕ) (k : ℕ) → k < 3 → (number_of l (2 * k) ≡ 16) ⊎ (number_of l (2 * k + 1) ≡ 16) → readable l ≡ false
unreadable_pair l k h =
    ⊎_elim (λ e. unreadable l (λ w. omega (arith, e, w.numbers (2 * k) (omega arith)))) (λ e. unreadable l (λ w. omega (arith, e, w.numbers (2 * k + 1) (omega arith))))
