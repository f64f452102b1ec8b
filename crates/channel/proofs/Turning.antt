-- Bits that are drawn for a line, and the line with these bits turned. Assumes nothing.
use Rattle.std.proofs.Common.{◌≡◌, ℕ, zero, suc, ◌+◌, ◌-◌, ◌<◌, ◌≤◌, List, length, get_or, set, sym, ap, ◌∙◌, subst, ⊎_elim, add-zero, add-suc, arith}
use lib.Bits.{bit_xor, xor_self, xor_assoc, xor_zero_l, xor_zero_r}
use lib.Count.{ones_in}
use denote.Param.Members.{Mut, Called}
use Rattle.std.specs.Array.{IsFromFnResultFrom}
use Rattle.std.proofs.lemmas.Bool.{cases_lt}
use Rattle.std.proofs.lemmas.List.{ext_get_or}
use Rattle.std.proofs.lemmas.List.Edits.{fill_by_more}
use Rattle.coding.specs.Hamming.{distance}
use Rattle.line.specs.Damage.{row_line, WithinLimits}
use Rattle.channel.specs.Random.{next_state, later}
use Rattle.channel.specs.Air.{Drawn, BitsBy, LineBy, Turned}
use Rattle.channel.proofs.Bits.{letter_by, number_by}

-- bits that are drawn are so many as the rates and the limits say
pub drawn_by : (p q s : ℕ) (bits : List ℕ) → Drawn p q s bits → LineBy row_line p q bits
drawn_by p q s bits d =
    let N : ℕ → Type 0 = BitsBy 2 p in
    let L : ℕ → Type 0 = BitsBy 1 q in
    record {
      long = d.long;
      numbers = λ i h. subst N (sym (d.numbers i h)) (number_by p _);
      letters = λ c h. subst L (sym (d.letters c h)) (letter_by q _);
    }

-- a byte with some bits turned differs in just these
distance_turned : (a m : ℕ) → distance a (bit_xor a m) ≡ ones_in 8 m
unfolding distance
distance_turned a m = ap (ones_in 8) (sym (xor_assoc a a m) ∙ ap (λ x. bit_xor x m) (xor_self a) ∙ xor_zero_l m)

-- how far a byte of a line that came lies from the one that was sent
pub distance_at : (sent bits came : List ℕ) → length sent ≡ 46 → Turned sent bits came → (k : ℕ) → k < 46 → distance (get_or sent k 0) (get_or came k 0) ≡ ones_in 8 (get_or bits k 0)
distance_at sent bits came long t k h = ap (distance (get_or sent k 0)) (t.bytes k (omega arith)) ∙ distance_turned (get_or sent k 0) (get_or bits k 0)

-- bits that are drawn for a line are turned within its limits
pub turned_within : (p q : ℕ) (sent bits came : List ℕ) → length sent ≡ 46 → LineBy row_line p q bits → Turned sent bits came → WithinLimits row_line sent came
turned_within p q sent bits came long d t = record {
  sent_long = long;
  came_long = t.long ∙ long;
  numbers = λ i h. omega (arith, distance_at sent bits came long t i (omega arith), (d.numbers i h).few);
  letters = λ c h. omega (arith, distance_at sent bits came long t (6 + c) (omega arith), (d.letters c h).few);
}

-- the bits for a letter, by their place in the line
pub letter_at : (p q : ℕ) (bits : List ℕ) → LineBy row_line p q bits → (k : ℕ) → 6 ≤ k → k < 46 → BitsBy 1 q (get_or bits k 0)
letter_at p q bits d k lo hi =
    let e : 6 + (k - 6) ≡ k = omega arith in
    let P : ℕ → Type 0 = λ x. BitsBy 1 q (get_or bits x 0) in
    subst P e (d.letters (k - 6) (omega arith))

-- each byte has no bits to turn, at rates of 0
none_at : (p q : ℕ) (bits : List ℕ) → p ≡ 0 → q ≡ 0 → LineBy row_line p q bits → (k : ℕ) → k < 46 → get_or bits k 0 ≡ 0
none_at p q bits zp zq d k h = ⊎_elim (λ lt. (d.numbers k lt).never zp) (λ ge. (letter_at p q bits d k ge h).never zq) (cases_lt k 6)

-- at rates of 0 a line comes as it was sent
pub turned_none : (p q : ℕ) (sent bits came : List ℕ) → length sent ≡ 46 → p ≡ 0 → q ≡ 0 → LineBy row_line p q bits → Turned sent bits came → came ≡ sent
turned_none p q sent bits came long zp zq d t =
    ext_get_or 0 came sent t.long (λ k h. let lt : k < length sent = omega (arith, t.long) in t.bytes k lt ∙ ap (bit_xor (get_or sent k 0)) (none_at p q bits zp zq d k (omega arith)) ∙ xor_zero_r (get_or sent k 0))

-- what `array::from_fn` filled in, by a closure that stays as it is and gives h of each index
pub each_filled : {F : Type 0} (g : Mut F (ℕ × Unit {0}) ℕ) (f : F) (h : F → ℕ → ℕ) (ys : List ℕ) (i n : ℕ) → IsFromFnResultFrom g f ys i n →
    ((p q : F) (j y : ℕ) → Called g p (j, tt) y q → (q ≡ p) × (y ≡ h p j)) → (j : ℕ) → i ≤ j → j < i + n → get_or ys j 0 ≡ h f j
each_filled g f h ys i zero w gives j low high = absurd (omega arith)
each_filled g f h ys i (suc n) (q, y, at, called, rest) gives j low high =
    let first = gives f q i y called in
    ⊎_elim (λ lt. let e : i ≡ j = omega arith in subst (λ x. get_or ys x 0 ≡ h f x) e (at.1 0 ∙ first.1))
    (λ ge. subst (λ p. get_or ys j 0 ≡ h p j) first.0 (each_filled g q h ys (i + 1) n rest gives j ge (omega arith))) (cases_lt j (i + 1))

-- one number after the other
pub later_later : (a b s : ℕ) → later a (later b s) ≡ later (b + a) s
later_later zero b s = ap (λ n. later n s) (sym (add-zero b))
later_later (suc a) b s = ap next_state (later_later a b s) ∙ ap (λ n. later n s) (sym (add-suc b a))

-- a loop that writes f of each place, one place further
pub filled_more : (f : ℕ → ℕ) (l : List ℕ) (i v : ℕ) → v ≡ f i → i < length l → ((k : ℕ) → k < i → get_or l k 0 ≡ f k) → (k : ℕ) → k < i + 1 → get_or (set l i v) k 0 ≡ f k
filled_more f l i v e h before = subst (λ x. (k : ℕ) → k < i + 1 → get_or (set l i x) k 0 ≡ f k) (sym e) (fill_by_more f l i 0 h before)
