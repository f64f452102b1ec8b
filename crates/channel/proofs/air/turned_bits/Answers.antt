use Rattle.std.proofs.Common.{◌≡◌, ℕ, suc, ◌+◌, ◌*◌, ◌<◌, List, ◌++◌, length, get_or, ap, ◌∙◌, subst, arith, length-append}
use Rattle.std.proofs.lemmas.List.{get_or_append_left, get_or-append-add}
use Rattle.channel.specs.Random.{next_state, later}
use Rattle.channel.specs.Air.{number_bits, letter_bits, Drawn}
use Rattle.channel.proofs.Turning.{later_later, filled_more, drawn_by}
use Rattle.channel.proofs.air.turned_bits.Goals as goal

pub loop-number-preserved : goal.loop-number-preserved
loop-number-preserved c =
    let l = c.loop-number.numbers in
    let i = c.loop-number.number-index in
    let inv = c.loop-number.invariant in
    let four : suc (suc (suc (suc (4 * i)))) ≡ 4 * (i + 1) = omega arith in (
      c.number_bits.ensures.state ∙ ap (λ x. next_state (next_state (next_state (next_state x)))) inv.0 ∙ ap (λ n. later n c.args.random.now.state) four,
      filled_more (λ k. number_bits c.args.rates.now.numbers (later (4 * k) c.args.random.now.state)) l i _ (c.number_bits.ensures.bits ∙ ap (number_bits c.args.rates.now.numbers) inv.0) (omega arith) inv.1,
    )

pub loop-letter-preserved : goal.loop-letter-preserved
loop-letter-preserved c =
    let l = c.loop-letter.letters in
    let i = c.loop-letter.letter-index in
    let inv = c.loop-letter.invariant in
    let two : suc (suc (2 * i)) ≡ 2 * (i + 1) = omega arith in (
      c.letter_bits.ensures.state ∙ ap (λ x. next_state (next_state x)) inv.0 ∙ ap (λ n. later n c.loop-number.random.state) two,
      filled_more (λ k. letter_bits c.args.rates.now.letters (later (2 * k) c.loop-number.random.state)) l i _ (c.letter_bits.ensures.bits ∙ ap (letter_bits c.args.rates.now.letters) inv.0) (omega arith) inv.1,
    )

drawn : (p q s t n m : ℕ) (numbers letters : List ℕ) → n ≡ 6 → m ≡ 40 → length numbers ≡ n → length letters ≡ m → t ≡ later (4 * n) s
    → ((i : ℕ) → i < n → get_or numbers i 0 ≡ number_bits p (later (4 * i) s))
    → ((c : ℕ) → c < m → get_or letters c 0 ≡ letter_bits q (later (2 * c) t))
    → Drawn p q s (numbers ++ letters)
drawn p q s t n m numbers letters en em ln lm et nums lets = record {
  long = omega (arith, length-append numbers letters);
  numbers = λ i h. get_or_append_left numbers letters 0 i (omega arith) ∙ nums i (omega arith);
  letters = λ c h.
      subst (λ k. get_or (numbers ++ letters) (k + c) 0 ≡ get_or letters c 0) (ln ∙ en) (get_or-append-add numbers letters c 0)
      ∙ lets c (omega arith) ∙ ap (letter_bits q) (ap (later (2 * c)) (et ∙ ap (λ x. later (4 * x) s) en) ∙ later_later (2 * c) 24 s);
}

pub returns : goal.returns
returns c =
    let one = c.loop-number.invariant in
    let two = c.loop-letter.invariant in
    let s = c.args.random.now.state in
    let parts = c.split_at_mut-numbers.ensures in
    let n : c.loop-number.number-index ≡ 6 = omega (arith, parts.front_len) in
    let m : c.loop-letter.letter-index ≡ 40 = omega (arith, parts.back_len) in
    let d = drawn c.args.rates.now.numbers c.args.rates.now.letters s _ _ _ c.loop-number.numbers c.loop-letter.letters n m
    (omega (arith, parts.front_len)) (omega (arith, parts.back_len)) one.0 one.1 two.1 in
    record {
      bits = d;
      state = two.0 ∙ ap (λ x. later (2 * x) c.loop-number.random.state) m ∙ ap (later 80) (one.0 ∙ ap (λ x. later (4 * x) s) n) ∙ later_later 80 24 s;
      law = drawn_by _ _ s _ d;
    }
