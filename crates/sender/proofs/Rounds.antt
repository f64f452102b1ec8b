-- A round of the sender: the lines have ranks, row after row, and each turn goes on by one rank. Assumes nothing.
use Rattle.std.proofs.Common.{◌≡◌, ℕ, zero, suc, ◌+◌, ◌-◌, ◌*◌, ◌/◌, ◌%◌, ◌<◌, ◌≤◌, ◌⊎◌, Some, None, unwrap_or, sym, refl, ap, ◌∙◌, inl, inr, ⊎_elim, add-mul, add-one, arith}
use lib.Arith.{digits_lt, digits_div, digits_mod}
use Rattle.line.specs.Size.{rows}
use Rattle.std.proofs.lemmas.Bool.{cases_lt, cond-true, cond-false, lt-ltb, le-ltb, eq-eqb, ne_eqb}
use Rattle.sender.specs.declared.turns.Schedule.{Schedule}
use Rattle.sender.specs.Schedule.{in_range, line_of, turn, one_on, after, after_turns, EachLineOnce}

pub within : (limit n : ℕ) → n < limit → in_range limit n ≡ n
unfolding in_range
within limit n h = cond-true _ _ _ (lt-ltb n limit h)

pub beyond : (limit n : ℕ) → limit ≤ n → in_range limit n ≡ 0
unfolding in_range
beyond limit n h = cond-false _ _ _ (le-ltb n limit h)

pub in_range_lt : (limit n : ℕ) → 0 < limit → in_range limit n < limit
in_range_lt limit n some =
    ⊎_elim (λ h. omega (arith, within limit n h)) (λ h. omega (arith, beyond limit n h)) (cases_lt n limit)

pub no_turn : (pages : ℕ) (s : Schedule) → pages ≡ 0 → turn pages s ≡ None
unfolding turn
no_turn pages s e = cond-true _ _ _ (eq-eqb pages 0 e)

pub some_turn : (pages : ℕ) (s : Schedule) → (pages ≡ 0 → ⊥) → turn pages s ≡ Some (line_of (in_range pages s.page) (in_range rows s.row))
unfolding turn
some_turn pages s ne = cond-false _ _ _ (ne_eqb pages 0 ne)

pub some_move : (pages : ℕ) (s : Schedule) → (pages ≡ 0 → ⊥) → after pages s ≡ one_on pages (in_range pages s.page) (in_range rows s.row)
unfolding after
some_move pages s ne = cond-false _ _ _ (ne_eqb pages 0 ne)

pub next_page : (pages p r : ℕ) → p + 1 < pages → one_on pages p r ≡ record { page = p + 1; row = r }
unfolding one_on
next_page pages p r h = cond-true _ _ _ (lt-ltb (p + 1) pages h)

pub next_row : (pages p r : ℕ) → pages ≤ p + 1 → one_on pages p r ≡ record { page = 0; row = in_range rows (r + 1) }
unfolding one_on
next_row pages p r h = cond-false _ _ _ (le-ltb (p + 1) pages h)

-- how many lines go before this one in a round that begins with row 0 of the first page
rank : ℕ → Schedule → ℕ
rank pages s = in_range rows s.row * pages + in_range pages s.page

rank_lt : (pages : ℕ) (s : Schedule) → 0 < pages → rank pages s < rows * pages
unfolding rank
rank_lt pages s some = digits_lt (in_range_lt rows s.row (omega arith)) (in_range_lt pages s.page some)

rank_page : (pages p r : ℕ) → p + 1 < pages → r < rows → rank pages (one_on pages p r) ≡ in_range (rows * pages) (r * pages + p + 1)
unfolding rank
rank_page pages p r h hr =
    let low : r * pages + (p + 1) < rows * pages = digits_lt hr h in
    let here : r * pages + p + 1 < rows * pages = omega arith in
    let back : r * pages + (p + 1) ≡ r * pages + p + 1 = omega arith in
    ap (rank pages) (next_page pages p r h) ∙ ap (λ x. in_range rows r * pages + x) (within pages (p + 1) h) ∙ ap (λ x. x * pages + (p + 1)) (within rows r hr) ∙ back ∙ sym (within _ _ here)

rank_row : (pages p r : ℕ) → pages ≡ p + 1 → r + 1 < rows → rank pages (one_on pages p r) ≡ in_range (rows * pages) (r * pages + p + 1)
unfolding rank
rank_row pages p r e hr =
    let zero-page : in_range pages 0 ≡ 0 = within pages 0 (omega arith) in
    let row : in_range rows (in_range rows (r + 1)) ≡ r + 1 = ap (in_range rows) (within rows (r + 1) hr) ∙ within rows (r + 1) hr in
    let low : (r + 1) * pages + 0 < rows * pages = digits_lt hr (omega arith) in
    let back : (r + 1) * pages + 0 ≡ r * pages + p + 1 = omega (arith, add-mul r 1 pages) in
    let here : r * pages + p + 1 < rows * pages = omega arith in
    ap (rank pages) (next_row pages p r (omega arith)) ∙ ap (λ x. in_range rows (in_range rows (r + 1)) * pages + x) zero-page ∙ ap (λ x. x * pages + 0) row ∙ back ∙ sym (within _ _ here)

rank_round : (pages p r : ℕ) → pages ≡ p + 1 → r ≡ 24 → rank pages (one_on pages p r) ≡ in_range (rows * pages) (r * pages + p + 1)
unfolding rank
rank_round pages p r e hr =
    let zero-page : in_range pages 0 ≡ 0 = within pages 0 (omega arith) in
    let row : in_range rows (in_range rows (r + 1)) ≡ 0 = ap (in_range rows) (beyond rows (r + 1) (omega arith)) ∙ within rows 0 (omega arith) in
    let last : r * pages ≡ 24 * pages = ap (λ x. x * pages) hr in
    let here : rows * pages ≤ r * pages + p + 1 = omega arith in
    let none : 0 * pages + 0 ≡ 0 = omega arith in
    ap (rank pages) (next_row pages p r (omega arith)) ∙ ap (λ x. in_range rows (in_range rows (r + 1)) * pages + x) zero-page ∙ ap (λ x. x * pages + 0) row ∙ none ∙ sym (beyond _ _ here)

-- a turn goes on by one rank, and behind the last to the first
rank_on : (pages p r : ℕ) → p < pages → r < rows → rank pages (one_on pages p r) ≡ in_range (rows * pages) (r * pages + p + 1)
rank_on pages p r hp hr =
    ⊎_elim (λ h. rank_page pages p r h hr)
    (λ h. ⊎_elim (λ more. rank_row pages p r (omega arith) more) (λ done. rank_round pages p r (omega arith) (omega arith)) (cases_lt (r + 1) rows))
    (cases_lt (p + 1) pages)

rank_after : (pages : ℕ) (s : Schedule) → 0 < pages → rank pages (after pages s) ≡ in_range (rows * pages) (rank pages s + 1)
unfolding rank
rank_after pages s some =
    ap (rank pages) (some_move pages s (λ e. omega arith)) ∙ rank_on pages (in_range pages s.page) (in_range rows s.row) (in_range_lt pages s.page some) (in_range_lt rows s.row (omega arith))

-- the rank y that comes k turns after the rank x, of n
abbrev Comes : ℕ → ℕ → ℕ → ℕ → Type 0
Comes n x k y = ((x + k < n) × (y ≡ x + k)) ⊎ ((n ≤ x + k) × (y + n ≡ x + k))

comes_more : (n x k y z : ℕ) → x < n → suc k < n → Comes n x k y → z ≡ in_range n (y + 1) → Comes n x (suc k) z
comes_more n x k y z hx hk way e =
    ⊎_elim
    (λ h. let z_is : z ≡ y + 1 = e ∙ within n (y + 1) h in
    ⊎_elim (λ a. inl (omega arith, omega arith)) (λ b. inr (omega arith, omega arith)) way)
    (λ h. let z_is : z ≡ 0 = e ∙ beyond n (y + 1) h in
    ⊎_elim (λ a. inr (omega arith, omega arith)) (λ b. absurd (omega arith)) way)
    (cases_lt (y + 1) n)

comes : (pages : ℕ) (s : Schedule) (k : ℕ) → 0 < pages → k < rows * pages → Comes (rows * pages) (rank pages s) k (rank pages (after_turns pages k s))
unfolding after_turns
comes pages s zero some h = inl (omega (arith, rank_lt pages s some), omega arith)
comes pages s (suc k) some h =
    comes_more (rows * pages) (rank pages s) k (rank pages (after_turns pages k s)) _ (rank_lt pages s some) h (comes pages s k some (omega arith)) (rank_after pages (after_turns pages k s) some)

-- a line goes where its rank comes
goes_rank : (pages : ℕ) (s : Schedule) (p r : ℕ) → 0 < pages → turn pages s ≡ Some (line_of p r) → rank pages s ≡ r * pages + p
unfolding rank
goes_rank pages s p r some e =
    let same : Some (line_of (in_range pages s.page) (in_range rows s.row)) ≡ Some (line_of p r) = sym (some_turn pages s (λ z. omega arith)) ∙ e in
    let page : in_range pages s.page ≡ p = ap (λ o. (unwrap_or o (line_of 0 0)).page) same in
    let row : in_range rows s.row ≡ r = ap (λ o. (unwrap_or o (line_of 0 0)).row) same in
    ap (λ x. in_range rows s.row * pages + x) page ∙ ap (λ x. x * pages + p) row

rank_goes : (pages : ℕ) (s : Schedule) (p r : ℕ) → p < pages → rank pages s ≡ r * pages + p → turn pages s ≡ Some (line_of p r)
unfolding rank
rank_goes pages s p r hp e =
    let some : 0 < pages = omega arith in
    let low : in_range pages s.page < pages = in_range_lt pages s.page some in
    let row : in_range rows s.row ≡ r = sym (digits_div (in_range rows s.row) low) ∙ ap (λ x. x / pages) e ∙ digits_div r hp in
    let page : in_range pages s.page ≡ p = sym (digits_mod (in_range rows s.row) low) ∙ ap (λ x. x % pages) e ∙ digits_mod r hp in
    some_turn pages s (λ z. omega arith) ∙ ap (λ x. Some (line_of x (in_range rows s.row))) page ∙ ap (λ x. Some (line_of p x)) row

-- after how many turns the rank t comes, from the rank x on
abbrev Once : ℕ → ℕ → ℕ → Type 0
Once n x t = (k : ℕ) × (k < n) × ((y : ℕ) → Comes n x k y → y ≡ t) × ((j y : ℕ) → j < n → Comes n x j y → y ≡ t → j ≡ k)

once : (n x t : ℕ) → x < n → t < n → Once n x t
once n x t hx ht =
    ⊎_elim
    (λ h. (t + n - x, omega arith, λ y way. ⊎_elim (λ a. absurd (omega arith)) (λ b. omega arith) way, λ j y hj way e. ⊎_elim (λ a. absurd (omega arith)) (λ b. omega arith) way))
    (λ h. (t - x, omega arith, λ y way. ⊎_elim (λ a. omega arith) (λ b. absurd (omega arith)) way, λ j y hj way e. ⊎_elim (λ a. omega arith) (λ b. absurd (omega arith)) way))
    (cases_lt t x)

pub each_line_once : EachLineOnce
each_line_once pages s p r hp hr =
    let some : 0 < pages = omega arith in
    let t-low : r * pages + p < rows * pages = digits_lt hr hp in
    let found = once (rows * pages) (rank pages s) (r * pages + p) (rank_lt pages s some) t-low in (
      found.0,
      omega (arith, found.1),
      rank_goes pages _ p r hp (found.2 _ (comes pages s found.0 some found.1)),
      λ j hj goes.
          let low : j < rows * pages = omega arith in
          found.3 j _ low (comes pages s j some low) (goes_rank pages _ p r some goes),
    )

-- one turn more
pub turns_more : (pages k : ℕ) (s now then : Schedule) → now ≡ after_turns pages k s → then ≡ after pages now → then ≡ after_turns pages (k + 1) s
unfolding after_turns
turns_more pages k s now then e f = rw add-one (f ∙ ap (after pages) e)

pub turns_none : (pages : ℕ) (s : Schedule) → s ≡ after_turns pages 0 s
unfolding after_turns
turns_none pages s = refl
