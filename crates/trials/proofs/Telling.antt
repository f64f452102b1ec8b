-- The letters of the reference's pages, as lines are put over them. Assumes nothing.
use Rattle.std.proofs.Common.{◌≡◌, ℕ, ◌+◌, ◌*◌, ◌/◌, ◌%◌, ◌<◌, ◌≤◌, eqb, List, length, length-take, min, get_or, set, take, drop, replicate, false, sym, ap, ◌∙◌, subst, ⊎_elim, arith, get_or-set_other, get_or-set_same, below_more}
use lib.ListN.{get_or-replicate, length-replicate, get_or-eq_default}
use Rattle.std.proofs.lemmas.List.{get_or-take, get_or-drop}
use Rattle.std.proofs.lemmas.Bool.{cases_lt, cond-false}
use Rattle.trials.specs.Text.{text_letter}
use Rattle.trials.specs.Told.{letter_told, letter_after, sent_at, RowPut}
use Rattle.trials.specs.declared.came.Came.{Came}

-- no letters
pub none_known : (n k : ℕ) → let zeros : List ℕ = replicate n 0 in get_or zeros k 0 ≡ 0
none_known n k = ⊎_elim (λ lt. get_or-replicate n k 0 0 lt) (λ le. get_or-eq_default (replicate n 0) 0 (subst (λ m. m ≤ k) (sym (length-replicate n 0)) le)) (cases_lt k n)

-- what was sent at a place of a row
pub sent_there : (n v row c : ℕ) → row < 25 → c < 40 → sent_at n v (40 * row + c) ≡ text_letter n v row c
sent_there n v row c low hc =
    let k = 40 * row + c in
    let er : k / 40 ≡ row = omega arith in
    let ec : k % 40 ≡ c = omega arith in
    ap (λ x. text_letter n v x (k % 40)) er ∙ ap (text_letter n v row) ec

-- one more letter of a row is put
pub row_more : (came : Came) (s t : List ℕ) (n b : ℕ) → RowPut came s t n → 40 * came.sent.row + n < length t →
    b ≡ letter_after came.sent.page came.sent.version came.sent.row n (get_or came.bits (6 + n) 0) (letter_told t came.sent.row n) → RowPut came s (set t (40 * came.sent.row + n) b) (n + 1)
row_more came s t n b w room is =
    let page = came.sent.page in
    let version = came.sent.version in
    let row = came.sent.row in
    let bits = came.bits in
    let at = 40 * row + n in
    let kept : letter_told t row n ≡ letter_told s row n = w.outside at (λ c h e. omega arith) in
    record {
      inside = below_more (λ c. letter_told (set t at b) row c ≡ letter_after page version row c (get_or bits (6 + c) 0) (letter_told s row c)) n
          (λ c h. get_or-set_other t at (40 * row + c) b 0 (omega arith) ∙ w.inside c h)
          (get_or-set_same t at b 0 room ∙ is ∙ ap (letter_after page version row n (get_or bits (6 + n) 0)) kept);
      outside = λ k off. get_or-set_other t at k b 0 (λ e. off n (omega arith) e) ∙ w.outside k (λ c h. off c (omega arith));
    }

-- one more whose byte was damaged
pub row_kept : (came : Came) (s t : List ℕ) (n : ℕ) → RowPut came s t n → (get_or came.bits (6 + n) 0 ≡ 0 → ⊥) → RowPut came s t (n + 1)
row_kept came s t n w turned =
    let row = came.sent.row in
    let kept : letter_told t row n ≡ letter_told s row n = w.outside (40 * row + n) (λ c h e. omega arith) in
    record {
      inside = below_more (λ c. letter_told t row c ≡ letter_after came.sent.page came.sent.version row c (get_or came.bits (6 + c) 0) (letter_told s row c)) n w.inside
          (kept ∙ sym (cond-false (eqb (get_or came.bits (6 + n) 0) 0) _ _ (off_zero (get_or came.bits (6 + n) 0) turned)));
      outside = λ k off. w.outside k (λ c h. off c (omega arith));
    }
  where
    off_zero : (x : ℕ) → (x ≡ 0 → ⊥) → eqb x 0 ≡ false
    off_zero x ne = grind arith

-- the bits that are turned in a letter's byte
pub letter_bits : (bits : List ℕ) (n : ℕ) → n < length (take 40 (drop 6 bits)) → (n < 40) × (get_or (take 40 (drop 6 bits)) n 0 ≡ get_or bits (6 + n) 0)
letter_bits bits n h =
    let few : length (take 40 (drop 6 bits)) ≡ min 40 (length (drop 6 bits)) = length-take 40 (drop 6 bits) in
    (omega (arith, h, few), get_or-take 40 (drop 6 bits) n 0 (omega (arith, h, few)) ∙ get_or-drop 6 bits n 0)
