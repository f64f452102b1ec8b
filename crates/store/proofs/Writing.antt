-- A slot begun, and a line merged into it. Assumes nothing.
use Rattle.std.proofs.Common.{◌≡◌, ℕ, ◌+◌, ◌-◌, ◌*◌, ◌<◌, ◌≤◌, true, false, ltb, ◌⊎◌, List, length, get_or, set, sym, refl, ap, ◌∙◌, subst, inl, inr, ⊎_elim, arith, get_or-set_other, get_or-set_same, below_more}
use Rattle.std.proofs.lemmas.Bool.{cond_both, cases_lt, cases_eq}
use Rattle.coding.specs.Parity.{decode_letter}
use Rattle.coding.proofs.Letters.{letter_or_none}
use Rattle.store.specs.Page.{merge}
use Rattle.store.specs.Layout.{slots, mark_at, number_at, holds, letter_fine, well_formed}
use Rattle.store.specs.Slots.{OnlySlot}
use Rattle.store.specs.Writes.{row_start, Begun, Merged}
use Rattle.store.proofs.Formed.{formed, changed_slot, no_other, holds_from, holds_same, other_mark, other_holds}

zero_fine : letter_fine 0 ≡ true
unfolding letter_fine
zero_fine = refl

pub begun_formed : (s t : List ℕ) (i n v : ℕ) → well_formed s ≡ true → i < slots s → length t ≡ length s → ((j : ℕ) → j < slots s → (j ≡ i → ⊥) → holds s n j ≡ false) → Begun s t i n v → well_formed t ≡ true
begun_formed s t i n v ok hi long lone b =
    changed_slot s t i ok hi long b.only (omega (arith, b.mark)) (λ k h. ap letter_fine (b.letters k h) ∙ zero_fine) (λ j hj ne on. ap (λ m. holds s m j) b.number ∙ lone j hj ne)

-- a merged letter is fine where the old one was
merge_fine : (b old : ℕ) → b < 256 → letter_fine old ≡ true → letter_fine (merge (decode_letter b) old) ≡ true
unfolding merge letter_fine
merge_fine b old h fine = cond_both (ltb 0 (decode_letter b)) (decode_letter b) old (λ y. letter_fine y ≡ true) (λ _. letter_or_none b h) (λ _. fine)

-- a line merged into a row of slot i
module _ (s l t : List ℕ) (i r : ℕ) (hi : i < slots s) (hr : r < 25) (long : length t ≡ length s) (bytes : (k : ℕ) → get_or l k 0 < 256) (w : Merged s l t (row_start i r) 40) where
  pub merged_only : OnlySlot s t i
  merged_only k h = w.outside k (⊎_elim (λ lt. inl (omega arith)) (λ le. inr (omega arith)) h)

  pub merged_mark : mark_at t i ≡ mark_at s i
  merged_mark = w.outside (1003 * i) (inl (omega arith))

  pub merged_number : number_at t i ≡ number_at s i
  merged_number = w.outside (1003 * i + 1) (inl (omega arith))

  pub merged_marks : (j : ℕ) → mark_at t j ≡ mark_at s j
  merged_marks j = ⊎_elim (λ e. rw e merged_mark) (λ ne. other_mark s t i merged_only j ne) (cases_eq j i)

  pub merged_holds : (n j : ℕ) → holds t n j ≡ holds s n j
  merged_holds n j = ⊎_elim (λ e. rw e (holds_same s t n i merged_mark merged_number)) (λ ne. other_holds s t i merged_only n j ne) (cases_eq j i)

  letters_stay : well_formed s ≡ true → (k : ℕ) → k < 1000 → letter_fine (get_or t (1003 * i + 3 + k) 0) ≡ true
  letters_stay ok k h =
      let old : letter_fine (get_or s (1003 * i + 3 + k) 0) ≡ true = (formed s ok).letters i k hi h in
      let kept : (1003 * i + 3 + k < row_start i r) ⊎ (row_start i r + 40 ≤ 1003 * i + 3 + k) → letter_fine (get_or t (1003 * i + 3 + k) 0) ≡ true = λ out. ap letter_fine (w.outside (1003 * i + 3 + k) out) ∙ old in
      ⊎_elim (λ lt. kept (inl lt))
      (λ ge. ⊎_elim
      (λ lt. in_row k ge lt old)
      (λ past. kept (inr past)) (cases_lt (1003 * i + 3 + k) (row_start i r + 40)))
      (cases_lt (1003 * i + 3 + k) (row_start i r))
    where
      in_row : (k : ℕ) → row_start i r ≤ 1003 * i + 3 + k → 1003 * i + 3 + k < row_start i r + 40 → letter_fine (get_or s (1003 * i + 3 + k) 0) ≡ true → letter_fine (get_or t (1003 * i + 3 + k) 0) ≡ true
      in_row k lo hi₂ old =
          let c : ℕ = 1003 * i + 3 + k - row_start i r in
          let at : row_start i r + c ≡ 1003 * i + 3 + k = omega arith in
          subst (λ j. letter_fine (get_or t j 0) ≡ true) at
          (ap letter_fine (w.inside c (omega arith)) ∙ merge_fine (get_or l (6 + c) 0) (get_or s (row_start i r + c) 0) (bytes (6 + c)) (subst (λ j. letter_fine (get_or s j 0) ≡ true) (sym at) old))

  pub merged_formed : well_formed s ≡ true → well_formed t ≡ true
  merged_formed ok =
      changed_slot s t i ok hi long merged_only (subst (λ x. x ≤ 1) (sym merged_mark) ((formed s ok).marks i hi)) (letters_stay ok)
      (λ j hj ne on. ap (λ m. holds s m j) merged_number ∙ no_other s (number_at s i) i ok hi (holds_from s (number_at s i) i (sym merged_mark ∙ on) refl) j hj ne)
