-- Lines laid end to end, one after the other. Assumes nothing.
use Rattle.std.proofs.Common.{◌≡◌, ℕ, ◌+◌, ◌*◌, ◌≤◌, List, [], ◌∷◌, ◌++◌, length, take, drop, sym, refl, ap, ◌∙◌, subst, add-one, arith}
use Rattle.std.proofs.lemmas.List.{take_all, take_at, drop_at, drop-drop, length-append, length-drop}
use Rattle.receiver.specs.Entry.{Answers, counted}
use Rattle.receiver.specs.Runs.{Run, end}
use Rattle.receiver.specs.Batch.{first_lines, counted_all, TakenFirst}
use Rattle.receiver.specs.declared.entry.Done.{Done}
use Rattle.receiver.specs.declared.entry.Counts.{Counts}
use Rattle.receiver.proofs.Steps.{run_more}

-- ONE LINE MORE

pub taken_none : (bytes s : List ℕ) (k : Counts) → TakenFirst bytes s k s k 0
unfolding first_lines counted_all
taken_none bytes s k = record { answers = []; run = end s; count = refl }

counted_more : (k : Counts) (rs : List Done) (r : Done) → counted_all k (rs ++ (r ∷ [])) ≡ counted (counted_all k rs) r
unfolding counted_all
counted_more k [] r = refl
counted_more k (q ∷ rs) r = counted_more (counted k q) rs r

one_line_more : (bytes : List ℕ) (n : ℕ) → first_lines bytes (n + 1) ≡ (first_lines bytes n ++ (take 46 (drop (46 * n) bytes) ∷ []))
unfolding first_lines
one_line_more bytes n = ap (first_lines bytes) (add-one n)

pub taken_more : (bytes s s₁ s₂ l : List ℕ) (k k₁ k₂ : Counts) (n m : ℕ) (r : Done) → l ≡ take 46 (drop (46 * n) bytes) → m ≡ n + 1 → TakenFirst bytes s k s₁ k₁ n → Answers l s₁ r s₂ → k₂ ≡ counted k₁ r → TakenFirst bytes s k s₂ k₂ m
taken_more bytes s s₁ s₂ l k k₁ k₂ n m r line more w a e = subst (TakenFirst bytes s k s₂ k₂) (sym more) (record {
  answers = w.answers ++ (r ∷ []);
  run = subst (λ ls. Run s ls (w.answers ++ (r ∷ [])) s₂) (sym (one_line_more bytes n))
      (run_more s s₁ s₂ (take 46 (drop (46 * n) bytes)) r (first_lines bytes n) w.answers w.run (subst (λ x. Answers x s₁ r s₂) line a));
  count = e ∙ ap (λ x. counted x r) w.count ∙ sym (counted_more k w.answers r);
})

-- of lines laid end to end, of which n are cut off, the next piece of 46 bytes is the next line
pub cut_more : (bytes left line after : List ℕ) (n size : ℕ) → 46 * n ≤ length bytes → left ≡ drop (46 * n) bytes → left ≡ line ++ after → length line ≡ size → size ≡ 46 →
    (line ≡ take 46 (drop (46 * n) bytes)) × (after ≡ drop (46 * (n + 1)) bytes) × (46 * (n + 1) ≤ length bytes)
cut_more bytes left line after n size within now cut long whole =
    let here : line ++ after ≡ drop (46 * n) bytes = sym cut ∙ now in
    let exact : length line ≡ 46 = omega arith in (
      sym (take_at line after 46 exact) ∙ ap (take 46) here,
      sym (drop_at line after 46 exact) ∙ ap (drop 46) here ∙ drop-drop 46 (46 * n) bytes ∙ ap (λ k. drop k bytes) (omega arith),
      omega (arith, ap length here, length-append line after, length-drop (46 * n) bytes),
    )

-- a single line is all of them
pub one_line : (bytes : List ℕ) (n : ℕ) → length bytes ≡ 46 → n ≡ 0 → take 46 (drop (46 * n) bytes) ≡ bytes
one_line bytes n long first = ap (λ k. take 46 (drop (46 * k) bytes)) first ∙ take_all 46 bytes (omega arith)
