-- Letters merged some at a time: a vector stored in its part of the store, and one part after another. Assumes nothing.
use Rattle.std.proofs.Common.{◌≡◌, ℕ, ◌+◌, ◌-◌, ◌<◌, ◌≤◌, List, ◌++◌, length, get_or, take, drop, sym, ap, ◌∙◌, subst, inl, inr, ⊎_elim, zero-add, arith, length-drop, length-take-le, get_or-drop, get_or-take}
use lib.Lanes.{zip2, chunk, put_chunk}
use borrow.Rule.Slice.PartMut.{put_mid, post_of}
use Rattle.std.proofs.lemmas.Simd.{length-zip2, length-chunk, get_or-chunk, get_or-zip2, put_chunk_whole}
use Rattle.std.proofs.lemmas.List.{get_or_append_left, get_or-append_right}
use Rattle.std.proofs.lemmas.Bool.{cases_lt}
use Rattle.coding.specs.Parity.{decode_letter}
use Rattle.store.specs.Page.{merge}
use Rattle.store.specs.Writes.{MergedFrom}

abbrev merged : ℕ → ℕ → ℕ
merged x y = merge (decode_letter x) y

-- what is loaded from a part of a list
loaded : (n from : ℕ) (l : List ℕ) (c : ℕ) → c < n → get_or (chunk 0 n (take n (drop from l))) c 0 ≡ get_or l (from + c) 0
loaded n from l c h = get_or-chunk 0 n (take n (drop from l)) c 0 h ∙ ap (λ x. get_or (take n (drop from l)) x 0) (zero-add c) ∙ get_or-take n (drop from l) c 0 h ∙ get_or-drop from l c 0

part_length : (n from : ℕ) (l : List ℕ) → from + n ≤ length l → length (take n (drop from l)) ≡ n
part_length n from l h = length-take-le n (drop from l) (omega (arith, length-drop from l))

-- n letters of line l, from byte `from` on, merged into the store s from `at` on
module _ (n : ℕ) (s l : List ℕ) (at from : ℕ) (hs : at + n ≤ length s) (hl : from + n ≤ length l) where
  abbrev lanes : List ℕ
  lanes = zip2 merged (chunk 0 n (take n (drop from l))) (chunk 0 n (take n (drop at s)))

  long_came : length (chunk 0 n (take n (drop from l))) ≡ n
  long_came = length-chunk 0 n _ (omega (arith, part_length n from l hl))

  long_old : length (chunk 0 n (take n (drop at s))) ≡ n
  long_old = length-chunk 0 n _ (omega (arith, part_length n at s hs))

  long : length lanes ≡ n
  long = length-zip2 merged _ _ (long_came ∙ sym long_old) ∙ long_came

  front : length (take at s) ≡ at
  front = length-take-le at s (omega arith)

  lanes_stored : MergedFrom s l (put_mid at n s lanes) at from n
  lanes_stored = record {
    inside = λ c h.
        get_or-append_right (take at s) (lanes ++ post_of at n s) at (at + c) 0 front (omega arith) ∙ ap (λ x. get_or (lanes ++ post_of at n s) x 0) (behind c)
        ∙ get_or_append_left lanes (post_of at n s) 0 c (omega (arith, long)) ∙ get_or-zip2 merged _ _ c 0 0 0 (omega (arith, long_came)) (omega (arith, long_old))
        ∙ ap (λ x. merged x (get_or (chunk 0 n (take n (drop at s))) c 0)) (loaded n from l c h) ∙ ap (merged (get_or l (from + c) 0)) (loaded n at s c h);
    outside = λ k h. ⊎_elim
        (λ lo. get_or_append_left (take at s) (lanes ++ post_of at n s) 0 k (omega (arith, front)) ∙ get_or-take at s k 0 lo)
        (λ hi. get_or-append_right (take at s) (lanes ++ post_of at n s) at k 0 front (omega arith) ∙ get_or-append_right lanes (post_of at n s) n (k - at) 0 long (omega arith)
        ∙ get_or-drop n (drop at s) (k - at - n) 0 ∙ get_or-drop at s (n + (k - at - n)) 0 ∙ ap (λ x. get_or s x 0) (back k hi)) h;
  }
    where
      behind : (c : ℕ) → at + c - at ≡ c
      behind c = omega arith

      back : (k : ℕ) → at + n ≤ k → at + (n + (k - at - n)) ≡ k
      back k hi = omega arith

  -- as the code has it, with the lengths of the parts as it computes them
  pub chunk_merged : (k j : ℕ) (r : List ℕ) → k ≡ n → j ≡ n → r ≡ zip2 merged (chunk 0 n (take j (drop from l))) (chunk 0 n (take k (drop at s))) → MergedFrom s l (put_mid at k s (put_chunk 0 (take k (drop at s)) r)) at from n
  chunk_merged k j r ek ej is =
      let is₁ : r ≡ lanes = is ∙ ap (λ x. zip2 merged (chunk 0 n (take x (drop from l))) (chunk 0 n (take k (drop at s)))) ej ∙ ap (λ x. zip2 merged (chunk 0 n (take n (drop from l))) (chunk 0 n (take x (drop at s)))) ek in
      let whole : put_chunk 0 (take n (drop at s)) lanes ≡ lanes = put_chunk_whole _ _ (part_length n at s hs ∙ sym long) in
      let all : put_mid at k s (put_chunk 0 (take k (drop at s)) r) ≡ put_mid at n s lanes =
      ap (λ x. put_mid at x s (put_chunk 0 (take x (drop at s)) r)) ek ∙ ap (λ x. put_mid at n s (put_chunk 0 (take n (drop at s)) x)) is₁ ∙ ap (put_mid at n s) whole in
      subst (λ t. MergedFrom s l t at from n) (sym all) lanes_stored

-- n letters and then m behind them
pub chunk_more : (s l t u : List ℕ) (at from at₂ from₂ n m : ℕ) → at₂ ≡ at + n → from₂ ≡ from + n → MergedFrom s l t at from n → MergedFrom t l u at₂ from₂ m → MergedFrom s l u at from (n + m)
chunk_more s l t u at from at₂ from₂ n m ea ef p q = record {
  inside = λ c h. ⊎_elim
      (λ lt. q.outside (at + c) (inl (omega arith)) ∙ p.inside c lt)
      (λ ge. let a : at + c ≡ at₂ + (c - n) = omega arith in
      let f : from₂ + (c - n) ≡ from + c = omega arith in
      ap (λ x. get_or u x 0) a ∙ q.inside (c - n) (omega arith) ∙ ap (λ x. merged (get_or l x 0) (get_or t (at₂ + (c - n)) 0)) f
      ∙ ap (merged (get_or l (from + c) 0)) (ap (λ x. get_or t x 0) (sym a) ∙ p.outside (at + c) (inr (omega arith))))
      (cases_lt c n);
  outside = λ k h. q.outside k (⊎_elim (λ lo. inl (omega arith)) (λ hi. inr (omega arith)) h) ∙ p.outside k (⊎_elim (λ lo. inl lo) (λ hi. inr (omega arith)) h);
}
