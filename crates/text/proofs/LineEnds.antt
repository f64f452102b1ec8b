-- Lemmas on the end of a line. Assumes nothing.
use Rattle.std.proofs.Common.{◌≡◌, ℕ, ◌-◌, ◌≤◌, eqb, List, length, get_or, take, sym, refl, arith, length-take}
use Rattle.std.proofs.lemmas.Bool.{ne_eqb, cond-false, cond_both}
use Rattle.text.specs.Lines.{without_end, without_return, without_newline}

pub return_short : (l : List ℕ) → length (without_return l) ≤ length l
unfolding without_return
return_short l =
    let cut : length (take (length l - 1) l) ≤ length l = simp length-take (omega arith) in
    let whole : length l ≤ length l = omega arith in
    cond_both (eqb (get_or l (length l - 1) 0) 13) (take (length l - 1) l) l (λ x. length x ≤ length l) (λ _. cut) (λ _. whole)

pub no_return_stays : (l : List ℕ) → (get_or l (length l - 1) 0 ≡ 13 → ⊥) → l ≡ without_return l
unfolding without_return
no_return_stays l ne = sym (cond-false _ _ _ (ne_eqb _ _ ne))

-- the two ends are of one kind
pub return_end : (l : List ℕ) → without_end 13 l ≡ without_return l
unfolding without_return
return_end l = refl

pub newline_end : (l : List ℕ) → without_end 10 l ≡ without_newline l
unfolding without_newline
newline_end l = refl
