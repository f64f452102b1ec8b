-- Lemmas on the words of a command line: what each word adds to what was asked for.
use Rattle.std.proofs.Common.{◌≡◌, ℕ, List, [], ◌∷◌, Some, None, codes, Option, unwrap_or, refl, ap, ◌∙◌}
use Rattle.std.proofs.lemmas.Bool.{cond-true, cond-false}
use Rattle.text.proofs.Words.{same_word, other_word}
use Rattle.command_line.specs.Send.{Asked, help, send, wrong, first_rounds, with_number, asked_behind}

-- a word that asks for the usage
pub at_help : (k : Option ℕ) (w : List ℕ) (rest : List (List ℕ)) → w ≡ codes "--help" → asked_behind k (w ∷ rest) ≡ help
unfolding asked_behind
at_help k w [] e = cond-true _ _ _ (same_word w _ e)
at_help k w (n ∷ rest) e = cond-true _ _ _ (same_word w _ e)

-- the word for the rounds, with the number that follows
pub at_rounds : (k : Option ℕ) (w n : List ℕ) (rest : List (List ℕ)) → (w ≡ codes "--help" → ⊥) → w ≡ codes "--rounds" → asked_behind k (w ∷ n ∷ rest) ≡ with_number (first_rounds k n) (λ m. asked_behind (Some m) rest)
unfolding asked_behind
at_rounds k w n rest no-help e = cond-false _ _ _ (other_word w _ no-help) ∙ cond-true _ _ _ (same_word w _ e)

-- a last word
pub at_last : (k : Option ℕ) (w : List ℕ) → (w ≡ codes "--help" → ⊥) → asked_behind k (w ∷ []) ≡ wrong
unfolding asked_behind
at_last k w no-help = cond-false _ _ _ (other_word w _ no-help)

-- any other word
pub at_other : (k : Option ℕ) (w : List ℕ) (rest : List (List ℕ)) → (w ≡ codes "--help" → ⊥) → (w ≡ codes "--rounds" → ⊥) → asked_behind k (w ∷ rest) ≡ wrong
unfolding asked_behind
at_other k w [] no-help no-rounds = cond-false _ _ _ (other_word w _ no-help)
at_other k w (n ∷ rest) no-help no-rounds = cond-false _ _ _ (other_word w _ no-help) ∙ cond-false _ _ _ (other_word w _ no-rounds)

-- a number that is there, and one that isn't
pub with_some : (o : Option ℕ) (n : ℕ) (f : ℕ → Asked) → o ≡ Some n → with_number o f ≡ f n
unfolding with_number
with_some o n f e = ap (λ x. with_number x f) e

pub with_none : (o : Option ℕ) (f : ℕ → Asked) → o ≡ None → with_number o f ≡ wrong
unfolding with_number
with_none o f e = ap (λ x. with_number x f) e

-- no words are left
pub at_end : (k : Option ℕ) → asked_behind k [] ≡ send (unwrap_or k 1)
unfolding asked_behind
at_end k = refl
