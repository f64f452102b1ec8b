-- Lemmas on words that are compared, and on the words from a place on.
use Rattle.std.proofs.Common.{◌≡◌, ℕ, ◌+◌, ◌<◌, Bool, true, false, List, ◌∷◌, map, length, get_or, drop, sym, ap, ◌∙◌, ⊎_elim}
use Rattle.std.specs.Str.{bytes_eq}
use Rattle.std.proofs.lemmas.Slice.Eq.{bytes_eq-Decides}
use Rattle.std.proofs.lemmas.List.{drop_more}
use Rattle.std.proofs.lemmas.Bool.{both_ways, cases_Bool}

-- a word that was compared with another, as the text of it
pub is_word : (b : Bool) (text word other : List ℕ) → text ≡ word → b ≡ bytes_eq text other → b ≡ true → word ≡ other
is_word b text word other same h is = sym same ∙ (bytes_eq-Decides text other).0 (sym h ∙ is)

pub not_word : (b : Bool) (text word other : List ℕ) → text ≡ word → b ≡ bytes_eq text other → b ≡ false → word ≡ other → ⊥
not_word b text word other same h is equal = both_ways b is (h ∙ (bytes_eq-Decides text other).1 (same ∙ equal))

-- the test of two words
pub same_word : (w k : List ℕ) → w ≡ k → bytes_eq w k ≡ true
same_word w k e = (bytes_eq-Decides w k).1 e

pub other_word : (w k : List ℕ) → (w ≡ k → ⊥) → bytes_eq w k ≡ false
other_word w k ne = ⊎_elim (λ e. absurd (ne ((bytes_eq-Decides w k).0 e))) (λ e. e) (cases_Bool (bytes_eq w k))

-- the words from a place on: the word there, and those behind it
pub word_at : {W : Type 0} (f : W → List ℕ) (ws : List W) (at : ℕ) (x : W) → at < length ws → x ≡ get_or ws at x → map f (drop at ws) ≡ f x ∷ map f (drop (at + 1) ws)
word_at f ws at x h is = ap (map f) (drop_more ws at x h ∙ ap (λ y. y ∷ drop (at + 1) ws) (sym is))
