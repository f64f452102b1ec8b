-- Lemmas on the words that are left of a command line, of whatever is asked of them. Assumes nothing.
use Rattle.std.proofs.Common.{◌≡◌, ℕ, List, [], ◌∷◌, map, length, ap, ◌∙◌, sym}
use Rattle.std.proofs.lemmas.List.{nil_from_length}

module _ {A W : Type 0} (ask : List (List ℕ) → A) (f : W → List ℕ) (ws : List W) (a : A) (inv : ask (map f ws) ≡ a) where
  -- no word
  pub none_left : length ws ≡ 0 → ask [] ≡ a
  none_left none = ap (λ l. ask (map f l)) (sym (nil_from_length ws none)) ∙ inv

  module _ (x : W) (rest : List W) (is : ws ≡ x ∷ rest) (text : List ℕ) (value : text ≡ f x) where
    -- one word, and those behind it
    pub first_left : ask (text ∷ map f rest) ≡ a
    first_left = ap (λ t. ask (t ∷ map f rest)) value ∙ ap (λ l. ask (map f l)) (sym is) ∙ inv

    -- one word, and none behind it
    pub last_left : length rest ≡ 0 → ask (text ∷ []) ≡ a
    last_left none = ap (λ l. ask (text ∷ map f l)) (sym (nil_from_length rest none)) ∙ first_left

    -- two words, and those behind them
    pub two_left : (y : W) (more : List W) (also : List ℕ) → rest ≡ y ∷ more → also ≡ f y → ask (text ∷ also ∷ map f more) ≡ a
    two_left y more also next second = ap (λ t. ask (text ∷ t ∷ map f more)) second ∙ ap (λ l. ask (text ∷ map f l)) (sym next) ∙ first_left
