-- Lemmas on the words of a command line: what each word adds to what was asked for.
use Rattle.std.proofs.Common.{◌≡◌, ℕ, true, false, List, [], ◌∷◌, Some, None, codes, Option, refl, ap, ◌∙◌}
use Rattle.std.specs.Str.{bytes_eq}
use Rattle.std.proofs.lemmas.Bool.{cond-true, cond-false}
use Rattle.command_line.specs.declared.receive.OptionsError.{OptionsError}
use Rattle.command_line.specs.declared.receive.OptionsError.TheVariants.{Wrong, Memory}
use Rattle.command_line.specs.declared.receive.Valued.{Valued}
use Rattle.command_line.specs.Receive.{Asked, Given, help, receive, wrong, named, with_value, with_page, if_given, by_option, asked_behind, Says, Denies}

-- a word that asks for the usage
pub at_help : (g : Given) (w : List ℕ) (rest : List (List ℕ)) → bytes_eq w (codes "--help") ≡ true → asked_behind None g (w ∷ rest) ≡ help
unfolding asked_behind
at_help g w rest e = cond-true _ _ _ e

-- a word that names an option, with the value behind it, and with none
pub at_option : (g : Given) (w v : List ℕ) (rest : List (List ℕ)) (n : Valued) → bytes_eq w (codes "--help") ≡ false → named w ≡ Some n → asked_behind None g (w ∷ v ∷ rest) ≡ if_given (with_value n v g) (λ more. asked_behind None more rest)
unfolding asked_behind by_option
at_option g w v rest n no-help names =
    cond-false _ _ _ no-help
    ∙ ap (λ o. by_option o (λ option. asked_behind (Some option) g (v ∷ rest)) (if_given (with_page w g) (λ more. asked_behind None more (v ∷ rest)))) names

pub at_last : (g : Given) (w : List ℕ) (n : Valued) → bytes_eq w (codes "--help") ≡ false → named w ≡ Some n → asked_behind None g (w ∷ []) ≡ wrong
unfolding asked_behind by_option
at_last g w n no-help names =
    cond-false _ _ _ no-help
    ∙ ap (λ o. by_option o (λ option. asked_behind (Some option) g []) (if_given (with_page w g) (λ more. asked_behind None more []))) names

-- any other word is a page
pub at_page : (g : Given) (w : List ℕ) (rest : List (List ℕ)) → bytes_eq w (codes "--help") ≡ false → named w ≡ None → asked_behind None g (w ∷ rest) ≡ if_given (with_page w g) (λ more. asked_behind None more rest)
unfolding asked_behind by_option
at_page g w rest no-help names =
    cond-false _ _ _ no-help
    ∙ ap (λ o. by_option o (λ option. asked_behind (Some option) g rest) (if_given (with_page w g) (λ more. asked_behind None more rest))) names

-- a word that gives something, and one that doesn't
pub if_some : (o : Option Given) (g : Given) (f : Given → Asked) → o ≡ Some g → if_given o f ≡ f g
unfolding if_given
if_some o g f e = ap (λ x. if_given x f) e

pub if_denied : (e : OptionsError) (o : Option Given) (f : Given → Asked) (a : Asked) → Denies e o → a ≡ if_given o f → Says e a
unfolding if_given
if_denied Wrong o f a h is = is ∙ ap (λ x. if_given x f) h
if_denied Memory o f a h is = tt

pub says_wrong : (e : OptionsError) (a : Asked) → e ≡ Wrong → a ≡ wrong → Says e a
says_wrong Wrong a is h = h
says_wrong Memory a is h = tt

-- no words are left
pub at_end : (g : Given) → asked_behind None g [] ≡ receive g
unfolding asked_behind
at_end g = refl
