-- Lemmas on the words of a command line: what each adds to what was asked for. Assumes nothing.
use Rattle.std.proofs.Common.{◌≡◌, ℕ, true, false, List, [], ◌∷◌, Some, None, codes, Option, refl, ap, ◌∙◌}
use Rattle.std.specs.Str.{bytes_eq}
use Rattle.std.proofs.lemmas.Bool.{cond-true, cond-false}
use Rattle.command_line.specs.Damage.{number_of, with_setting, set_by, with_settings, asked}
use Rattle.command_line.specs.declared.damage.Settings.{Settings}
use Rattle.command_line.specs.declared.damage.Command.{Command}
use Rattle.command_line.specs.declared.damage.Command.TheVariants.{Help, Damage}

-- a word that asks for the usage
pub at_help : (s : Settings) (w : List ℕ) (rest : List (List ℕ)) → bytes_eq w (codes "--help") ≡ true → asked s (w ∷ rest) ≡ Some Help
unfolding asked
at_help s w [] e = cond-true _ _ _ e
at_help s w (n ∷ rest) e = cond-true _ _ _ e

-- any other word at the end
pub at_last : (s : Settings) (w : List ℕ) → bytes_eq w (codes "--help") ≡ false → asked s (w ∷ []) ≡ None
unfolding asked
at_last s w e = cond-false _ _ _ e

-- any other word, with the one behind it
pub at_setting : (s : Settings) (w n : List ℕ) (rest : List (List ℕ)) → bytes_eq w (codes "--help") ≡ false → asked s (w ∷ n ∷ rest) ≡ with_settings (set_by s w (number_of n)) (λ t. asked t rest)
unfolding asked
at_setting s w n rest e = cond-false _ _ _ e

-- no number behind a word
pub no_number : (s : Settings) (w n : List ℕ) (ask : Settings → Option Command) → number_of n ≡ None → with_settings (set_by s w (number_of n)) ask ≡ None
unfolding with_settings set_by
no_number s w n ask e = ap (λ o. with_settings (set_by s w o) ask) e

-- no such setting
pub no_setting : (s : Settings) (w n : List ℕ) (k : ℕ) (ask : Settings → Option Command) → number_of n ≡ Some k → with_setting s w k ≡ None → with_settings (set_by s w (number_of n)) ask ≡ None
unfolding with_settings set_by
no_setting s w n k ask e d = ap (λ o. with_settings (set_by s w o) ask) e ∙ ap (λ o. with_settings o ask) d

-- a setting that is given
pub one_setting : (s t : Settings) (w n : List ℕ) (k : ℕ) (ask : Settings → Option Command) → number_of n ≡ Some k → with_setting s w k ≡ Some t → with_settings (set_by s w (number_of n)) ask ≡ ask t
unfolding with_settings set_by
one_setting s t w n k ask e d = ap (λ o. with_settings (set_by s w o) ask) e ∙ ap (λ o. with_settings o ask) d

-- no words are left
pub at_end : (s : Settings) → asked s [] ≡ Some (Damage s)
unfolding asked
at_end s = refl
