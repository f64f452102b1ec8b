-- Lemmas on the rows of the input. Assumes nothing.
use Rattle.std.proofs.Common.{◌≡◌, ◌≢◌, ℕ, List, [], ◌∷◌, ◌++◌, length, Some, None, Option, Ok, Err, Result, IsOk, MatchResult, sym, refl, ap, ◌∙◌, subst, append_assoc}
use Rattle.std.specs.Array.{IsWholeChunk}
use Rattle.std.specs.Result.{result_ok}
use Rattle.std.proofs.lemmas.Bool.{cond-true, cond-false, eq-eqb, ne_eqb}
use Rattle.text.specs.Hex.{line_bytes, hex_text}
use Rattle.text.specs.Lines.{without_newline}
use Rattle.damage_lines.specs.Passing.{if_line, line_in, Came, Written}
use Rattle.command_line.specs.declared.damage.Settings.{Settings}

-- a row that isn't bytes in hex
pub no_line : (row text : List ℕ) → text ≡ without_newline row → line_bytes text ≡ None → None ≡ line_in row
unfolding line_in if_line
no_line row text same e = sym (ap (λ t. if_line (line_bytes t)) (sym same) ∙ ap if_line e)

-- one that is: its bytes, if they fill a line
pub spelt_line : {E : Type 0} (row text items : List ℕ) (r : Result (List ℕ) E) → text ≡ without_newline row → line_bytes text ≡ Some items → (length items ≡ 46 → IsOk r) × MatchResult r (λ y. IsWholeChunk items y 46) (λ _. length items ≢ 46) → result_ok r ≡ line_in row
unfolding line_in if_line
spelt_line row text items (Ok y) same e h =
    sym (ap (λ t. if_line (line_bytes t)) (sym same) ∙ ap if_line e ∙ cond-true _ _ _ (eq-eqb _ _ h.1.long) ∙ ap Some (sym h.1.same))
spelt_line row text items (Err x) same e h =
    sym (ap (λ t. if_line (line_bytes t)) (sym same) ∙ ap if_line e ∙ cond-false _ _ _ (ne_eqb _ _ h.1))

-- what is written of a line that came
pub written_line : (t : Settings) (s : ℕ) (row line came : List ℕ) (o : Option (List ℕ)) (before mid after hex none : List ℕ)
    → o ≡ Some line → Came t s line (Some came) → none ≡ [] → hex ≡ none ++ hex_text came → mid ≡ before ++ hex → after ≡ mid ++ (10 ∷ [])
    → (x : List ℕ) × Written t s row o x × (after ≡ before ++ x)
written_line t s row line came o before mid after hex none is c empty hexed extended pushed =
    let x : List ℕ = hex_text came ++ (10 ∷ []) in
    let W : Option (List ℕ) → Type 0 = λ p. Written t s row p (hex_text came ++ (10 ∷ [])) in
    let text : hex ≡ hex_text came = hexed ∙ ap (λ e. e ++ hex_text came) empty in (
      x,
      subst W (sym is) (Some came, c, refl),
      pushed ∙ ap (λ m. m ++ (10 ∷ [])) (extended ∙ ap (λ h. before ++ h) text) ∙ append_assoc before (hex_text came) (10 ∷ []),
    )
