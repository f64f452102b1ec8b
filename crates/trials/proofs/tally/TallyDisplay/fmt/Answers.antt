use Rattle.std.proofs.Common.{◌≡◌, ℕ, List, subst, refl, rules}
use Rattle.std.specs.Fmt.{HasWritten}
use Rattle.std.specs.declared.fmt.Formatter.{Formatter}
use Rattle.std.proofs.lemmas.Grind.{put_three}
use Rattle.trials.specs.Counts.{lines_text, letters_text, pages_text}
use Rattle.trials.proofs.tally.TallyDisplay.fmt.Goals as goal

-- the same text in another form
same_text : {W : Type 0} {took : W → List ℕ → W → Type 0} {f h : Formatter W} {xs bs : List ℕ} → HasWritten took f xs h → xs ≡ bs → HasWritten took f bs h
same_text {W} {took} {f} {h} w e = subst (λ x. HasWritten took f x h) e w

pub returns-clause-writes : goal.returns-clause-writes
returns-clause-writes g c = λ plain ok.
    let t = c.args.self.now in
    let one = c.in_ok-writeln.ensures.writes plain (search rules) in
    let two = c.in_ok-writeln-2.ensures.writes one.plain (search rules) in
    let three = c.write.ensures.writes two.plain ok in
    put_three _ _ _ _ _ (lines_text t) (letters_text t) (pages_text t) _
    (same_text one refl)
    (same_text two refl)
    (same_text three refl) refl
