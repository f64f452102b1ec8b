-- Lemmas on the lines of an input that were taken so far.
use Rattle.std.proofs.Common.{◌≡◌, ℕ, ◌+◌, ◌<◌, List, [], ◌∷◌, ◌++◌, length, Some, None, Option, IfSome, refl, sym, ap, ◌∙◌, subst, append_assoc, append-nil, add-zero, arith, Ok, Result, Bor}
use Rattle.std.specs.Fn.{Mut, Called}
use Rattle.std.specs.Io.BufRead.{take_through, drop_through, DropsThrough}
use Rattle.std.specs.Io.KnownBytes.{IsAtEnd}
use Rattle.std.proofs.lemmas.Fn.{FoldsTo-push}
use Rattle.command_line.specs.Input.{AreLinesOf, numbered, TookEach}

-- lines with their numbers, and one more
pub numbered_more : (n : ℕ) (lines : List (List ℕ)) (line : List ℕ) → numbered n (lines ++ line ∷ []) ≡ numbered n lines ++ (n + length lines, line) ∷ []
numbered_more n [] line = ap (λ k. (k, line) ∷ []) (sym (add-zero n))
numbered_more n (l ∷ ls) line =
    ap (λ r. (n, l) ∷ r) (numbered_more (n + 1) ls line)
    ∙ ap (λ k. (n, l) ∷ (numbered (n + 1) ls ++ (k, line) ∷ [])) (omega arith)

-- one line more was taken
pub took_more : {F E : Type 0} (g : Mut F (ℕ × (Bor (List ℕ) × Unit {0})) (Result Unit E)) (f last next : F) (lines : List (List ℕ)) (n : ℕ) (line : Bor (List ℕ)) → length lines ≡ n → TookEach g f lines last → Called g last (n, (line, tt)) (Ok tt) next → TookEach g f (lines ++ line.now ∷ []) next
took_more g f last next lines n line long h call =
    let number : n ≡ 0 + length lines = omega (arith, long) in
    rw (numbered_more 0 lines line.now)
    (FoldsTo-push _ f (numbered 0 lines) last (0 + length lines, line.now) next h (line, refl, subst (λ k. Called g last (k, (line, tt)) (Ok tt) next) number call))

-- lines were taken from the front of what an input had, and it has the rest
abbrev pub Begins : Option (List ℕ) → List (List ℕ) → Option (List ℕ) → Type 0
Begins None lines left = Unit {0}
Begins (Some text) lines left =
    (rest : List ℕ) × (left ≡ Some rest) × ((more : List (List ℕ)) → AreLinesOf rest more → AreLinesOf text (lines ++ more))

pub begins_none : (o : Option (List ℕ)) → Begins o [] o
begins_none None = tt
begins_none (Some text) = (text, refl, λ more h. h)

-- one line more
pub begins_more : (o left after : Option (List ℕ)) (lines : List (List ℕ)) (old items line : List ℕ) → Begins o lines left → old ≡ [] → IfSome left (λ rest. items ≡ old ++ take_through 10 rest) → line ≡ items → DropsThrough left after 10 → 0 < length line → Begins o (lines ++ line ∷ []) after
begins_more None left after lines old items line h empty reads is drops some = tt
begins_more (Some text) left after lines old items line h empty reads is drops some =
    let read = rw h.1 at reads in
    let now : line ≡ take_through 10 h.0 = is ∙ read ∙ ap (λ x. x ++ take_through 10 h.0) empty in
    let next = rw h.1 at drops in (
      drop_through 10 h.0,
      next,
      λ more ends. rw append_assoc (h.2 (line ∷ more) (some, now, ends)),
    )

-- nothing is left
pub begins_end : (o left : Option (List ℕ)) (lines : List (List ℕ)) → Begins o lines left → IsAtEnd left → IfSome o (λ text. AreLinesOf text lines)
begins_end None left lines h end = tt
begins_end (Some text) left lines h end =
    let none = rw h.1 at end in
    rw (← append-nil lines) (h.2 [] none)
