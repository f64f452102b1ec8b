-- Lemmas on the lines of a text that is cut at its newlines. Assumes nothing.
use Rattle.std.proofs.Common.{◌≡◌, ℕ, ◌+◌, ◌<◌, Bool, true, false, not, eqb, ◌⊎◌, List, [], ◌∷◌, ◌++◌, length, get_or, refl, sym, ap, ◌∙◌, ⊎_elim, inl, inr, arith, Bor}
use denote.Param.Members.{Mut}
use Rattle.std.specs.declared.iter.Enumerate.{Enumerate}
use Rattle.std.specs.declared.slice.Split.{Split}
use Rattle.std.specs.Fn.{CalledAt}
use Rattle.std.specs.Iterator.Adapters.{enumerate_source, enumerate_count, enumerate_steps}
use Rattle.std.specs.List.{slice_split, onto_first, enumerate_from}
use Rattle.std.specs.Slice.Iter.{split_rest, split_done, split_callee, split_steps}
use Rattle.std.proofs.lemmas.Iterator.{YieldsList}
use Rattle.std.proofs.lemmas.Iterator.Consumers.{YieldsList-from_enumerate, YieldsList-at}
use Rattle.std.proofs.lemmas.Iterator.Splits.{YieldsList-from_slice_split}
use Rattle.std.proofs.lemmas.List.FromFn.{length-enumerate_from, get_or-enumerate_from}
use Rattle.std.proofs.lemmas.Bool.{cases_Bool, cond-true, cond-false}
use Rattle.std.proofs.lemmas.List.Splits.{slice_split-cons_yes, slice_split-cons_no}
use Rattle.page_text.specs.Reading.{in_line, before_first, lines_of, what_says, Reading, read_on, at_start, by_reading, read_lines, read_text}
use Rattle.text.specs.Lines.{without_return}

-- the parts between the newlines of a text
abbrev pub parts : List ℕ → List (List ℕ)
parts bs = slice_split (λ b. eqb b 10) bs

-- they are its lines, and perhaps an empty one behind the last newline
abbrev AsLines : List (List ℕ) → List (List ℕ) → Type 0
AsLines ps ls = (ps ≡ ls) ⊎ (ps ≡ ls ++ [] ∷ [])

onto_lines : (b : ℕ) (ls : List (List ℕ)) → onto_first b ls ≡ before_first b ls
unfolding before_first
onto_lines b [] = refl
onto_lines b (l ∷ ls) = refl

onto_last : (b : ℕ) (ls : List (List ℕ)) → AsLines (onto_first b (ls ++ [] ∷ [])) (before_first b ls)
unfolding before_first
onto_last b [] = inl refl
onto_last b (l ∷ ls) = inr refl

parts_more : (b : ℕ) (bs : List ℕ) → AsLines (parts bs) (lines_of bs) → AsLines (parts (b ∷ bs)) (lines_of (b ∷ bs))
unfolding lines_of
parts_more b bs h =
    ⊎_elim
    (λ (e : eqb b 10 ≡ true).
    let cut : parts (b ∷ bs) ≡ [] ∷ parts bs = slice_split-cons_yes (λ x. eqb x 10) b bs e in
    let line : lines_of (b ∷ bs) ≡ [] ∷ lines_of bs = cond-false (in_line b) (before_first b (lines_of bs)) ([] ∷ lines_of bs) (ap not e) in
    ⊎_elim (λ (all : parts bs ≡ lines_of bs). inl (cut ∙ ap (λ x. [] ∷ x) all ∙ sym line)) (λ (last : parts bs ≡ lines_of bs ++ [] ∷ []). inr (cut ∙ ap (λ x. [] ∷ x) last ∙ ap (λ x. x ++ [] ∷ []) (sym line))) h)
    (λ (e : eqb b 10 ≡ false).
    let cut : parts (b ∷ bs) ≡ onto_first b (parts bs) = slice_split-cons_no (λ x. eqb x 10) b bs e in
    let line : lines_of (b ∷ bs) ≡ before_first b (lines_of bs) = cond-true (in_line b) (before_first b (lines_of bs)) ([] ∷ lines_of bs) (ap not e) in
    ⊎_elim (λ (all : parts bs ≡ lines_of bs). inl (cut ∙ ap (onto_first b) all ∙ onto_lines b (lines_of bs) ∙ sym line))
    (λ (last : parts bs ≡ lines_of bs ++ [] ∷ []). ⊎_elim (λ f. inl (cut ∙ ap (onto_first b) last ∙ f ∙ sym line)) (λ f. inr (cut ∙ ap (onto_first b) last ∙ f ∙ ap (λ x. x ++ [] ∷ []) (sym line))) (onto_last b (lines_of bs)))
    h)
    (cases_Bool (eqb b 10))

as_lines : (bs : List ℕ) → AsLines (parts bs) (lines_of bs)
unfolding lines_of
as_lines [] = inr refl
as_lines (b ∷ bs) = parts_more b bs (as_lines bs)

-- an empty line at the end says nothing
empty_last : (ls : List (List ℕ)) (k : ℕ) (s : Reading) → read_lines k s (ls ++ [] ∷ []) ≡ read_lines k s ls
unfolding read_lines by_reading read_on what_says without_return
empty_last [] k s = refl
empty_last (l ∷ ls) k s = λ i. by_reading k (read_on (what_says (without_return l)) s) (λ t. empty_last ls (k + 1) t i)

-- so the parts are read as the text is
pub parts_read : (bs : List ℕ) → read_lines 0 at_start (parts bs) ≡ read_text bs
unfolding read_text
parts_read bs = ⊎_elim (λ e. ap (read_lines 0 at_start) e) (λ e. ap (read_lines 0 at_start) e ∙ empty_last (lines_of bs) 0 at_start) (as_lines bs)

-- a loop over the numbered parts: the items of its iterator
pub numbered_parts : {F : Type 0} (g : Mut F (Bor ℕ × Unit {0}) Bool) {f : F} {it numbered : Enumerate (Split ℕ F)} {cut : Split ℕ F} (bs : List ℕ) → it ≡ numbered → enumerate_source numbered ≡ cut → enumerate_count numbered ≡ 0 → split_rest cut ≡ bs → split_done cut ≡ false → split_callee cut ≡ f → ((x : ℕ) (b : Bool) (q : F) → CalledAt g f x b q → (q ≡ f) × (b ≡ eqb x 10)) → YieldsList (enumerate_steps (split_steps g)) (λ p. (p.0, p.1.now)) it (enumerate_from 0 (parts bs))
numbered_parts g bs start source count rest done callee tests =
    YieldsList-at start (YieldsList-from_enumerate (YieldsList-at source (YieldsList-from_slice_split g (λ b. eqb b 10) bs rest done callee tests)) count)

-- and the part at each turn
pub record PartAt (bs : List ℕ) (i place : ℕ) (line : List ℕ) : Type 0 where
  pub within : i < length (parts bs)
  pub at : place ≡ i
  pub is : line ≡ get_or (parts bs) i line

pub part_at : (bs : List ℕ) (i place : ℕ) (line : List ℕ) → (i < length (enumerate_from 0 (parts bs))) × ((place, line) ≡ get_or (enumerate_from 0 (parts bs)) i (place, line)) → PartAt bs i place line
part_at bs i place line h =
    let within : i < length (parts bs) = omega (arith, h.0, length-enumerate_from 0 (parts bs)) in
    let is : (place, line) ≡ (0 + i, get_or (parts bs) i line) = h.1 ∙ get_or-enumerate_from 0 (parts bs) i (place, line) within in
    record { within = within; at = ap (λ (p : ℕ × List ℕ). p.0) is ∙ (let zero-more : 0 + i ≡ i = omega arith in zero-more); is = ap (λ (p : ℕ × List ℕ). p.1) is }
