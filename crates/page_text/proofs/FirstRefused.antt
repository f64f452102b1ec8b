-- The place of a refusal is that of the first line that can't be read. Assumes nothing.
use Rattle.std.proofs.Common.{◌≡◌, ℕ, zero, suc, ◌+◌, true, false, cond, List, [], ◌∷◌, take, Some, None, Option, sym, refl, ap, ◌∙◌, ⊎_elim, arith}
use Rattle.std.proofs.lemmas.Bool.{cases_Bool, cond-true, cond-false}
use Rattle.page_text.specs.declared.Page.{Page}
use Rattle.page_text.specs.Reading.{in_line, before_first, lines_of, what_says, Reading, read_on, at_start, pages_read, bad_line, by_reading, read_lines, read_text}
use Rattle.text.specs.Lines.{without_return}
use Rattle.page_text.specs.Laws.{first_lines, RefusalsAreFirst}

-- the lines of a text that is cut after some lines
take_before_first : (k b : ℕ) (ls : List (List ℕ)) → take (suc k) (before_first b ls) ≡ before_first b (take (suc k) ls)
unfolding before_first
take_before_first zero b [] = refl
take_before_first (suc k) b [] = refl
take_before_first k b (l ∷ ls) = refl

lines_first : (k : ℕ) (bs : List ℕ) → lines_of (first_lines k bs) ≡ take k (lines_of bs)
unfolding lines_of first_lines
lines_first zero bs = refl
lines_first (suc k) [] = refl
lines_first (suc k) (b ∷ bs) =
    ⊎_elim
    (λ (e : in_line b ≡ true).
    let rest : cond (in_line b) (first_lines (suc k) bs) (first_lines k bs) ≡ first_lines (suc k) bs = cond-true (in_line b) (first_lines (suc k) bs) (first_lines k bs) e in
    ap (λ r. lines_of (b ∷ r)) rest
    ∙ cond-true (in_line b) (before_first b (lines_of (first_lines (suc k) bs))) ([] ∷ lines_of (first_lines (suc k) bs)) e
    ∙ ap (before_first b) (lines_first (suc k) bs)
    ∙ sym (take_before_first k b (lines_of bs))
    ∙ ap (take (suc k)) (sym (cond-true (in_line b) (before_first b (lines_of bs)) ([] ∷ lines_of bs) e)))
    (λ (e : in_line b ≡ false).
    let rest : cond (in_line b) (first_lines (suc k) bs) (first_lines k bs) ≡ first_lines k bs = cond-false (in_line b) (first_lines (suc k) bs) (first_lines k bs) e in
    ap (λ r. lines_of (b ∷ r)) rest
    ∙ cond-false (in_line b) (before_first b (lines_of (first_lines k bs))) ([] ∷ lines_of (first_lines k bs)) e
    ∙ ap (λ ls. [] ∷ ls) (lines_first k bs)
    ∙ ap (take (suc k)) (sym (cond-false (in_line b) (before_first b (lines_of bs)) ([] ∷ lines_of bs) e)))
    (cases_Bool (in_line b))

-- lines from place k on of which line k + i is the first that can't be read
record Stops (k j i : ℕ) (s : Reading) (ls : List (List ℕ)) : Type 0 where
  place : j ≡ k + i
  before : (ps : List Page) × (read_lines k s (take i ls) ≡ pages_read ps)
  there : read_lines k s (take (suc i) ls) ≡ bad_line j

stops_by : (o : Option Reading) (l : List ℕ) (ls : List (List ℕ)) (k j : ℕ) (s : Reading) → ((t : Reading) → read_lines (k + 1) t ls ≡ bad_line j → (i : ℕ) × Stops (k + 1) j i t ls) → read_on (what_says (without_return l)) s ≡ o → by_reading k o (λ t. read_lines (k + 1) t ls) ≡ bad_line j → (i : ℕ) × Stops k j i s (l ∷ ls)
unfolding read_lines by_reading
stops_by None l ls k j s more o e =
    let same : k ≡ j = cc in
    (0, record { place = omega arith; before = (s.begun, refl); there = ap (λ x. by_reading k x (λ t. pages_read t.begun)) o ∙ e })
stops_by (Some t) l ls k j s more o e =
    let rest = more t e in (
      suc rest.0,
      record {
        place = omega (arith, rest.1.place);
        before = (rest.1.before.0, ap (λ x. by_reading k x (λ t. read_lines (k + 1) t (take rest.0 ls))) o ∙ rest.1.before.1);
        there = ap (λ x. by_reading k x (λ t. read_lines (k + 1) t (take (suc rest.0) ls))) o ∙ rest.1.there;
      },
    )

stops : (ls : List (List ℕ)) (k j : ℕ) (s : Reading) → read_lines k s ls ≡ bad_line j → (i : ℕ) × Stops k j i s ls
unfolding read_lines
stops [] k j s e = let z : ◌≡◌ {A = ℕ} 0 1 = cc in absurd (omega arith)
stops (l ∷ ls) k j s e = stops_by (read_on (what_says (without_return l)) s) l ls k j s (λ t. stops ls (k + 1) j t) refl e

pub refusals_are_first : RefusalsAreFirst
unfolding read_text
refusals_are_first text k e =
    let stop = stops (lines_of text) 0 k at_start e in
    let at : stop.0 ≡ k = omega (arith, stop.1.place) in
    record {
      before = (stop.1.before.0, ap (read_lines 0 at_start) (lines_first k text ∙ ap (λ n. take n (lines_of text)) (sym at)) ∙ stop.1.before.1);
      there = ap (read_lines 0 at_start) (lines_first (suc k) text ∙ ap (λ n. take (suc n) (lines_of text)) (sym at)) ∙ stop.1.there;
    }
