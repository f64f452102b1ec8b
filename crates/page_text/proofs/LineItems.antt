-- Lemmas on what one line says. Assumes nothing.
use Rattle.std.proofs.Common.{◌≡◌, ℕ, ◌<◌, ◌≤◌, true, false, cond, ◌&&◌, eqb, leb, List, [], ◌∷◌, length, get_or, Some, None, codes, Option, sym, refl, ap, ◌∙◌, ⊎_elim, arith}
use Rattle.std.specs.List.{list_all}
use Rattle.std.proofs.lemmas.Bool.{cond-true, cond-false, leb-true, ne_eqb, and_parts, cases_Bool}
use Rattle.coding.specs.Parity.{is_letter}
use Rattle.page_text.proofs.LineWords.{and_then_some, cond_some, number_bound}
use Rattle.line.specs.Size.{rows, columns}
use Rattle.page_text.specs.Reading.{after, read_number, and_then, read_heading, read_row, all_letters, Said, nothing, heading, row, heading_or_row, what_says}

-- a heading, read part by part
module _ (l : List ℕ) where
  pub heading_first : after (codes "page ") l ≡ None → read_heading l ≡ None
  unfolding read_heading and_then
  heading_first e = simp e

  pub heading_end : (a b d k : List ℕ) (p v : ℕ) → after (codes "page ") l ≡ Some a → read_number 3 255 a ≡ Some (p, b) → after (codes " version ") b ≡ Some d → read_number 3 255 d ≡ Some (v, k) → read_heading l ≡ cond (eqb (length k) 0) (Some (p, v)) None
  unfolding read_heading and_then
  heading_end a b d k p v e f g h = simp (e, f, g, h)

  -- a row, read part by part
  pub row_letters : (a ls : List ℕ) (n : ℕ) → read_number 2 24 l ≡ Some (n, a) → after (codes " ") a ≡ Some ls → read_row l ≡ cond (leb (length ls) columns && all_letters ls) (Some (n, ls)) None
  unfolding read_row and_then
  row_letters a ls n e f = simp (e, f)

-- whether all are letters, as a test of each
pub each_letter : (bs : List ℕ) → list_all is_letter bs ≡ all_letters bs
unfolding all_letters
each_letter [] = refl
each_letter (b ∷ bs) = ap (λ t. is_letter b && t) (each_letter bs)

-- what a line says, by its first byte
pub says_more : (l : List ℕ) → (length l ≡ 0 → ⊥) → (get_or l 0 0 ≡ 35 → ⊥) → what_says l ≡ heading_or_row (read_heading l) (read_row l)
unfolding what_says
says_more [] some e = absurd (some refl)
says_more (b ∷ bs) some e = cond-false (eqb b 35) nothing (heading_or_row (read_heading (b ∷ bs)) (read_row (b ∷ bs))) (ne_eqb b 35 e)

module _ (l : List ℕ) (some : length l ≡ 0 → ⊥) (plain : get_or l 0 0 ≡ 35 → ⊥) where
  pub says_heading : (n v : ℕ) → read_heading l ≡ Some (n, v) → heading n v ≡ what_says l
  unfolding heading_or_row
  says_heading n v e = sym (says_more l some plain ∙ ap (λ h. heading_or_row h (read_row l)) e)

  pub says_row : (r : ℕ) (ls : List ℕ) → read_heading l ≡ None → read_row l ≡ Some (r, ls) → row r ls ≡ what_says l
  unfolding heading_or_row
  says_row r ls e f = sym (says_more l some plain ∙ (λ i. heading_or_row (e i) (f i)))

-- a line that says something is a heading or a row, or can't be read
says_something : (l : List ℕ) (x : Said) → what_says l ≡ x → (nothing ≡ x → ⊥) → heading_or_row (read_heading l) (read_row l) ≡ x
unfolding what_says
says_something [] x e some = absurd (some e)
says_something (b ∷ bs) x e some =
    ⊎_elim
    (λ (same : eqb b 35 ≡ true). absurd (some (sym (cond-true (eqb b 35) nothing _ same) ∙ e)))
    (λ (other : eqb b 35 ≡ false). sym (cond-false (eqb b 35) nothing _ other) ∙ e)
    (cases_Bool (eqb b 35))

-- a row that a line says: its number is one of a page's rows, and it has at most forty letters
pub record RowFits (r : ℕ) (ls : List ℕ) : Type 0 where
  pub within : r < rows
  pub short : length ls ≤ columns
  pub written : all_letters ls ≡ true

row_fits : (l : List ℕ) (r : ℕ) (ls : List ℕ) → read_row l ≡ Some (r, ls) → RowFits r ls
unfolding read_row
row_fits l r ls e =
    let first = and_then_some (read_number 2 24 l) _ (r, ls) e in
    let second = and_then_some (after (codes " ") first.0.1) _ (r, ls) first.2 in
    let got = cond_some (leb (length second.0) columns && all_letters second.0) (first.0.0, second.0) (r, ls) second.2 in
    let tests = and_parts (leb (length second.0) columns) (all_letters second.0) got.0 in
    let number : first.0.0 ≡ r = ap (λ (p : ℕ × List ℕ). p.0) got.1 in
    let letters : second.0 ≡ ls = ap (λ (p : ℕ × List ℕ). p.1) got.1 in
    let low : first.0.0 ≤ 24 = number_bound 2 24 l first.0.0 first.0.1 first.1 in
    let long : length second.0 ≤ columns = leb-true (length second.0) columns tests.0 in
    let same : length second.0 ≡ length ls = ap length letters in
    record { within = omega arith; short = omega arith; written = ap all_letters (sym letters) ∙ tests.1 }

which_row : (h : Option (ℕ × ℕ)) (o : Option (ℕ × List ℕ)) (r : ℕ) (ls : List ℕ) → heading_or_row h o ≡ row r ls → o ≡ Some (r, ls)
unfolding heading_or_row
which_row (Some h) o r ls e = let z : ◌≡◌ {A = ℕ} 0 1 = cc in absurd (omega arith)
which_row None (Some x) r ls e =
    let number : x.0 ≡ r = cc in
    let letters : x.1 ≡ ls = cc in
    λ i. Some (number i, letters i)
which_row None None r ls e = let z : ◌≡◌ {A = ℕ} 0 1 = cc in absurd (omega arith)

pub said_row_fits : (l : List ℕ) (r : ℕ) (ls : List ℕ) → what_says l ≡ row r ls → RowFits r ls
said_row_fits l r ls e =
    let some : nothing ≡ row r ls → ⊥ = λ none. (let z : ◌≡◌ {A = ℕ} 0 1 = cc in absurd (omega arith)) in
    row_fits l r ls (which_row (read_heading l) (read_row l) r ls (says_something l (row r ls) e some))

-- a heading that a line says: its page and version are bytes
pub record HeadingFits (n v : ℕ) : Type 0 where
  pub page : n < 256
  pub version : v < 256

heading_fits : (l : List ℕ) (n v : ℕ) → read_heading l ≡ Some (n, v) → HeadingFits n v
unfolding read_heading
heading_fits l n v e =
    let first = and_then_some (after (codes "page ") l) _ (n, v) e in
    let second = and_then_some (read_number 3 255 first.0) _ (n, v) first.2 in
    let third = and_then_some (after (codes " version ") second.0.1) _ (n, v) second.2 in
    let fourth = and_then_some (read_number 3 255 third.0) _ (n, v) third.2 in
    let got = cond_some (eqb (length fourth.0.1) 0) (second.0.0, fourth.0.0) (n, v) fourth.2 in
    let page : second.0.0 ≡ n = ap (λ (p : ℕ × ℕ). p.0) got.1 in
    let version : fourth.0.0 ≡ v = ap (λ (p : ℕ × ℕ). p.1) got.1 in
    let low : second.0.0 ≤ 255 = number_bound 3 255 first.0 second.0.0 second.0.1 second.1 in
    let high : fourth.0.0 ≤ 255 = number_bound 3 255 third.0 fourth.0.0 fourth.0.1 fourth.1 in
    record { page = omega arith; version = omega arith }

which_heading : (h : Option (ℕ × ℕ)) (o : Option (ℕ × List ℕ)) (n v : ℕ) → heading_or_row h o ≡ heading n v → h ≡ Some (n, v)
unfolding heading_or_row
which_heading (Some h) o n v e =
    let page : h.0 ≡ n = cc in
    let version : h.1 ≡ v = cc in
    λ i. Some (page i, version i)
which_heading None (Some x) n v e = let z : ◌≡◌ {A = ℕ} 0 1 = cc in absurd (omega arith)
which_heading None None n v e = let z : ◌≡◌ {A = ℕ} 0 1 = cc in absurd (omega arith)

pub said_heading_fits : (l : List ℕ) (n v : ℕ) → what_says l ≡ heading n v → HeadingFits n v
said_heading_fits l n v e =
    let some : nothing ≡ heading n v → ⊥ = λ none. (let z : ◌≡◌ {A = ℕ} 0 1 = cc in absurd (omega arith)) in
    heading_fits l n v (which_heading (read_heading l) (read_row l) n v (says_something l (heading n v) e some))
