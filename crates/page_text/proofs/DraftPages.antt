-- Lemmas on the pages that a text begins, and on its reading line by line. Assumes nothing.
use Rattle.std.proofs.Common.{◌≡◌, ℕ, zero, suc, ◌+◌, ◌-◌, ◌*◌, ◌<◌, ◌≤◌, true, false, ◌||◌, eqb, List, [], ◌∷◌, ◌++◌, length, get_or, take, drop, set, replicate, Some, None, Err, Option, sym, refl, ap, ◌∙◌, arith}
use borrow.Rule.Slice.PartMut.{put_mid, post_of}
use Rattle.std.specs.List.{list_any}
use Rattle.std.proofs.lemmas.List.{drop_more, drop_all, drop-replicate, drop-drop}
use Rattle.std.proofs.lemmas.Bool.{or_from, cond-false, ne_eqb}
use Rattle.page_text.specs.declared.reading.Draft.{Draft}
use Rattle.page_text.specs.declared.Page.{Page}
use Rattle.page_text.specs.declared.TextError.{TextError}
use Rattle.page_text.specs.declared.TextError.TheVariants.{Refused, Memory}
use Rattle.page_text.specs.Code.{Taken, Tells}
use Rattle.page_text.specs.Reading.{padded, with_row, page_with_row, blank_page, has_page, on_last, what_says, heading, row, Reading, no_rows, read_on, Outcome, pages_read, bad_line, by_reading, read_lines}
use Rattle.text.specs.Lines.{without_return}

pub padded_is : (ls got : List ℕ) → got ≡ ls → got ++ drop (length ls) (replicate 40 32) ≡ padded ls
unfolding padded
padded_is ls got e = λ i. e i ++ drop-replicate (length ls) 40 32 i

pub with_row_is : (r k : ℕ) (ls old got : List ℕ) → k ≡ r → got ≡ padded ls → put_mid (40 * k) ((40 * k + 40) - 40 * k) old got ≡ with_row r ls old
unfolding with_row
with_row_is r k ls old got same e =
    let sum : (40 * k + 40) - 40 * k ≡ 40 = omega arith in
    ap (λ n. take (40 * k) old ++ (got ++ post_of (40 * k) n old)) sum
    ∙ (λ i. take (40 * same i) old ++ (e i ++ drop-drop 40 (40 * same i) old i))

-- whether a page has a number, as a test of each
pub each_number : (n : ℕ) (ps : List Page) → list_any (λ (p : Page). eqb p.number n) ps ≡ has_page n ps
unfolding has_page
each_number n [] = refl
each_number n (p ∷ ps) = ap (λ t. eqb p.number n || t) (each_number n ps)

-- the last page changed, by its place
on_last_at : (f : Page → Page) (ps : List Page) (k : ℕ) (p q : Page) → length ps ≡ suc k → p ≡ get_or ps k p → q ≡ f p → set ps k q ≡ on_last f ps
unfolding on_last
on_last_at f [] k p q h e g = absurd (omega arith)
on_last_at f (x ∷ []) zero p q h e g = ap (λ y. y ∷ []) (g ∙ ap f e)
on_last_at f (x ∷ []) (suc k) p q h e g = absurd (omega arith)
on_last_at f (x ∷ (y ∷ ps)) zero p q h e g = absurd (omega arith)
on_last_at f (x ∷ (y ∷ ps)) (suc k) p q h e g = ap (λ l. x ∷ l) (on_last_at f (y ∷ ps) k p q (omega arith) e g)

-- a row put into the last of some pages, where i is its place in the page
pub row_taken : (r i : ℕ) (ls : List ℕ) (s : Reading) (k : ℕ) (p q : Page) → i ≡ r → length s.begun ≡ suc k → get_or s.given i false ≡ false → p ≡ get_or s.begun k p → q.number ≡ p.number → q.version ≡ p.version → q.letters ≡ with_row r ls p.letters → read_on (row r ls) s ≡ Some (record { begun = set s.begun k q; given = set s.given i true })
unfolding read_on page_with_row
row_taken r i ls s k p q at last new page num ver let-ters =
    let is : q ≡ page_with_row r ls p = λ j. record { number = num j; version = ver j; letters = let-ters j } in
    cond-false (eqb (length s.begun) 0 || get_or s.given r false) None _ (or_from (eqb (length s.begun) 0) (get_or s.given r false) (ne_eqb _ 0 (λ e. omega arith)) (ap (λ n. get_or s.given n false) (sym at) ∙ new))
    ∙ (λ j. Some (record { begun = sym (on_last_at (page_with_row r ls) s.begun k p q last page is) j; given = set s.given (sym at j) true }))

pub heading_taken : (n v : ℕ) (s : Reading) (p : Page) (ps : List Page) → false ≡ has_page n s.begun → p ≡ blank_page n v → ps ≡ s.begun ++ p ∷ [] → read_on (heading n v) s ≡ Some (record { begun = ps; given = no_rows })
unfolding read_on
heading_taken n v s p ps e f g =
    cond-false (has_page n s.begun) None _ (sym e) ∙ ap (λ l. Some (record { begun = l; given = no_rows })) (ap (λ q. s.begun ++ q ∷ []) (sym f) ∙ sym g)

-- the lines of a text from line i on: read one line further, or refused there, or read to the end
module _ (ls : List (List ℕ)) (i : ℕ) (s : Reading) where
  pub read_further : (t : Reading) (d l : List ℕ) → i < length ls → l ≡ get_or ls i d → read_on (what_says (without_return l)) s ≡ Some t → read_lines i s (drop i ls) ≡ read_lines (i + 1) t (drop (i + 1) ls)
  unfolding read_lines by_reading
  read_further t d l h e g =
      ap (read_lines i s) (drop_more ls i d h ∙ ap (λ x. x ∷ drop (i + 1) ls) (sym e)) ∙ ap (λ o. by_reading i o (λ t. read_lines (i + 1) t (drop (i + 1) ls))) g

  pub read_refused : (d l : List ℕ) → i < length ls → l ≡ get_or ls i d → read_on (what_says (without_return l)) s ≡ None → read_lines i s (drop i ls) ≡ bad_line i
  unfolding read_lines by_reading
  read_refused d l h e g =
      ap (read_lines i s) (drop_more ls i d h ∙ ap (λ x. x ∷ drop (i + 1) ls) (sym e)) ∙ ap (λ o. by_reading i o (λ t. read_lines (i + 1) t (drop (i + 1) ls))) g

  pub read_end : length ls ≤ i → read_lines i s (drop i ls) ≡ pages_read s.begun
  unfolding read_lines
  read_end h = ap (read_lines i s) (drop_all i ls h)

-- what a refusal of a line tells of the whole text
pub tells : (e : TextError) (next : Option Reading) (before draft : Draft) (k : ℕ) (outcome : Outcome) → Taken next before draft k (Err e) → (next ≡ None → outcome ≡ bad_line k) → Tells outcome e
tells (Refused j) next before draft k outcome t f = f t.0 ∙ ap bad_line (sym t.1)
tells Memory next before draft k outcome t f = tt
