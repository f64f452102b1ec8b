-- The text of sound pages is read as just those pages. Assumes nothing.
use Rattle.std.proofs.Common.{◌≡◌, ℕ, zero, suc, ◌+◌, ◌-◌, ◌*◌, ◌<◌, ◌≤◌, Bool, true, false, ◌&&◌, ◌||◌, eqb, ltb, leb, List, [], ◌∷◌, ◌++◌, map, length, get_or, take, drop, set, replicate, Some, None, codes, sym, refl, ap, ◌∙◌, ⊎_elim, append_assoc, append-nil, add-zero, add-one, arith, take-add}
use Rattle.std.specs.Fmt.{decimal}
use Rattle.std.specs.List.{AllByRecursion}
use Rattle.std.proofs.ByRecursion.{All-append, All-take, All-drop, All-get_or, All-weaker}
use Rattle.std.proofs.lemmas.List.{length_push, length-take-le, length-drop, length-replicate, take_at, take_all, drop-drop, drop_at, drop-replicate, get_or_append_left, get_or-append_right, get_or-replicate, set-append_right, replicate_more, get_or_past}
use Rattle.std.proofs.lemmas.Bool.{and_from, and_parts, or_from, or_parts, cond-true, cond-false, ne_eqb, le-leb, leb-true, cases_lt}
use Rattle.coding.specs.Parity.{is_letter}
use Rattle.line.specs.Size.{rows, columns}
use Rattle.page_text.specs.declared.Page.{Page}
use Rattle.page_text.specs.Reading.{in_line, before_first, lines_of, all_letters, after, read_number, read_heading, read_row, padded, with_row, page_with_row, blank_page, has_page, on_last, heading, row, what_says, Reading, read_on, no_rows, at_start, pages_read, by_reading, read_lines, read_text}
use Rattle.text.specs.Lines.{without_return}
use Rattle.text.proofs.LineEnds.{no_return_stays}
use Rattle.page_text.specs.Written.{ended, heading_line, row_line, rows_text, page_text, pages_text}
use Rattle.page_text.specs.Laws.{Distinct, Whole, WrittenIsRead}
use Rattle.page_text.proofs.DecimalDigits.{digits_of, number_written, digits_plain, row_digits}
use Rattle.page_text.proofs.LineItems.{heading_first, heading_end, row_letters, says_heading, says_row}
use Rattle.page_text.proofs.DraftPages.{heading_taken}
use Rattle.page_text.proofs.LineWords.{after_found}

-- a byte that is no control code
abbrev Plain : ℕ → Type 0
Plain b = 32 ≤ b

abbrev Letter : ℕ → Type 0
Letter c = is_letter c ≡ true

letter_plain : (c : ℕ) → Letter c → Plain c
unfolding is_letter
letter_plain c e = leb-true 32 c (and_parts (leb 32 c) (ltb c 128) e).0

-- a line of such bytes, in a text
plain_in_line : (b : ℕ) → Plain b → in_line b ≡ true
plain_in_line b h = let other : b ≡ 10 → ⊥ = λ e. omega arith in rw (ne_eqb b 10 other) refl

line_cut : (l rest : List ℕ) → AllByRecursion Plain l → lines_of (l ++ 10 ∷ rest) ≡ l ∷ lines_of rest
unfolding lines_of before_first
line_cut [] rest a = refl
line_cut (b ∷ l) rest a =
    cond-true (in_line b) (before_first b (lines_of (l ++ 10 ∷ rest))) ([] ∷ lines_of (l ++ 10 ∷ rest)) (plain_in_line b a.0) ∙ ap (before_first b) (line_cut l rest a.1)

no_return : (l : List ℕ) → AllByRecursion Plain l → without_return l ≡ l
no_return l a =
    let other : get_or l (length l - 1) 0 ≡ 13 → ⊥ = λ e. ⊎_elim
    (λ (some : 0 < length l). let low : 32 ≤ get_or l (length l - 1) 0 = All-get_or Plain l (length l - 1) 0 (omega arith) a in omega arith)
    (λ (none : length l ≤ 0). let past : get_or l (length l - 1) 0 ≡ 0 = get_or_past l (length l - 1) 0 (omega arith) in omega arith)
    (cases_lt 0 (length l)) in
    sym (no_return_stays l other)

read_line : (k : ℕ) (s t : Reading) (l rest : List ℕ) → AllByRecursion Plain l → read_on (what_says l) s ≡ Some t → read_lines k s (lines_of (ended l ++ rest)) ≡ read_lines (k + 1) t (lines_of rest)
unfolding read_lines by_reading
read_line k s t l rest a e =
    ap (λ x. read_lines k s (lines_of x)) (append_assoc l (10 ∷ []) rest)
    ∙ ap (read_lines k s) (line_cut l rest a)
    ∙ ap (λ x. by_reading k (read_on (what_says x) s) (λ t. read_lines (k + 1) t (lines_of rest))) (no_return l a)
    ∙ ap (λ o. by_reading k o (λ t. read_lines (k + 1) t (lines_of rest))) e

-- a heading as it is written
heading_plain : (n v : ℕ) → n < 256 → v < 256 → AllByRecursion Plain (heading_line n v)
unfolding heading_line
heading_plain n v hn hv =
    All-append Plain (codes "page ") (decimal n ++ (codes " version " ++ decimal v)) (omega arith, (omega arith, (omega arith, (omega arith, (omega arith, tt)))))
    (All-append Plain (decimal n) (codes " version " ++ decimal v) (digits_plain n hn)
    (All-append Plain (codes " version ") (decimal v) (omega arith, (omega arith, (omega arith, (omega arith, (omega arith, (omega arith, (omega arith, (omega arith, (omega arith, tt))))))))) (digits_plain v hv)))

heading_read : (n v : ℕ) → n < 256 → v < 256 → read_heading (heading_line n v) ≡ Some (n, v)
unfolding heading_line
heading_read n v hn hv =
    let b : List ℕ = codes " version " ++ decimal v in
    let a : List ℕ = decimal n ++ b in
    let last : read_number 3 255 (decimal v) ≡ Some (v, []) = ap (read_number 3 255) (sym (append-nil (decimal v))) ∙ number_written 3 255 v [] hv (digits_of v hv).few (omega arith) refl in
    heading_end (codes "page " ++ a) a b (decimal v) [] n v (after_found (codes "page ") a) (number_written 3 255 n b hn (digits_of n hn).few (omega arith) refl) (after_found (codes " version ") (decimal v)) last

heading_said : (n v : ℕ) → n < 256 → v < 256 → what_says (heading_line n v) ≡ heading n v
unfolding heading_line
heading_said n v hn hv = sym (says_heading (heading_line n v) (λ e. omega arith) (λ e. omega arith) n v (heading_read n v hn hv))

-- a row as it is written
abbrev slice : ℕ → List ℕ → List ℕ
slice r letters = take columns (drop (columns * r) letters)

all_written : (ls : List ℕ) → AllByRecursion Letter ls → all_letters ls ≡ true
unfolding all_letters
all_written [] a = refl
all_written (l ∷ ls) a = and_from (is_letter l) (all_letters ls) a.0 (all_written ls a.1)

row_plain : (r : ℕ) (letters : List ℕ) → r < rows → AllByRecursion Letter letters → AllByRecursion Plain (row_line r letters)
unfolding row_line
row_plain r letters within a =
    All-append Plain (decimal r) (32 ∷ slice r letters) (digits_plain r (omega arith)) (omega arith, All-take Plain columns (drop (columns * r) letters) (All-drop Plain (columns * r) letters (All-weaker Letter Plain letter_plain letters a)))

-- what begins with a digit is no heading
no_heading : (l : List ℕ) → 48 ≤ get_or l 0 0 → get_or l 0 0 ≤ 57 → after (codes "page ") l ≡ None
unfolding after
no_heading [] low high = refl
no_heading (d ∷ ds) low high = cond-false (eqb 112 d) _ None (ne_eqb 112 d (λ e. omega arith))

module _ (r : ℕ) (letters : List ℕ) (within : r < rows) (long : length letters ≡ rows * columns) (written : AllByRecursion Letter letters) where
  length_slice : length (slice r letters) ≡ columns
  length_slice = length-take-le columns (drop (columns * r) letters) (omega (arith, length-drop (columns * r) letters))

  first_digit : get_or (row_line r letters) 0 0 ≡ get_or (decimal r) 0 0
  unfolding row_line
  first_digit = get_or_append_left (decimal r) (32 ∷ slice r letters) 0 0 (digits_of r (omega arith)).some

  row_read : read_row (row_line r letters) ≡ Some (r, slice r letters)
  unfolding row_line
  row_read =
      let ls : List ℕ = slice r letters in
      let few : length (decimal r) ≤ 2 = row_digits r within in
      let passes : (leb (length ls) columns && all_letters ls) ≡ true = and_from (leb (length ls) columns) (all_letters ls) (le-leb (length ls) columns (omega (arith, length_slice)))
      (all_written ls (All-take Letter columns (drop (columns * r) letters) (All-drop Letter (columns * r) letters written))) in
      row_letters (decimal r ++ (32 ∷ ls)) (32 ∷ ls) ls r (number_written 2 24 r (32 ∷ ls) (omega arith) few (omega arith) refl) (after_found (codes " ") ls)
      ∙ cond-true (leb (length ls) columns && all_letters ls) (Some (r, ls)) None passes

  row_said : what_says (row_line r letters) ≡ row r (slice r letters)
  row_said =
      let d = digits_of r (omega arith) in
      let first : get_or (row_line r letters) 0 0 ≡ get_or (decimal r) 0 0 = first_digit in
      let low : 48 ≤ get_or (row_line r letters) 0 0 = omega (arith, d.low) in
      let high : get_or (row_line r letters) 0 0 ≤ 57 = omega (arith, d.high) in
      let none : read_heading (row_line r letters) ≡ None = heading_first (row_line r letters) (no_heading (row_line r letters) low high) in
      sym (says_row (row_line r letters) (λ e. let past : get_or (row_line r letters) 0 0 ≡ 0 = get_or_past (row_line r letters) 0 0 (omega arith) in omega arith) (λ e. omega arith) r (slice r letters) none row_read)

-- a page whose first r rows were read
so_far : Page → ℕ → Page
so_far p r = record { number = p.number; version = p.version; letters = take (columns * r) p.letters ++ replicate (rows * columns - columns * r) 32 }

given_so_far : ℕ → List Bool
given_so_far r = replicate r true ++ replicate (rows - r) false

put_together : (t p d front ls blanks next : List ℕ) → t ≡ front → p ≡ ls → d ≡ blanks → front ++ ls ≡ next → t ++ (p ++ d) ≡ next ++ blanks
put_together t p d front ls blanks next e f g h = (λ i. e i ++ (f i ++ g i)) ∙ sym (append_assoc front ls blanks) ∙ ap (λ x. x ++ blanks) h

row_put : (r : ℕ) (letters : List ℕ) → r < rows → length letters ≡ rows * columns → with_row r (slice r letters) (take (columns * r) letters ++ replicate (rows * columns - columns * r) 32) ≡ take (columns * suc r) letters ++ replicate (rows * columns - columns * suc r) 32
unfolding with_row padded
row_put r letters within long =
    let ls : List ℕ = slice r letters in
    let front : List ℕ = take (columns * r) letters in
    let left : ℕ = rows * columns - columns * r in
    let old : List ℕ = front ++ replicate left 32 in
    let short : length front ≡ columns * r = length-take-le (columns * r) letters (omega arith) in
    let wide : length ls ≡ columns = length-take-le columns (drop (columns * r) letters) (omega (arith, length-drop (columns * r) letters)) in
    let full : columns - length ls ≡ 0 = omega arith in
    let next : columns * r + columns ≡ columns * suc r = omega arith in
    let less : left - columns ≡ rows * columns - columns * suc r = omega arith in
    let kept : take (columns * r) old ≡ front = take_at front (replicate left 32) (columns * r) short in
    let pad : ls ++ replicate (columns - length ls) 32 ≡ ls = ap (λ n. ls ++ replicate n 32) full ∙ append-nil ls in
    let rest : drop (columns * r + columns) old ≡ replicate (rows * columns - columns * suc r) 32 =
    sym (drop-drop columns (columns * r) old) ∙ ap (drop columns) (drop_at front (replicate left 32) (columns * r) short) ∙ drop-replicate columns left 32 ∙ ap (λ n. replicate n 32) less in
    let more : front ++ ls ≡ take (columns * suc r) letters = sym (take-add (columns * r) columns letters) ∙ ap (λ n. take n letters) next in
    put_together (take (columns * r) old) (ls ++ replicate (columns - length ls) 32) (drop (columns * r + columns) old) front ls (replicate (rows * columns - columns * suc r) 32) (take (columns * suc r) letters) kept pad rest more

given_new : (r : ℕ) → r < rows → get_or (given_so_far r) r false ≡ false
unfolding given_so_far
given_new r h =
    let at : r - r ≡ 0 = omega arith in
    get_or-append_right (replicate r true) (replicate (rows - r) false) r r false (length-replicate r true) (omega arith) ∙ ap (λ n. get_or (replicate (rows - r) false) n false) at ∙ get_or-replicate (rows - r) 0 false false (omega arith)

given_more : (r : ℕ) → r < rows → set (given_so_far r) r true ≡ given_so_far (suc r)
unfolding given_so_far
given_more r h =
    let at : r - r ≡ 0 = omega arith in
    let some : rows - r ≡ suc (rows - suc r) = omega arith in
    set-append_right (replicate r true) (replicate (rows - r) false) r r true (length-replicate r true) (omega arith)
    ∙ ap (λ n. replicate r true ++ set (replicate (rows - r) false) n true) at
    ∙ ap (λ n. replicate r true ++ set (replicate n false) 0 true) some
    ∙ sym (append_assoc (replicate r true) (true ∷ []) (replicate (rows - suc r) false))
    ∙ ap (λ l. l ++ replicate (rows - suc r) false) (replicate_more r true ∙ ap (λ n. replicate n true) (add-one r))

on_last_push : (f : Page → Page) (ps : List Page) (p : Page) → on_last f (ps ++ p ∷ []) ≡ ps ++ f p ∷ []
unfolding on_last
on_last_push f [] p = refl
on_last_push f (q ∷ []) p = refl
on_last_push f (q ∷ (x ∷ ps)) p = ap (λ l. q ∷ l) (on_last_push f (x ∷ ps) p)

-- a page's text, read after some pages
module _ (done : List Page) (p : Page) (w : Whole p) where
  reading_at : ℕ → Reading
  reading_at r = record { begun = done ++ so_far p r ∷ []; given = given_so_far r }

  row_on : (r : ℕ) → r < rows → read_on (row r (slice r p.letters)) (reading_at r) ≡ Some (reading_at (suc r))
  unfolding read_on reading_at so_far page_with_row
  row_on r h =
      let some : length (done ++ so_far p r ∷ []) ≡ 0 → ⊥ = λ e. omega (arith, length_push done (so_far p r)) in
      let letters = row_put r p.letters h w.long in
      cond-false (eqb (length (done ++ so_far p r ∷ [])) 0 || get_or (given_so_far r) r false) None _ (or_from _ _ (ne_eqb _ 0 some) (given_new r h))
      ∙ (λ i. Some (record {
        begun = (on_last_push (page_with_row r (slice r p.letters)) done (so_far p r) ∙ (λ j. done ++ record { number = p.number; version = p.version; letters = letters j } ∷ [])) i;
        given = given_more r h i;
      }))

  rows_read : (r k : ℕ) (rest : List ℕ) → r ≤ rows → read_lines k (reading_at 0) (lines_of (rows_text r p.letters ++ rest)) ≡ read_lines (k + r) (reading_at r) (lines_of rest)
  unfolding rows_text
  rows_read zero k rest h = ap (λ n. read_lines n (reading_at 0) (lines_of rest)) (sym (add-zero k))
  rows_read (suc r) k rest h =
      let within : r < rows = omega arith in
      let line : List ℕ = row_line r p.letters in
      let next : k + r + 1 ≡ k + suc r = omega arith in
      ap (λ x. read_lines k (reading_at 0) (lines_of x)) (append_assoc (rows_text r p.letters) (ended line) rest)
      ∙ rows_read r k (ended line ++ rest) (omega arith)
      ∙ read_line (k + r) (reading_at r) (reading_at (suc r)) line rest (row_plain r p.letters within w.written) (ap (λ x. read_on x (reading_at r)) (row_said r p.letters within w.long w.written) ∙ row_on r within)
      ∙ ap (λ n. read_lines n (reading_at (suc r)) (lines_of rest)) next

  all_rows : so_far p rows ≡ p
  unfolding so_far
  all_rows =
      let all : take (rows * columns) p.letters ≡ p.letters = take_all (rows * columns) p.letters (omega (arith, w.long)) in
      λ i. record { number = p.number; version = p.version; letters = (append-nil (take (rows * columns) p.letters) ∙ all) i }

  no_row : blank_page p.number p.version ≡ so_far p 0
  unfolding so_far blank_page
  no_row = refl

  no_row_given : no_rows ≡ given_so_far 0
  unfolding given_so_far no_rows
  no_row_given = refl

  -- the page stands after those that were there
  read_all : Reading
  read_all = record { begun = done ++ p ∷ []; given = given_so_far rows }

  page_read : (k : ℕ) (given : List Bool) (rest : List ℕ) → has_page p.number done ≡ false → read_lines k (record { begun = done; given = given }) (lines_of (page_text p ++ rest)) ≡ read_lines (k + 1 + rows) read_all (lines_of rest)
  unfolding page_text read_all reading_at
  page_read k given rest new =
      let line : List ℕ = heading_line p.number p.version in
      let said : read_on (what_says line) (record { begun = done; given = given }) ≡ Some (reading_at 0) =
      ap (λ x. read_on x (record { begun = done; given = given })) (heading_said p.number p.version w.number_fits w.version_fits)
      ∙ heading_taken p.number p.version (record { begun = done; given = given }) (blank_page p.number p.version) (done ++ blank_page p.number p.version ∷ []) (sym new) refl refl
      ∙ (λ i. Some (record { begun = done ++ no_row i ∷ []; given = no_row_given i })) in
      ap (λ x. read_lines k (record { begun = done; given = given }) (lines_of x)) (append_assoc (ended line) (rows_text rows p.letters) rest)
      ∙ read_line k (record { begun = done; given = given }) (reading_at 0) line (rows_text rows p.letters ++ rest) (heading_plain p.number p.version w.number_fits w.version_fits) said
      ∙ rows_read rows (k + 1) rest (omega arith)
      ∙ ap (λ q. read_lines (k + 1 + rows) (record { begun = done ++ q ∷ []; given = given_so_far rows }) (lines_of rest)) all_rows

-- the pages still to come are new
has_push : (n : ℕ) (ps : List Page) (p : Page) → has_page n ps ≡ false → (n ≡ p.number → ⊥) → has_page n (ps ++ p ∷ []) ≡ false
unfolding has_page
has_push n [] p e other = or_from (eqb p.number n) false (ne_eqb p.number n (λ same. other (sym same))) refl
has_push n (q ∷ ps) p e other =
    let parts = or_parts (eqb q.number n) (has_page n ps) e in
    or_from (eqb q.number n) (has_page n (ps ++ p ∷ [])) parts.0 (has_push n ps p parts.1 other)

abbrev New : List Page → List Page → Type 0
New done ps = AllByRecursion (λ (q : Page). has_page q.number done ≡ false) ps

new_push : (done ps : List Page) (p : Page) → New done ps → AllByRecursion (λ m. m ≡ p.number → ⊥) (map (λ (q : Page). q.number) ps) → New (done ++ p ∷ []) ps
new_push done [] p a b = tt
new_push done (q ∷ ps) p a b = (has_push q.number done p a.0 b.0, new_push done ps p a.1 b.1)

new_none : (ps : List Page) → New [] ps
unfolding has_page
new_none [] = tt
new_none (p ∷ ps) = (refl, new_none ps)

pages_all : (ps : List Page) (k : ℕ) (s : Reading) → New s.begun ps → Distinct (map (λ (q : Page). q.number) ps) → AllByRecursion Whole ps → read_lines k s (lines_of (pages_text ps)) ≡ pages_read (s.begun ++ ps)
unfolding read_lines lines_of read_all
pages_all [] k s new d w = ap pages_read (sym (append-nil s.begun))
pages_all (p ∷ ps) k s new d w =
    page_read s.begun p w.0 k s.given (pages_text ps) new.0
    ∙ pages_all ps (k + 1 + rows) (read_all s.begun p w.0) (new_push s.begun ps p new.1 d.0) d.1 w.1
    ∙ ap pages_read (append_assoc s.begun (p ∷ []) ps)

pub written_is_read : WrittenIsRead
unfolding read_text at_start
written_is_read ps sound = pages_all ps 0 at_start (new_none ps) sound.distinct sound.whole
