-- The pages of a text that is read are sound. Assumes nothing.
use Rattle.std.proofs.Common.{◌≡◌, ℕ, zero, suc, ◌+◌, ◌-◌, ◌*◌, ◌≤◌, Bool, true, false, cond, ◌||◌, eqb, List, [], ◌∷◌, ◌++◌, map, length, get_or, take, drop, replicate, Some, None, Option, sym, refl, ap, subst, arith}
use Rattle.std.specs.List.{AllByRecursion}
use Rattle.std.proofs.ByRecursion.{All-append, All-push, All-take, All-drop}
use Rattle.std.proofs.lemmas.List.{length-append, length-take-le, length-drop, length-replicate, map_push}
use Rattle.std.proofs.lemmas.Bool.{or_parts, and_parts, eqb-false}
use Rattle.coding.specs.Parity.{is_letter}
use Rattle.line.specs.Size.{rows, columns}
use Rattle.page_text.specs.declared.Page.{Page}
use Rattle.page_text.specs.Reading.{lines_of, all_letters, padded, with_row, page_with_row, blank_page, has_page, on_last, Said, nothing, heading, row, unreadable, what_says, Reading, read_on, at_start, Outcome, pages_read, by_reading, read_lines, read_text}
use Rattle.text.specs.Lines.{without_return}
use Rattle.page_text.specs.Laws.{Distinct, Whole, Sound, PagesAreSound}
use Rattle.page_text.proofs.LineItems.{RowFits, said_row_fits, HeadingFits, said_heading_fits}

-- a number that is new stays apart from the others
distinct_push : (ns : List ℕ) (n : ℕ) → Distinct ns → AllByRecursion (λ m. m ≡ n → ⊥) ns → Distinct (ns ++ n ∷ [])
distinct_push [] n d a = (tt, tt)
distinct_push (m ∷ ns) n d a = (All-push (λ x. x ≡ m → ⊥) ns n d.0 (λ e. a.0 (sym e)), distinct_push ns n d.1 a.1)

number_new : (n : ℕ) (ps : List Page) → has_page n ps ≡ false → AllByRecursion (λ m. m ≡ n → ⊥) (map (λ (p : Page). p.number) ps)
unfolding has_page
number_new n [] e = tt
number_new n (p ∷ ps) e =
    let parts = or_parts (eqb p.number n) (has_page n ps) e in
    (eqb-false p.number n parts.0, number_new n ps parts.1)

-- letters stay letters
all_replicate : {X : Type 0} (P : X → Type 0) (n : ℕ) (x : X) → P x → AllByRecursion P (replicate n x)
all_replicate P zero x h = tt
all_replicate P (suc n) x h = (h, all_replicate P n x h)

abbrev Letter : ℕ → Type 0
Letter c = is_letter c ≡ true

blank_letter : Letter 32
unfolding is_letter
blank_letter = refl

letters_all : (ls : List ℕ) → all_letters ls ≡ true → AllByRecursion Letter ls
unfolding all_letters
letters_all [] e = tt
letters_all (l ∷ ls) e = let parts = and_parts (is_letter l) (all_letters ls) e in (parts.0, letters_all ls parts.1)

whole_blank : (n v : ℕ) → HeadingFits n v → Whole (blank_page n v)
unfolding blank_page
whole_blank n v fits = record { number_fits = fits.page; version_fits = fits.version; long = length-replicate {A = ℕ} (rows * columns) 32; written = all_replicate Letter (rows * columns) 32 blank_letter }

pub length_padded : (ls : List ℕ) → length ls ≤ columns → length (padded ls) ≡ columns
unfolding padded
length_padded ls h = omega (arith, length-append ls (replicate (columns - length ls) 32), length-replicate {A = ℕ} (columns - length ls) 32)

whole_row : (r : ℕ) (ls : List ℕ) (p : Page) → RowFits r ls → Whole p → Whole (page_with_row r ls p)
unfolding page_with_row with_row padded
whole_row r ls p fits w =
    let old : List ℕ = p.letters in
    let start : columns * r ≤ length old = omega (arith, w.long, fits.within) in
    let front : length (take (columns * r) old) ≡ columns * r = length-take-le (columns * r) old start in
    let back : length (drop (columns * r + columns) old) ≡ length old - (columns * r + columns) = length-drop (columns * r + columns) old in
    let middle : length (ls ++ replicate (columns - length ls) 32) ≡ columns = length_padded ls fits.short in
    let last = length-append (ls ++ replicate (columns - length ls) 32) (drop (columns * r + columns) old) in
    let all = length-append (take (columns * r) old) ((ls ++ replicate (columns - length ls) 32) ++ drop (columns * r + columns) old) in
    record {
      number_fits = w.number_fits;
      version_fits = w.version_fits;
      long = omega (arith, w.long, fits.within);
      written = All-append Letter (take (columns * r) old) ((ls ++ replicate (columns - length ls) 32) ++ drop (columns * r + columns) old)
          (All-take Letter (columns * r) old w.written)
          (All-append Letter (ls ++ replicate (columns - length ls) 32) (drop (columns * r + columns) old)
          (All-append Letter ls (replicate (columns - length ls) 32) (letters_all ls fits.written) (all_replicate Letter (columns - length ls) 32 blank_letter))
          (All-drop Letter (columns * r + columns) old w.written));
    }

-- the last page changed
all_on_last : (P : Page → Type 0) (f : Page → Page) (ps : List Page) → ((p : Page) → P p → P (f p)) → AllByRecursion P ps → AllByRecursion P (on_last f ps)
unfolding on_last
all_on_last P f [] k a = tt
all_on_last P f (p ∷ []) k a = (k p a.0, tt)
all_on_last P f (p ∷ (q ∷ ps)) k a = (a.0, all_on_last P f (q ∷ ps) k a.1)

numbers_on_last : (r : ℕ) (ls : List ℕ) (ps : List Page) → map (λ (p : Page). p.number) (on_last (page_with_row r ls) ps) ≡ map (λ (p : Page). p.number) ps
unfolding on_last page_with_row
numbers_on_last r ls [] = refl
numbers_on_last r ls (p ∷ []) = refl
numbers_on_last r ls (p ∷ (q ∷ ps)) = ap (λ ns. p.number ∷ ns) (numbers_on_last r ls (q ∷ ps))

-- one line further
none_or_some : {A : Type 0} (t : Bool) (x y : A) → cond t None (Some x) ≡ Some y → (t ≡ false) × (x ≡ y)
none_or_some true x y e = let z : ◌≡◌ {A = ℕ} 0 1 = cc in absurd (omega arith)
none_or_some false x y e = (refl, cc)

numbers : (n v : ℕ) (ps : List Page) → Distinct (map (λ (p : Page). p.number) ps) → AllByRecursion (λ m. m ≡ n → ⊥) (map (λ (p : Page). p.number) ps) → Distinct (map (λ (p : Page). p.number) ps ++ (blank_page n v).number ∷ [])
unfolding blank_page
numbers n v ps d a = distinct_push (map (λ (p : Page). p.number) ps) n d a

sound_on : (x : Said) (s t : Reading) → ((n v : ℕ) → x ≡ heading n v → HeadingFits n v) → ((r : ℕ) (ls : List ℕ) → x ≡ row r ls → RowFits r ls) → read_on x s ≡ Some t → Sound s.begun → Sound t.begun
unfolding read_on
sound_on nothing s t begins fits e h = let same : s ≡ t = cc in subst (λ (u : Reading). Sound u.begun) same h
sound_on (heading n v) s t begins fits e h =
    let ps : List Page = s.begun in
    let got = none_or_some (has_page n ps) _ t e in
    subst (λ (u : Reading). Sound u.begun) got.1 (record {
      distinct = subst Distinct (sym (map_push (λ (p : Page). p.number) ps (blank_page n v))) (numbers n v ps h.distinct (number_new n ps got.0));
      whole = All-push Whole ps (blank_page n v) h.whole (whole_blank n v (begins n v refl));
    })
sound_on (row r ls) s t begins fits e h =
    let got = none_or_some (eqb (length s.begun) 0 || get_or s.given r false) _ t e in
    subst (λ (u : Reading). Sound u.begun) got.1 (record {
      distinct = subst Distinct (sym (numbers_on_last r ls s.begun)) h.distinct;
      whole = all_on_last Whole (page_with_row r ls) s.begun (λ p w. whole_row r ls p (fits r ls refl) w) h.whole;
    })
sound_on unreadable s t begins fits e h = let z : ◌≡◌ {A = ℕ} 0 1 = cc in absurd (omega arith)

-- line by line
sound_by : (o : Option Reading) (k : ℕ) (f : Reading → Outcome) (ps : List Page) → by_reading k o f ≡ pages_read ps → (t : Reading) × (o ≡ Some t) × (f t ≡ pages_read ps)
unfolding by_reading
sound_by None k f ps e = let z : ◌≡◌ {A = ℕ} 0 1 = cc in absurd (omega arith)
sound_by (Some t) k f ps e = (t, refl, e)

sound_lines : (ls : List (List ℕ)) (k : ℕ) (s : Reading) (ps : List Page) → Sound s.begun → read_lines k s ls ≡ pages_read ps → Sound ps
unfolding read_lines
sound_lines [] k s ps h e = let same : s.begun ≡ ps = cc in subst Sound same h
sound_lines (l ∷ ls) k s ps h e =
    let got = sound_by (read_on (what_says (without_return l)) s) k (λ t. read_lines (k + 1) t ls) ps e in
    sound_lines ls (k + 1) got.0 ps (sound_on (what_says (without_return l)) s got.0 (said_heading_fits (without_return l)) (said_row_fits (without_return l)) got.1 h) got.2

pub pages_are_sound : PagesAreSound
unfolding read_text at_start
pages_are_sound text ps e = sound_lines (lines_of text) 0 at_start ps (record { distinct = tt; whole = tt }) e
