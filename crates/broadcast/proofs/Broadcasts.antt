-- A broadcast of a text has one text for each version of a page. Assumes nothing.
use Rattle.std.proofs.Common.{◌≡◌, ℕ, ◌+◌, ◌*◌, ◌<◌, ◌&&◌, eqb, ltb, List, map, get_or, take, drop, sym, refl, ap, ◌∙◌, subst, arith, get_or-drop, get_or-take}
use Rattle.std.specs.List.{AllByRecursion}
use Rattle.std.proofs.lemmas.Bool.{and_parts, eqb-true, ltb-true, cond_both}
use Rattle.line.specs.Line.{letters_at, meaning}
use Rattle.line.specs.declared.Line.{Line}
use Rattle.receiver.specs.Broadcast.{Among, here, there, OneText, OneVersion}
use Rattle.page_text.specs.Laws.{Distinct, Whole, Sound}
use Rattle.page_text.specs.Lines.{page_line}
use Rattle.page_text.specs.declared.Page.{Page}
use Rattle.broadcast.specs.Sending.{LineOfText, BroadcastOf}
use Rattle.broadcast.specs.Showing.{text_letter}

all_among : {A : Type 0} (P : A → Type 0) (x : A) (xs : List A) → AllByRecursion P xs → Among x xs → P x
all_among P x _ h (here xs) = h.0
all_among P x _ h (there y xs i) = all_among P x xs h.1 i

among_map : {A : Type 0} (f : A → ℕ) (x : A) (xs : List A) → Among x xs → Among (f x) (map f xs)
among_map f x _ (here xs) = here (map f xs)
among_map f x _ (there y xs i) = there (f y) (map f xs) (among_map f x xs i)

pub whole_page : (ps : List Page) (p : Page) → Sound ps → Among p ps → Whole p
whole_page ps p w i = all_among Whole p ps w.whole i

-- pages of one number are one page
pub one_page : (p q : Page) (ps : List Page) → Distinct (map (λ (x : Page). x.number) ps) → Among p ps → Among q ps → p.number ≡ q.number → p ≡ q
one_page _ _ _ d (here ps) (here _) e = refl
one_page p q _ d (here ps) (there _ _ j) e = absurd (all_among (λ m. m ≡ p.number → ⊥) q.number _ d.0 (among_map (λ (x : Page). x.number) q ps j) (sym e))
one_page p q _ d (there _ ps i) (here _) e = absurd (all_among (λ m. m ≡ q.number → ⊥) p.number _ d.0 (among_map (λ (x : Page). x.number) p ps i) e)
one_page p q _ d (there _ ps i) (there _ _ j) e = one_page p q ps d.1 i j e

-- a letter that a page's line has stands at the line's row, and is the text's
pub record LetterOfText (p : Page) (sent r c x : ℕ) : Type 0 where
  pub row : sent ≡ r
  pub letter : x ≡ text_letter p r c

pub line_letter : (p : Page) (row r c : ℕ) → 0 < (meaning (page_line p row)).letters r c → LetterOfText p row r c ((meaning (page_line p row)).letters r c)
unfolding letters_at
line_letter p row r c =
    cond_both (eqb r row && ltb c 40) (get_or (take 40 (drop (40 * row) p.letters)) c 0) 0 (λ x. 0 < x → LetterOfText p row r c x)
    (λ t _. let at = and_parts (eqb r row) (ltb c 40) t in
    let same : row ≡ r = sym (eqb-true _ _ at.0) in
    record { row = same; letter = get_or-take 40 (drop (40 * row) p.letters) c 0 (ltb-true _ _ at.1) ∙ get_or-drop (40 * row) p.letters c 0 ∙ ap (λ k. get_or p.letters (40 * k + c) 0) same })
    (λ _ none. absurd (omega arith))

pub sent_letter : (ps : List Page) (m : Line) (r c : ℕ) → (w : LineOfText ps m) → 0 < (meaning m).letters r c → (meaning m).letters r c ≡ text_letter w.page r c
sent_letter ps m r c w known =
    let e : (meaning m).letters r c ≡ (meaning (page_line w.page w.row)).letters r c = ap (λ x. (meaning x).letters r c) w.line in
    e ∙ (line_letter w.page w.row r c (subst (λ x. 0 < x) e known)).letter

sent_number : (ps : List Page) (m : Line) (w : LineOfText ps m) → m.page ≡ w.page.number
sent_number ps m w = ap (λ x. x.page) w.line

pub one_text : (ps : List Page) (sent : List Line) → Sound ps → BroadcastOf ps sent → OneText sent
one_text ps sent sound from a b i j pg _ r c ka kb =
    let wa = from a i in let wb = from b j in
    let same = one_page wa.page wb.page ps sound.distinct wa.among wb.among (sym (sent_number ps a wa) ∙ pg ∙ sent_number ps b wb) in
    sent_letter ps a r c wa ka ∙ ap (λ p. text_letter p r c) same ∙ sym (sent_letter ps b r c wb kb)

-- the page of the text that a line of page n is of
pub sent_page : (ps : List Page) (p : Page) (m : Line) → Sound ps → Among p ps → (w : LineOfText ps m) → m.page ≡ p.number → w.page ≡ p
sent_page ps p m sound i w pg = one_page w.page p ps sound.distinct w.among i (sym (sent_number ps m w) ∙ pg)

pub one_version : (ps : List Page) (sent : List Line) (p : Page) → Sound ps → BroadcastOf ps sent → Among p ps → OneVersion sent p.number p.version
one_version ps sent p sound from i m j pg = ap (λ x. x.version) (from m j).line ∙ ap (λ x. x.version) (sent_page ps p m sound i (from m j) pg)
