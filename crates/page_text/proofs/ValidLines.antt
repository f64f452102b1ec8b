-- The line of a row of a whole page can be sent. Assumes nothing.
use Rattle.std.proofs.Common.{◌≡◌, ℕ, zero, suc, ◌+◌, ◌*◌, ◌<◌, true, List, [], length, get_or, refl, take, drop, sym, ap, ◌∙◌, subst, arith, length-drop, length-take-le, get_or-drop, get_or-take}
use Rattle.std.specs.Simd.{first_chunks}
use Rattle.std.proofs.lemmas.List.{drop-drop}
use Rattle.std.proofs.ByRecursion.{All-get_or}
use Rattle.coding.specs.Parity.{is_letter}
use Rattle.line.specs.Line.{Valid}
use Rattle.line.specs.declared.Line.{Line}
use Rattle.page_text.specs.declared.Page.{Page}
use Rattle.page_text.specs.Laws.{Whole}
use Rattle.page_text.specs.Lines.{page_line, LineOf}

pub line_valid : (p : Page) (r : ℕ) → r < 25 → Whole p → Valid (page_line p r)
line_valid p r hr w =
    let long : length p.letters ≡ 1000 = w.long in
    record {
      page = w.number_fits;
      version = w.version_fits;
      row = hr;
      long = length-take-le 40 (drop (40 * r) p.letters) (omega (arith, length-drop (40 * r) p.letters));
      letters = λ c hc. subst (λ x. is_letter x ≡ true) (sym (get_or-take 40 (drop (40 * r) p.letters) c 0 hc ∙ get_or-drop (40 * r) p.letters c 0)) (All-get_or (λ x. is_letter x ≡ true) p.letters (40 * r + c) 0 (omega arith) w.written);
    }

pub row_line_of : (p : Page) (r : ℕ) (letters : List ℕ) → r < 25 → letters ≡ take 40 (drop (40 * r) p.letters) → LineOf p r (record { page = p.number; version = p.version; row = r; letters = letters })
row_line_of p r letters hr e =
    let line : ◌≡◌ {A = Line} (record { page = p.number; version = p.version; row = r; letters = letters }) (page_line p r) = ap (λ (x : List ℕ). record { page = p.number; version = p.version; row = r; letters = x }) e in
    record { row = hr; line = line; valid = λ w. subst Valid (sym line) (line_valid p r hr w) }

-- a row of a page that is cut into rows
pub chunk_at : (k : ℕ) (xs : List ℕ) (r : ℕ) → r < k → get_or (first_chunks 40 k xs) r [] ≡ take 40 (drop (40 * r) xs)
chunk_at zero xs r h = absurd (omega arith)
chunk_at (suc k) xs zero h = refl
chunk_at (suc k) xs (suc r) h =
    let next : 40 * r + 40 ≡ 40 * suc r = omega arith in
    chunk_at k (drop 40 xs) r (omega arith) ∙ ap (take 40) (drop-drop (40 * r) 40 xs ∙ ap (λ n. drop n xs) (omega arith))
