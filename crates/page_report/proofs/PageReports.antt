-- Lemmas on pages as they are printed.
use Rattle.std.proofs.Common.{◌≡◌, ℕ, ◌+◌, ◌<◌, ◌≤◌, Bool, true, false, not, ◌&&◌, ltb, List, [], ◌∷◌, ◌++◌, length, get_or, drop, is_some, Some, None, Option, sym, refl, ap, ◌∙◌, subst, append_assoc, append-nil, add-one, MatchOption}
use Rattle.line.specs.Size.{rows, columns}
use Rattle.std.specs.Str.{bytes_eq}
use Rattle.std.proofs.lemmas.List.FromFn.{fill_by_all}
use Rattle.std.proofs.lemmas.List.{drop_more, drop_all}
use Rattle.std.proofs.lemmas.Grind.{flat_map-append}
use Rattle.std.proofs.lemmas.Bool.{and_parts, and_from, lt-ltb, cond-true, cond-false, both_ways}
use Rattle.store.specs.Layout.{well_formed, page_in}
use Rattle.store.specs.Slots.{RowOf, has_row, VersionOf}
use Rattle.text.specs.Screen.{shown}
use Rattle.page_report.specs.Report.{row_letters, row_lines, heading_line, missing_line, page_report, shown_otherwise, pages_there, pages_report}

-- a row that is handed back is the row of the page
pub row_is : (s : List ℕ) (n r : ℕ) (t : List ℕ) → (well_formed s && (page_in s n).there) ≡ true → r < rows → RowOf s n r t → t ≡ row_letters (page_in s n) r
unfolding row_letters
row_is s n r t there within h =
    let a = and_parts (well_formed s) (page_in s n).there there in
    let has : has_row s n r ≡ true = and_from (well_formed s) ((page_in s n).there && ltb r rows) a.0 (and_from (page_in s n).there (ltb r rows) a.1 (lt-ltb r rows within)) in
    fill_by_all (λ c. (page_in s n).letters r c) t columns 0 (h.long has) (h.letters has)

-- one row more
pub row_lines_more : (s : List ℕ) (n m r : ℕ) (t before now₁ now₂ now₃ : List ℕ) → m ≡ n → (well_formed s && (page_in s n).there) ≡ true → r < rows → RowOf s m r t → now₁ ≡ before ++ row_lines (page_in s n) r → now₂ ≡ now₁ ++ shown t → now₃ ≡ now₂ ++ 10 ∷ [] → now₃ ≡ before ++ row_lines (page_in s n) (r + 1)
unfolding row_lines
row_lines_more s n m r t before now₁ now₂ now₃ same there within h e₁ e₂ e₃ =
    rw (add-one) (e₃ ∙ ap (λ x. x ++ 10 ∷ []) (e₂ ∙ ap (λ x. x ++ shown t) e₁) ∙ ap (λ x. ((before ++ row_lines (page_in s n) r) ++ shown x) ++ 10 ∷ []) (row_is s n r t there within (subst (λ k. RowOf s k r t) same h))
    ∙ simp append_assoc)

-- a page that is there, and one that isn't
pub is_there : (s : List ℕ) (n v : ℕ) → VersionOf s n v → (well_formed s && (page_in s n).there) ≡ true
is_there s n v h = and_from (well_formed s) (page_in s n).there h.formed h.there

pub report_there : (s : List ℕ) (n m v : ℕ) (before now₁ now₂ : List ℕ) → m ≡ n → VersionOf s m v → now₁ ≡ before ++ heading_line n v → now₂ ≡ now₁ ++ row_lines (page_in s n) rows → now₂ ≡ before ++ page_report s n
unfolding page_report
report_there s n m v before now₁ now₂ same w e₁ e₂ =
    let h : VersionOf s n v = subst (λ k. VersionOf s k v) same w in
    e₂ ∙ ap (λ x. x ++ row_lines (page_in s n) rows) e₁ ∙ append_assoc before (heading_line n v) (row_lines (page_in s n) rows)
    ∙ ap (λ w. before ++ (heading_line n w ++ row_lines (page_in s n) rows)) h.version
    ∙ ap (λ x. before ++ x) (sym (cond-true _ _ _ (is_there s n v h)))

pub report_missing : (s : List ℕ) (n : ℕ) (before now₁ : List ℕ) → (well_formed s && (page_in s n).there) ≡ false → now₁ ≡ before ++ missing_line n → now₁ ≡ before ++ page_report s n
unfolding page_report
report_missing s n before now₁ h e = e ∙ ap (λ x. before ++ x) (sym (cond-false _ _ _ h))

-- a page that was compared with what was shown before
pub compared : (b : Bool) (before text old new : List ℕ) (s : List ℕ) (n : ℕ) → old ≡ before → new ≡ text → text ≡ page_report s n → b ≡ bytes_eq old new → not b ≡ shown_otherwise before s n
compared b before text old new s n e₁ e₂ e₃ h =
    ap not (h ∙ ap (λ x. bytes_eq x new) e₁ ∙ ap (bytes_eq before) (e₂ ∙ e₃))

-- one page more of those that are left, and none left
pub pages_more : (s ns : List ℕ) (i : ℕ) (now₁ now₂ all : List ℕ) → i < length ns → now₁ ++ pages_report s (drop i ns) ≡ all → now₂ ≡ now₁ ++ page_report s (get_or ns i 0) → now₂ ++ pages_report s (drop (i + 1) ns) ≡ all
pages_more s ns i now₁ now₂ all h inv e =
    ap (λ x. x ++ pages_report s (drop (i + 1) ns)) e ∙ append_assoc now₁ (page_report s (get_or ns i 0)) (pages_report s (drop (i + 1) ns))
    ∙ ap (λ x. now₁ ++ pages_report s x) (sym (drop_more ns i 0 h)) ∙ inv

pub pages_done : (s ns : List ℕ) (i : ℕ) (now₁ all : List ℕ) → length ns ≤ i → now₁ ++ pages_report s (drop i ns) ≡ all → now₁ ≡ all
pages_done s ns i now₁ all h inv = sym (append-nil now₁) ∙ ap (λ x. now₁ ++ pages_report s x) (sym (drop_all i ns h)) ∙ inv

-- a page that is there is one more, and one that isn't is none
there_more : (s : List ℕ) (k : ℕ) (o : Option ℕ) → MatchOption o ((well_formed s && (page_in s k).there) ≡ false) (λ v. VersionOf s k v) → is_some o ≡ true → pages_there s (k + 1) ≡ pages_there s k ++ k ∷ []
unfolding pages_there
there_more s k None h is = absurd (both_ways false refl is)
there_more s k (Some v) h is = rw (add-one) (ap (λ x. pages_there s k ++ x) (cond-true _ _ _ (is_there s k v h)))

there_as_before : (s : List ℕ) (k : ℕ) (o : Option ℕ) → MatchOption o ((well_formed s && (page_in s k).there) ≡ false) (λ v. VersionOf s k v) → is_some o ≡ false → pages_there s (k + 1) ≡ pages_there s k
unfolding pages_there
there_as_before s k None h is = rw (add-one) (ap (λ x. pages_there s k ++ x) (cond-false _ _ _ h) ∙ append-nil (pages_there s k))
there_as_before s k (Some v) h is = absurd (both_ways true is refl)

-- the pages below k that are there are written, and page k is looked for
module _ (s before now₁ : List ℕ) (k m : ℕ) (o : Option ℕ) (same : m ≡ k) (looked : MatchOption o ((well_formed s && (page_in s m).there) ≡ false) (λ v. VersionOf s m v)) (so_far : now₁ ≡ before ++ pages_report s (pages_there s k)) where
  here : MatchOption o ((well_formed s && (page_in s k).there) ≡ false) (λ v. VersionOf s k v)
  here = subst (λ n. MatchOption o ((well_formed s && (page_in s n).there) ≡ false) (λ v. VersionOf s n v)) same looked

  pub there_written : (now₂ : List ℕ) → is_some o ≡ true → now₂ ≡ now₁ ++ page_report s k → now₂ ≡ before ++ pages_report s (pages_there s (k + 1))
  there_written now₂ is e =
      let more : pages_report s (pages_there s (k + 1)) ≡ pages_report s (pages_there s k) ++ page_report s k =
      ap (pages_report s) (there_more s k o here is) ∙ flat_map-append (page_report s) (pages_there s k) (k ∷ []) ∙ ap (λ x. pages_report s (pages_there s k) ++ x) (append-nil (page_report s k)) in
      e ∙ ap (λ x. x ++ page_report s k) so_far ∙ append_assoc before (pages_report s (pages_there s k)) (page_report s k) ∙ ap (λ x. before ++ x) (sym more)

  pub none_written : is_some o ≡ false → now₁ ≡ before ++ pages_report s (pages_there s (k + 1))
  none_written is = so_far ∙ ap (λ x. before ++ pages_report s x) (sym (there_as_before s k o here is))

pub none_there : (s before : List ℕ) → before ≡ before ++ pages_report s (pages_there s 0)
unfolding pages_there
none_there s before = sym (append-nil before)
