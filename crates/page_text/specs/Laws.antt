-- Laws of page texts: what holds of every text that is read, and of every text that is refused. Assumes nothing: these are definitions.
use Rattle.std.specs.Prelude.{◌≡◌, ℕ, zero, suc, ◌*◌, ◌<◌, true, cond, List, [], ◌∷◌, map, length, ◌≢◌}
use Rattle.std.specs.List.{AllByRecursion}
use Rattle.coding.specs.Parity.{is_letter}
use Rattle.line.specs.Size.{rows, columns}
use Rattle.page_text.specs.declared.Page.{Page}
use Rattle.page_text.specs.Reading.{in_line, read_text, pages_read, bad_line}
use Rattle.page_text.specs.Written.{pages_text}

-- no number stands twice
abbrev pub Distinct : List ℕ → Type 0
Distinct [] = Unit {0}
Distinct (n ∷ ns) = AllByRecursion (λ m. m ≢ n) ns × Distinct ns

-- a page whose number and version are bytes, with a letter at each place of its rows
pub record Whole (p : Page) : Type 0 where
  pub number_fits : p.number < 256
  pub version_fits : p.version < 256
  pub long : length p.letters ≡ rows * columns
  pub written : AllByRecursion (λ c. is_letter c ≡ true) p.letters

-- no two pages have one number, and each is whole
pub record Sound (ps : List Page) : Type 0 where
  pub distinct : Distinct (map (λ (p : Page). p.number) ps)
  pub whole : AllByRecursion Whole ps

-- the pages of every text that is read are sound
abbrev pub PagesAreSound : Type 0
PagesAreSound = (text : List ℕ) (ps : List Page) → read_text text ≡ pages_read ps → Sound ps

-- a text cut after its first k lines
unfoldable pub first_lines : ℕ → List ℕ → List ℕ
first_lines zero bs = []
first_lines (suc k) [] = []
first_lines (suc k) (b ∷ bs) = b ∷ cond (in_line b) (first_lines (suc k) bs) (first_lines k bs)

-- a text whose line k is the first that can't be read: cut before that line it is read, and cut after it, it is refused there
pub record FirstRefused (text : List ℕ) (k : ℕ) : Type 0 where
  pub before : (ps : List Page) × (read_text (first_lines k text) ≡ pages_read ps)
  pub there : read_text (first_lines (suc k) text) ≡ bad_line k

-- the place of every refusal is that of the first line that can't be read
abbrev pub RefusalsAreFirst : Type 0
RefusalsAreFirst = (text : List ℕ) (k : ℕ) → read_text text ≡ bad_line k → FirstRefused text k

-- the text of sound pages is read as just those pages
abbrev pub WrittenIsRead : Type 0
WrittenIsRead = (ps : List Page) → Sound ps → read_text (pages_text ps) ≡ pages_read ps
