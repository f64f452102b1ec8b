-- Pages as a receiver knows them, and a fragment laid over them. Nothing here knows of bytes. Assumes nothing: these are definitions.
use Rattle.std.specs.Prelude.{◌≡◌, ℕ, ◌<◌, Bool, true, false, cond, ◌&&◌, ◌==◌, nat_lt}
use Rattle.line.specs.Size.{rows, columns}
use Rattle.line.specs.Line.{Fragment}

-- a page: whether it is there, its version, and its letters by row and column, 0 where none is known
pub record Page : Type 0 where
  pub there : Bool
  pub version : ℕ
  pub letters : ℕ → ℕ → ℕ

-- the pages by their numbers
abbrev pub Pages : Type 0
Pages = ℕ → Page

-- a page that is not there
unfoldable pub no_page : Page
no_page = record { there = false; version = 0; letters = λ r c. 0 }

-- a page begun in a version, no letter known
unfoldable pub begun : ℕ → Page
begun v = record { there = true; version = v; letters = λ r c. 0 }

-- the page in a version: as it is, or begun anew if it isn't there or is there in another version
unfoldable pub in_version : Page → ℕ → Page
in_version p v = cond (p.there && p.version == v) p (begun v)

-- a letter that came; where none came, what was there stays
unfoldable pub merge : ℕ → ℕ → ℕ
merge came old = cond (nat_lt 0 came) came old

-- the letters of a fragment laid over a page
unfoldable pub overlay : Page → Fragment → Page
overlay p f = record { there = true; version = p.version; letters = λ r c. merge (f.letters r c) (p.letters r c) }

-- a fragment applied to the pages: its own page, in its version, gets its letters; the others stay
unfoldable pub apply : Pages → Fragment → Pages
apply s f n = cond (n == f.page) (overlay (in_version (s n) f.version) f) (s n)

-- pages that show the same
pub record ShowsSame (p q : Page) : Type 0 where
  pub there : p.there ≡ q.there
  pub version : p.version ≡ q.version
  pub letters : (r c : ℕ) → r < rows → c < columns → p.letters r c ≡ q.letters r c
