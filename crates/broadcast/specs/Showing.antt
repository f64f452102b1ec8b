-- From text to screen: what is shown of what was sent. Assumes nothing: these are definitions.
use Rattle.std.specs.Prelude.{◌≡◌, ℕ, ◌+◌, ◌*◌, ◌<◌, true, ◌⊎◌, List, length, take, drop, slice_index}
use Rattle.line.specs.Size.{columns}
use Rattle.line.specs.declared.Line.{Line}
use Rattle.store.specs.Layout.{well_formed}
use Rattle.receiver.specs.Broadcast.{Among, WhatComes, Brought}
use Rattle.receiver.specs.Runs.{Run, NoPages, NoPlace}
use Rattle.receiver.specs.declared.entry.Done.{Done}
use Rattle.text.specs.Screen.{gap_sign, sign_of}
use Rattle.page_text.specs.Reading.{read_text, pages_read}
use Rattle.page_text.specs.declared.Page.{Page}
use Rattle.broadcast.specs.Sending.{BroadcastOf}

-- what came of a broadcast of a text to a store that was empty
pub record Came (text : List ℕ) (ps : List Page) (sent : List Line) (s₀ : List ℕ) (ls : List (List ℕ)) (rs : List Done) (s : List ℕ) : Type 0 where
  pub read : read_text text ≡ pages_read ps
  pub broadcast : BroadcastOf ps sent
  pub comes : WhatComes sent ls
  pub formed : well_formed s₀ ≡ true
  pub no_pages : NoPages s₀
  pub run : Run s₀ ls rs s

-- the letter of a page's text at row r and column c
abbrev pub text_letter : Page → ℕ → ℕ → ℕ
text_letter p r c = slice_index p.letters (columns * r + c)

-- the row of a page's text
abbrev pub text_row : Page → ℕ → List ℕ
text_row p r = take columns (drop (columns * r) p.letters)

-- each sign of row r of page n, which is shown as t, is that of a gap or of the text's letter at its place
abbrev pub SignsTrue : (ps : List Page) (n r : ℕ) (t : List ℕ) → Type 0
SignsTrue ps n r t =
    (c : ℕ) → c < length t → (sign_of (slice_index t c) ≡ gap_sign) ⊎ ((p : Page) × Among p ps × (p.number ≡ n) × (sign_of (slice_index t c) ≡ sign_of (text_letter p r c)))

-- once each letter of the row came whole, in a line whose numbers came within a bit, and the store had a place, the row shown is the text's
abbrev pub RowWhole : (ps : List Page) (sent : List Line) (s₀ : List ℕ) (ls : List (List ℕ)) (s : List ℕ) (n r : ℕ) (t : List ℕ) → Type 0
RowWhole ps sent s₀ ls s n r t =
    (p : Page) → Among p ps → p.number ≡ n → ((c : ℕ) → c < columns → Brought sent ls n r c) → (NoPlace s₀ s n → ⊥) → t ≡ text_row p r

-- FROM TEXT TO SCREEN: a row t of the store, as it is shown, of what came of a text
pub record ShowsSent (ps : List Page) (sent : List Line) (s₀ : List ℕ) (ls : List (List ℕ)) (s : List ℕ) (n r : ℕ) (t : List ℕ) : Type 0 where
  pub signs : SignsTrue ps n r t
  pub whole : RowWhole ps sent s₀ ls s n r t

-- of any text, any broadcast of it, and whatever came of that
abbrev pub TextToScreen : (s : List ℕ) (n r : ℕ) (t : List ℕ) → Type 0
TextToScreen s n r t =
    (text : List ℕ) (ps : List Page) (sent : List Line) (s₀ : List ℕ) (ls : List (List ℕ)) (rs : List Done) → Came text ps sent s₀ ls rs s → ShowsSent ps sent s₀ ls s n r t

-- and the version that is shown is the text's
abbrev pub VersionOfText : (s : List ℕ) (n v : ℕ) → Type 0
VersionOfText s n v =
    (text : List ℕ) (ps : List Page) (sent : List Line) (s₀ : List ℕ) (ls : List (List ℕ)) (rs : List Done) → Came text ps sent s₀ ls rs s → (p : Page) × Among p ps × (p.number ≡ n) × (v ≡ p.version)
