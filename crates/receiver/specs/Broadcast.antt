-- What was sent, and what comes of it. Assumes nothing: these are definitions.
use Rattle.std.specs.Prelude.{◌≡◌, ℕ, ◌<◌, ◌⊎◌, List, ◌∷◌, length, ◌≢◌}
use Rattle.line.specs.Line.{Fragment, meaning}
use Rattle.line.specs.Damage.{Copy, Brings}
use Rattle.line.specs.declared.Line.{Line}

-- x is one of the elements of a list
pub data Among {A : Type 0} (x : A) : List A → Type 0 where
  here : (xs : List A) → Among x (x ∷ xs)
  there : (y : A) (xs : List A) → Among x xs → Among x (y ∷ xs)

-- fragments that say the same where both say something
abbrev pub Agree : Fragment → Fragment → Type 0
Agree f g = (r c : ℕ) → 0 < f.letters r c → 0 < g.letters r c → f.letters r c ≡ g.letters r c

-- a version of a page has one text in all that was sent
abbrev pub OneText : List Line → Type 0
OneText sent = (a b : Line) → Among a sent → Among b sent → a.page ≡ b.page → a.version ≡ b.version → Agree (meaning a) (meaning b)

-- bytes that came are a copy, damaged within the limits, of a line that was sent
pub record CopyOfSent (sent : List Line) (l : List ℕ) : Type 0 where
  pub line : Line
  pub among : Among line sent
  pub copy : Copy line l

-- what comes of what was sent: lines of another length, and damaged copies, in whatever order and as often as they like
abbrev pub WhatComes : List Line → List (List ℕ) → Type 0
WhatComes sent ls = (l : List ℕ) → Among l ls → (length l ≢ 46) ⊎ CopyOfSent sent l

-- page n was sent in version v
pub record SentVersion (sent : List Line) (n v : ℕ) : Type 0 where
  pub line : Line
  pub among : Among line sent
  pub page : line.page ≡ n
  pub version : line.version ≡ v

-- letter x was sent at row r and column c of page n in version v
pub record SentLetter (sent : List Line) (n v r c x : ℕ) : Type 0 where
  pub line : Line
  pub among : Among line sent
  pub page : line.page ≡ n
  pub version : line.version ≡ v
  pub letter : (meaning line).letters r c ≡ x

-- all lines of page n that were sent are of version v
abbrev pub OneVersion : List Line → (n v : ℕ) → Type 0
OneVersion sent n v = (m : Line) → Among m sent → m.page ≡ n → m.version ≡ v

-- the letter at row r and column c of page n came whole once, in a line whose numbers came within a bit
pub record Brought (sent : List Line) (ls : List (List ℕ)) (n r c : ℕ) : Type 0 where
  pub line : Line
  pub among : Among line sent
  pub page : line.page ≡ n
  pub bytes : List ℕ
  pub came : Among bytes ls
  pub brings : Brings line bytes r c
