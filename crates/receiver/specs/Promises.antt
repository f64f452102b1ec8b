-- What is promised of runs of calls. Each is a statement that the contract of a function names. Assumes nothing: these are definitions.
use Rattle.std.specs.Prelude.{◌≡◌, ℕ, ◌<◌, Bool, true, ◌&&◌, ◌⊎◌, List, [], ◌∷◌, ◌++◌, length, ◌≢◌, nat_lt, slice_index}
use Rattle.coding.specs.Hamming.{distance}
use Rattle.line.specs.Line.{meaning, encode_line}
use Rattle.line.specs.Damage.{Copy}
use Rattle.line.specs.Size.{rows, columns}
use Rattle.line.specs.declared.Line.{Line}
use Rattle.line.specs.Reading.{page_of, letters_of, readable}
use Rattle.store.specs.Page.{ShowsSame}
use Rattle.store.specs.Layout.{slots, version_at, holds, well_formed, page_in}
use Rattle.store.specs.Slots.{OnlySlot}
use Rattle.receiver.specs.Entry.{Answers, counted}
use Rattle.receiver.specs.Broadcast.{Among, OneText, WhatComes, SentLetter, OneVersion, Brought}
use Rattle.receiver.specs.Runs.{Run, NoPages, Sound, EveryLetter, ShowsText, NoPlace}
use Rattle.receiver.specs.declared.entry.Done.{Done}
use Rattle.receiver.specs.declared.entry.Done.TheVariants.{Took, Lost, Full}
use Rattle.receiver.specs.declared.entry.Counts.{Counts}

-- SOUNDNESS, of one store and the store that a run leaves: what it says stays what was sent
abbrev pub StaysSound : (s : List ℕ) (ls : List (List ℕ)) (s₁ : List ℕ) → Type 0
StaysSound s ls s₁ = (sent : List Line) → WhatComes sent ls → Sound sent s → Sound sent s₁

-- and from a store with no page each page was sent in the version that it names, and each letter is that of every line sent for its place
abbrev pub Soundness : (s : List ℕ) (ls : List (List ℕ)) (s₁ : List ℕ) → Type 0
Soundness s ls s₁ = (sent : List Line) → WhatComes sent ls → OneText sent → NoPages s → Sound sent s₁ × EveryLetter sent s₁

-- RECOVERY: from any store, of what comes while a page's lines are all of one version, each letter that came whole stands in the page at its place, in that version, unless the store was full
abbrev pub Recovery : (s : List ℕ) (ls : List (List ℕ)) (s₁ : List ℕ) → Type 0
Recovery s ls s₁ =
    (sent : List Line) (n v : ℕ) (places : ℕ → ℕ → Bool) → WhatComes sent ls → OneText sent → OneVersion sent n v →
    ((r c : ℕ) → places r c ≡ true → Brought sent ls n r c) → (r c : ℕ) → places r c ≡ true → ShowsText sent s₁ n v places ⊎ NoPlace s s₁ n

-- the places of a whole page
abbrev pub whole_page : ℕ → ℕ → Bool
whole_page r c = nat_lt r rows && nat_lt c columns

-- the whole page, once each of its letters came
abbrev pub RecoveryOfPage : (s : List ℕ) (ls : List (List ℕ)) (s₁ : List ℕ) → Type 0
RecoveryOfPage s ls s₁ =
    (sent : List Line) (n v : ℕ) → WhatComes sent ls → OneText sent → OneVersion sent n v → ((r c : ℕ) → r < rows → c < columns → Brought sent ls n r c) →
    ShowsText sent s₁ n v whole_page ⊎ NoPlace s s₁ n

-- all that is promised of a run of calls from a store that isn't turned away
pub record RunPromises (s : List ℕ) (ls : List (List ℕ)) (rs : List Done) (s₁ : List ℕ) : Type 0 where
  pub run : Run s ls rs s₁
  pub formed : well_formed s₁ ≡ true
  pub long : length s₁ ≡ length s
  pub stays_sound : StaysSound s ls s₁
  pub soundness : Soundness s ls s₁
  pub recovery : Recovery s ls s₁
  pub recovery_of_page : RecoveryOfPage s ls s₁

-- more calls: whatever run led to the store, the run with these lines after it keeps all promises
abbrev pub Continue : (ls : List (List ℕ)) (s : List ℕ) → List Done → List ℕ → Type 0
Continue ls s rs s₁ =
    (s₀ : List ℕ) (before : List (List ℕ)) (answers : List Done) → well_formed s₀ ≡ true → Run s₀ before answers s → RunPromises s₀ (before ++ ls) (answers ++ rs) s₁

-- one call more
abbrev pub Continues : (l s : List ℕ) → Done → List ℕ → Type 0
Continues l s r s₁ =
    (s₀ : List ℕ) (ls : List (List ℕ)) (rs : List Done) → well_formed s₀ ≡ true → Run s₀ ls rs s → RunPromises s₀ (ls ++ (l ∷ [])) (rs ++ (r ∷ [])) s₁

-- DETECTION: a copy of a line in which two bits of a number's byte are turned is lost, and all stays but the count of lost lines; byte 3 has the version's ones
abbrev pub TwoTurnedLost : (l s : List ℕ) (k : Counts) → Done → List ℕ → Counts → Type 0
TwoTurnedLost l s k r s₁ k₁ =
    (m : Line) (i : ℕ) → well_formed s ≡ true → Copy m l → i < 6 → distance (slice_index (encode_line m) i) (slice_index l i) ≡ 2 → (r ≡ Lost) × (s₁ ≡ s) × (k₁ ≡ counted k Lost)

-- ROWS: of a store that says nothing but what was sent, a row that is handed back has only letters that were sent there, and 0 elsewhere
abbrev pub RowSound : (s : List ℕ) (n r : ℕ) (t : List ℕ) → Type 0
RowSound s n r t =
    (sent : List Line) → Sound sent s →
    (length t ≡ 0) ⊎ ((i : ℕ) × (i < slots s) × (holds s n i ≡ true) × (length t ≡ columns) × ((c : ℕ) → c < columns → (slice_index t c ≡ 0) ⊎ SentLetter sent n (version_at s i) r c (slice_index t c)))

-- and the text at each place where the page shows it
abbrev pub RowText : (s : List ℕ) (n r : ℕ) (t : List ℕ) → Type 0
RowText s n r t =
    (sent : List Line) (v : ℕ) (places : ℕ → ℕ → Bool) → well_formed s ≡ true → r < rows → ShowsText sent s n v places →
    (length t ≡ columns) × ((c : ℕ) → c < columns → places r c ≡ true → (m : Line) → Among m sent → m.page ≡ n → 0 < (meaning m).letters r c → slice_index t c ≡ (meaning m).letters r c)

-- what a run leaves is determined by the store and the lines
abbrev pub Determined : Type 0
Determined = (s s₁ s₂ : List ℕ) (ls : List (List ℕ)) (ps qs : List Done) → well_formed s ≡ true → Run s ls ps s₁ → Run s ls qs s₂ → s₁ ≡ s₂

-- REPETITION: a line that comes twice leaves the bytes that it left the first time
abbrev pub Repetition : Type 0
Repetition = (l s s₁ s₂ : List ℕ) (r q : Done) → well_formed s ≡ true → Answers l s r s₁ → Answers l s₁ q s₂ → s₂ ≡ s₁

-- COMMUTATION: two lines of one page and version that follow one another leave equal bytes in either order, wherever in a run they come, even when the store is full
abbrev pub Commutation : Type 0
Commutation =
    (s s₁ s₂ k l : List ℕ) (before after : List (List ℕ)) (ps qs : List Done) (a b : Line) → well_formed s ≡ true → Copy a k → Copy b l → a.page ≡ b.page → a.version ≡ b.version → OneText (a ∷ (b ∷ [])) →
    Run s (before ++ (k ∷ (l ∷ after))) ps s₁ → Run s (before ++ (l ∷ (k ∷ after))) qs s₂ → s₁ ≡ s₂

-- two lists have the same lines of page n, each however often
abbrev pub SameLines : (n : ℕ) (ls ks : List (List ℕ)) → Type 0
SameLines n ls ks = (l : List ℕ) → readable l ≡ true → page_of l ≡ n → (Among l ls → Among l ks) × (Among l ks → Among l ls)

-- DEPENDENCE: what a page shows depends only on which of its lines came while they are of one version, not on their order or number nor on the lines of other pages between them, unless a store was full
abbrev pub PageDependence : Type 0
PageDependence =
    (sent : List Line) (s t s₁ t₁ : List ℕ) (ls ks : List (List ℕ)) (ps qs : List Done) (n v : ℕ) → well_formed s ≡ true → well_formed t ≡ true → OneText sent → OneVersion sent n v →
    WhatComes sent ls → WhatComes sent ks → SameLines n ls ks → ShowsSame (page_in s n) (page_in t n) → Run s ls ps s₁ → Run t ks qs t₁ →
    ShowsSame (page_in s₁ n) (page_in t₁ n) ⊎ (NoPlace s s₁ n ⊎ NoPlace t t₁ n)

-- REORDERING: a stretch of lines of one page and version leaves equal bytes in whatever order its lines come, and however often
abbrev pub Reordering : Type 0
Reordering =
    (sent : List Line) (s s₁ s₂ : List ℕ) (before ls ks after : List (List ℕ)) (ps qs : List Done) (n v : ℕ) → well_formed s ≡ true → OneText sent → ((m : Line) → Among m sent → (m.page ≡ n) × (m.version ≡ v)) →
    WhatComes sent ls → WhatComes sent ks → ((l : List ℕ) → (Among l ls → Among l ks) × (Among l ks → Among l ls)) →
    Run s (before ++ (ls ++ after)) ps s₁ → Run s (before ++ (ks ++ after)) qs s₂ → s₁ ≡ s₂

-- two lines of different pages leave pages that show the same in either order, if none is answered Full
abbrev pub CommutationOfPages : Type 0
CommutationOfPages =
    (s s₁ s₂ t₁ t₂ k l : List ℕ) (p q p₁ q₁ : Done) → well_formed s ≡ true → (page_of k ≢ page_of l) → Answers k s p s₁ → Answers l s₁ q s₂ → Answers l s q₁ t₁ → Answers k t₁ p₁ t₂ →
    (p ≢ Full) → (q ≢ Full) → (p₁ ≢ Full) → (q₁ ≢ Full) → (n : ℕ) → ShowsSame (page_in s₂ n) (page_in t₂ n)

-- SECOND COPY: a copy of a line that follows another one, damaged differently, leaves the page there in its version, and changes no letter that the first set
pub record SecondCopyKeeps (m : Line) (k s s₁ s₂ : List ℕ) : Type 0 where
  pub there : (page_in s₂ m.page).there ≡ true
  pub version : (page_in s₂ m.page).version ≡ m.version
  pub set_letters : (r c : ℕ) → r < rows → c < columns → 0 < letters_of k r c → (page_in s₂ m.page).letters r c ≡ (page_in s₁ m.page).letters r c
  -- nor, in a store that says nothing but what was sent, any that is known
  pub known_letters : (sent : List Line) → OneText sent → Among m sent → Sound sent s → (r c : ℕ) → r < rows → c < columns → 0 < (page_in s₁ m.page).letters r c → (page_in s₂ m.page).letters r c ≡ (page_in s₁ m.page).letters r c

-- of any line, any two copies of it, and any store that takes the first
abbrev pub SecondCopy : Type 0
SecondCopy = (m : Line) (k l s s₁ s₂ : List ℕ) (q : Done) → well_formed s ≡ true → Copy m k → Copy m l → Answers k s Took s₁ → Answers l s₁ q s₂ → SecondCopyKeeps m k s s₁ s₂

-- FRAME: a line changes no byte outside the slot of its page, and what is lost, full or refused changes none
abbrev pub Frame : Type 0
Frame = (l s s₁ : List ℕ) (r : Done) → Answers l s r s₁ → (s₁ ≡ s) ⊎ ((r ≡ Took) × (length s₁ ≡ length s) × ((i : ℕ) × (i < slots s) × (holds s₁ (page_of l) i ≡ true) × OnlySlot s s₁ i))

-- a row after a run of calls: from a store with no page it has only what was sent, and 0 elsewhere; from any store it has each letter that came whole while the page's lines are of one version, unless the store was full
pub record RowAfterRun (s₀ : List ℕ) (ls : List (List ℕ)) (s : List ℕ) (n r : ℕ) (t : List ℕ) (sent : List Line) : Type 0 where
  pub only_sent : NoPages s₀ → (c : ℕ) → 0 < slice_index t c → (v : ℕ) × SentLetter sent n v r c (slice_index t c)
  pub brought : (v : ℕ) → OneVersion sent n v → (c : ℕ) → Brought sent ls n r c → NoPlace s₀ s n ⊎ ((length t ≡ columns) × ((m : Line) → Among m sent → m.page ≡ n → 0 < (meaning m).letters r c → slice_index t c ≡ (meaning m).letters r c))

-- of any run of calls that led to the store
abbrev pub RowOfRun : (s : List ℕ) (n r : ℕ) (t : List ℕ) → Type 0
RowOfRun s n r t =
    (s₀ : List ℕ) (ls : List (List ℕ)) (rs : List Done) (sent : List Line) → well_formed s₀ ≡ true → Run s₀ ls rs s → WhatComes sent ls → OneText sent → RowAfterRun s₀ ls s n r t sent
