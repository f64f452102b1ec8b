-- Whole runs of calls on the bytes of a store. Assumes nothing: these are definitions.
use Rattle.std.specs.Prelude.{◌≡◌, ℕ, ◌<◌, Bool, true, false, List, [], ◌∷◌}
use Rattle.line.specs.Line.{meaning}
use Rattle.line.specs.Size.{rows, columns}
use Rattle.line.specs.declared.Line.{Line}
use Rattle.store.specs.Layout.{slots, mark_at, version_at, letter_at, holds}
use Rattle.store.specs.Slots.{NoRoom}
use Rattle.receiver.specs.Entry.{Answers}
use Rattle.receiver.specs.Broadcast.{Among, SentVersion, SentLetter}
use Rattle.receiver.specs.declared.entry.Done.{Done}

-- lines that come to a store one after the other, with what each call answers and the store that is left
pub data Run : List ℕ → List (List ℕ) → List Done → List ℕ → Type 0 where
  end : (s : List ℕ) → Run s [] [] s
  step : (s l s₁ s₂ : List ℕ) (r : Done) (ls : List (List ℕ)) (rs : List Done) → Answers l s r s₁ → Run s₁ ls rs s₂ → Run s (l ∷ ls) (r ∷ rs) s₂

-- a store with no page
abbrev pub NoPages : List ℕ → Type 0
NoPages s = (i : ℕ) → i < slots s → mark_at s i ≡ 0

-- slot i says of page n nothing but what was sent, in the version that it names
pub record SoundSlot (sent : List Line) (s : List ℕ) (i n : ℕ) : Type 0 where
  pub version : SentVersion sent n (version_at s i)
  pub letters : (r c : ℕ) → r < rows → c < columns → 0 < letter_at s i r c → SentLetter sent n (version_at s i) r c (letter_at s i r c)

-- the store says nothing but what was sent: the invariant that each line keeps
abbrev pub Sound : List Line → List ℕ → Type 0
Sound sent s = (i n : ℕ) → i < slots s → holds s n i ≡ true → SoundSlot sent s i n

-- each letter that the store knows is the one that every line sent for its place in its version has
abbrev pub EveryLetter : List Line → List ℕ → Type 0
EveryLetter sent s =
    (i n r c : ℕ) → i < slots s → holds s n i ≡ true → r < rows → c < columns → 0 < letter_at s i r c →
    (m : Line) → Among m sent → m.page ≡ n → m.version ≡ version_at s i → 0 < (meaning m).letters r c → (meaning m).letters r c ≡ letter_at s i r c

-- page n stands in the store in version v, with the letter that was sent at each of the places
pub record ShowsText (sent : List Line) (s : List ℕ) (n v : ℕ) (places : ℕ → ℕ → Bool) : Type 0 where
  pub slot : ℕ
  pub within : slot < slots s
  pub here : holds s n slot ≡ true
  pub version : version_at s slot ≡ v
  pub known : (r c : ℕ) → places r c ≡ true → SentLetter sent n v r c (letter_at s slot r c)
  pub text : (r c : ℕ) → places r c ≡ true → (m : Line) → Among m sent → m.page ≡ n → 0 < (meaning m).letters r c → (meaning m).letters r c ≡ letter_at s slot r c

-- page n had no place: it stands neither in the store before nor in the one after, which has no free slot
pub record NoPlace (s s₁ : List ℕ) (n : ℕ) : Type 0 where
  pub before : (i : ℕ) → i < slots s → holds s n i ≡ false
  pub after : NoRoom s₁ n
