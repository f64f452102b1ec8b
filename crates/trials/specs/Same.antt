-- When a store, or a row that is shown, is as the reference has it. Assumes nothing: these are definitions.
use Rattle.std.specs.Prelude.{◌≡◌, ℕ, ◌+◌, ◌<◌, true, false, ◌⊎◌, List, length, Some, vec_items, slice_index}
use Rattle.store.specs.Page.{ShowsSame}
use Rattle.store.specs.Layout.{slots, slot_bytes, holds, well_formed, page_in}
use Rattle.trials.specs.Text.{text_letter}
use Rattle.trials.specs.Told.{told, letter_told, page_told}
use Rattle.receiver.specs.declared.entry.Done.{Done}
use Rattle.receiver.specs.declared.entry.Done.TheVariants.{Took, Lost, Full, Refused}
use Rattle.trials.specs.declared.reference.Reference.{Reference}
use Rattle.trials.specs.declared.reference.ReferencePage.{ReferencePage}
use Rattle.trials.specs.declared.sent.Sent.{Sent}

-- a store is well-formed, and shows every page as the reference has it
pub record Same (s : List ℕ) (ref : Reference) : Type 0 where
  pub formed : well_formed s ≡ true
  pub pages : (n : ℕ) → n < 256 → ShowsSame (page_in s n) (page_told (vec_items ref.pages) n)

-- each letter that is known of a page in the store is the one that was sent there in the version that the page names
abbrev pub TrueLetters : List ℕ → Type 0
TrueLetters s = (n r c : ℕ) → n < 256 → r < 25 → c < 40 → 0 < (page_in s n).letters r c → (page_in s n).letters r c ≡ text_letter n (page_in s n).version r c

-- the page of a slot with these bytes is there in the reference, in this version and with these letters
pub record SlotSame (slot : List ℕ) (ref : Reference) : Type 0 where
  pub page : ReferencePage
  pub there : told (vec_items ref.pages) (slice_index slot 1) ≡ Some page
  pub version : page.version ≡ slice_index slot 2
  pub letters : (k : ℕ) → k < 1000 → slice_index slot (3 + k) ≡ slice_index page.letters k

-- t is a row as a page of the reference has it, and each letter of it that is known is the one that was sent there
pub record RowSame (page : ReferencePage) (sent : Sent) (t : List ℕ) : Type 0 where
  pub long : length t ≡ 40
  pub letters : (c : ℕ) → c < 40 → slice_index t c ≡ letter_told page.letters sent.row c
  pub true_letters : (c : ℕ) → c < 40 → (slice_index t c ≡ 0) ⊎ (slice_index t c ≡ text_letter sent.page sent.version sent.row c)

-- row r of page n in a store is as a page of the reference has it, and each letter of it that is known is the one that was sent there
pub record RowShown (s : List ℕ) (n : ℕ) (page : ReferencePage) (r : ℕ) : Type 0 where
  pub letters : (c : ℕ) → c < 40 → (page_in s n).letters r c ≡ letter_told page.letters r c
  pub true_letters : (c : ℕ) → c < 40 → 0 < (page_in s n).letters r c → (page_in s n).letters r c ≡ text_letter n page.version r c

-- page n in a store is as the reference has it, and each letter of it that is known is the one that was sent there
pub record PageShown (s : List ℕ) (ref : Reference) (n : ℕ) : Type 0 where
  pub shows : ShowsSame (page_in s n) (page_told (vec_items ref.pages) n)
  pub true_letters : (r c : ℕ) → r < 25 → c < 40 → 0 < (page_in s n).letters r c → (page_in s n).letters r c ≡ text_letter n (page_in s n).version r c

-- each slot that doesn't hold page n is as it was
pub record OthersSame (s s₁ : List ℕ) (n : ℕ) : Type 0 where
  pub long : length s ≡ length s₁
  pub slots : (i : ℕ) → i < slots s₁ → holds s₁ n i ≡ false → slot_bytes s i ≡ slot_bytes s₁ i

-- what an answer leaves of a store: the other pages' slots, or every byte
abbrev pub Kept : (s s₁ : List ℕ) → Done → ℕ → Type 0
Kept s s₁ Took n = OthersSame s s₁ n
Kept s s₁ Lost n = s ≡ s₁
Kept s s₁ Full n = s ≡ s₁
Kept s s₁ (Refused f) n = s ≡ s₁

-- t is a row with each letter as it was sent
pub record WholeRow (sent : Sent) (t : List ℕ) : Type 0 where
  pub long : length t ≡ 40
  pub letters : (c : ℕ) → c < 40 → slice_index t c ≡ text_letter sent.page sent.version sent.row c

-- page n stands whole in the store, in version v
pub record StandsWhole (s : List ℕ) (n v : ℕ) : Type 0 where
  pub formed : well_formed s ≡ true
  pub there : (page_in s n).there ≡ true
  pub version : (page_in s n).version ≡ v
  pub letters : (r : ℕ) → r < 25 → (c : ℕ) → c < 40 → (page_in s n).letters r c ≡ text_letter n v r c
