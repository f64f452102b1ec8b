-- What taking a line answers and leaves behind. Assumes nothing: these are definitions.
use Rattle.std.specs.Prelude.{◌≡◌, ℕ, ◌+◌, ◌-◌, ◌^◌, ◌<◌, min, Bool, true, false, cond, List, length, ◌==◌}
use Rattle.line.specs.Reading.{page_of, readable, fragment}
use Rattle.store.specs.Layout.{well_formed, FirstFault}
use Rattle.store.specs.Slots.{NoRoom, Applied}
use Rattle.receiver.specs.declared.entry.Done.{Done}
use Rattle.receiver.specs.declared.entry.Done.TheVariants.{Took, Lost, Full, Refused}
use Rattle.receiver.specs.declared.entry.Counts.{Counts}
use Rattle.receiver.specs.declared.refusal.Refusal.{Refusal}
use Rattle.receiver.specs.declared.refusal.Refusal.TheVariants.{Line, Store}

-- the number of a refusal
abbrev pub number : Refusal → ℕ
number Line = 1
number Store = 2

-- why lines that are for store s are turned away, by number: they don't have the length that they should, or the store isn't as it should be; 0 if they are not turned away
unfoldable pub turned_away : (whole : Bool) (s : List ℕ) → ℕ
turned_away whole s = cond whole (cond (well_formed s) 0 (number Store)) (number Line)

-- why a line is turned away: 1 if it isn't 46 bytes long, 2 if the store isn't as it should be, 0 if it is not turned away
abbrev pub refusal : (l s : List ℕ) → ℕ
refusal l s = turned_away (length l == 46) s

-- the number that an answer gives: that of a refusal, else 0
abbrev pub refusal_number : Done → ℕ
refusal_number Took = 0
refusal_number Lost = 0
refusal_number Full = 0
refusal_number (Refused f) = number f

-- the line was made out, and what it says applied to the store's pages
pub record TookLine (l s s₁ : List ℕ) : Type 0 where
  pub readable : readable l ≡ true
  pub applied : Applied (fragment l) s s₁

-- the line can't be made out, and nothing changed
pub record LostLine (l s s₁ : List ℕ) : Type 0 where
  pub unreadable : readable l ≡ false
  pub same : s₁ ≡ s

-- the line was made out, but there is no room for its page, and nothing changed
pub record FullLine (l s s₁ : List ℕ) : Type 0 where
  pub readable : readable l ≡ true
  pub no_room : NoRoom s (page_of l)
  pub same : s₁ ≡ s

-- the line was turned away, and nothing changed
pub record RefusedLine (l s s₁ : List ℕ) : Type 0 where
  pub refused : 0 < refusal l s
  pub same : s₁ ≡ s

-- what each answer says
abbrev pub Says : (l s : List ℕ) → Done → List ℕ → Type 0
Says l s Took s₁ = TookLine l s s₁
Says l s Lost s₁ = LostLine l s s₁
Says l s Full s₁ = FullLine l s s₁
Says l s (Refused f) s₁ = RefusedLine l s s₁

-- r is the answer to line l that comes to store s, which is then s₁
pub record Answers (l s : List ℕ) (r : Done) (s₁ : List ℕ) : Type 0 where
  pub number : refusal_number r ≡ refusal l s
  pub says : Says l s r s₁

-- p is the place of refusal f of lines of a length that are for store s: the length, or the first slot that isn't as it should be
pub record PlaceOf (f long : ℕ) (s : List ℕ) (p : ℕ) : Type 0 where
  pub refused : 0 < f
  pub line : f ≡ number Line → p ≡ long
  pub store : f ≡ number Store → FirstFault s p

-- p is the place of a refusal: the line's length, or the first slot that isn't as it should be
abbrev pub RefusedAt : (l s : List ℕ) (p : ℕ) → Type 0
RefusedAt l s p = PlaceOf (refusal l s) (length l) s p

-- a count stops at its largest
abbrev pub one_more : ℕ → ℕ
one_more n = min (n + 1) (2 ^ 64 - 1)

-- how an answer is counted; what is turned away counts nowhere
abbrev pub counted : Counts → Done → Counts
counted k Took = k
counted k Lost = record { lost = one_more k.lost; full = k.full }
counted k Full = record { lost = k.lost; full = one_more k.full }
counted k (Refused f) = k
