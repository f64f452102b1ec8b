-- What becomes of a line of the input. Assumes nothing: these are definitions.
use Rattle.std.specs.Prelude.{◌≡◌, ℕ, List, [], ◌∷◌, Some, None, Option, Ok, Err, Result}
use Rattle.receiver.specs.declared.entry.Done.{Done}
use Rattle.receiver.specs.declared.entry.Done.TheVariants.{Took, Lost, Full, Refused}
use Rattle.receiver.specs.declared.entry.Counts.{Counts}
use Rattle.receiver.specs.Entry.{Answers, RefusedAt, counted}
use Rattle.receiver.specs.Promises.{Continues}
use Rattle.receive_pages.specs.declared.refusal.Reason.TheVariants.{Receiver, Text}
use Rattle.receive_pages.specs.declared.refusal.Refusal.{Refusal}
use Rattle.receive_pages.specs.declared.intake.TakeError.{TakeError}
use Rattle.receive_pages.specs.declared.intake.TakeError.TheVariants.{TurnedAway, Memory}

-- what is said of a line: nothing, or why it is turned away
abbrev pub said : Result Unit Refusal → Option Refusal
said (Ok u) = None
said (Err refusal) = Some refusal

-- what a result says of a line, by what is said of it; and what holds where there is no memory
abbrev pub Says : Result Unit TakeError → (Option Refusal → Type 0) → Type 0 → Type 0
Says (Ok u) Said none = Said None
Says (Err (TurnedAway refusal)) Said none = Said (Some refusal)
Says (Err (Memory e)) Said none = none

-- why the line with number n isn't read, by the bytes that it spells: it spells none, or there is no memory
abbrev pub Unread : (n : ℕ) → Option (List ℕ) → TakeError → Type 0
Unread n spelt (TurnedAway refusal) = (spelt ≡ None) × (refusal ≡ record { reason = Text; place = n })
Unread n spelt (Memory e) = Unit {0}

-- a refusal is said with its number and its place; of any other answer nothing is said
abbrev pub Tells : (l s : List ℕ) → Done → Option Refusal → Type 0
Tells l s Took said = said ≡ None
Tells l s Lost said = said ≡ None
Tells l s Full said = said ≡ None
Tells l s (Refused f) said = (p : ℕ) × (said ≡ Some (record { reason = Receiver f; place = p })) × RefusedAt l s p

-- the bytes of a line were received, and counted
pub record Received (l s : List ℕ) (k : Counts) (said : Option Refusal) (s₁ : List ℕ) (k₁ : Counts) : Type 0 where
  pub done : Done
  pub answers : Answers l s done s₁
  pub continues : Continues l s done s₁
  pub count : k₁ ≡ counted k done
  pub tells : Tells l s done said

-- nothing was taken, and this is said
pub record Untaken (sentence : Option Refusal) (s : List ℕ) (k : Counts) (said : Option Refusal) (s₁ : List ℕ) (k₁ : Counts) : Type 0 where
  pub same : s₁ ≡ s
  pub count : k₁ ≡ k
  pub tells : said ≡ sentence

-- what becomes of the line with number n, by the bytes that it spells: no bytes in hex are refused, a line of no byte is passed over, and any other is received
abbrev pub Taken : (n : ℕ) (spelt : Option (List ℕ)) (s : List ℕ) (k : Counts) (said : Option Refusal) (s₁ : List ℕ) (k₁ : Counts) → Type 0
Taken n None s k said s₁ k₁ = Untaken (Some (record { reason = Text; place = n })) s k said s₁ k₁
Taken n (Some []) s k said s₁ k₁ = Untaken None s k said s₁ k₁
Taken n (Some (b ∷ bs)) s k said s₁ k₁ = Received (b ∷ bs) s k said s₁ k₁
