-- What the reference says is to be answered for a line. Assumes nothing: these are definitions.
use Rattle.std.specs.Prelude.{◌≡◌, ℕ, ◌<◌, ◌≤◌, Bool, true, false, ◌⊎◌}
use Rattle.receiver.specs.declared.entry.Done.{Done}
use Rattle.receiver.specs.declared.entry.Done.TheVariants.{Took, Lost, Full, Refused}
use Rattle.trials.specs.Counts.{more}

-- the answer that is due for a line in which so much was turned, where its page is there or not, and so many of the slots are taken; a line that is sent is never turned away
abbrev pub Due : Done → (two : Type 0) (there : Bool) (count slots : ℕ) → Type 0
Due Lost two there count slots = two
Due Full two there count slots = (two → ⊥) × (there ≡ false) × (slots ≤ count)
Due Took two there count slots = (two → ⊥) × ((there ≡ true) ⊎ (count < slots))
Due (Refused f) two there count slots = ⊥

-- how many lines were lost, and for how many there was no room, after an answer
abbrev pub lost_after : ℕ → Done → ℕ
lost_after n Lost = more n 1
lost_after n Full = n
lost_after n Took = n
lost_after n (Refused f) = n

abbrev pub full_after : ℕ → Done → ℕ
full_after n Lost = n
full_after n Full = more n 1
full_after n Took = n
full_after n (Refused f) = n
