-- What the trials count. Assumes nothing: these are definitions.
use Rattle.std.specs.Prelude.{ℕ, ◌+◌, ◌-◌, ◌^◌, min, Bool, true, false, List, [], ◌∷◌, ◌++◌, codes}
use Rattle.std.specs.Fmt.{decimal}
use Rattle.trials.specs.declared.tally.Tally.{Tally}
use Rattle.receiver.specs.declared.entry.Done.{Done}
use Rattle.receiver.specs.declared.entry.Done.TheVariants.{Took, Lost, Full, Refused}

-- no counts yet
abbrev pub nothing : Tally
nothing = record { taken = 0; lost = 0; full = 0; refused = 0; letters = 0; recovered = 0; without_room = 0 }

-- a count with so many more; it stops at its largest
abbrev pub more : (count by : ℕ) → ℕ
more count by = min (count + by) (2 ^ 64 - 1)

-- one more line that was turned away
abbrev pub with_refused : Tally → Tally
with_refused t = record t { refused = more t.refused 1 }

-- one more line with an answer
abbrev pub with_answer : Tally → Done → Tally
with_answer t Took = record t { taken = more t.taken 1 }
with_answer t Lost = record t { lost = more t.lost 1 }
with_answer t Full = record t { full = more t.full 1 }
with_answer t (Refused f) = with_refused t

-- one more row of forty letters that was compared
abbrev pub with_row : Tally → Tally
with_row t = record t { letters = more t.letters 40 }

-- one more page that was sent whole, and stands whole or not
abbrev pub with_recovery : Tally → Bool → Tally
with_recovery t true = record t { recovered = more t.recovered 1 }
with_recovery t false = record t { without_room = more t.without_room 1 }

-- the counts as they are printed, in three lines: of lines by their answers, of letters, and of pages
abbrev pub lines_text : Tally → List ℕ
lines_text t =
    codes "lines: "
    ++ (decimal t.taken ++ (codes " taken, " ++ (decimal t.lost ++ (codes " lost, " ++ (decimal t.full ++ (codes " without room, " ++ (decimal t.refused ++ (codes " refused" ++ 10 ∷ []))))))))

abbrev pub letters_text : Tally → List ℕ
letters_text t = codes "letters compared: " ++ (decimal t.letters ++ 10 ∷ [])

abbrev pub pages_text : Tally → List ℕ
pages_text t = codes "pages sent whole: " ++ (decimal t.recovered ++ (codes " recovered, " ++ (decimal t.without_room ++ codes " without room")))

abbrev pub tally_text : Tally → List ℕ
tally_text t = lines_text t ++ (letters_text t ++ pages_text t)
