-- When what was received is as the reference was told. Assumes nothing: these are definitions.
use Rattle.std.specs.Prelude.{◌≡◌, ℕ, count_by, is_some, vec_items}
use Rattle.receiver.specs.declared.entry.Done.{Done}
use Rattle.trials.specs.Answers.{Due}
use Rattle.trials.specs.Told.{told}
use Rattle.trials.specs.Same.{Same, TrueLetters, Kept}
use Rattle.trials.specs.declared.trial.Receiving.{Receiving}

-- every page and both counts are the reference's, and no letter is false
pub record AsTold (now : Receiving) : Type 0 where
  pub pages : Same (vec_items now.store) now.reference
  pub letters : TrueLetters (vec_items now.store)
  pub counts : now.counts ≡ now.reference.counts

-- a line for page n left what its answer leaves, by the answer that was due
abbrev pub Keeps : (before after : Receiving) (two : Type 0) → ℕ → Type 0
Keeps before after two n =
    let pages = vec_items before.reference.pages in
    (a : Done) × Due a two (is_some (told pages n)) (count_by is_some pages) before.reference.slots × Kept (vec_items before.store) (vec_items after.store) a n
