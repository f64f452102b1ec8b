-- The line of a turn. Assumes nothing.
use Rattle.std.proofs.Common.{◌≡◌, ℕ, ◌<◌, Some, None, sym, ◌∙◌, subst, ⊎_elim, arith}
use Rattle.std.proofs.lemmas.Bool.{cases_eq}
use Rattle.sender.specs.Schedule.{in_range, turn, line_of}
use Rattle.sender.specs.declared.turns.Schedule.{Schedule}
use Rattle.sender.specs.declared.turns.Turn.{Turn}
use Rattle.sender.proofs.Rounds.{in_range_lt, no_turn, some_turn}

-- a turn is of a page and a row that there are
pub record TurnWithin (pages : ℕ) (s : Schedule) (t : Turn) : Type 0 where
  pub page : t.page < pages
  pub row : t.row < 25
  pub is : turn pages s ≡ Some (line_of t.page t.row)

pub turn_within : (pages : ℕ) (s : Schedule) (t : Turn) → Some t ≡ turn pages s → TurnWithin pages s t
turn_within pages s t e =
    ⊎_elim (λ none. let x : Some t ≡ None = e ∙ no_turn pages s none in absurd (let z : ◌≡◌ {A = ℕ} 0 1 = cc in omega arith))
    (λ ne. let u = line_of (in_range pages s.page) (in_range 25 s.row) in
    let x : Some t ≡ Some u = e ∙ some_turn pages s ne in
    let same : t ≡ u = cc in
    record {
      page = subst (λ (k : Turn). k.page < pages) (sym same) (in_range_lt pages s.page (omega arith));
      row = subst (λ (k : Turn). k.row < 25) (sym same) (in_range_lt 25 s.row (omega arith));
      is = sym e;
    })
    (cases_eq pages 0)

pub no_pages : (pages : ℕ) (s : Schedule) → None ≡ turn pages s → pages ≡ 0
no_pages pages s e =
    ⊎_elim (λ z. z) (λ ne. let x : None ≡ Some (line_of (in_range pages s.page) (in_range 25 s.row)) = e ∙ some_turn pages s ne in absurd (let z : ◌≡◌ {A = ℕ} 0 1 = cc in omega arith)) (cases_eq pages 0)
