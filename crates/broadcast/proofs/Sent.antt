-- The line of a turn's page and row is a line of the text. Assumes nothing.
use Rattle.std.proofs.Common.{◌≡◌, ℕ, zero, suc, ◌<◌, List, [], ◌∷◌, length, get_or, refl, ap, ◌∙◌, arith}
use Rattle.std.proofs.lemmas.List.{get_or_default}
use Rattle.line.specs.Line.{encode_line}
use Rattle.line.specs.declared.Line.{Line}
use Rattle.receiver.specs.Broadcast.{Among, here, there}
use Rattle.sender.specs.declared.turns.Schedule.{Schedule}
use Rattle.sender.specs.declared.turns.Turn.{Turn}
use Rattle.page_text.specs.Lines.{LineOf}
use Rattle.page_text.specs.declared.Page.{Page}
use Rattle.broadcast.specs.Sending.{Sends}
use Rattle.broadcast.proofs.Turns.{TurnWithin}

item_among : {A : Type 0} (xs : List A) (k : ℕ) (d : A) → k < length xs → Among (get_or xs k d) xs
item_among [] k d h = absurd (omega arith)
item_among (x ∷ xs) zero d h = here xs
item_among (x ∷ xs) (suc k) d h = there x xs (item_among xs k d (omega arith))

pub sends : (ps : List Page) (s : Schedule) (t : Turn) (d : Page) (m : Line) (bytes : List ℕ) → TurnWithin (length ps) s t → LineOf (get_or ps t.page d) t.row m → bytes ≡ encode_line m → Sends ps s bytes
sends ps s t d m bytes w line e =
    let p = get_or ps t.page d in
    record {
      place = t.page;
      row = t.row;
      turn = w.is;
      within = w.page;
      low = w.row;
      page = p;
      at = get_or_default ps t.page p d w.page;
      encoded = e ∙ ap encode_line line.line;
      line = record { page = p; among = item_among ps t.page d w.page; row = t.row; within = w.row; line = refl };
    }
