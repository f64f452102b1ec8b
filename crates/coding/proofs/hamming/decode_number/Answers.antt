-- The table's entry is the byte's number, and so it corrects and detects.
use Rattle.std.proofs.Common.{◌≡◌, ℕ, ◌<◌, get_or, sym, refl, ap, ◌∙◌, subst, rules}
use lib.Count.{ones_in}
use Rattle.coding.specs.Hamming.{distance, code_words, nearest, decode_number}
use Rattle.coding.proofs.Numbers.{IsRead, table, table_at, number_read, read_corrects, read_detects}
use Rattle.coding.proofs.hamming.decode_number.Goals as goal

pub returns : goal.returns
unfolding table distance ones_in code_words nearest decode_number
returns c =
    let b = c.args.byte in
    let h : b < 256 = search rules in
    let k : ℕ = c.from.result in
    let at : k ≡ b = c.from.ensures in
    let e : get_or table k 0 ≡ decode_number b = ap (λ i. get_or table i 0) at ∙ table_at b h in
    let read : IsRead b c.then_some.result = subst (IsRead b) (sym c.then_some.ensures) (number_read b _ _ refl e) in
    record { value = read; corrects = read_corrects b _ h read; detects = read_detects b _ h read }
