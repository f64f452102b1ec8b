use Rattle.std.proofs.Common.{◌<◌, get_or, is_some, None, sym, ap, ◌∙◌, ⊎_elim, arith, rules}
use Rattle.store.proofs.Faults.{slot_past, slot_cut, bytes_length, bytes_tests}
use Rattle.store.proofs.check.slot_fine.Goals as goal

pub returns-then-slot-ge-MOST_SLOTS : goal.returns-then-slot-ge-MOST_SLOTS
returns-then-slot-ge-MOST_SLOTS c = λ s is lists.
    let i = c.args.slot in
    sym (⊎_elim (slot_past s i) (λ h. slot_cut s i (omega (arith, h.1, bytes_length s c.args.bytes.now i is))) c.then-slot-ge-MOST_SLOTS.either)

pub returns : goal.returns
returns c = λ s is lists.
    let small : get_or c.args.bytes.now 1 0 < 256 = search rules in
    bytes_tests s c.args.bytes.now c.args.entries.now c.args.slot _ _ c.if-slot-ge-MOST_SLOTS.false c.if-bytes-lt-SLOT_SIZE.false is lists small c.letters_fine-lettered.ensures
    (c.is_some.ensures ∙ ap (λ n. is_some (get_or c.args.entries.now n None)) c.from.ensures)
