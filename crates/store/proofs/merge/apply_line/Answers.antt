use Rattle.std.proofs.Common.{ℕ, get_or, rules, ◌<◌, ap, ◌∙◌, subst, arith}
use Rattle.line.proofs.Readability.{readable_parts}
use Rattle.line.specs.Reading.{fragment}
use Rattle.store.specs.Layout.{slots}
use Rattle.store.specs.Slots.{Applied}
use Rattle.store.specs.Writes.{row_start, Merged}
use Rattle.store.proofs.Formed.{formed}
use Rattle.store.proofs.Applying.{applied, same_merged}
use Rattle.store.proofs.merge.apply_line.Goals as goal

pub row_start-start-requires : goal.row_start-start-requires
row_start-start-requires g c = record { slot = omega (arith, c.in_ok-slot.ensures.slot.within, (formed c.args.store.now c.requires.formed).few); row = omega arith }

pub put_line-requires : goal.put_line-requires
put_line-requires g c =
    let w = c.in_ok-slot.ensures.slot.within in
    let l = readable_parts c.args.line.now c.requires.header.readable in
    record { row = omega (arith, w, l.row, c.requires.header.row, c.claim_slot.auto.store, c.row_start-start.ensures, c.from.ensures); line = l.long }

pub returns : goal.returns
returns g c =
    let l = c.args.line.now in
    let s = c.claim_slot.new.store in
    let t = c.put_line.new.self.store.now in
    let w = c.in_ok-slot.ensures in
    let bytes : (k : ℕ) → get_or l k 0 < 256 = λ k. omega (arith, c.type_inv.line k) in
    let within : c.in_ok-slot.slot < slots s = omega (arith, w.slot.within, c.claim_slot.auto.store) in
    let merged : Merged s l t (row_start c.in_ok-slot.slot c.args.header.row) 40 =
    subst (λ p. Merged s l t p 40) (c.row_start-start.ensures ∙ ap (row_start c.in_ok-slot.slot) c.from.ensures) c.put_line.ensures.after in
    let applied : Applied (fragment l) c.args.store.now t = applied c.args.store.now s t l c.in_ok-slot.slot c.args.header c.requires.header bytes w.formed c.claim_slot.auto.store c.put_line.ensures.long w.slot merged in
    let agrees : g.I.SlotIndex.agrees t c.claim_slot.new.index = g.met.I.SlotIndex.kept _ _ _ (same_merged s t l c.in_ok-slot.slot c.args.header c.requires.header bytes within c.put_line.ensures.long merged) w.agrees in
    record { applied = search rules; agrees = search rules }
