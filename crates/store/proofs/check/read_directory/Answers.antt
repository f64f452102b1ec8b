use Rattle.std.proofs.Common.{◌≡◌, ◌+◌, ◌*◌, ◌<◌, true, get_or, set, Some, sym, ap, ◌∙◌, subst, arith, length-set, rules}
use Rattle.store.specs.Layout.{slots, slot_fine, number_at}
use Rattle.store.specs.Directory.{ListsBelow}
use Rattle.store.proofs.Faults.{start_passed, reached, one_passed, fault_reached, all_passed, fine_length, slot_few, byte_there, mark_there}
use Rattle.store.proofs.Listing.{lists_free, lists_page}
use Rattle.store.proofs.check.read_directory.Goals as goal

pub loop-slot-init : goal.loop-slot-init
loop-slot-init c =
    let iterator = c.into_iter-slot-iterator.ensures.into_iter_gives in
    let chunks = ap (λ x. x.iter) iterator ∙ c.enumerate-slot-items.ensures.source in
    start_passed c.args.store.now _ _ _ (ap (λ x. x.rest.now) chunks ∙ c.chunks.ensures.rest) (ap (λ x. x.size) chunks ∙ c.chunks.ensures.size) (ap (λ x. x.count) iterator ∙ c.enumerate-slot-items.ensures.count)

pub returns-then-not-slot_fine : goal.returns-then-not-slot_fine
returns-then-not-slot_fine c =
    let w = c.loop-slot.invariant in
    let n = c.in-Some.ensures.steps in
    let r = reached c.args.store.now c.in-Some.bytes.now _ _ _ _ _ _ _ w n.0.1.0 n.0.1.1 n.0.1.2 n.1 n.2 in
    fault_reached c.args.store.now _ _ _ _ _ _ c.in-Some.slot _ w r n.1 (sym (c.if-not-slot_fine.ensures c.args.store.now r.is (subst (ListsBelow c.args.store.now c.loop-slot.entries) (sym n.1) w.lists)))

pub bounds-bytes-1 : goal.bounds-bytes-1
bounds-bytes-1 c =
    let w = c.loop-slot.invariant in
    let n = c.in-Some.ensures.steps in
    let r = reached c.args.store.now c.in-Some.bytes.now _ _ _ _ _ _ _ w n.0.1.0 n.0.1.1 n.0.1.2 n.1 n.2 in
    omega (arith, fine_length c.args.store.now c.in-Some.bytes.now c.in-Some.slot r.is (sym (c.if-not-slot_fine.ensures c.args.store.now r.is (subst (ListsBelow c.args.store.now c.loop-slot.entries) (sym n.1) w.lists))))

pub loop-slot-preserved-then-bytes-eq-TAKEN : goal.loop-slot-preserved-then-bytes-eq-TAKEN
loop-slot-preserved-then-bytes-eq-TAKEN c =
    let s = c.args.store.now in
    let i = c.in-Some.slot in
    let w = c.loop-slot.invariant in
    let n = c.in-Some.ensures.steps in
    let r = reached c.args.store.now c.in-Some.bytes.now _ _ _ _ _ _ _ w n.0.1.0 n.0.1.1 n.0.1.2 n.1 n.2 in
    let lists : ListsBelow s c.loop-slot.entries i = subst (ListsBelow s c.loop-slot.entries) (sym n.1) w.lists in
    let fine : slot_fine s i ≡ true = sym (c.if-not-slot_fine.ensures s r.is lists) in
    let small : number_at s i < 256 = omega (arith, c.type_inv.store (1003 * i + 1)) in
    let number : get_or c.in-Some.bytes.now 1 0 ≡ number_at s i = byte_there s c.in-Some.bytes.now i 1 r.is (omega arith) in
    let few = slot_few s i fine in
    let entry : c.ok.result ≡ Some i = search rules in
    let listed : ListsBelow s (set c.loop-slot.entries c.from.result c.ok.result) (i + 1) =
    rw (c.from.ensures, entry, number) (lists_page s c.loop-slot.entries i w.wide small (sym (mark_there s c.in-Some.bytes.now i r.is) ∙ c.if-bytes-eq-TAKEN.true) lists) in
    one_passed s _ _ _ _ _ _ _ _ i _ w r n.0.0 n.1 n.2 fine listed (length-set _ _ _ ∙ w.wide)

pub loop-slot-preserved : goal.loop-slot-preserved
loop-slot-preserved c =
    let s = c.args.store.now in
    let i = c.in-Some.slot in
    let w = c.loop-slot.invariant in
    let n = c.in-Some.ensures.steps in
    let r = reached c.args.store.now c.in-Some.bytes.now _ _ _ _ _ _ _ w n.0.1.0 n.0.1.1 n.0.1.2 n.1 n.2 in
    let lists : ListsBelow s c.loop-slot.entries i = subst (ListsBelow s c.loop-slot.entries) (sym n.1) w.lists in
    let fine : slot_fine s i ≡ true = sym (c.if-not-slot_fine.ensures s r.is lists) in
    one_passed s _ _ _ _ _ _ _ _ i _ w r n.0.0 n.1 n.2 fine (lists_free s c.loop-slot.entries i (λ on. c.if-bytes-eq-TAKEN.false (mark_there s c.in-Some.bytes.now i r.is ∙ on)) lists) w.wide

pub returns : goal.returns
returns c =
    let e = all_passed c.args.store.now _ _ _ _ c.loop-slot.invariant c.in-None.ensures.steps.0.1.0 in
    (e.0, record { pages = subst (λ t. ListsBelow c.args.store.now t (slots c.args.store.now)) (sym c.new.ensures.slots) e.1; taken = λ k h. absurd (omega (arith, c.new.ensures.taken)) })
