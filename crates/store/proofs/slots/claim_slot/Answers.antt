use Rattle.std.proofs.Common.{sym, ◌∙◌, arith}
use Rattle.store.proofs.Formed.{formed, no_other}
use Rattle.store.proofs.Writing.{begun_formed}
use Rattle.store.proofs.Listing.{same_begun}
use Rattle.store.proofs.Applying.{claimed_kept, claimed_anew, claimed_free}
use Rattle.store.proofs.slots.claim_slot.Goals as goal

pub returns-then-stale : goal.returns-then-stale
returns-then-stale g c =
    let w = c.in-Some.ensures in
    let b = c.begin.ensures in
    record {
      slot = claimed_anew _ _ _ _ _ c.requires.formed w (λ e. c.if-stale.true (c.version_in.ensures ∙ e)) b;
      formed = begun_formed _ _ _ _ _ c.requires.formed w.within c.begin.auto.store (no_other _ _ _ c.requires.formed w.within w.here) b;
      agrees = g.met.I.SlotIndex.kept _ _ _ (same_begun _ _ _ _ _ c.begin.auto.store w.here b) c.requires.agrees;
    }

pub returns-else-stale : goal.returns-else-stale
returns-else-stale g c = record { slot = claimed_kept _ _ _ _ c.requires.formed c.in-Some.ensures (sym c.version_in.ensures ∙ c.if-stale.false); formed = c.requires.formed; agrees = c.requires.agrees }

pub returns : goal.returns
returns g c =
    let absent = c.in_default.ensures in
    let free = c.in_ok-slot.ensures.slot in
    let b = c.begin-2.ensures in
    record {
      slot = claimed_free _ _ _ _ _ absent free b;
      formed = begun_formed _ _ _ _ _ c.requires.formed free.within c.begin-2.auto.store (λ j hj ne. absent j hj) b;
      agrees = c.note.ensures _ _ _ c.in_ok-slot.ensures.agrees (omega (arith, free.within, (formed c.args.store.now c.requires.formed).few)) free c.begin-2.auto.store b;
    }
