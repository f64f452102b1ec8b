use Rattle.std.proofs.Common.{◌≡◌, ◌≤◌, ℕ, true, sym, arith, rules}
use Rattle.std.proofs.lemmas.Bool.{and_left}
use Rattle.store.specs.Layout.{well_formed, FirstFault}
use Rattle.store.specs.Directory.{Lists}
use Rattle.store.proofs.Faults.{faulty}
use Rattle.store.proofs.HandedBack.{not_there_wide, found_in}
use Rattle.store.proofs.rows.slot_of.Goals as goal

pub returns-in_err-page : goal.returns-in_err-page
returns-in_err-page c =
    let wide : 256 ≤ c.args.page = search rules in
    rw c.from_residual.ensures (not_there_wide c.args.store.now c.args.page (λ k. omega (arith, c.type_inv.store k)) wide)

pub returns-in_err-directory : goal.returns-in_err-directory
returns-in_err-directory c =
    let fault : (i : ℕ) × FirstFault c.args.store.now i = search rules in
    rw c.from_residual-in_err-directory.ensures (and_left _ _ (faulty c.args.store.now fault.0 fault.1))

pub returns : goal.returns
returns c =
    let w : (well_formed c.args.store.now ≡ true) × Lists c.args.store.now c.in_ok-directory.directory = search rules in
    let same : c.in_ok-page.page ≡ c.args.page = search rules in
    rw (sym same) (found_in c.args.store.now c.in_ok-page.page c.find.result w.0 c.find.ensures)
