use Rattle.std.proofs.Common.{◌≡◌, ◌&&◌, false, Some, MatchOption, subst, rules}
use Rattle.store.specs.Layout.{well_formed, page_in}
use Rattle.store.specs.Slots.{VersionOf}
use Rattle.trials.proofs.Comparing.{page_shown, none_shown}
use Rattle.trials.proofs.shown.shows_page.Goals as goal

pub returns-then-eq : goal.returns-then-eq
returns-then-eq c = λ e ok.
    let s = c.args.store.now in
    let o = c.version-stands.result in
    let version = subst (λ n. MatchOption o ((well_formed s && (page_in s n).there) ≡ false) (λ v. VersionOf s n v)) c.from.ensures c.version-stands.ensures in
    let stands : o ≡ Some c.in-Some.page.now.version = search rules in
    page_shown s c.args.reference.now c.args.number c.in-Some.page.now o ok c.in-Some.ensures version stands (c.shows_rows.ensures e)

pub returns-then-is_none : goal.returns-then-is_none
returns-then-is_none c = λ e ok.
    let s = c.args.store.now in
    let gone : (well_formed s && (page_in s c.args.number).there) ≡ false = search rules in
    none_shown s c.args.reference.now c.args.number ok c.in-None.ensures gone
