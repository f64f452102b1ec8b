use Rattle.std.proofs.Common.{◌≡◌, length, Some, rules, arith}
use Rattle.store.proofs.Listing.{noted}
use Rattle.store.proofs.directory.DirectorySlotIndex.note.Goals as goal

pub returns : goal.returns
returns c = λ s t version agreed few free long b.
    let wide : length c.args.self.now.entries ≡ 256 = search rules in
    let entry : c.ok.result ≡ Some c.args.slot = search rules in
    let at = c.from.ensures in
    rw at (noted s t c.args.self.now c.args.page c.args.slot version c.ok.result wide (omega arith) entry agreed free long b)
