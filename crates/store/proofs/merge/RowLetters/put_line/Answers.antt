use Rattle.std.proofs.Common.{◌+◌, refl, ap, ◌∙◌, subst, arith}
use Rattle.store.specs.Writes.{MergedFrom}
use Rattle.store.proofs.Chunks.{chunk_more}
use Rattle.store.proofs.merge.RowLetters.put_line.Goals as goal

pub returns : goal.returns
returns c =
    let a = c.put.ensures in
    let b = c.put-2.ensures in
    let d = c.put-3.ensures in
    let all = chunk_more _ _ _ _ c.args.self.now.start 6 _ 38 32 8 (ap (λ x. x + 32) (b.start ∙ a.start)) refl
    (chunk_more _ _ _ _ c.args.self.now.start 6 _ 22 16 16 (ap (λ x. x + 16) a.start) refl (subst (λ x. MergedFrom c.args.self.now.store.now c.args.line.now c.put.new.self.store.now x 6 16) (omega arith) a.after) b.after) d.after in
    record {
      after = all;
      long = d.long ∙ b.long ∙ a.long;
      named = d.named ∙ b.named ∙ a.named;
    }
