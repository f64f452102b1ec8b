use Rattle.std.proofs.Common.{◌+◌, arith}
use Rattle.store.proofs.Chunks.{chunk_merged}
use Rattle.store.proofs.merge.RowLetters.put.Goals as goal

pub returns-clause-after : goal.returns-clause-after
returns-clause-after g c =
    chunk_merged g.row.N c.args.self.now.store.now c.args.line.now (c.args.self.now.start + c.args.column) (6 + c.args.column) c.requires.row c.requires.line _ _ _ (omega arith) (omega arith) c.merged.ensures
