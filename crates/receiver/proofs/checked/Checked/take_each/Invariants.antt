use Rattle.std.proofs.Common.{◌≡◌, ◌*◌, ◌≤◌, length, drop}
use Rattle.std.specs.Slice.Iter.{chunks_exact_rest, chunks_exact_size}
use Rattle.receiver.specs.Entry.{Answers}
use Rattle.receiver.specs.Batch.{TakenFirst}
use Rattle.receiver.proofs.checked.Checked.take_each.Given as goal

-- the lines before this one were taken; of a single line, before it the store is as it was, and behind it the answer is its own
abbrev pub invariant-loop-line : goal.invariant-loop-line
invariant-loop-line l = record {
  taken : TakenFirst l.lines l.initial.self.store.now l.initial.counts l.self.store.now l.total (length l.yielded);
  within : 46 * length l.yielded ≤ length l.lines;
  size : chunks_exact_size l.line-iterator ≡ 46;
  rest : chunks_exact_rest l.line-iterator ≡ drop (46 * length l.yielded) l.lines;
  named : l.self.store.ghost_name ≡ l.initial.self.store.ghost_name;
  first : length l.yielded ≡ 0 → l.self.store.now ≡ l.initial.self.store.now;
  single : length l.lines ≡ 46 → length l.yielded ≡ 1 → Answers l.lines l.initial.self.store.now l.done l.self.store.now;
}
