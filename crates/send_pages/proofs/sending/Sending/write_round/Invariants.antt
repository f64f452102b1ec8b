use Rattle.send_pages.proofs.Turns.{Gone}
use Rattle.std.proofs.Common.{◌≡◌, ◌*◌, length, string_bytes}
use Rattle.send_pages.proofs.sending.Sending.write_round.Given as goal

abbrev pub invariant-loop-row : goal.invariant-loop-row
invariant-loop-row l =
    Gone l.initial.self.pages.now l.initial.self.schedule (string_bytes l.initial.self.lines) (l._row * length l.initial.self.pages.now) l.self.schedule (string_bytes l.self.lines)
    × (l.self.pages.now ≡ l.initial.self.pages.now)
