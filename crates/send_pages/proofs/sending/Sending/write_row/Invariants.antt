use Rattle.send_pages.proofs.Turns.{Gone}
use Rattle.std.proofs.Common.{◌≡◌, string_bytes}
use Rattle.send_pages.proofs.sending.Sending.write_row.Given as goal

abbrev pub invariant-loop-page : goal.invariant-loop-page
invariant-loop-page l =
    Gone l.initial.self.pages.now l.initial.self.schedule (string_bytes l.initial.self.lines) l._page l.self.schedule (string_bytes l.self.lines)
    × (l.self.pages.now ≡ l.initial.self.pages.now)
