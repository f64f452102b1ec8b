use lib.Utf8.{encode}
use Rattle.std.proofs.Common.{string_bytes, refl}
use Rattle.send_pages.proofs.Turns.{text_of_none, text_of_turn}
use Rattle.send_pages.proofs.sending.Sending.write_turn.Goals as goal

pub returns-in_ok-push : goal.returns-in_ok-push
unfolding encode
returns-in_ok-push c =
    let s = c.args.self.now in
    record {
      written = text_of_turn s.pages.now s.schedule c.in-Some.line
          (string_bytes s.lines) _ _
          c.in-Some.ensures.bytes c.in_ok-write_hex.ensures.written c.in_ok-push.ensures.bytes;
      moved = c.next_line.ensures.moved;
      same = refl;
    }

pub returns-in_default : goal.returns-in_default
returns-in_default c =
    let s = c.args.self.now in
    record {
      written = text_of_none s.pages.now s.schedule (string_bytes s.lines) c.in_default.ensures.bytes;
      moved = c.next_line.ensures.moved;
      same = refl;
    }
