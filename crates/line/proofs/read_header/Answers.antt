-- Where a byte is no number or there is no such row, the line can't be made out; the laws hold of any bytes.
use Rattle.std.proofs.Common.{◌≡◌, ℕ, ◌<◌, false, List, Option, None, MatchOption, sym, subst, arith}
use Rattle.line.specs.Reading.{number_of, pair_of, readable, HeaderOf}
use Rattle.line.specs.declared.Header.{Header}
use Rattle.line.proofs.Encoding.{six}
use Rattle.line.proofs.Readability.{readable_from, unreadable, unreadable_pair}
use Rattle.line.proofs.Copies.{reads_part, reads_brought}
use Rattle.line.proofs.read_header.Goals as goal

none : (l : List ℕ) (r : Option Header) → r ≡ None → readable l ≡ false → MatchOption r (readable l ≡ false) (HeaderOf l)
none l r e lost = subst (λ x. MatchOption x (readable l ≡ false) (HeaderOf l)) (sym e) lost

pub returns-then-bytes-ne-LENGTH-clause-header : goal.returns-then-bytes-ne-LENGTH-clause-header
returns-then-bytes-ne-LENGTH-clause-header c = unreadable c.args.bytes.now (λ w. c.if-bytes-ne-LENGTH.true w.long)

pub returns-in_err-page : goal.returns-in_err-page
unfolding number_of
returns-in_err-page c =
    let l = c.args.bytes.now in
    record { header = none l _ c.from_residual.ensures (unreadable_pair l 0 (omega arith) c.in_err-page.ensures); part = λ m copy. reads_part m l copy; brought = reads_brought l }

pub returns-in_err-version : goal.returns-in_err-version
unfolding number_of
returns-in_err-version c =
    let l = c.args.bytes.now in
    record { header = none l _ c.from_residual-in_err-version.ensures (unreadable_pair l 1 (omega arith) c.in_err-version.ensures); part = λ m copy. reads_part m l copy; brought = reads_brought l }

pub returns-in_err-row : goal.returns-in_err-row
unfolding number_of
returns-in_err-row c =
    let l = c.args.bytes.now in
    record { header = none l _ c.from_residual-in_err-row.ensures (unreadable_pair l 2 (omega arith) c.in_err-row.ensures); part = λ m copy. reads_part m l copy; brought = reads_brought l }

pub returns-then-from-ge-ROWS : goal.returns-then-from-ge-ROWS
unfolding number_of pair_of
returns-then-from-ge-ROWS c =
    let l = c.args.bytes.now in
    let row = c.in_ok-row.ensures in
    record { header = unreadable l (λ w. omega (arith, w.row, row)); part = λ m copy. reads_part m l copy; brought = reads_brought l }

pub returns : goal.returns
unfolding number_of pair_of
returns c =
    let l = c.args.bytes.now in
    let page = c.in_ok-page.ensures in
    let version = c.in_ok-version.ensures in
    let row = c.in_ok-row.ensures in
    let numbers : (k : ℕ) → k < 6 → number_of l k < 16 = six (λ k. number_of l k < 16) page.0 page.1 version.0 version.1 row.0 row.1 in
    record {
      header = record {
        readable = readable_from l (record { long = c.if-bytes-ne-LENGTH.false; numbers = numbers; row = omega (arith, row) });
        page = page.2;
        version = version.2;
        row = row.2;
      };
      part = λ m copy. reads_part m l copy;
      brought = reads_brought l;
    }
