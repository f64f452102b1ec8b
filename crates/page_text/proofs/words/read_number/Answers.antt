use Rattle.std.proofs.Common.{◌≡◌, ◌∙◌, ap, take, drop, Some, sym, arith}
use Rattle.std.specs.Char.{is_ascii_digit}
use Rattle.std.specs.List.{prefix_len}
use Rattle.std.specs.Str.{IsValidUpTo, valid_up_to}
use Rattle.page_text.proofs.LineWords.{number_over, number_read, number_unparsed, front_utf8, utf8_is_text, text_is}
use Rattle.page_text.proofs.words.read_number.Goals as goal

pub returns-in_err-ok : goal.returns-in_err-ok
returns-in_err-ok c =
    let bs = c.args.bytes.now in
    let ds = c.split_at.result.0.now in
    let front : ds ≡ take (prefix_len is_ascii_digit bs) bs = c.split_at.ensures.front ∙ ap (λ n. take n bs) c.digit_count.ensures.value in
    absurd (utf8_is_text (λ e. IsValidUpTo ds (valid_up_to e)) ds c.from_utf8.result c.from_utf8.ensures.cases (front_utf8 c.args.places c.args.greatest bs ds front) c.in_err-ok.ensures.value)

pub returns-in_err-value : goal.returns-in_err-value
returns-in_err-value c =
    let bs = c.args.bytes.now in
    let ds = c.split_at.result.0.now in
    let front : ds ≡ take (prefix_len is_ascii_digit bs) bs = c.split_at.ensures.front ∙ ap (λ n. take n bs) c.digit_count.ensures.value in
    let text = text_is (λ e. IsValidUpTo ds (valid_up_to e)) ds c.from_utf8.result c.from_utf8.ensures.cases c.in_ok-ok.field-0 c.in_ok-ok.ensures.value in
    rw c.from_residual-in_err-value.ensures (number_unparsed c.args.places c.args.greatest bs ds front c.parse.result _ text c.parse.ensures.value.0 c.in_err-value.ensures.value (omega (arith, c.ranges.greatest.fits)))

pub returns-then-value-greatest : goal.returns-then-value-greatest
returns-then-value-greatest c =
    let bs = c.args.bytes.now in
    let ds = c.split_at.result.0.now in
    let front : ds ≡ take (prefix_len is_ascii_digit bs) bs = c.split_at.ensures.front ∙ ap (λ n. take n bs) c.digit_count.ensures.value in
    let text = text_is (λ e. IsValidUpTo ds (valid_up_to e)) ds c.from_utf8.result c.from_utf8.ensures.cases c.in_ok-ok.field-0 c.in_ok-ok.ensures.value in
    number_over c.args.places c.args.greatest bs ds front c.parse.result _ text c.parse.ensures.value.0 c.in_ok-value.value c.in_ok-value.ensures.value (omega arith)

pub returns : goal.returns
returns c =
    let bs = c.args.bytes.now in
    let ds = c.split_at.result.0.now in
    let front : ds ≡ take (prefix_len is_ascii_digit bs) bs = c.split_at.ensures.front ∙ ap (λ n. take n bs) c.digit_count.ensures.value in
    let text = text_is (λ e. IsValidUpTo ds (valid_up_to e)) ds c.from_utf8.result c.from_utf8.ensures.cases c.in_ok-ok.field-0 c.in_ok-ok.ensures.value in
    number_read c.args.places c.args.greatest bs ds front c.parse.result _ text c.parse.ensures.value.0 c.in_ok-value.value c.in_ok-value.ensures.value (omega (arith, c.split_at.ensures.front_len)) (omega arith)
    ∙ ap (λ rest. Some (c.in_ok-value.value, rest)) (ap (λ n. drop n bs) (sym c.digit_count.ensures.value) ∙ sym c.split_at.ensures.back)
