use Rattle.std.proofs.Common.{◌≡◌, ◌+◌, ◌≤◌, [], ◌∷◌, ◌++◌, length, get_or, take, string_bytes, string_len, string_capacity, sym, refl, ap, ◌∙◌, append-nil, arith}
use lib.Utf8.{encode}
use Rattle.std.proofs.lemmas.List.{take_all}
use Rattle.std.proofs.lemmas.Result.{err_from_is_err_and}
use Rattle.std.proofs.lemmas.Str.{encode_ascii}
use Rattle.text.specs.Hex.{blank, hex_text, hex_byte}
use Rattle.text.proofs.HexRoundTrip.{written_is_read}
use Rattle.text.proofs.HexWriting.{gap, no_gap, one_gap, text_more}
use Rattle.text.proofs.hex.write_hex.Goals as goal
use Rattle.text.proofs.hex.write_hex.Goals.{then-i-gt0, else-i-gt0, Joined-i-gt0}

-- a blank is one byte of text
blank_text : encode blank ≡ blank ∷ []
blank_text = encode_ascii blank (omega arith)

-- a blank stands between two bytes, and only there
record Spaced (c : Joined-i-gt0) : Type 0 where
  bytes : string_bytes c.if-i-gt0.out ≡ string_bytes c.loop-i.out ++ gap c.loop-i.i
  len : string_len c.if-i-gt0.out ≤ string_len c.loop-i.out + 1
  capacity : string_capacity c.loop-i.out ≤ string_capacity c.if-i-gt0.out

spaced : (c : Joined-i-gt0) → Spaced c
spaced c =
    elim c.if-i-gt0.branch [
      | then-i-gt0 w ↦ record {
        bytes = ap string_bytes w.out-is ∙ w.push.ensures.bytes ∙ ap (λ t. string_bytes c.loop-i.out ++ t) (blank_text ∙ sym (one_gap _ w.if-i-gt0.true));
        len = omega (arith, ap string_len w.out-is, w.push.ensures.len, ap length blank_text);
        capacity = omega (arith, ap string_capacity w.out-is, w.push.ensures.capacity);
      }
      | else-i-gt0 w ↦ record {
        bytes = ap string_bytes w.out-is ∙ sym (append-nil _) ∙ ap (λ t. string_bytes c.loop-i.out ++ t) (sym (no_gap _ w.if-i-gt0.false));
        len = omega (arith, ap string_len w.out-is);
        capacity = omega (arith, ap string_capacity w.out-is);
      }
    ]

pub returns-in_err-reserve : goal.returns-in_err-reserve
returns-in_err-reserve c =
    let p = err_from_is_err_and c.from_residual.result c.from_residual.ensures.1 in
    rw p.1 (record {
      written = c.reserve.ensures.bytes;
      room = λ h. absurd (omega (arith, c.in_err-reserve.ensures.cases));
      law = written_is_read;
    })

pub loop-i-init : goal.loop-i-init
unfolding hex_text
loop-i-init c = (sym (append-nil _), omega (arith, c.in_ok-reserve.ensures.cases))

pub push-requires : goal.push-requires
push-requires c = omega (arith, ap length blank_text)

pub write_byte-requires : goal.write_byte-requires
write_byte-requires c =
    let space = spaced (goal.at.write_byte-requires c).Joined-i-gt0 in
    omega (arith, space.len, space.capacity)

pub loop-i-preserved : goal.loop-i-preserved
loop-i-preserved c =
    let space = spaced (goal.at.loop-i-preserved c).Joined-i-gt0 in (
      c.write_byte.ensures.bytes ∙ ap (λ t. t ++ hex_byte (get_or c.args.bytes.now c.loop-i.i 0)) (space.bytes ∙ ap (λ t. t ++ gap c.loop-i.i) c.loop-i.invariant.0) ∙ text_more (string_bytes c.reserve.new.text) c.args.bytes.now c.loop-i.i c.loop-i-test.true,
      omega (arith, space.len, space.capacity, c.write_byte.ensures.len, c.write_byte.ensures.capacity),
    )

pub returns : goal.returns
returns c = record {
  written = c.loop-i.invariant.0 ∙ ap (λ t. t ++ hex_text (take c.loop-i.i c.args.bytes.now)) c.reserve.ensures.bytes ∙ ap (λ t. string_bytes c.args.out.now ++ hex_text t) (take_all _ _ c.loop-i-test.false);
  room = λ _. refl;
  law = written_is_read;
}
