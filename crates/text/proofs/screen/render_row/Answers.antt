use Rattle.std.proofs.Common.{◌++◌, take, string_bytes, refl, ap, ◌∙◌, arith}
use lib.Utf8.{encode}
use Rattle.std.proofs.lemmas.List.{take_all}
use Rattle.text.specs.Screen.{shown}
use Rattle.text.proofs.ScreenSigns.{sign_width, shown_none, shown_more}
use Rattle.text.proofs.screen.render_row.Goals as goal

pub loop-letter-init : goal.loop-letter-init
loop-letter-init c = (shown_none _, omega (arith, c.in_ok-reserve.ensures.cases))

pub push-requires : goal.push-requires
push-requires c = omega (arith, sign_width _ c.sign.result c.sign.ensures.value)

pub loop-letter-preserved : goal.loop-letter-preserved
loop-letter-preserved c = (
  c.push.ensures.bytes ∙ ap (λ t. t ++ encode c.sign.result) c.loop-letter.invariant.0 ∙ shown_more (string_bytes c.reserve.new.text) c.args.row.now c.loop-letter.letter-index c.sign.result c.loop-letter-test.true c.sign.ensures.value,
  omega (arith, sign_width _ c.sign.result c.sign.ensures.value, c.push.ensures.len, c.push.ensures.capacity),
)

pub returns : goal.returns
returns c = record {
  written = c.loop-letter.invariant.0 ∙ ap (λ t. t ++ shown (take c.loop-letter.letter-index c.args.row.now)) c.reserve.ensures.bytes ∙ ap (λ t. string_bytes c.args.out.now ++ shown t) (take_all _ _ c.loop-letter-test.false);
  room = λ _. refl;
}
