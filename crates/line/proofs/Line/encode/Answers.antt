use Rattle.std.proofs.Common.{◌≡◌, ◌+◌, map, length, sym, ◌∙◌, refl, subst, arith, rules}
use Rattle.coding.specs.Hamming.{encode_number}
use Rattle.line.specs.Line.{header_numbers, encode_line}
use Rattle.line.specs.Laws.{Undamaged}
use Rattle.line.proofs.Encoding.{mapped, encoded_header, encoded_more, encoded_all}
use Rattle.line.proofs.Copies.{undamaged}
use Rattle.line.proofs.Line.encode.Goals as goal

pub loop-c-init : goal.loop-c-init
loop-c-init c =
    let m = c.args.self.now in
    let numbers : c.copy_from_slice.new.self ≡ map encode_number (header_numbers m) =
    c.copy_from_slice.ensures.after ∙ mapped _ _ encode_number (header_numbers m) _ 6 c.map.ensures.items refl (λ p q x y called. search rules) in
    encoded_header m _ _ numbers refl

pub loop-c-preserved : goal.loop-c-preserved
loop-c-preserved c =
    let long : length c.args.self.now.letters ≡ 40 = search rules in
    encoded_more c.args.self.now c.loop-c.bytes c.loop-c.c c.encode_letter.result c.loop-c.invariant (omega arith) long c.encode_letter.ensures

pub returns : goal.returns
returns c =
    let m = c.args.self.now in
    let long : length m.letters ≡ 40 = search rules in
    let e : c.loop-c.bytes ≡ encode_line m = encoded_all m c.loop-c.bytes (6 + c.loop-c.c) (omega arith) long c.loop-c.invariant in
    record { bytes = e; undamaged = λ v. subst (Undamaged m) (sym e) (undamaged m v) }
