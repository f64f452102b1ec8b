use Rattle.receiver.proofs.Bytes.{determined}
use Rattle.receiver.proofs.Orders.{repetition, commutation}
use Rattle.receiver.proofs.Dependence.{page_dependence}
use Rattle.receiver.proofs.OnePage.{reordering}
use Rattle.receiver.proofs.Copied.{frame, second_copy, commutation_of_pages}
use Rattle.receiver.proofs.laws.order_laws.Goals as goal

pub returns : goal.returns
returns c = record {
  determined = determined;
  frame = frame;
  repetition = repetition;
  second_copy = second_copy;
  commutation = commutation;
  reordering = reordering;
  other_pages = commutation_of_pages;
  dependence = page_dependence;
}
