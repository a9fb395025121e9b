-- `telling::answers::put` meets its contract.
use Rattle.std.proofs.Common.{Ok, sym, ap, ◌∙◌, arith}
use Rattle.laws.proofs.Firsts.{handed_on}
use Rattle.telling.specs.Answers.{answer_numbers}
use Rattle.filling.proofs.Answers.{answers_refused, answers_no_room, answers_wrote}
use Rattle.telling.proofs.Putting.{numbers_length}
use Rattle.telling.proofs.answers.put.Goals as goal

pub returns-in_err-a : goal.returns-in_err-a
returns-in_err-a c =
    let w = answers_refused _ _ (answer_numbers c.args.a) c.args.answer.now c.in_err-a.was in
    record { value = handed_on _ c.from_residual.ensures.1 ∙ w.0; answer_after = w.1 }

pub returns-then-answer-lt-NUMBERS : goal.returns-then-answer-lt-NUMBERS
returns-then-answer-lt-NUMBERS c =
    let w = answers_no_room _ (answer_numbers c.args.a) c.args.answer.now c.in_ok-a.was (omega (arith, numbers_length c.args.a c.requires)) in
    record { value = w.0; answer_after = w.1 }

pub returns : goal.returns
returns c =
    let a = c.args.a in
    let long = numbers_length a c.requires in
    let w = answers_wrote a.judged (answer_numbers a) c.args.answer.now c.in_ok-a.was (omega arith) in
    record { value = ap Ok (sym long) ∙ w.0; answer_after = c.put_numbers.ensures ∙ w.1 }
