use Rattle.std.proofs.Common.{Some, ap, arith}
use Rattle.std.proofs.lemmas.List.Elements.{All-tail}
use Rattle.ce_map.specs.Digits.{IsNumber}
use Rattle.ce_map.proofs.NextLaws.{next_none, next_value, next_rest}
use Rattle.ce_map.proofs.numbers.Numbers.next.Goals as goal

pub returns-in_err-value-clause-some : goal.returns-in_err-value-clause-some
returns-in_err-value-clause-some c = λ base n list is.
    absurd (next_none c.args.self.now base n list c.rest_of.result.now is c.rest_of.ensures c.in_err-value.ensures)

pub returns-in_err-value-clause-rest : goal.returns-in_err-value-clause-rest
returns-in_err-value-clause-rest c = λ base n list is.
    absurd (next_none c.args.self.now base n list c.rest_of.result.now is c.rest_of.ensures c.in_err-value.ensures)

pub returns-clause-some : goal.returns-clause-some
returns-clause-some c = λ base n list is.
    ap Some (next_value c.args.self.now base n list c.rest_of.result.now is c.rest_of.ensures c.in_ok-value.value
    c.in_ok-value.rest.now c.in_ok-value.ensures)

pub returns-clause-rest : goal.returns-clause-rest
returns-clause-rest c = λ base n list is. record {
  spelled =
      next_rest c.args.self.now base n list c.rest_of.result.now is c.rest_of.ensures c.in_ok-value.value
      c.in_ok-value.rest.now c.in_ok-value.ensures;
  small = All-tail IsNumber n list is.small;
  counted = omega (arith, is.counted);
  written = is.written;
}
