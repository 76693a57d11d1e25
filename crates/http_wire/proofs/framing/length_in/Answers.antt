use Rattle.std.proofs.Common.{◌≡◌, ◌-◌, ◌≤◌, ◌<◌, length, get_or, Some, sym, ap, ◌∙◌, arith, true}
use Rattle.std.specs.List.{list_all}
use Rattle.std.specs.Char.{is_ascii_digit, digit_value}
use Rattle.std.specs.Str.Parse.{digits_value}
use Rattle.std.proofs.lemmas.Bool.Decides.{nat_tests}
use Rattle.std.proofs.lemmas.List.{take_all}
use Rattle.std.proofs.lemmas.Int.Digits.{digits_value_more}
use Rattle.http_wire.proofs.Lengths.{below_more, below_17, all_more, one_fails, too_short, too_long, no_digits, a_length}
use Rattle.http_wire.proofs.framing.length_in.Goals as goal

pub returns-then-is_empty : goal.returns-then-is_empty
returns-then-is_empty c =
    let none : length c.args.value.now ≤ 0 = grind (arith, nat_tests) in
    sym (too_short c.args.value.now none)

pub returns-then-value-gt-DIGIT_LIMIT : goal.returns-then-value-gt-DIGIT_LIMIT
returns-then-value-gt-DIGIT_LIMIT c = sym (too_long c.args.value.now (omega (arith, c.if-value-gt-DIGIT_LIMIT.true)))

pub returns-then-not-is_ascii_digit : goal.returns-then-not-is_ascii_digit
returns-then-not-is_ascii_digit c =
    sym (no_digits c.args.value.now (omega (arith, c.loop-byte-test.true)) (omega (arith, c.if-value-gt-DIGIT_LIMIT.false)) (one_fails is_ascii_digit c.args.value.now c.loop-byte.byte-index c.loop-byte-test.true (sym c.if-not-is_ascii_digit.ensures.value)))

pub overflow_mul-number : goal.overflow_mul-number
overflow_mul-number c =
    let bound = below_17 c.loop-byte.byte-index (omega (arith, c.loop-byte-test.true, c.if-value-gt-DIGIT_LIMIT.false)) in
    omega (arith, bound, c.loop-byte.invariant.small)

pub overflow_add-number : goal.overflow_add-number
overflow_add-number c =
    let bound = below_17 c.loop-byte.byte-index (omega (arith, c.loop-byte-test.true, c.if-value-gt-DIGIT_LIMIT.false)) in
    omega (arith, bound, c.loop-byte.invariant.small, c.type_inv.value c.loop-byte.byte-index)

pub loop-byte-preserved : goal.loop-byte-preserved
loop-byte-preserved c =
    let byte = get_or c.args.value.now c.loop-byte.byte-index 0 in
    let yes : is_ascii_digit byte ≡ true = sym c.if-not-is_ascii_digit.ensures.value in
    let digit : digit_value byte ≡ byte - 48 = grind (arith, nat_tests) in
    let small : byte - 48 ≤ 9 = grind (arith, nat_tests) in
    record {
      value = omega (arith, digit, digits_value_more 10 c.args.value.now c.loop-byte.byte-index c.loop-byte-test.true, c.loop-byte.invariant.value);
      digits = all_more is_ascii_digit c.args.value.now c.loop-byte.byte-index c.loop-byte-test.true c.loop-byte.invariant.digits yes;
      small = omega (arith, below_more c.loop-byte.byte-index, c.loop-byte.invariant.small, small);
    }

pub returns : goal.returns
returns c =
    let all = take_all c.loop-byte.byte-index c.args.value.now c.loop-byte-test.false in
    let some : 0 < length c.args.value.now = grind (arith, nat_tests) in
    ap Some (c.loop-byte.invariant.value ∙ ap (digits_value 10) all)
    ∙ sym (a_length c.args.value.now some (omega (arith, c.if-value-gt-DIGIT_LIMIT.false)) (ap (list_all is_ascii_digit) (sym all) ∙ c.loop-byte.invariant.digits))
