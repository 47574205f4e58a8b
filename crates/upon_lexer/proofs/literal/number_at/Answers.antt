use Rattle.std.proofs.Common.{arith}
use Rattle.upon_lexer.proofs.Digits.{offset_within}
use Rattle.upon_lexer.proofs.literal.number_at.Goals as goal

pub overflow_add-result : goal.overflow_add-result
overflow_add-result c =
    let within = offset_within c.args.source.now c.slice-text.result.now c.args.span c.is_minus.result c.in-Err-BadDigit.field-0 c.in-Err-BadDigit.offset c.requires.span c.slice-text.ensures c.in-Err-BadDigit.ensures.err c.in-Err-BadDigit.field-0-is in
    omega (arith, within, c.requires.span.end)

pub overflow_add-result-in-Err-BadDigit : goal.overflow_add-result-in-Err-BadDigit
overflow_add-result-in-Err-BadDigit c =
    let within = offset_within c.args.source.now c.slice-text.result.now c.args.span c.is_minus.result c.in-Err-BadDigit.field-0 c.in-Err-BadDigit.offset c.requires.span c.slice-text.ensures c.in-Err-BadDigit.ensures.err c.in-Err-BadDigit.field-0-is in
    omega (arith, within, c.requires.span.end)

pub overflow_add-result-in-Err-BadDigit-2 : goal.overflow_add-result-in-Err-BadDigit-2
overflow_add-result-in-Err-BadDigit-2 c =
    let within = offset_within c.args.source.now c.slice-text.result.now c.args.span c.is_minus.result c.in-Err-BadDigit.field-0 c.in-Err-BadDigit.offset c.requires.span c.slice-text.ensures c.in-Err-BadDigit.ensures.err c.in-Err-BadDigit.field-0-is in
    omega (arith, within, c.requires.span.end)
