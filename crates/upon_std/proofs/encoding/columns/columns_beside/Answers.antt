use Rattle.std.proofs.Common.{arith}
use Rattle.std.specs.Str.Iter.{chars_rest}
use Rattle.std.proofs.lemmas.Str.{IsUtf8-past_char}
use Rattle.upon_std.proofs.EncodingLemmas.Widths.{less_beside, columns_of_none}
use Rattle.upon_std.proofs.encoding.columns.columns_beside.Goals as goal

pub loop-character-preserved : goal.loop-character-preserved
loop-character-preserved c =
    let before = chars_rest c.loop-character.character-iterator in
    let after = chars_rest c.next.new.self in
    let inv = c.loop-character.invariant in
    record {
      utf8 = IsUtf8-past_char before after c.in-Some.character inv.utf8 c.in-Some.ensures.steps.0;
      counted = less_beside before after c.in-Some.character c.loop-character.left c.width.result _ _ inv.utf8 c.in-Some.ensures.steps.0 c.width.ensures
          c.saturating_sub-left.ensures inv.counted;
    }

pub returns : goal.returns
returns c = omega (arith, columns_of_none (chars_rest c.loop-character.character-iterator) c.in-None.ensures.steps.0.0, c.loop-character.invariant.counted)
