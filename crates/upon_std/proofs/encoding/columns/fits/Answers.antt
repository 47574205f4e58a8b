use Rattle.std.proofs.Common.{refl, sym, arith}
use Rattle.std.specs.Str.Iter.{chars_rest}
use Rattle.std.proofs.lemmas.Str.{IsUtf8-past_char}
use Rattle.upon_std.proofs.EncodingLemmas.Widths.{fits_beside, fits_no_more, all_fit}
use Rattle.upon_std.proofs.encoding.columns.fits.Goals as goal

pub returns-then-left-taken : goal.returns-then-left-taken
returns-then-left-taken c =
    sym (fits_no_more (chars_rest c.loop-character.character-iterator) (chars_rest c.next.new.self) c.in-Some.character c.loop-character.left c.width-taken.result _
    c.loop-character.invariant.utf8 c.in-Some.ensures.steps.0 c.width-taken.ensures (omega arith) c.loop-character.invariant.counted)

pub loop-character-preserved : goal.loop-character-preserved
loop-character-preserved c =
    let before = chars_rest c.loop-character.character-iterator in
    let after = chars_rest c.next.new.self in
    let inv = c.loop-character.invariant in
    record {
      utf8 = IsUtf8-past_char before after c.in-Some.character inv.utf8 c.in-Some.ensures.steps.0;
      counted = fits_beside before after c.in-Some.character c.loop-character.left c.width-taken.result _ _ inv.utf8 c.in-Some.ensures.steps.0
          c.width-taken.ensures (omega arith) refl inv.counted;
    }

pub returns : goal.returns
returns c =
    sym (all_fit (chars_rest c.loop-character.character-iterator) c.loop-character.left _ c.in-None.ensures.steps.0.0 c.loop-character.invariant.counted)
