use Rattle.std.proofs.Common.{refl, arith, string_bytes}
use Rattle.std.specs.Str.Iter.{chars_rest}
use Rattle.std.proofs.lemmas.Str.{IsUtf8-past_char}
use Rattle.upon_std.proofs.EncodingLemmas.Fronts.{front-ends, front-more, front-whole}
use Rattle.upon_std.proofs.encoding.truncating.front.Goals as goal

pub returns-then-left-taken : goal.returns-then-left-taken
returns-then-left-taken c =
    front-ends (chars_rest c.loop-character.character-iterator) (chars_rest c.next.new.self) (string_bytes c.loop-character.cut) c.in-Some.character
    c.loop-character.left c.width-taken.result _ c.loop-character.invariant.utf8 c.in-Some.ensures.steps.0 c.width-taken.ensures (omega arith)
    c.loop-character.invariant.written

pub loop-character-preserved : goal.loop-character-preserved
loop-character-preserved c =
    let before = chars_rest c.loop-character.character-iterator in
    let after = chars_rest c.next.new.self in
    let inv = c.loop-character.invariant in
    record {
      utf8 = IsUtf8-past_char before after c.in-Some.character inv.utf8 c.in-Some.ensures.steps.0;
      written = front-more before after (string_bytes c.loop-character.cut) (string_bytes c.push.new.self) _ c.in-Some.character c.loop-character.left
          c.width-taken.result _ _ inv.utf8 c.in-Some.ensures.steps.0 c.width-taken.ensures (omega arith) refl refl c.in_ok-push.ensures.bytes inv.written;
    }

pub returns : goal.returns
returns c =
    front-whole (chars_rest c.loop-character.character-iterator) (string_bytes c.loop-character.cut) c.loop-character.left _ c.in-None.ensures.steps.0.0
    c.loop-character.invariant.written
