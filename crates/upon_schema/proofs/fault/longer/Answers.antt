use Rattle.std.proofs.Common.{string_bytes}
use Rattle.std.specs.Str.Iter.{chars_rest}
use Rattle.upon_schema.specs.Refusal.{step_spelled}
use Rattle.upon_schema.proofs.Spellings.{spelled_more}
use Rattle.upon_schema.proofs.fault.longer.Goals as goal

pub loop-character-preserved : goal.loop-character-preserved
loop-character-preserved c =
    spelled_more (string_bytes c.loop-character.text) (chars_rest c.loop-character.character-iterator) (chars_rest c.next.new.self) (string_bytes c.push_spelled.new.text) (step_spelled c.args.step.now) c.in-Some.character
    c.in_ok-push_spelled.ensures c.in-Some.ensures.steps.0 c.loop-character.invariant
