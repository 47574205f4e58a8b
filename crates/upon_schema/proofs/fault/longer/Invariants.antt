use Rattle.std.proofs.Common.{◌≡◌, ◌++◌, string_bytes}
use Rattle.std.specs.Str.Iter.{chars_rest}
use Rattle.upon_schema.specs.Reference.{spelled}
use Rattle.upon_schema.specs.Refusal.{step_spelled}
use Rattle.upon_schema.proofs.fault.longer.Given as goal

-- with the characters to come spelled too, the text is the step
abbrev pub invariant-loop-character : goal.invariant-loop-character
invariant-loop-character l =
    string_bytes l.text ++ spelled (chars_rest l.character-iterator) ≡ step_spelled l.step
