use Rattle.std.proofs.Common.{◌≡◌, ◌++◌, drop}
use Rattle.upon_std.specs.Ordering.Spelling.{text_spelling}
use Rattle.upon_std.proofs.ordering.spelling.spell_text.Given as goal

-- what is spelled so far, and after it the bytes that are left, is the whole
abbrev pub invariant-loop-byte : goal.invariant-loop-byte
invariant-loop-byte l =
    l.numbers.items ++ text_spelling (drop l.byte-index l.byte-items) ≡ l.initial.numbers.items ++ text_spelling l.byte-items
