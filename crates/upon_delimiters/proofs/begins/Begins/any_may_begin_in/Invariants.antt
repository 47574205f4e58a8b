use Rattle.std.proofs.Common.{◌≡◌, ◌+◌, List, false}
use Rattle.upon_language_spec.specs.Search.{DelimiterText, HasTexts, NoneFrom}
use Rattle.upon_delimiters.specs.Begins.{BeginEach}
use Rattle.upon_delimiters.proofs.begins.Begins.any_may_begin_in.Given as goal

abbrev pub invariant-loop-i : goal.invariant-loop-i
invariant-loop-i l = l.may ≡ false
    → (delimiters : List DelimiterText) → HasTexts delimiters → BeginEach l.self delimiters → NoneFrom delimiters l.bytes l.at (l.at + l.i)
