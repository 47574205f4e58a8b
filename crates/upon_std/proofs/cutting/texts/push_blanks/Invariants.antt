use Rattle.std.proofs.Common.{◌≡◌, ◌++◌, replicate, string_bytes}
use Rattle.upon_std.proofs.cutting.texts.push_blanks.Given as goal

abbrev pub invariant-loop-blank : goal.invariant-loop-blank
invariant-loop-blank l = string_bytes l.made ≡ string_bytes l.initial.made ++ replicate l._blank 32
