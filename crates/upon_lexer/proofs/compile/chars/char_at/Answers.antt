use Rattle.std.proofs.Common.{◌≡◌, ℕ, ◌+◌, List, ◌++◌, drop, encode_utf8, Option, Some, None, IfSome, MatchOption, arith, sym, ◌∙◌}
use Rattle.std.specs.Char.{len_utf8}
use Rattle.std.specs.Str.{IsUtf8, IsCharBoundary}
use Rattle.std.proofs.lemmas.Str.{IsUtf8-drop, IsCharBoundary-past_char}
use Rattle.upon_types.specs.Span.{LiesIn}
use Rattle.upon_lexer.proofs.compile.chars.char_at.Goals as goal

lies_in : (s rest left : List ℕ) (at : ℕ) (found : Option ℕ) (Nothing : Type 0) → IsUtf8 s → IsCharBoundary s at → rest ≡ drop at s → MatchOption found Nothing (λ c. rest ≡ encode_utf8 c ++ left) → IfSome found (λ c. LiesIn s (record { m = at; n = at + len_utf8 c }))
lies_in s rest left at None Nothing text between is h = tt
lies_in s rest left at (Some c) Nothing text between is h = record {
  ordered = omega arith;
  start = between;
  end = IsCharBoundary-past_char s left at c between.0 (IsUtf8-drop s at text between) (sym is ∙ h);
}

pub returns-clause-span : goal.returns-clause-span
returns-clause-span c =
    let is : c.chars.result.rest.now ≡ drop c.args.at c.args.source.now = cc in
    lies_in c.args.source.now c.chars.result.rest.now c.next.new.self.rest.now c.args.at c.next.result _ c.utf8.source c.requires is c.next.ensures.steps.0
