use Rattle.std.proofs.Common.{sym, ap, ◌∙◌}
use Rattle.upon_language_spec.specs.Faults.{span_of}
use Rattle.upon_lexer.specs.OpenTags.{begin_of}
use Rattle.upon_lexer.specs.Lexers.{lexer_text}
use Rattle.upon_lexer.proofs.OpenTagPlaces.{kept}
use Rattle.upon_lexer.proofs.compile.lex.Lexer.pass_plain.Goals as goal

pub invariant_of-self : goal.invariant_of-self
invariant_of-self c =
    let before = c.args.self.now in
    record {
      boundary = c.requires.span.end;
      tag_span = λ tag is. kept (lexer_text before) (span_of before.offset c.args.end) c.requires.span before.tag tag.begin (ap begin_of (sym is) ∙ c.pass_inner.ensures.begin) before.tag_span;
      bracket_spans = before.bracket_spans;
    }
