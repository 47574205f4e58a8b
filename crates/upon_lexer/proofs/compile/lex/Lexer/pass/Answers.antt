use Rattle.std.proofs.Common.{inl, inr, sym, ap, ◌∙◌, subst}
use Rattle.upon_types.specs.Span.{LiesIn}
use Rattle.upon_lexer.specs.OpenTags.{begin_of}
use Rattle.upon_lexer.specs.Lexers.{lexer_text}
use Rattle.upon_lexer.proofs.OpenTagPlaces.{begin_lies}
use Rattle.upon_lexer.proofs.compile.lex.Lexer.pass.Goals as goal

pub invariant_of-self : goal.invariant_of-self
invariant_of-self c = record {
  boundary = c.args.self.now.boundary;
  tag_span = c.args.self.now.tag_span;
  bracket_spans = λ b h. elim (c.apply.ensures.listed b h) [
    | inl before ↦ c.args.self.now.bracket_spans b before
    | inr here ↦ subst (LiesIn (lexer_text c.args.self.now)) (sym here) c.requires.span
  ];
}

pub invariant_of-self-2 : goal.invariant_of-self-2
invariant_of-self-2 c = record {
  boundary = c.requires.span.end;
  tag_span = λ tag is. begin_lies (lexer_text c.args.self.now) c.args.found.span c.requires.span c.args.found.token c.args.self.now.tag tag.begin (ap begin_of (sym is) ∙ c.pass_token.ensures.begin) c.args.self.now.tag_span;
  bracket_spans = λ b h. elim (c.apply.ensures.listed b h) [
    | inl before ↦ c.args.self.now.bracket_spans b before
    | inr here ↦ subst (LiesIn (lexer_text c.args.self.now)) (sym here) c.requires.span
  ];
}
