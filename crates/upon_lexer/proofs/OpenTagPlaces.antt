-- The open tag after a token begins where the token does, or where it began before.
use Rattle.std.proofs.Common.{◌≡◌, ℕ, List, Option, Some, None, refl, subst}
use Rattle.upon_types.specs.declared.types.Span.{Span}
use Rattle.upon_types.specs.declared.types.token.Token.{Token}
use Rattle.upon_types.specs.declared.types.token.Token.TheVariants.{BeginExpr, EndExpr, BeginBlock, EndBlock, BeginComment, EndComment}
use Rattle.upon_types.specs.Span.{LiesIn}
use Rattle.upon_language_spec.specs.LexStep.{begin_after}
use Rattle.upon_lexer.specs.OpenTags.{begin_of}
use Rattle.upon_lexer.specs.declared.compile.tags.OpenTag.{OpenTag}

module _ (s : List ℕ) (span : Span) (lies : LiesIn s span) where
  is_span : (begin : Span) → Some begin ≡ Some span → LiesIn s begin
  is_span begin e = let same : span ≡ begin = cc in subst (LiesIn s) same lies

  pub kept : (tag : Option OpenTag) (begin : Span) → Some begin ≡ begin_of tag → ((t : OpenTag) → tag ≡ Some t → LiesIn s t.begin) → LiesIn s begin
  kept None begin e before = absurd (cc)
  kept (Some t) begin e before = let same : t.begin ≡ begin = cc in subst (LiesIn s) same (before t refl)

  pub begin_lies : (token : Token) (tag : Option OpenTag) (begin : Span) → Some begin ≡ begin_after token span (begin_of tag) → ((t : OpenTag) → tag ≡ Some t → LiesIn s t.begin) → LiesIn s begin
  begin_lies BeginExpr tag begin e before = is_span begin e
  begin_lies BeginBlock tag begin e before = is_span begin e
  begin_lies BeginComment tag begin e before = is_span begin e
  begin_lies EndExpr tag begin e before = absurd (cc)
  begin_lies EndBlock tag begin e before = absurd (cc)
  begin_lies EndComment tag begin e before = absurd (cc)
  begin_lies token tag begin e before = kept tag begin e before
