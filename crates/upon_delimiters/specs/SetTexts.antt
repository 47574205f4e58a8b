-- The list of delimiters that is built from texts for expressions, blocks and comments.
use Rattle.std.specs.Prelude.{ℕ, ◌<◌, List, [], ◌∷◌, ◌++◌, Option, None, Some, length, codes}
use Rattle.upon_types.specs.Bytes.{hyphen}
use Rattle.upon_types.specs.declared.types.Delimiter.{Delimiter}
use Rattle.upon_types.specs.declared.types.Delimiter.TheVariants.{BeginExpr, EndExpr, BeginExprTrim, EndExprTrim, BeginBlock, EndBlock, BeginBlockTrim, EndBlockTrim, BeginComment, EndComment, BeginCommentTrim, EndCommentTrim}
use Rattle.upon_language_spec.specs.Search.{DelimiterText}

-- the texts that begin and end one sort of tag
pub record Pair : Type 0 where
  pub begin : List ℕ
  pub end : List ℕ

-- each of the two has a byte
abbrev pub HasBytes : Pair → Type 0
HasBytes pair = (0 < length pair.begin) × (0 < length pair.end)

-- the pairs that are set
pub record SetTexts : Type 0 where
  pub expr : Option Pair
  pub block : Option Pair
  pub comment : Option Pair

-- no pair
abbrev pub nothing_set : SetTexts
nothing_set = record { expr = None; block = None; comment = None }

-- this pair for expressions, and what was set for the others
abbrev pub with_expr : List ℕ → List ℕ → SetTexts → SetTexts
with_expr begin end texts = record texts { expr = Some (record { begin = begin; end = end }) }

-- this pair for blocks, and what was set for the others
abbrev pub with_block : List ℕ → List ℕ → SetTexts → SetTexts
with_block begin end texts = record texts { block = Some (record { begin = begin; end = end }) }

-- this pair for comments, and what was set for the others
abbrev pub with_comment : List ℕ → List ℕ → SetTexts → SetTexts
with_comment begin end texts = record texts { comment = Some (record { begin = begin; end = end }) }

-- the pairs of the default syntax
abbrev pub usual_texts : SetTexts
usual_texts = with_comment (codes "{#") (codes "#}")
    (with_block (codes "{%") (codes "%}") (with_expr (codes "{{") (codes "}}") nothing_set))

-- of kinds in this order: begin, end, begin and a hyphen, a hyphen and end; none if no pair is set
abbrev pub pair_delimiters : Delimiter → Delimiter → Delimiter → Delimiter → Option Pair → List DelimiterText
pair_delimiters begin end begin_trim end_trim None = []
pair_delimiters begin end begin_trim end_trim (Some pair) =
    record { kind = begin; text = pair.begin }
    ∷ record { kind = end; text = pair.end }
    ∷ record { kind = begin_trim; text = pair.begin ++ hyphen ∷ [] }
    ∷ record { kind = end_trim; text = hyphen ∷ pair.end }
    ∷ []

-- for expressions, then for blocks, then for comments
abbrev pub built_delimiters : SetTexts → List DelimiterText
built_delimiters texts =
    pair_delimiters BeginExpr EndExpr BeginExprTrim EndExprTrim texts.expr
    ++ pair_delimiters BeginBlock EndBlock BeginBlockTrim EndBlockTrim texts.block
    ++ pair_delimiters BeginComment EndComment BeginCommentTrim EndCommentTrim texts.comment
