-- The delimiters of the default syntax.
use Rattle.std.specs.Prelude.{List, [], ◌∷◌, codes}
use Rattle.upon_types.specs.declared.types.Delimiter.TheVariants.{BeginExpr, EndExpr, BeginExprTrim, EndExprTrim, BeginBlock, EndBlock, BeginBlockTrim, EndBlockTrim, BeginComment, EndComment, BeginCommentTrim, EndCommentTrim}
use Rattle.upon_language_spec.specs.Search.{DelimiterText}

-- for expressions, blocks and comments, in this order: begin, end, and both with a hyphen
abbrev pub default_delimiters : List DelimiterText
default_delimiters =
    record { kind = BeginExpr; text = codes "{{" }
    ∷ record { kind = EndExpr; text = codes "}}" }
    ∷ record { kind = BeginExprTrim; text = codes "{{-" }
    ∷ record { kind = EndExprTrim; text = codes "-}}" }
    ∷ record { kind = BeginBlock; text = codes "{%" }
    ∷ record { kind = EndBlock; text = codes "%}" }
    ∷ record { kind = BeginBlockTrim; text = codes "{%-" }
    ∷ record { kind = EndBlockTrim; text = codes "-%}" }
    ∷ record { kind = BeginComment; text = codes "{#" }
    ∷ record { kind = EndComment; text = codes "#}" }
    ∷ record { kind = BeginCommentTrim; text = codes "{#-" }
    ∷ record { kind = EndCommentTrim; text = codes "-#}" }
    ∷ []
