use Rattle.std.proofs.Common.{◌≡◌, ℕ, List, ◌++◌, sym, subst, refl, codes}
use Rattle.upon_types.specs.Cause.{cause_text}
use Rattle.upon_types.specs.declared.error.cause.Cause.TheVariants.{UnexpectedBlock}
use Rattle.upon_types.specs.declared.types.block.BlockKind.TheVariants.{If, For, With}
use Rattle.upon_types.specs.declared.types.block.Closing.{Closing}
use Rattle.upon_types.specs.declared.types.block.Closing.TheVariants.{ElseIf, Else, End}
use Rattle.upon_types.specs.Error.{fault_of}
use Rattle.upon_types.specs.Fault.{OrMemory}
use Rattle.upon_language_spec.specs.Blocks.{closer_words}
use Rattle.upon_language_spec.specs.Wanted.{in_quotes}
use Rattle.upon_syntax.specs.OpenBlocks.{closer_view}
use Rattle.upon_syntax.specs.TagEnds.{syntax_fault}
use Rattle.upon_syntax.proofs.compile.parse.piece_reader.PieceReader.unexpected.Goals as goal

-- the words of a closing tag, as the definitions have them
closing_reason : (closer : Closing) → cause_text (UnexpectedBlock closer) ≡ codes "unexpected " ++ (in_quotes (closer_words (closer_view closer)) ++ codes " block")
closing_reason ElseIf = refl
closing_reason Else = refl
closing_reason (End If) = refl
closing_reason (End For) = refl
closing_reason (End With) = refl

pub returns : goal.returns
returns c =
    let span = c.args.span in
    let words = codes "unexpected " ++ (in_quotes (closer_words (closer_view c.args.closer)) ++ codes " block") in
    let F : List ℕ → Type 0 = λ s. OrMemory (syntax_fault s span words) (fault_of c.syntax_error.result) in
    subst F (sym c.args.self.now.same_text) (c.syntax_error.ensures.fault words (closing_reason c.args.closer))
