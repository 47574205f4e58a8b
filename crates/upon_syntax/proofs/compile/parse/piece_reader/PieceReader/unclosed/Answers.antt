use Rattle.std.proofs.Common.{◌≡◌, ℕ, List, ◌++◌, sym, subst, refl, codes}
use Rattle.upon_types.specs.Cause.{cause_text}
use Rattle.upon_types.specs.Error.{fault_of}
use Rattle.upon_types.specs.Fault.{OrMemory}
use Rattle.upon_types.specs.BlockKinds.{block_word}
use Rattle.upon_types.specs.declared.error.cause.Cause.TheVariants.{UnclosedBlock}
use Rattle.upon_types.specs.declared.types.block.BlockKind.{BlockKind}
use Rattle.upon_types.specs.declared.types.block.BlockKind.TheVariants.{If, For, With}
use Rattle.upon_language_spec.specs.Wanted.{in_quotes}
use Rattle.upon_types.specs.BlockKinds.{block_kind}
use Rattle.upon_syntax.specs.TagEnds.{syntax_fault}
use Rattle.upon_syntax.proofs.compile.parse.piece_reader.PieceReader.unclosed.Goals as goal

-- the words of a block that is open, as the definitions have them
open_reason : (kind : BlockKind) → cause_text (UnclosedBlock kind) ≡ codes "unclosed " ++ (in_quotes (block_word (block_kind kind)) ++ codes " block")
open_reason If = refl
open_reason For = refl
open_reason With = refl

pub returns : goal.returns
returns c =
    let block = c.args.block in
    let words = codes "unclosed " ++ (in_quotes (block_word (block_kind block.kind)) ++ codes " block") in
    let F : List ℕ → Type 0 = λ s. OrMemory (syntax_fault s block.span words) (fault_of c.syntax_error.result) in
    subst F (sym c.args.self.now.same_text) (c.syntax_error.ensures.fault words (open_reason block.kind))
