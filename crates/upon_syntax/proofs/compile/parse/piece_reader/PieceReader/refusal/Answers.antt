use Rattle.std.proofs.Common.{ℕ, List, sym, subst}
use Rattle.upon_types.specs.Error.{fault_of}
use Rattle.upon_types.specs.Fault.{OrMemory}
use Rattle.upon_syntax.specs.CommentReasons.{comment_reason}
use Rattle.upon_syntax.specs.TagEnds.{syntax_fault}
use Rattle.upon_syntax.proofs.compile.parse.piece_reader.PieceReader.refusal.Goals as goal

pub returns : goal.returns
returns c =
    let span = c.args.span in
    let words = comment_reason c.args.fault in
    let F : List ℕ → Type 0 = λ s. OrMemory (syntax_fault s span words) (fault_of c.syntax_error.result) in
    subst F (sym c.args.self.now.same_text) (c.syntax_error.ensures.fault words c.cause.ensures)
