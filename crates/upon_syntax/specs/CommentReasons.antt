-- The words that report what is wrong with a comment.
use Rattle.std.specs.Prelude.{ℕ, List, codes}
use Rattle.upon_syntax.specs.declared.compile.parse.comment_fault.CommentFault.{CommentFault}
use Rattle.upon_syntax.specs.declared.compile.parse.comment_fault.CommentFault.TheVariants.{BeginAtEnd, Empty, Unclosed}

-- the reason of the fault
abbrev pub comment_reason : CommentFault → List ℕ
comment_reason BeginAtEnd = codes "expected raw template, found EOF"
comment_reason Empty = codes "expected raw template, found end comment"
comment_reason Unclosed = codes "expected end comment, found EOF"
