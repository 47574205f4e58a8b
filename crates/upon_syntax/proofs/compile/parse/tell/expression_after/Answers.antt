use Rattle.std.proofs.Common.{List, subst}
use Rattle.upon_language_spec.specs.Cut.{Lexeme}
use Rattle.upon_tag_parser.specs.TagTokens.{EachTagToken}
use Rattle.upon_tree.specs.Opened.{tree_reader_text, IsExpressionKnown}
use Rattle.upon_syntax.proofs.TagExpressions.{left_tokens}
use Rattle.upon_syntax.proofs.compile.parse.tell.expression_after.Goals as goal

pub known-requires-clause-tokens : goal.known-requires-clause-tokens
known-requires-clause-tokens c =
    let (e, h) = c.requires in
    let s = tree_reader_text c.args.trees.now in
    let F : List Lexeme → Type 0 = λ ts. EachTagToken s h.previous ts in
    record { before = h.previous; no_minus = h.no_minus; each = subst F (left_tokens s c.args.count c.args.tokens.now e h) h.each }

pub known-requires-clause-known : goal.known-requires-clause-known
known-requires-clause-known c =
    let (e, h) = c.requires in
    let s = tree_reader_text c.args.trees.now in
    let F : List Lexeme → Type 0 = λ ts. IsExpressionKnown s e ts in
    (e, subst F (left_tokens s c.args.count c.args.tokens.now e h) h.known)

pub returns : goal.returns
returns c = λ e h.
    let s = tree_reader_text c.args.trees.now in
    let F : List Lexeme → Type 0 = λ ts. IsExpressionKnown s e ts in
    c.known.ensures e (subst F (left_tokens s c.args.count c.args.tokens.now e h) h.known)
