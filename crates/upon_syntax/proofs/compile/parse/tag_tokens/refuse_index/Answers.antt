use Rattle.std.proofs.Common.{ℕ, List, ◌≡◌, Some, sym, subst}
use Rattle.upon_language_spec.specs.Literal.{digits_in}
use Rattle.upon_syntax.proofs.LiteralSpans.{index_digits}
use Rattle.upon_syntax.proofs.compile.parse.tag_tokens.refuse_index.Goals as goal

pub index-requires : goal.index-requires
index-requires c =
    let F : List ℕ → Type 0 = λ x. (digits : List ℕ) × (digits_in 10 x ≡ Some digits) in
    subst F (sym c.slice.ensures) (index_digits c.args.source.now c.args.span.m c.args.span.n c.requires.spelled)
