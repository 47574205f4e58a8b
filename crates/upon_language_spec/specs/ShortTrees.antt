-- Short names that let the spans and the trees of examples read well.
use Rattle.std.specs.Prelude.{ℕ, List, []}
use Rattle.upon_types.specs.declared.types.Span.{Span}
use Rattle.upon_types.specs.declared.types.ast.path.AccessOp.TheVariants.{Direct}
use Rattle.upon_types.specs.Path.{Ident, by_key, Member}
use Rattle.upon_types.specs.Expression.{Base, var}
use Rattle.upon_types.specs.Tree.{Statement, Statements, no_statements, statement_then}

-- a span, by its offsets
abbrev pub at : ℕ → ℕ → Span
at m n = record { m = m; n = n }

-- a word
abbrev pub word : List ℕ → ℕ → ℕ → Ident
word text m n = record { text = text; span = at m n }

-- a bare first name
abbrev pub bare : List ℕ → ℕ → ℕ → Member
bare text m n = record { op = Direct; access = by_key (word text m n); span = at m n }

-- a path of that name alone
abbrev pub name : List ℕ → ℕ → ℕ → Base
name text m n = var (bare text m n) []

-- one statement
abbrev pub one : Statement → Statements
one t = statement_then t no_statements

-- two
abbrev pub two : Statement → Statement → Statements
two t u = statement_then t (one u)
