use Rattle.std.proofs.Common.{sym, ap, ◌∙◌}
use Rattle.upon_tree.specs.Weight.{base_weight}
use Rattle.upon_tree.proofs.Weights.{weight-Var, weight-Literal, weight-List, weight-Map, weight-Paren, weight-Call}
use Rattle.upon_tree.proofs.ast.expression.BaseExpr.into_parts.Goals as goal

pub returns-in-Var : goal.returns-in-Var
returns-in-Var c = sym (ap base_weight c.in-Var.is ∙ weight-Var c.in-Var.var)

pub returns-in-Literal : goal.returns-in-Literal
returns-in-Literal c = sym (ap base_weight c.in-Literal.is ∙ weight-Literal c.in-Literal.literal)

pub returns-in-List : goal.returns-in-List
returns-in-List c = sym (ap base_weight c.in-List.is ∙ weight-List _)

pub returns-in-Map : goal.returns-in-Map
returns-in-Map c = sym (ap base_weight c.in-Map.is ∙ weight-Map _)

pub returns-in-Paren : goal.returns-in-Paren
returns-in-Paren c = sym (ap base_weight c.in-Paren.is ∙ weight-Paren _)

pub returns-in-Call : goal.returns-in-Call
returns-in-Call c = c.parts_of_arguments.ensures ∙ sym (ap base_weight c.in-Call.is ∙ weight-Call c.in-Call.call)
