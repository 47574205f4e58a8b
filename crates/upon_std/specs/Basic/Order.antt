-- How values are ordered, and which relations hold of them.
use Rattle.std.specs.Prelude.{ℕ, Bool, List, ◌++◌, Option, Some, None, codes}
use Rattle.std.specs.Cmp.Lexicographic.{slice_cmp}
use Rattle.std.specs.declared.cmp.Ordering.{Ordering}
use Rattle.std.specs.Ordering.{nat_cmp, int_cmp, is_lt, is_le, is_gt, is_ge}
use Rattle.upon_types.specs.Val.{Val, int_val, text_val, kind_word}
use Rattle.upon_std.specs.declared.basic.order.Relation.{Relation}
use Rattle.upon_std.specs.declared.basic.order.Relation.TheVariants.{Less, LessOrEqual, Greater, GreaterOrEqual}

-- how two values are ordered: integers by size, texts by their code points, which is the order of their bytes; no
-- other two values are ordered
abbrev pub order_of : Val → Val → Option Ordering
order_of (int_val y) (int_val z) = Some (int_cmp y z)
order_of (text_val s) (text_val t) = Some (slice_cmp nat_cmp s t)
order_of v w = None

-- whether a relation holds of two values that are ordered so
abbrev pub relation_holds : Relation → Ordering → Bool
relation_holds Less order = is_lt order
relation_holds LessOrEqual order = is_le order
relation_holds Greater order = is_gt order
relation_holds GreaterOrEqual order = is_ge order

-- the refusal to order two values, which names their kinds
abbrev pub unordered : Val → Val → List ℕ
unordered v w = codes "cannot compare " ++ kind_word v ++ codes " with " ++ kind_word w
