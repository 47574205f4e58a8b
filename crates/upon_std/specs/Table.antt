-- What each standard function answers, and its name.
use Rattle.std.specs.Prelude.{ℕ, List}
use Rattle.upon_types.specs.Answers.{Answer}
use Rattle.upon_types.specs.Val.{Val}
use Rattle.upon_std.specs.Basic.Table as basic
use Rattle.upon_std.specs.Ordering.Orders.{orders_answer, orders_name}
use Rattle.upon_std.specs.Cutting.Parts.{parts_answer, parts_name}
use Rattle.upon_std.specs.Encoding.Writing.{writing_answer, writing_name}
use Rattle.upon_std.specs.declared.table.StandardFunction.{StandardFunction}
use Rattle.upon_std.specs.declared.table.StandardFunction.TheVariants.{Basic, Orders, Parts, Writing}

-- what a function answers
abbrev pub standard_answer : StandardFunction → List Val → Answer
standard_answer (Basic f) = basic.basic_answer f
standard_answer (Orders f) = orders_answer f
standard_answer (Parts f) = parts_answer f
standard_answer (Writing f) = writing_answer f

-- the name under which templates call it
abbrev pub standard_name : StandardFunction → List ℕ
standard_name (Basic f) = basic.basic_name f
standard_name (Orders f) = orders_name f
standard_name (Parts f) = parts_name f
standard_name (Writing f) = writing_name f
