-- What each function of this crate answers, and its name.
use Rattle.std.specs.Prelude.{ℕ, List}
use Rattle.upon_types.specs.Answers.{Answer}
use Rattle.upon_types.specs.Val.{Val}
use Rattle.upon_std.specs.Basic.Comparing.{comparing_answer}
use Rattle.upon_std.specs.Basic.Integers.{integers_answer}
use Rattle.upon_std.specs.Basic.Lists.{lists_answer}
use Rattle.upon_std.specs.Basic.Names.{comparing_name, integers_name, texts_name, lists_name}
use Rattle.upon_std.specs.Basic.Texts.{texts_answer}
use Rattle.upon_std.specs.declared.basic.table.StandardFunction.{StandardFunction}
use Rattle.upon_std.specs.declared.basic.table.StandardFunction.TheVariants.{Comparing, Integers, Texts, Lists}

-- what a function answers
abbrev pub basic_answer : StandardFunction → List Val → Answer
basic_answer (Comparing f) = comparing_answer f
basic_answer (Integers f) = integers_answer f
basic_answer (Texts f) = texts_answer f
basic_answer (Lists f) = lists_answer f

-- the name under which templates call it
abbrev pub basic_name : StandardFunction → List ℕ
basic_name (Comparing f) = comparing_name f
basic_name (Integers f) = integers_name f
basic_name (Texts f) = texts_name f
basic_name (Lists f) = lists_name f
