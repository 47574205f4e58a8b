-- The names under which templates call the functions of this crate.
use Rattle.std.specs.Prelude.{ℕ, List, codes}
use Rattle.upon_std.specs.declared.basic.order.Relation.TheVariants.{Less, LessOrEqual, Greater, GreaterOrEqual}
use Rattle.upon_std.specs.declared.basic.comparing.Comparing.{Comparing}
use Rattle.upon_std.specs.declared.basic.comparing.Comparing.TheVariants.{Equal, NotEqual, Ordered, Not, And, Or, Default, Choose}
use Rattle.upon_std.specs.declared.basic.integers.Operation.TheVariants.{Add, Subtract, Multiply, Divide, Remainder, Minimum, Maximum}
use Rattle.upon_std.specs.declared.basic.integers.Sign.TheVariants.{Negate, Absolute}
use Rattle.upon_std.specs.declared.basic.integers.Integers.{Integers}
use Rattle.upon_std.specs.declared.basic.integers.Integers.TheVariants.{OfTwo, OfOne, Decimal}
use Rattle.upon_std.specs.declared.basic.texts.Texts.{Texts}
use Rattle.upon_std.specs.declared.basic.texts.Texts.TheVariants.{Trim, Lower, Upper, StartsWith, EndsWith, Contains, Repeat}
use Rattle.upon_std.specs.declared.basic.lists.Lists.{Lists}
use Rattle.upon_std.specs.declared.basic.lists.Lists.TheVariants.{Length, First, Last, Reverse, Join, Keys, Values, Get}

-- a function that compares or chooses
abbrev pub comparing_name : Comparing → List ℕ
comparing_name Equal = codes "eq"
comparing_name NotEqual = codes "ne"
comparing_name (Ordered Less) = codes "lt"
comparing_name (Ordered LessOrEqual) = codes "le"
comparing_name (Ordered Greater) = codes "gt"
comparing_name (Ordered GreaterOrEqual) = codes "ge"
comparing_name Not = codes "not"
comparing_name And = codes "and"
comparing_name Or = codes "or"
comparing_name Default = codes "default"
comparing_name Choose = codes "choose"

-- a function of integers
abbrev pub integers_name : Integers → List ℕ
integers_name (OfTwo Add) = codes "add"
integers_name (OfTwo Subtract) = codes "sub"
integers_name (OfTwo Multiply) = codes "mul"
integers_name (OfTwo Divide) = codes "div"
integers_name (OfTwo Remainder) = codes "rem"
integers_name (OfTwo Minimum) = codes "min"
integers_name (OfTwo Maximum) = codes "max"
integers_name (OfOne Negate) = codes "neg"
integers_name (OfOne Absolute) = codes "abs"
integers_name Decimal = codes "decimal"

-- a function of texts
abbrev pub texts_name : Texts → List ℕ
texts_name Trim = codes "trim"
texts_name Lower = codes "lower"
texts_name Upper = codes "upper"
texts_name StartsWith = codes "starts_with"
texts_name EndsWith = codes "ends_with"
texts_name Contains = codes "contains"
texts_name Repeat = codes "repeat"

-- a function of lists and maps
abbrev pub lists_name : Lists → List ℕ
lists_name Length = codes "length"
lists_name First = codes "first"
lists_name Last = codes "last"
lists_name Reverse = codes "reverse"
lists_name Join = codes "join"
lists_name Keys = codes "keys"
lists_name Values = codes "values"
lists_name Get = codes "get"
