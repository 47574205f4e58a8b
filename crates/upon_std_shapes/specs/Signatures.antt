-- What each standard function takes without refusing, and what it gives to that. A value fits a shape whatever its
-- size, so nothing is declared of a function that refuses by size: of sums, products and counts that 64 bits do not
-- hold, of integers that no argument holds, and of texts and lists that would be too long.
use Rattle.std.specs.Prelude.{List, [], ◌∷◌}
use Rattle.upon_shape_spec.specs.Declared.{Signature}
use Rattle.upon_shape_spec.specs.Shape.{any_shape, list_of, map_each, optional, text_shape, truth_shape}
use Rattle.upon_std.specs.declared.table.StandardFunction.{StandardFunction}
use Rattle.upon_std.specs.declared.table.StandardFunction.TheVariants as standard
use Rattle.upon_std.specs.declared.basic.comparing.Comparing.{Comparing}
use Rattle.upon_std.specs.declared.basic.comparing.Comparing.TheVariants.{Equal, NotEqual, Ordered, Not, And, Or, Default, Choose}
use Rattle.upon_std.specs.declared.basic.lists.Lists.{Lists}
use Rattle.upon_std.specs.declared.basic.lists.Lists.TheVariants.{Length, First, Last, Reverse, Join, Keys, Values, Get}
use Rattle.upon_std.specs.declared.basic.table.StandardFunction.{StandardFunction as BasicFunction}
use Rattle.upon_std.specs.declared.basic.table.StandardFunction.TheVariants as basic
use Rattle.upon_std.specs.declared.basic.texts.Texts.{Texts}
use Rattle.upon_std.specs.declared.basic.texts.Texts.TheVariants.{Trim, Lower, Upper, StartsWith, EndsWith, Contains, Repeat}
use Rattle.upon_std.specs.declared.ordering.orders.Orders.{Orders}
use Rattle.upon_std.specs.declared.ordering.orders.Orders.TheVariants.{Sort, SortBy, Unique, GroupBy}
use Rattle.upon_std.specs.declared.cutting.parts.Parts.{Parts}
use Rattle.upon_std.specs.declared.cutting.parts.Parts.TheVariants.{Range, Slice, Concat, Pluck, Where, Sum, Split, Lines, Replace, Indent}
use Rattle.upon_std.specs.declared.encoding.writing.Writing.{Writing}
use Rattle.upon_std.specs.declared.encoding.writing.Writing.TheVariants.{Json, Shell, Yaml, Url, Base64, Truncate, PadLeft, PadRight, Center}
use Rattle.upon_std_shapes.specs.Items.{takes_gives, ordered_shapes, for_each_item, for_each_item_and, group_shape}
use Rattle.std.specs.Prelude.{map}

-- a text of any value, or of a text; whether something holds of a text and another
abbrev pub text_of_any : List Signature
text_of_any = takes_gives (any_shape ∷ []) text_shape ∷ []

abbrev pub text_of_text : List Signature
text_of_text = takes_gives (text_shape ∷ []) text_shape ∷ []

abbrev pub truth_of_texts : List Signature
truth_of_texts = takes_gives (text_shape ∷ text_shape ∷ []) truth_shape ∷ []

-- whether something holds of any two values
abbrev pub truth_of_any_two : List Signature
truth_of_any_two = takes_gives (any_shape ∷ any_shape ∷ []) truth_shape ∷ []

-- the functions that compare and choose
abbrev pub comparing_signatures : Comparing → List Signature
comparing_signatures Equal = truth_of_any_two
comparing_signatures NotEqual = truth_of_any_two
comparing_signatures (Ordered relation) = map (λ s. takes_gives (s ∷ s ∷ []) truth_shape) ordered_shapes
comparing_signatures Not = takes_gives (any_shape ∷ []) truth_shape ∷ []
comparing_signatures And = truth_of_any_two
comparing_signatures Or = truth_of_any_two
comparing_signatures Default = for_each_item (λ s. takes_gives (optional s ∷ s ∷ []) s)
comparing_signatures Choose = for_each_item (λ s. takes_gives (any_shape ∷ s ∷ s ∷ []) s)

-- the functions of texts; `repeat` refuses a text that is too long
abbrev pub texts_signatures : Texts → List Signature
texts_signatures Trim = text_of_text
texts_signatures Lower = text_of_text
texts_signatures Upper = text_of_text
texts_signatures StartsWith = truth_of_texts
texts_signatures EndsWith = truth_of_texts
texts_signatures Contains = truth_of_texts
texts_signatures Repeat = []

-- the functions of lists and maps; `length` refuses a count that 64 bits do not hold
abbrev pub lists_signatures : Lists → List Signature
lists_signatures Length = []
lists_signatures First = for_each_item (λ s. takes_gives (list_of s ∷ []) (optional s))
lists_signatures Last = for_each_item (λ s. takes_gives (list_of s ∷ []) (optional s))
lists_signatures Reverse = for_each_item (λ s. takes_gives (list_of s ∷ []) (list_of s))
lists_signatures Join = takes_gives (list_of text_shape ∷ text_shape ∷ []) text_shape ∷ []
lists_signatures Keys = takes_gives (map_each any_shape ∷ []) (list_of text_shape) ∷ []
lists_signatures Values = for_each_item (λ s. takes_gives (map_each s ∷ []) (list_of s))
lists_signatures Get = for_each_item (λ s. takes_gives (map_each s ∷ text_shape ∷ s ∷ []) s)

-- the first group of functions. Those of integers have no signatures: each refuses what 64 bits do not hold, as an
-- argument or as the result; `div` and `rem` refuse 0, and `decimal` most numbers of places
abbrev pub basic_signatures : BasicFunction → List Signature
basic_signatures (basic.Comparing f) = comparing_signatures f
basic_signatures (basic.Integers f) = []
basic_signatures (basic.Texts f) = texts_signatures f
basic_signatures (basic.Lists f) = lists_signatures f

-- the functions that sort and group. `sort_by` refuses items of which one lacks the key, and which key it is shows only
-- in the call
abbrev pub orders_signatures : Orders → List Signature
orders_signatures Sort = map (λ s. takes_gives (list_of s ∷ []) (list_of s)) ordered_shapes
orders_signatures SortBy = []
orders_signatures Unique = for_each_item (λ s. takes_gives (list_of s ∷ []) (list_of s))
orders_signatures GroupBy = for_each_item_and
    (λ s. takes_gives (list_of (map_each s) ∷ text_shape ∷ []) (list_of (group_shape (map_each s) (optional s))))
    (takes_gives (list_of any_shape ∷ text_shape ∷ []) (list_of (group_shape any_shape any_shape)))

-- the functions of parts. `range` and `slice` take integers of 64 bits alone, `slice` none below 0, and `sum` refuses a
-- sum that 64 bits do not hold; `split` and `replace` refuse to look for the empty text, and `replace` and `indent` a
-- text that is too long
abbrev pub parts_signatures : Parts → List Signature
parts_signatures Range = []
parts_signatures Slice = []
parts_signatures Concat = for_each_item (λ s. takes_gives (list_of s ∷ list_of s ∷ []) (list_of s))
parts_signatures Pluck = for_each_item_and
    (λ s. takes_gives (list_of (map_each s) ∷ text_shape ∷ []) (list_of (optional s)))
    (takes_gives (list_of any_shape ∷ text_shape ∷ []) (list_of any_shape))
parts_signatures Where = for_each_item (λ s. takes_gives (list_of s ∷ text_shape ∷ any_shape ∷ []) (list_of s))
parts_signatures Sum = []
parts_signatures Split = []
parts_signatures Lines = takes_gives (text_shape ∷ []) (list_of text_shape) ∷ []
parts_signatures Replace = []
parts_signatures Indent = []

-- the functions that write. `shell` refuses a text with U+0000, `truncate` takes integers of 64 bits alone, none below
-- 0, and those that pad take no more than 10000 columns
abbrev pub writing_signatures : Writing → List Signature
writing_signatures Json = text_of_any
writing_signatures Shell = []
writing_signatures Yaml = text_of_text
writing_signatures Url = text_of_text
writing_signatures Base64 = text_of_text
writing_signatures Truncate = []
writing_signatures PadLeft = []
writing_signatures PadRight = []
writing_signatures Center = []

-- what each standard function takes and gives
abbrev pub standard_signatures : StandardFunction → List Signature
standard_signatures (standard.Basic f) = basic_signatures f
standard_signatures (standard.Orders f) = orders_signatures f
standard_signatures (standard.Parts f) = parts_signatures f
standard_signatures (standard.Writing f) = writing_signatures f
