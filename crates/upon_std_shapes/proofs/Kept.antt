-- Each standard function keeps its signatures.
use Rattle.std.proofs.Common.{ℕ, ◌-◌, List, [], ◌∷◌, ◌++◌, length, map, Some, refl}
use Rattle.std.specs.Prelude.{filter, reverse, slice_get}
use Rattle.std.specs.Str.Lines.{lines}
use Rattle.upon_types.specs.Answers.{Function}
use Rattle.upon_types.specs.Truth.{truth}
use Rattle.upon_types.specs.Same.{val_eq}
use Rattle.upon_types.specs.Val.{Val, int_val, text_val, list_val, map_val, entry_at, entry_list}
use Rattle.upon_std.specs.Basic.Comparing.{comparing_answer}
use Rattle.upon_std.specs.Basic.Items.{vals_in_list, value_at_key}
use Rattle.upon_std.specs.Basic.Lists.{lists_answer}
use Rattle.upon_std.specs.Basic.Table as basic_table
use Rattle.upon_std.specs.Basic.Texts.{texts_answer}
use Rattle.upon_std.specs.declared.basic.comparing.Comparing.{Comparing}
use Rattle.upon_std.specs.declared.basic.comparing.Comparing.TheVariants.{Equal, NotEqual, Ordered, Not, And, Or, Default, Choose}
use Rattle.upon_std.specs.declared.basic.lists.Lists.{Lists}
use Rattle.upon_std.specs.declared.basic.lists.Lists.TheVariants.{Length, First, Last, Reverse, Join, Keys, Values, Get}
use Rattle.upon_std.specs.declared.basic.order.Relation.{Relation}
use Rattle.upon_std.specs.declared.basic.table.StandardFunction.{StandardFunction as BasicFunction}
use Rattle.upon_std.specs.declared.basic.table.StandardFunction.TheVariants as basic
use Rattle.upon_std.specs.declared.basic.texts.Texts.{Texts}
use Rattle.upon_std.specs.declared.basic.texts.Texts.TheVariants.{Trim, Lower, Upper, StartsWith, EndsWith, Contains, Repeat}
use Rattle.upon_std.specs.Ordering.Distinct.{distinct}
use Rattle.upon_std.specs.Ordering.Grouping.{grouped}
use Rattle.upon_std.specs.Ordering.Orders.{orders_answer}
use Rattle.upon_std.specs.declared.ordering.orders.Orders.{Orders}
use Rattle.upon_std.specs.declared.ordering.orders.Orders.TheVariants.{Sort, SortBy, Unique, GroupBy}
use Rattle.upon_std.specs.Cutting.Parts.{parts_answer}
use Rattle.upon_std.specs.declared.cutting.parts.Parts.{Parts}
use Rattle.upon_std.specs.declared.cutting.parts.Parts.TheVariants.{Range, Slice, Concat, Pluck, Where, Sum, Split, Lines, Replace, Indent}
use Rattle.upon_std.specs.Encoding.Writing.{writing_answer}
use Rattle.upon_std.specs.declared.encoding.writing.Writing.{Writing}
use Rattle.upon_std.specs.declared.encoding.writing.Writing.TheVariants.{Json, Shell, Yaml, Url, Base64, Truncate, PadLeft, PadRight, Center}
use Rattle.upon_std.specs.Table.{standard_answer}
use Rattle.upon_std.specs.declared.table.StandardFunction.{StandardFunction}
use Rattle.upon_std.specs.declared.table.StandardFunction.TheVariants as standard
use Rattle.upon_shape_spec.specs.Declared.{GivesOf, KeepsSignature, KeepsSignatures, KeepsGiving, given_by}
use Rattle.upon_shape_spec.specs.Fits.{Fits}
use Rattle.upon_shape_spec.specs.Shape.{Shape, any_shape, integer_shape, list_of, map_each, optional, text_shape, truth_shape}
use Rattle.upon_shape_spec.proofs.ExpressionsFit.{signatures_kept}
use Rattle.upon_std_shapes.specs.Items.{takes_gives, item_shapes, group_shape}
use Rattle.upon_std_shapes.specs.Signatures.{comparing_signatures, texts_signatures, lists_signatures, basic_signatures, orders_signatures, parts_signatures, writing_signatures, standard_signatures}
use Rattle.upon_std_shapes.proofs.Arguments.{one_kept, each_kept, each_kept_and, one_argument, two_arguments, three_arguments, a_text, two_texts, a_list, a_list_and_text, a_map}
use Rattle.upon_std_shapes.proofs.Each.{in_list, as_vals, all_append, all_reverse, all_filter, all_distinct, all_map, all_made, all_at}
use Rattle.upon_std_shapes.proofs.Entries.{values_fit, at_key_fits}
use Rattle.upon_std_shapes.proofs.Groups.{groups_fit}
use Rattle.upon_std_shapes.proofs.Joining.{texts_joined}
use Rattle.upon_std_shapes.proofs.OneKind.{of_text, of_integer, of_list, of_map, held_or_none, held_or, value_or_fits, chosen}
use Rattle.upon_std_shapes.proofs.Sorted.{integers_ordered, texts_ordered, sorted_fits}

-- ---- comparing
any_two_kept : (f : Function) → ((v w : Val) → GivesOf (Some truth_shape) (f (v ∷ w ∷ []))) → KeepsSignatures f (takes_gives (any_shape ∷ any_shape ∷ []) truth_shape ∷ [])
any_two_kept f h = one_kept f (takes_gives (any_shape ∷ any_shape ∷ []) truth_shape) (two_arguments f any_shape any_shape truth_shape (λ v w x y. h v w))

integers_related : (relation : Relation) → KeepsSignature (comparing_answer (Ordered relation)) (takes_gives (integer_shape ∷ integer_shape ∷ []) truth_shape)
integers_related relation =
    let f = comparing_answer (Ordered relation) in
    two_arguments f integer_shape integer_shape truth_shape
    (λ v w h k. of_integer (λ v. GivesOf (Some truth_shape) (f (v ∷ w ∷ []))) (λ y. of_integer (λ w. GivesOf (Some truth_shape) (f (int_val y ∷ w ∷ []))) (λ z. refl) w k) v h)

texts_related : (relation : Relation) → KeepsSignature (comparing_answer (Ordered relation)) (takes_gives (text_shape ∷ text_shape ∷ []) truth_shape)
texts_related relation = two_texts (comparing_answer (Ordered relation)) truth_shape (λ t u. refl)

default_kept : (s : Shape) → KeepsSignature (comparing_answer Default) (takes_gives (optional s ∷ s ∷ []) s)
default_kept s = two_arguments (comparing_answer Default) (optional s) s s (value_or_fits s)

choose_kept : (s : Shape) → KeepsSignature (comparing_answer Choose) (takes_gives (any_shape ∷ s ∷ s ∷ []) s)
choose_kept s = three_arguments (comparing_answer Choose) any_shape s s s (λ c v w x h k. chosen (Fits s) (truth c) v w h k)

comparing_kept : (f : Comparing) → KeepsSignatures (comparing_answer f) (comparing_signatures f)
comparing_kept Equal = any_two_kept (comparing_answer Equal) (λ v w. refl)
comparing_kept NotEqual = any_two_kept (comparing_answer NotEqual) (λ v w. refl)
comparing_kept (Ordered relation) = (integers_related relation, (texts_related relation, tt))
comparing_kept Not = one_kept (comparing_answer Not) (takes_gives (any_shape ∷ []) truth_shape) (one_argument (comparing_answer Not) any_shape truth_shape (λ v h. refl))
comparing_kept And = any_two_kept (comparing_answer And) (λ v w. refl)
comparing_kept Or = any_two_kept (comparing_answer Or) (λ v w. refl)
comparing_kept Default = each_kept (comparing_answer Default) (λ s. takes_gives (optional s ∷ s ∷ []) s) default_kept item_shapes
comparing_kept Choose = each_kept (comparing_answer Choose) (λ s. takes_gives (any_shape ∷ s ∷ s ∷ []) s) choose_kept item_shapes

-- ---- texts
text_kept : (f : Function) → ((t : List ℕ) → GivesOf (Some text_shape) (f (text_val t ∷ []))) → KeepsSignatures f (takes_gives (text_shape ∷ []) text_shape ∷ [])
text_kept f h = one_kept f (takes_gives (text_shape ∷ []) text_shape) (a_text f text_shape h)

tested_kept : (f : Function) → ((t u : List ℕ) → GivesOf (Some truth_shape) (f (text_val t ∷ text_val u ∷ []))) → KeepsSignatures f (takes_gives (text_shape ∷ text_shape ∷ []) truth_shape ∷ [])
tested_kept f h = one_kept f (takes_gives (text_shape ∷ text_shape ∷ []) truth_shape) (two_texts f truth_shape h)

texts_kept : (f : Texts) → KeepsSignatures (texts_answer f) (texts_signatures f)
texts_kept Trim = text_kept (texts_answer Trim) (λ t. refl)
texts_kept Lower = text_kept (texts_answer Lower) (λ t. refl)
texts_kept Upper = text_kept (texts_answer Upper) (λ t. refl)
texts_kept StartsWith = tested_kept (texts_answer StartsWith) (λ t u. refl)
texts_kept EndsWith = tested_kept (texts_answer EndsWith) (λ t u. refl)
texts_kept Contains = tested_kept (texts_answer Contains) (λ t u. refl)
texts_kept Repeat = tt

-- ---- lists and maps
first_kept : (s : Shape) → KeepsSignature (lists_answer First) (takes_gives (list_of s ∷ []) (optional s))
first_kept s = a_list (lists_answer First) s (optional s) (λ vs h. held_or_none s (slice_get (vals_in_list vs) 0) (all_at (Fits s) (vals_in_list vs) 0 (in_list (Fits s) vs h)))

last_kept : (s : Shape) → KeepsSignature (lists_answer Last) (takes_gives (list_of s ∷ []) (optional s))
last_kept s =
    a_list (lists_answer Last) s (optional s)
    (λ vs h. let i = length (vals_in_list vs) - 1 in held_or_none s (slice_get (vals_in_list vs) i) (all_at (Fits s) (vals_in_list vs) i (in_list (Fits s) vs h)))

reverse_kept : (s : Shape) → KeepsSignature (lists_answer Reverse) (takes_gives (list_of s ∷ []) (list_of s))
reverse_kept s =
    a_list (lists_answer Reverse) s (list_of s)
    (λ vs h. as_vals (Fits s) (reverse (vals_in_list vs)) (all_reverse (Fits s) (vals_in_list vs) (in_list (Fits s) vs h)))

join_kept : KeepsSignature (lists_answer Join) (takes_gives (list_of text_shape ∷ text_shape ∷ []) text_shape)
join_kept = a_list_and_text (lists_answer Join) text_shape text_shape (λ vs t h. texts_joined [] t (vals_in_list vs) (in_list (Fits text_shape) vs h))

keys_kept : KeepsSignature (lists_answer Keys) (takes_gives (map_each any_shape ∷ []) (list_of text_shape))
keys_kept =
    a_map (lists_answer Keys) any_shape (list_of text_shape)
    (λ es rise h. as_vals (Fits text_shape) (map (λ e. text_val e.0) (entry_list es)) (all_made (Fits text_shape) (λ (e : List ℕ × Val). text_val e.0) (λ e. refl) (entry_list es)))

values_kept : (s : Shape) → KeepsSignature (lists_answer Values) (takes_gives (map_each s ∷ []) (list_of s))
values_kept s =
    a_map (lists_answer Values) s (list_of s)
    (λ es rise h. as_vals (Fits s) (map (λ e. e.1) (entry_list es)) (values_fit (Fits s) es rise h))

get_kept : (s : Shape) → KeepsSignature (lists_answer Get) (takes_gives (map_each s ∷ text_shape ∷ s ∷ []) s)
get_kept s =
    let f = lists_answer Get in
    three_arguments f (map_each s) text_shape s s
    (λ v w u h k x. of_map s (λ v. GivesOf (Some s) (f (v ∷ w ∷ u ∷ [])))
    (λ es rise at. of_text (λ w. GivesOf (Some s) (f (map_val es ∷ w ∷ u ∷ []))) (λ t. held_or (Fits s) (entry_at t es) u (at t) x) w k) v h)

lists_kept : (f : Lists) → KeepsSignatures (lists_answer f) (lists_signatures f)
lists_kept Length = tt
lists_kept First = each_kept (lists_answer First) (λ s. takes_gives (list_of s ∷ []) (optional s)) first_kept item_shapes
lists_kept Last = each_kept (lists_answer Last) (λ s. takes_gives (list_of s ∷ []) (optional s)) last_kept item_shapes
lists_kept Reverse = each_kept (lists_answer Reverse) (λ s. takes_gives (list_of s ∷ []) (list_of s)) reverse_kept item_shapes
lists_kept Join = (join_kept, tt)
lists_kept Keys = (keys_kept, tt)
lists_kept Values = each_kept (lists_answer Values) (λ s. takes_gives (map_each s ∷ []) (list_of s)) values_kept item_shapes
lists_kept Get = each_kept (lists_answer Get) (λ s. takes_gives (map_each s ∷ text_shape ∷ s ∷ []) s) get_kept item_shapes

basic_kept : (f : BasicFunction) → KeepsSignatures (basic_table.basic_answer f) (basic_signatures f)
basic_kept (basic.Comparing f) = comparing_kept f
basic_kept (basic.Integers f) = tt
basic_kept (basic.Texts f) = texts_kept f
basic_kept (basic.Lists f) = lists_kept f

-- ---- sorting and grouping
unique_kept : (s : Shape) → KeepsSignature (orders_answer Unique) (takes_gives (list_of s ∷ []) (list_of s))
unique_kept s =
    a_list (orders_answer Unique) s (list_of s)
    (λ vs h. as_vals (Fits s) (distinct val_eq (vals_in_list vs)) (all_distinct (Fits s) val_eq (vals_in_list vs) (in_list (Fits s) vs h)))

group_kept : (s t : Shape) → ((key : List ℕ) (v : Val) → Fits s v → Fits t (value_at_key key v)) → KeepsSignature (orders_answer GroupBy) (takes_gives (list_of s ∷ text_shape ∷ []) (list_of (group_shape s t)))
group_kept s t fits =
    a_list_and_text (orders_answer GroupBy) s (list_of (group_shape s t))
    (λ vs key h. as_vals (Fits (group_shape s t)) (grouped (value_at_key key) (vals_in_list vs)) (groups_fit s t (value_at_key key) (fits key) (vals_in_list vs) (in_list (Fits s) vs h)))

orders_kept : (f : Orders) → KeepsSignatures (orders_answer f) (orders_signatures f)
orders_kept Sort = (
  a_list (orders_answer Sort) integer_shape (list_of integer_shape) (sorted_fits integer_shape integers_ordered),
  (a_list (orders_answer Sort) text_shape (list_of text_shape) (sorted_fits text_shape texts_ordered), tt),
)
orders_kept SortBy = tt
orders_kept Unique = each_kept (orders_answer Unique) (λ s. takes_gives (list_of s ∷ []) (list_of s)) unique_kept item_shapes
orders_kept GroupBy =
    each_kept_and (orders_answer GroupBy)
    (λ s. takes_gives (list_of (map_each s) ∷ text_shape ∷ []) (list_of (group_shape (map_each s) (optional s))))
    (takes_gives (list_of any_shape ∷ text_shape ∷ []) (list_of (group_shape any_shape any_shape)))
    (λ s. group_kept (map_each s) (optional s) (at_key_fits s)) (group_kept any_shape any_shape (λ key v h. tt)) item_shapes

-- ---- parts
concat_kept : (s : Shape) → KeepsSignature (parts_answer Concat) (takes_gives (list_of s ∷ list_of s ∷ []) (list_of s))
concat_kept s =
    let f = parts_answer Concat in
    two_arguments f (list_of s) (list_of s) (list_of s)
    (λ v w h k. of_list s (λ v. GivesOf (Some (list_of s)) (f (v ∷ w ∷ [])))
    (λ vs x. of_list s (λ w. GivesOf (Some (list_of s)) (f (list_val vs ∷ w ∷ [])))
    (λ ws y. as_vals (Fits s) (vals_in_list vs ++ vals_in_list ws) (all_append (Fits s) (vals_in_list vs) (vals_in_list ws) (in_list (Fits s) vs x) (in_list (Fits s) ws y))) w k) v h)

pluck_kept : (s t : Shape) → ((key : List ℕ) (v : Val) → Fits s v → Fits t (value_at_key key v)) → KeepsSignature (parts_answer Pluck) (takes_gives (list_of s ∷ text_shape ∷ []) (list_of t))
pluck_kept s t fits =
    a_list_and_text (parts_answer Pluck) s (list_of t)
    (λ vs key h. as_vals (Fits t) (map (value_at_key key) (vals_in_list vs)) (all_map (Fits s) (Fits t) (value_at_key key) (fits key) (vals_in_list vs) (in_list (Fits s) vs h)))

where_kept : (s : Shape) → KeepsSignature (parts_answer Where) (takes_gives (list_of s ∷ text_shape ∷ any_shape ∷ []) (list_of s))
where_kept s =
    let f = parts_answer Where in
    three_arguments f (list_of s) text_shape any_shape (list_of s)
    (λ v w u h k x. of_list s (λ v. GivesOf (Some (list_of s)) (f (v ∷ w ∷ u ∷ [])))
    (λ vs y. of_text (λ w. GivesOf (Some (list_of s)) (f (list_val vs ∷ w ∷ u ∷ [])))
    (λ key. as_vals (Fits s) (filter (λ v. val_eq (value_at_key key v) u) (vals_in_list vs)) (all_filter (Fits s) (λ v. val_eq (value_at_key key v) u) (vals_in_list vs) (in_list (Fits s) vs y))) w k) v h)

lines_kept : KeepsSignature (parts_answer Lines) (takes_gives (text_shape ∷ []) (list_of text_shape))
lines_kept = a_text (parts_answer Lines) (list_of text_shape) (λ t. as_vals (Fits text_shape) (map text_val (lines t)) (all_made (Fits text_shape) text_val (λ x. refl) (lines t)))

parts_kept : (f : Parts) → KeepsSignatures (parts_answer f) (parts_signatures f)
parts_kept Range = tt
parts_kept Slice = tt
parts_kept Concat = each_kept (parts_answer Concat) (λ s. takes_gives (list_of s ∷ list_of s ∷ []) (list_of s)) concat_kept item_shapes
parts_kept Pluck =
    each_kept_and (parts_answer Pluck)
    (λ s. takes_gives (list_of (map_each s) ∷ text_shape ∷ []) (list_of (optional s)))
    (takes_gives (list_of any_shape ∷ text_shape ∷ []) (list_of any_shape))
    (λ s. pluck_kept (map_each s) (optional s) (at_key_fits s)) (pluck_kept any_shape any_shape (λ key v h. tt)) item_shapes
parts_kept Where = each_kept (parts_answer Where) (λ s. takes_gives (list_of s ∷ text_shape ∷ any_shape ∷ []) (list_of s)) where_kept item_shapes
parts_kept Sum = tt
parts_kept Split = tt
parts_kept Lines = (lines_kept, tt)
parts_kept Replace = tt
parts_kept Indent = tt

-- ---- writing
writing_kept : (f : Writing) → KeepsSignatures (writing_answer f) (writing_signatures f)
writing_kept Json = one_kept (writing_answer Json) (takes_gives (any_shape ∷ []) text_shape) (one_argument (writing_answer Json) any_shape text_shape (λ v h. refl))
writing_kept Shell = tt
writing_kept Yaml = text_kept (writing_answer Yaml) (λ t. refl)
writing_kept Url = text_kept (writing_answer Url) (λ t. refl)
writing_kept Base64 = text_kept (writing_answer Base64) (λ t. refl)
writing_kept Truncate = tt
writing_kept PadLeft = tt
writing_kept PadRight = tt
writing_kept Center = tt

-- ---- all of them
pub all_kept : (f : StandardFunction) → KeepsSignatures (standard_answer f) (standard_signatures f)
all_kept (standard.Basic f) = basic_kept f
all_kept (standard.Orders f) = orders_kept f
all_kept (standard.Parts f) = parts_kept f
all_kept (standard.Writing f) = writing_kept f

pub giving_kept : (f : StandardFunction) → KeepsGiving (standard_answer f) (given_by (standard_signatures f))
giving_kept f = signatures_kept (standard_answer f) (standard_signatures f) (all_kept f)
