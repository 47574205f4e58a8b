-- The shape of what an expression comes to, where it is sure to come to something; and whether it is sure to be shown.
use Rattle.std.specs.Prelude.{List, [], ◌∷◌, Bool, true, false, Option, Some, None, option_map, option_and_then}
use Rattle.upon_types.specs.Expression.{Expression, base, filtered, Base, var, literal, list, mapping, paren, call, Bases, no_bases, base_then, Items, no_items, item_then, Arguments, no_arguments, arguments}
use Rattle.upon_types.specs.Val.{Val, none_val, bool_val, int_val, text_val, list_val, map_val}
use Rattle.upon_shape_spec.specs.Declared.{DeclaredCallable, gives_by, formats, Declared}
use Rattle.upon_shape_spec.specs.Join.{join_shapes}
use Rattle.upon_shape_spec.specs.Scope.{Scope, path_shape}
use Rattle.upon_shape_spec.specs.Shape.{Shape, any_shape, Keys, key_then, never, none_shape, truth_shape, integer_shape, text_shape, list_of, map_of, no_others, keys_without}
use Rattle.upon_shape_spec.specs.Wider.{wider}

-- of a literal, which is no list and no map in a text
abbrev pub literal_shape : Val → Shape
literal_shape none_val = none_shape
literal_shape (bool_val b) = truth_shape
literal_shape (int_val n) = integer_shape
literal_shape (text_val bytes) = text_shape
literal_shape (list_val vs) = any_shape
literal_shape (map_val es) = any_shape

-- a shape with others joined to it, one after another
abbrev pub join_onto : Shape → List Shape → Shape
join_onto joined [] = joined
join_onto joined (s ∷ ss) = join_onto (join_shapes joined s) ss

-- shapes joined
abbrev pub join_all : List Shape → Shape
join_all ss = join_onto never ss

-- a shape ahead of others
abbrev pub shape_then : Option Shape → Option (List Shape) → Option (List Shape)
shape_then None others = None
shape_then (Some s) None = None
shape_then (Some s) (Some ss) = Some (s ∷ ss)

-- what a callable gives where its value is not shown: a formatter gives none
abbrev pub value_given : Option DeclaredCallable → List Shape → Option Shape
value_given None shapes = None
value_given (Some (gives_by given)) shapes = given shapes
value_given (Some (formats s)) shapes = None

-- what a callable gives where its value is not shown, if all the arguments come to something; else nothing
abbrev pub call_shape : Option DeclaredCallable → Option (List Shape) → Option Shape
call_shape callable None = None
call_shape callable (Some shapes) = value_given callable shapes

-- it comes to something of which all is taken
abbrev pub is_taken : Shape → Option Shape → Bool
is_taken s None = false
is_taken s (Some t) = wider s t

-- a formatter is given one value
abbrev pub is_formatted : Shape → List Shape → Bool
is_formatted s [] = false
is_formatted s (t ∷ []) = wider s t
is_formatted s (t ∷ next ∷ ts) = false

-- what a callable gives is shown
abbrev pub shows_given : Shape → Option DeclaredCallable → List Shape → Bool
shows_given default None shapes = false
shows_given default (Some (gives_by given)) shapes = is_taken default (given shapes)
shows_given default (Some (formats s)) shapes = is_formatted s shapes

-- all the arguments come to something, and what a callable gives for them is shown
abbrev pub shows_call : Shape → Option DeclaredCallable → Option (List Shape) → Bool
shows_call default callable None = false
shows_call default callable (Some shapes) = shows_given default callable shapes

module _ (declared : Declared) (scope : Scope) where
  abbrev mutual
    -- the shape of what an expression comes to; none where it may come to a fault
    pub expression_shape : Expression → Option Shape
    expression_shape (base b) = base_shape b
    expression_shape (filtered receiver name args span) =
        call_shape (declared.callables name.text) (shape_then (expression_shape receiver) (arguments_shapes args))

    -- the shape of what an expression without a filter comes to; none where it may come to a fault
    pub base_shape : Base → Option Shape
    base_shape (var first rest) = path_shape scope first rest
    base_shape (literal v span) = Some (literal_shape v)
    base_shape (list bases span) = option_map (λ shapes. list_of (join_all shapes)) (bases_shapes bases)
    base_shape (mapping items span) = option_map map_of (items_keys items no_others)
    base_shape (paren e span) = expression_shape e
    base_shape (call name args span) = call_shape (declared.callables name.text) (arguments_shapes args)

    -- of each of some
    pub bases_shapes : Bases → Option (List Shape)
    bases_shapes no_bases = Some []
    bases_shapes (base_then b bs) = shape_then (base_shape b) (bases_shapes bs)

    -- the keys so far, and then these, of which the last counts
    pub items_keys : Items → Keys → Option Keys
    items_keys no_items ks = Some ks
    items_keys (item_then key b items) ks =
        option_and_then (λ s. items_keys items (key_then key.text true s (keys_without key.text ks))) (base_shape b)

    -- of each argument
    pub arguments_shapes : Arguments → Option (List Shape)
    arguments_shapes no_arguments = Some []
    arguments_shapes (arguments bases span) = bases_shapes bases

  abbrev mutual
    -- an expression is shown without a fault
    pub is_shown : Expression → Bool
    is_shown (base b) = base_is_shown b
    is_shown (filtered receiver name args span) =
        shows_call declared.default_formats (declared.callables name.text)
        (shape_then (expression_shape receiver) (arguments_shapes args))

    -- an expression without a filter is shown without a fault; parentheses make no difference
    pub base_is_shown : Base → Bool
    base_is_shown (paren e span) = is_shown e
    base_is_shown (call name args span) =
        shows_call declared.default_formats (declared.callables name.text) (arguments_shapes args)
    base_is_shown (var first rest) = is_taken declared.default_formats (base_shape (var first rest))
    base_is_shown (literal v span) = is_taken declared.default_formats (base_shape (literal v span))
    base_is_shown (list bases span) = is_taken declared.default_formats (base_shape (list bases span))
    base_is_shown (mapping items span) = is_taken declared.default_formats (base_shape (mapping items span))
