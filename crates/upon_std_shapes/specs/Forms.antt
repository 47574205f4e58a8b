-- How the program names shapes: those of items, and those that are made of one.
use Rattle.std.specs.Prelude.{List, map}
use Rattle.upon_shape_spec.specs.Declared.{Signature}
use Rattle.upon_shape_spec.specs.Shape.{Shape, any_shape, integer_shape, list_of, map_each, optional, shown_values, text_shape, truth_shape}
use Rattle.upon_std_shapes.specs.Items.{takes_gives, group_shape}
use Rattle.upon_std_shapes.specs.declared.form.Form.{Form}
use Rattle.upon_std_shapes.specs.declared.form.Form.TheVariants as form
use Rattle.upon_std_shapes.specs.declared.form.Item.{Item}
use Rattle.upon_std_shapes.specs.declared.form.Item.TheVariants as item

-- the shape that an item's name stands for
abbrev pub shape_of_item : Item → Shape
shape_of_item item.Text = text_shape
shape_of_item item.Integer = integer_shape
shape_of_item item.Truth = truth_shape
shape_of_item item.Shown = shown_values
shape_of_item item.ListOfText = list_of text_shape
shape_of_item item.ListOfShown = list_of shown_values
shape_of_item item.ListOfAny = list_of any_shape
shape_of_item item.MapOfText = map_each text_shape
shape_of_item item.MapOfShown = map_each shown_values
shape_of_item item.MapOfAny = map_each any_shape
shape_of_item item.Any = any_shape

-- a shape that is made of that of an item
abbrev pub shape_of_form : Form → Shape → Shape
shape_of_form form.Any s = any_shape
shape_of_form form.Truth s = truth_shape
shape_of_form form.Text s = text_shape
shape_of_form form.Texts s = list_of text_shape
shape_of_form form.One s = s
shape_of_form form.OneOrNone s = optional s
shape_of_form form.List s = list_of s
shape_of_form form.ListOrNone s = list_of (optional s)
shape_of_form form.Map s = map_each s
shape_of_form form.Maps s = list_of (map_each s)
shape_of_form form.Groups s = list_of (group_shape s any_shape)
shape_of_form form.GroupsOfMaps s = list_of (group_shape (map_each s) (optional s))

-- a signature by forms, where an item has this shape
abbrev pub signature_by : List Form → Form → Shape → Signature
signature_by taken given s = takes_gives (map (λ f. shape_of_form f s) taken) (shape_of_form given s)
