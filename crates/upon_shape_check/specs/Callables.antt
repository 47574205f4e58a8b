-- What is declared of callables, by their names.
use Rattle.std.specs.Prelude.{map, option_map}
use Rattle.std.specs.BTreeMap.{get_by_text}
use Rattle.upon_shape_spec.specs.Declared as spec
use Rattle.upon_shape.specs.View.{shape_view}
use Rattle.upon_shape_check.specs.declared.declared.Declared.{Declared}
use Rattle.upon_shape_check.specs.declared.declared.DeclaredCallable.{DeclaredCallable}
use Rattle.upon_shape_check.specs.declared.declared.DeclaredCallable.TheVariants.{Gives, Formats}
use Rattle.upon_shape_check.specs.declared.declared.Signature.{Signature}

-- a signature
abbrev pub signature_view : Signature → spec.Signature
signature_view signature = record { takes = map shape_view signature.takes.items; gives = shape_view signature.gives }

-- a function by what it gives by its signatures, or a formatter
abbrev pub callable_view : DeclaredCallable → spec.DeclaredCallable
callable_view (Gives signatures) = spec.gives_by (spec.given_by (map signature_view signatures.items))
callable_view (Formats shape) = spec.formats (shape_view shape)

-- all that is declared
abbrev pub declared_view : Declared → spec.Declared
declared_view declared = record {
  callables = λ name. option_map callable_view (get_by_text declared.callables name);
  default_formats = shape_view declared.default_formats;
}
