-- What a message calls each kind of value.
use Rattle.std.specs.Prelude.{ℕ, List, codes}
use Rattle.upon_types.specs.declared.value.kind.ValueKind.{ValueKind}
use Rattle.upon_types.specs.declared.value.kind.ValueKind.TheVariants.{None, Bool, Integer, String, List as ListKind, Map}

-- the words of a kind of value
abbrev pub kind_name : ValueKind → List ℕ
kind_name None = codes "none"
kind_name Bool = codes "bool"
kind_name Integer = codes "integer"
kind_name String = codes "string"
kind_name ListKind = codes "list"
kind_name Map = codes "map"
