-- How a context is refused.
use Rattle.std.specs.Prelude.{◌≡◌, ◌⊎◌}
use Rattle.upon_types.specs.Fault.{Fault, serialize, out_of_memory}

-- it is no value, or memory was out
abbrev pub IsRefusal : Fault → Type 0
IsRefusal fault = (fault.kind ≡ serialize) ⊎ (fault ≡ out_of_memory)
