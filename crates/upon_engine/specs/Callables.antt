-- What a callable of an engine denotes.
use Rattle.std.specs.declared.alloc.Global.{Global}
use Rattle.std.specs.declared.dyn_box.DynBox.{DynBox}
use Rattle.upon_types.specs.Answers.{Callable, Formatter, Function, formatter, function}
use Rattle.upon_engine.specs.declared.engine.Callable.{Callable as Boxes}
use Rattle.upon_engine.specs.declared.engine.Callable.TheVariants.{Formatter as FormatterBox, Function as FunctionBox}

-- what a box denotes, by its ghost member
abbrev pub callable_of : {X Y : Type 0} {P : X → Type 0} {Q : Y → Type 0} → (DynBox X Global P → Formatter)
    → (DynBox Y Global Q → Function) → Boxes X Y P Q → Callable
callable_of formats answers (FormatterBox f) = formatter (formats f)
callable_of formats answers (FunctionBox f) = function (answers f)
