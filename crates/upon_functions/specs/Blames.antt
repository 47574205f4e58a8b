-- Which argument an answer blames: one that is given, and only an integer for being out of range.
use Rattle.std.specs.Prelude.{List, Option, Some, None, slice_get}
use Rattle.upon_types.specs.Misfits.{IsFair}
use Rattle.upon_types.specs.Answers.{Answer, Misfit, gives, wrong_number, wrong_argument, declines}
use Rattle.upon_types.specs.Val.{Val}

-- an answer that blames an argument blames one that is given, and only an integer for being out of range
abbrev pub IsFairAt : Option Val → Misfit → Type 0
IsFairAt None misfit = ⊥
IsFairAt (Some v) misfit = IsFair v (Some misfit)

-- a wrong argument is one of those that were given, and a fair one
abbrev pub BlamesGiven : List Val → Answer → Type 0
BlamesGiven vs (gives v) = Unit {0}
BlamesGiven vs (wrong_number n) = Unit {0}
BlamesGiven vs (wrong_argument i misfit) = IsFairAt (slice_get vs i) misfit
BlamesGiven vs (declines text) = Unit {0}
