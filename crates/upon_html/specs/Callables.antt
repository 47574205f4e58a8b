-- What escaping callables are made of.
use Rattle.upon_html.specs.declared.callables.Escaping.{Escaping}

-- the callables that escape
abbrev pub callables_in : {C : Type 0} → Escaping C → C
callables_in e = e.callables
