-- What the misfits of a program denote, and what they say of a template that is not accepted.
use Rattle.std.specs.Prelude.{◌≡◌, ◌⊎◌, ℕ, List, [], ◌++◌, ◌∷◌, map, Option, Some, None}
use Rattle.upon_types.specs.declared.types.Span.{Span}
use Rattle.upon_meaning_spec.specs.Engine.{Table, Template}
use Rattle.upon_shape_spec.specs.Accepted.{Planned, is_planned}
use Rattle.upon_shape_spec.specs.Declared.{Declared}
use Rattle.upon_shape_spec.specs.Doubted as spec
use Rattle.upon_shape_spec.specs.Doubts.{Doubt, statements_doubts}
use Rattle.upon_shape_spec.specs.Scope.{scope_over}
use Rattle.upon_shape_spec.specs.Shape.{Shape}
use Rattle.upon_engine.specs.Texts.{Texts}
use Rattle.upon_engine.specs.Theorem.{IsTable}
use Rattle.upon_shape_check.specs.Doubt.{doubt_view}
use Rattle.upon_shape_check.specs.Verdict.{IsDeepAt}
use Rattle.upon_shape_check.specs.declared.plan.TheConstants.{MOST_PLANNED}
use Rattle.upon_shape_check.specs.declared.refusal.Misfit.{Misfit}
use Rattle.upon_shape_check.specs.declared.refusal.Refusal.{Refusal}
use Rattle.upon_shape_check.specs.declared.refusal.Refusal.TheVariants.{NoTemplate, Misfits, TooDeep, Memory}

-- a misfit
abbrev pub misfit_view : Misfit → spec.PlaceInDoubt
misfit_view m = record { template = m.template.now; doubt = doubt_view m.doubt }

-- misfits, in their order
abbrev pub misfits_view : List Misfit → List spec.PlaceInDoubt
misfits_view ms = map misfit_view ms

-- doubts, each of the template of this name
abbrev pub misfits_of : List ℕ → List Doubt → List spec.PlaceInDoubt
misfits_of name ds = map (λ d. record { template = name; doubt = d }) ds

-- the misfits of a template on a scope, where includes are those that a plan has
abbrev pub template_misfits : Declared → List Planned → Planned → Option Template → List spec.PlaceInDoubt
template_misfits declared plan p None = []
template_misfits declared plan p (Some t) =
    misfits_of p.name (statements_doubts declared (is_planned plan) p.scope t.tree)

-- those of each of some templates, one after the other
abbrev pub each_misfits : Declared → Table → List Planned → List Planned → List spec.PlaceInDoubt
each_misfits declared table plan [] = []
each_misfits declared table plan (p ∷ rest) =
    template_misfits declared plan p (table p.name) ++ each_misfits declared table plan rest

-- if a template is not accepted on a shape because of misfits, there is one, and each is really in doubt; if a literal
-- is too deep for a check, that is so of a template that is reached
abbrev pub DoubtedOn : Texts → Declared → List ℕ → Shape → Refusal → Type 0
DoubtedOn e declared name s (Misfits ms) = (table : Table) → IsTable e.texts table
    → spec.AreDoubted declared table (spec.planned name (scope_over s)) MOST_PLANNED (misfits_view ms.items)
DoubtedOn e declared name s NoTemplate = Unit {0}
DoubtedOn e declared name s (TooDeep at place) = (p : Planned) × (p.name ≡ at.now) × ((table : Table)
    → IsTable e.texts table
    → spec.IsReached declared table (spec.planned name (scope_over s)) p × IsDeepAt declared table p place)
DoubtedOn e declared name s (Memory error) = Unit {0}

-- if it is not as there is no such template, no text is held under the name
abbrev pub IsMissing : Texts → List ℕ → Refusal → Type 0
IsMissing e name NoTemplate = e.texts name ≡ None
IsMissing e name (Misfits ms) = Unit {0}
IsMissing e name (TooDeep at place) = Unit {0}
IsMissing e name (Memory error) = Unit {0}

-- it is not as memory is out
abbrev pub IsNoMemory : Refusal → Type 0
IsNoMemory NoTemplate = ⊥
IsNoMemory (Misfits ms) = ⊥
IsNoMemory (TooDeep at place) = ⊥
IsNoMemory (Memory error) = Unit {0}

-- places are in doubt in the template of a name or in those that it reaches, if it is asked on a shape
abbrev pub HasDoubts : Texts → Declared → List ℕ → Shape → Type 0
HasDoubts e declared name s = (ms : List spec.PlaceInDoubt) × ((table : Table) → IsTable e.texts table
    → spec.AreDoubted declared table (spec.planned name (scope_over s)) MOST_PLANNED ms)

-- something is put into a literal that is too deep for a check, in this template or in one that it reaches
abbrev pub HasDeepLiteral : Texts → Declared → List ℕ → Shape → Type 0
HasDeepLiteral e declared name s = (p : Planned) × (place : Span) × ((table : Table) → IsTable e.texts table
    → spec.IsReached declared table (spec.planned name (scope_over s)) p × IsDeepAt declared table p place)

-- why it isn't known that a template ends well on each value of a shape: no text is held under the name, places are in
-- doubt, or a literal is too deep
abbrev pub IsUnsureOn : Texts → Declared → List ℕ → Shape → Type 0
IsUnsureOn e declared name s =
    (e.texts name ≡ None) ⊎ (HasDoubts e declared name s ⊎ HasDeepLiteral e declared name s)
