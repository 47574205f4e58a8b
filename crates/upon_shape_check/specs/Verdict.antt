-- Templates that a plan accepts, one by one, and what is in doubt in the others.
use Rattle.std.specs.Prelude.{◌≡◌, List, None}
use Rattle.upon_types.specs.declared.types.Span.{Span}
use Rattle.upon_meaning_spec.specs.Engine.{Table}
use Rattle.upon_meaning_spec.specs.MapOrder.{IsAmong}
use Rattle.upon_machine_spec.specs.Code.{program_of}
use Rattle.upon_shape_spec.specs.Accepted.{OnSome, StatementsAccepted, IncludedBy, Planned, is_planned}
use Rattle.upon_shape_spec.specs.Declared.{Declared}
use Rattle.upon_shape_spec.specs.Doubted.{IsReached}
use Rattle.upon_shape_spec.specs.Doubts.{Doubt, statements_doubts}
use Rattle.upon_shape_spec.specs.Known.{known_at_begin}
use Rattle.upon_shape_check.specs.DeepLiterals.{program_too_deep}
use Rattle.upon_shape_check.specs.declared.refusal.Refusal.{Refusal}
use Rattle.upon_shape_check.specs.declared.refusal.Refusal.TheVariants.{NoTemplate, Misfits, TooDeep, Memory}

-- there is a template of the name, which is accepted on the scope, where includes are those that the plan has
abbrev pub IsAcceptedBy : Declared → Table → List Planned → Planned → Type 0
IsAcceptedBy declared table plan asked =
    OnSome (table asked.name) (λ t. StatementsAccepted declared (IncludedBy plan) asked.scope t.tree)

-- there is a template of the name, and these are in doubt in it on the scope, where includes are those that the plan
-- has
abbrev pub AreDoubtsOf : Declared → Table → List Planned → Planned → List Doubt → Type 0
AreDoubtsOf declared table plan asked ds =
    OnSome (table asked.name) (λ t. ds ≡ statements_doubts declared (is_planned plan) asked.scope t.tree)

-- something is put into a literal of a template on a scope that is too deep for a check; the literal is here
abbrev pub IsDeepAt : Declared → Table → Planned → Span → Type 0
IsDeepAt declared table asked place = (plan : List Planned) × OnSome (table asked.name) (λ t.
    IsAmong place (program_too_deep declared (is_planned plan) 0 (known_at_begin asked.scope) (program_of t.tree)))

-- why the doubts of a template are not told: there is none of the name, a literal is too deep, or memory is out
abbrev pub IsUntold : Declared → Table → Planned → Refusal → Type 0
IsUntold declared table asked NoTemplate = table asked.name ≡ None
IsUntold declared table asked (Misfits ms) = ⊥
IsUntold declared table asked (TooDeep at place) = (asked.name ≡ at.now) × IsDeepAt declared table asked place
IsUntold declared table asked (Memory error) = Unit {0}

-- why the doubts of one of some templates are not told
abbrev pub IsUntoldAmong : Declared → Table → List Planned → Refusal → Type 0
IsUntoldAmong declared table plan NoTemplate = (p : Planned) × IsAmong p plan × (table p.name ≡ None)
IsUntoldAmong declared table plan (Misfits ms) = ⊥
IsUntoldAmong declared table plan (TooDeep at place) =
    (p : Planned) × IsAmong p plan × (p.name ≡ at.now) × IsDeepAt declared table p place
IsUntoldAmong declared table plan (Memory error) = Unit {0}

-- why the doubts of a template and of those that it reaches are not told
abbrev pub IsUntoldFrom : Declared → Table → Planned → Refusal → Type 0
IsUntoldFrom declared table asked NoTemplate = table asked.name ≡ None
IsUntoldFrom declared table asked (Misfits ms) = ⊥
IsUntoldFrom declared table asked (TooDeep at place) =
    (p : Planned) × IsReached declared table asked p × (p.name ≡ at.now) × IsDeepAt declared table p place
IsUntoldFrom declared table asked (Memory error) = Unit {0}
