-- What renderings and checks give by one table of the trees of the texts that an engine holds.
use Rattle.std.specs.Prelude.{◌≡◌, ◌⊎◌, ℕ, List, [], ◌∷◌, Some, None}
use Rattle.upon_types.specs.declared.types.Span.{Span}
use Rattle.upon_types.specs.Fault.{Fault}
use Rattle.upon_types.specs.Tree.{Statements}
use Rattle.upon_types.specs.Val.{Val}
use Rattle.upon_language_spec.specs.Grammar.{HasTree}
use Rattle.upon_meaning_spec.specs.Alone.{fault_of_end}
use Rattle.upon_meaning_spec.specs.CallFaults.{depth_reached}
use Rattle.upon_meaning_spec.specs.Engine.{Table, Template}
use Rattle.upon_shape_spec.specs.Accepted.{Planned}
use Rattle.upon_shape_spec.specs.Declared.{Declared}
use Rattle.upon_shape_spec.specs.Doubted.{planned, AreDoubted, IsReached, PlaceInDoubt}
use Rattle.upon_shape_spec.specs.Fits.{Fits}
use Rattle.upon_shape_spec.specs.Scope.{scope_over}
use Rattle.upon_shape_spec.specs.Shape.{Shape}
use Rattle.upon_vm.specs.declared.limits.Limits.{Limits}
use Rattle.upon_engine.specs.Texts.{Stored, Texts}
use Rattle.upon_engine.specs.Theorem.{meaning}
use Rattle.upon_shape_check.specs.Pictures.{ShownSoFar, ShowsWhy, Spot, nothing_shown, spots_of}
use Rattle.upon_shape_check.specs.Verdict.{IsDeepAt}
use Rattle.upon_shape_check.specs.declared.plan.TheConstants.{MOST_PLANNED}
use Rattle.upon_calls.specs.Rendering.{EndsWithBy, IsFirstFaultOf}

-- the rendering of the template of a name on a value ends with a fault
abbrev pub FailsNamedBy : Limits → Texts → Table → List ℕ → Val → Fault → Type 0
FailsNamedBy limits e table name v fault = (held : Stored) × (tree : Statements) × (e.texts name ≡ Some held)
    × ∥ HasTree held.syntax held.text tree ∥₁ × EndsWithBy limits e table (Some name) held.text tree v fault

-- a text has a first fault, or its rendering on a value ends with one
abbrev pub FailsTextBy : Limits → Texts → Table → List ℕ → Val → Fault → Type 0
FailsTextBy limits e table source v fault = IsFirstFaultOf e.syntax source fault
    ⊎ ((tree : Statements) × HasTree e.syntax source tree × EndsWithBy limits e table None source tree v fault)

-- what the template that a table has of a name means on each value of a shape ends without a fault, but that includes
-- may be too deep one inside another
abbrev pub NamedEnds : Texts → Table → List ℕ → Shape → Type 0
NamedEnds e table name s = (t : Template) × (table name ≡ Some t) × ((v : Val) (f : Fault) → Fits s v
    → fault_of_end e.depth (meaning e table (Some name) t.source t.tree v).end ≡ Some f → f ≡ depth_reached e.depth)

-- by what is declared of what templates call, it is in doubt whether what the template that a table has of a name means
-- ends well on each value of a shape: places are in doubt in it or in those that it reaches; or something is put into a
-- literal there that is too deep for a check
abbrev pub NamedUnsure : Declared → Table → List ℕ → Shape → Type 0
NamedUnsure declared table name s =
    ((ms : List PlaceInDoubt) × AreDoubted declared table (planned name (scope_over s)) MOST_PLANNED ms)
    ⊎ ((p : Planned) × (place : Span) × IsReached declared table (planned name (scope_over s)) p
    × IsDeepAt declared table p place)

-- why it isn't known by a table that the template of a name ends well on each value of a shape, and at which places: no
-- text is held under the name, and there is no place; or these are in doubt; or it is a literal that is too deep
abbrev pub NamedUnsureAt : Texts → Declared → Table → List ℕ → Shape → List Spot → Type 0
NamedUnsureAt e declared table name s spots = ((e.texts name ≡ None) × (spots ≡ []))
    ⊎ (((ms : List PlaceInDoubt) × (spots ≡ spots_of ms)
    × AreDoubted declared table (planned name (scope_over s)) MOST_PLANNED ms)
    ⊎ ((p : Planned) × (place : Span) × (spots ≡ record { template = p.name; span = place } ∷ [])
    × IsReached declared table (planned name (scope_over s)) p × IsDeepAt declared table p place))

-- of pages, one after the other, nothing is shown, or the places for which it isn't known by a table that they end well
abbrev pub ShowsPagesBy : Texts → Declared → Table → Shape → List (List ℕ) → ShownSoFar → ShownSoFar → Type 0
ShowsPagesBy e declared table s [] old new = new ≡ old
ShowsPagesBy e declared table s (name ∷ names) old new = (between : ShownSoFar)
    × ((between ≡ old) ⊎ ((spots : List Spot) × NamedUnsureAt e declared table name s spots
    × ShowsWhy e spots old between)) × ShowsPagesBy e declared table s names between new

-- a text is what is shown of pages by a table, of at most a hundred places
abbrev pub IsShownBy : Texts → Declared → Table → Shape → List (List ℕ) → List ℕ → Type 0
IsShownBy e declared table s names text = (left : ℕ)
    × ShowsPagesBy e declared table s names nothing_shown (record { left = left; text = text })
