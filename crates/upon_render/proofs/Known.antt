-- What a frame adds to what is known of a path.
use Rattle.std.proofs.Common.{◌≡◌, ℕ, List, [], ◌∷◌, ◌++◌, Bool, true, false, cond, Option, Some, None, Result, Ok, Err, refl}
use Rattle.std.specs.Str.{bytes_eq}
use Rattle.upon_types.specs.Cow.{cow_view}
use Rattle.upon_types.specs.Path.{Access, by_index, by_key, Member}
use Rattle.upon_types.specs.Val.{Val}
use Rattle.upon_types.specs.declared.error.Error.{Error}
use Rattle.upon_types.specs.declared.value.cow.ValueCow.{ValueCow}
use Rattle.upon_lookup.specs.Answer.{Answers, TellsFaultOrMemory, maybe_view, IsLent, IsLentIfAny, Lends}
use Rattle.upon_render.specs.Cursor.{lends_bound}
use Rattle.upon_lookup.specs.Environment.{Bound, Binding, Root, Environment, bind_all, first_bound, binding_of}
use Rattle.upon_lookup.specs.Finding.{Finding, found, at_fault}
use Rattle.upon_render.specs.Frames.{lends_bound_or}
use Rattle.upon_lookup.specs.Lookup.{bound_value, maybe_bound, bindings_walk}
use Rattle.upon_lookup.specs.Seen.{FindsMade, FindsSeen, TellsMade, TellsSeen}
use Rattle.upon_lookup.specs.Settled.{SettledPath, known_path, or_root_settles, FindsSettled}
use Rattle.upon_lookup.specs.declared.value.Found.{Found}
use Rattle.upon_lookup.specs.declared.value.Found.TheVariants.{Lent, Held, Unknown, Below}
use Rattle.upon_lookup.specs.declared.value.Made.{Made}
use Rattle.upon_lookup.specs.Walk.{as_some}

-- ---- bindings ahead of others
abbrev first_or : Option Bound → Option Bound → Option Bound
first_or (Some b) later = Some b
first_or None later = later

chosen : (here : Bool) (b : Bound) (x later : Option Bound) → cond here (Some b) (first_or x later) ≡ first_or (cond here (Some b) x) later
chosen true b x later = refl
chosen false b x later = refl

first_bound-append : (name : List ℕ) (bs cs : List Binding) → first_bound name (bs ++ cs) ≡ first_or (first_bound name bs) (first_bound name cs)
first_bound-append name [] cs = refl
first_bound-append name (b ∷ bs) cs = rw (first_bound-append name bs cs) (chosen (bytes_eq name b.name) b.bound (first_bound name bs) (first_bound name cs))

bound_to-append : (selector : Access) (bs cs : List Binding) → binding_of selector (bs ++ cs) ≡ first_or (binding_of selector bs) (binding_of selector cs)
bound_to-append (by_index n span) bs cs = refl
bound_to-append (by_key word) bs cs = first_bound-append word.text bs cs

pub bound_to-nil : (selector : Access) → binding_of selector [] ≡ None
bound_to-nil (by_index n span) = refl
bound_to-nil (by_key word) = refl

-- ---- what is bound, reported as what is known
found_of : (o : Finding Val) (v : Val) → as_some o ≡ found (Some v) → o ≡ found v
found_of (found w) v is = cc
found_of (at_fault fault) v is = absurd cc

never_none : (o : Finding Val) → as_some o ≡ found None → ⊥
never_none (found v) is = cc
never_none (at_fault fault) is = cc

settled_some : (o : Finding Val) (root : Root) (first : Member) (rest : List Member) → or_root_settles (as_some o) root first rest ≡ Some o
settled_some (found v) root first rest = refl
settled_some (at_fault fault) root first rest = refl

told_some : (source : List ℕ) (o : Finding Val) (error : Error) → TellsFaultOrMemory source (as_some o) error → TellsFaultOrMemory source o error
told_some source (found v) error told = told
told_some source (at_fault fault) error told = told

lent_some : (o : Finding Val) (error : Error) → Lends {A = Option ValueCow} IsLentIfAny (as_some o) (Err error) → Lends {A = ValueCow} IsLent o (Err error)
lent_some (found v) error lent = lent
lent_some (at_fault fault) error lent = lent

abbrev known_by : Option Bound → Bool → Root → Member → List Member → SettledPath
known_by bound lent root first rest = record { settled = or_root_settles (maybe_bound bound rest) root first rest; is_lent = lent }

bound_finds : (source : List ℕ) (r : Result (Option ValueCow) Error) (x y : Option Bound) (own lent : Bool) (root : Root) (first : Member) (rest : List Member)
    → Answers maybe_view source (maybe_bound x rest) r → (lends_bound own x ≡ true → Lends IsLentIfAny (maybe_bound x rest) r)
    → FindsSettled source (known_by (first_or x y) (lends_bound_or own x lent) root first rest) (known_by y lent root first rest) r
bound_finds source (Ok None) None y own lent root first rest answer lends = refl
bound_finds source (Ok (Some v)) None y own lent root first rest answer lends = absurd cc
bound_finds source (Err error) None y own lent root first rest answer lends = absurd (lends refl)
bound_finds source (Ok None) (Some b) y own lent root first rest answer lends = absurd (never_none (bound_value b rest) answer)
bound_finds source (Ok (Some v)) (Some b) y own lent root first rest answer lends =
    (bound_value b rest, (settled_some (bound_value b rest) root first rest, found_of (bound_value b rest) (cow_view v) answer, lends))
bound_finds source (Err error) (Some b) y own lent root first rest answer lends =
    (bound_value b rest, (settled_some (bound_value b rest) root first rest, told_some source (bound_value b rest) error answer, λ is. lent_some (bound_value b rest) error (lends is)))

-- a frame that binds these names, over an environment
pub frame_finds : (source : List ℕ) (r : Result (Option ValueCow) Error) (bs : List Binding) (env : Environment) (own lent : Bool) (first : Member) (rest : List Member)
    → Answers maybe_view source (bindings_walk bs first rest) r → (lends_bound own (binding_of first.access bs) ≡ true → Lends IsLentIfAny (bindings_walk bs first rest) r)
    → FindsSettled source (known_path (bind_all bs env) (lends_bound_or own (binding_of first.access bs) lent) first rest) (known_path env lent first rest) r
frame_finds source r bs env own lent first rest answer lends =
    rw (bound_to-append first.access bs env.bindings) (bound_finds source r (binding_of first.access bs) (binding_of first.access env.bindings) own lent env.root first rest answer lends)

-- ---- the same of a search by references
bound_lends : (r : Found) (x y : Option Bound) (own lent : Bool) (root : Root) (first : Member) (rest : List Member)
    → TellsSeen (maybe_bound x rest) r
    → FindsSeen (known_by (first_or x y) (lends_bound_or own x lent) root first rest) (known_by y lent root first rest) r
bound_lends (Lent v) None y own lent root first rest tells = absurd cc
bound_lends (Held v) None y own lent root first rest tells = absurd cc
bound_lends Unknown None y own lent root first rest tells = tt
bound_lends Below None y own lent root first rest tells = refl
bound_lends (Lent v) (Some b) y own lent root first rest tells = rw tells refl
bound_lends (Held v) (Some b) y own lent root first rest tells = rw tells refl
bound_lends Unknown (Some b) y own lent root first rest tells = tt
bound_lends Below (Some b) y own lent root first rest tells = absurd (never_none (bound_value b rest) tells)

-- a frame that binds these names, over an environment
pub frame_lends_so : (r : Found) (bs : List Binding) (env : Environment) (own lent : Bool) (first : Member) (rest : List Member)
    → TellsSeen (bindings_walk bs first rest) r
    → FindsSeen (known_path (bind_all bs env) (lends_bound_or own (binding_of first.access bs) lent) first rest) (known_path env lent first rest) r
frame_lends_so r bs env own lent first rest tells =
    rw (bound_to-append first.access bs env.bindings) (bound_lends r (binding_of first.access bs) (binding_of first.access env.bindings) own lent env.root first rest tells)

-- ---- and of what a loop says of itself
bound_made : (r : Option Made) (x y : Option Bound) (own lent : Bool) (root : Root) (first : Member) (rest : List Member)
    → TellsMade (maybe_bound x rest) r → FindsMade (known_by (first_or x y) (lends_bound_or own x lent) root first rest) r
bound_made None x y own lent root first rest tells = tt
bound_made (Some made) None y own lent root first rest tells = absurd cc
bound_made (Some made) (Some b) y own lent root first rest tells = rw tells refl

pub frame_makes : (r : Option Made) (bs : List Binding) (env : Environment) (own lent : Bool) (first : Member) (rest : List Member)
    → TellsMade (bindings_walk bs first rest) r → FindsMade (known_path (bind_all bs env) (lends_bound_or own (binding_of first.access bs) lent) first rest) r
frame_makes r bs env own lent first rest tells =
    rw (bound_to-append first.access bs env.bindings) (bound_made r (binding_of first.access bs) (binding_of first.access env.bindings) own lent env.root first rest tells)
