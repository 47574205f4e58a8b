-- The turns of a block can only be found where its names are sure, and each of its branches then fits its scope: a row for each kind.
use Rattle.std.proofs.Common.{◌≡◌, ℕ, ◌+◌, List, [], ◌∷◌, length, Bool, true, false, not, Option, Some, None, IfSome, refl, codes}
use Rattle.upon_types.specs.declared.types.Span.{Span}
use Rattle.upon_types.specs.Expression.{Expression}
use Rattle.upon_types.specs.BlockKinds.{Opening, if_tag, for_tag, with_tag}
use Rattle.upon_types.specs.Truth.{truth}
use Rattle.upon_types.specs.Val.{Val}
use Rattle.upon_lookup.specs.Environment.{Binding, Environment, bind_all, binding, loop_state, plain}
use Rattle.upon_lookup.specs.Finding.{Finding, found, at_fault}
use Rattle.upon_lookup.specs.Items.{items_of}
use Rattle.upon_meaning_spec.specs.Meaning.{choose, loop_turns, turns_over, turns}
use Rattle.upon_shape_spec.specs.Accepted.{loop_names, iteration_names, branches}
use Rattle.upon_shape_spec.specs.Fits.{Fits}
use Rattle.upon_shape_spec.specs.Narrowed.{true_scope, tested_scope}
use Rattle.upon_shape_spec.specs.Scope.{value_of, NameShape, Scope, name_shape, with_names, ScopeFits}
use Rattle.upon_shape_spec.specs.Shape.{Shape}
use Rattle.upon_shape_spec.proofs.ScopesFit.{more_names, ItemsFit, LoopFits, loop_fits}

-- the scope is fitted in each of these turns
abbrev pub EachTurnFits : Scope → Environment → List (List Binding) → Type 0
EachTurnFits inside env [] = Unit {0}
EachTurnFits inside env (bs ∷ more) = ScopeFits inside (bind_all bs env) × EachTurnFits inside env more

-- the body's scope is fitted in each turn; where there is none, the other branch's is
abbrev pub TurnsFit : Scope → Scope → Environment → Finding (List (List Binding)) → Type 0
TurnsFit inside outside env (found []) = ScopeFits outside env
TurnsFit inside outside env (found (bs ∷ more)) = EachTurnFits inside env (bs ∷ more)
TurnsFit inside outside env (at_fault f) = ⊥

module _ (scope : Scope) (env : Environment) (fits : ScopeFits scope env) where
  -- in each branch the scope says what the test found
  tested_fit : (negated t : Bool) (e : Expression) → (t ≡ true → ScopeFits (true_scope e scope) env) → TurnsFit (tested_scope (not negated) e scope) (tested_scope negated e scope) env (found (choose (choose negated (not t) t) ([] ∷ []) []))
  tested_fit true true e k = k refl
  tested_fit true false e k = (fits, tt)
  tested_fit false true e k = (k refl, tt)
  tested_fit false false e k = fits

  items_fit : (bs : List NameShape) (count index : ℕ) (items : List (List Binding)) → ItemsFit bs items → EachTurnFits (with_names (iteration_names bs) scope) env (loop_turns count index items)
  items_fit bs count index [] h = tt
  items_fit bs count index (item ∷ items) h =
      ((more_names (iteration_names bs) scope.names (binding (codes "loop") (loop_state index count) ∷ item) env.bindings (refl, (tt, h.0)) fits.0, fits.1), items_fit bs count (index + 1) items h.1)

  loop_fit : (o : Option (List NameShape)) (x : Finding (List (List Binding))) → LoopFits o x → IfSome o (λ bs. TurnsFit (with_names (iteration_names bs) scope) scope env (turns_over x))
  loop_fit None x h = tt
  loop_fit (Some bs) (found []) h = fits
  loop_fit (Some bs) (found (item ∷ items)) h = items_fit bs (length (item ∷ items)) 0 (item ∷ items) h
  loop_fit (Some bs) (at_fault f) h = h

  pub turns_fit : (opening : Opening) (e : Expression) (s : Shape) (v : Val) (at : Span) → Fits s v → (truth v ≡ true → ScopeFits (true_scope e scope) env)
      → IfSome ((branches opening e scope).names s) (λ bs. TurnsFit ((branches opening e scope).body bs) (branches opening e scope).other env (turns opening at v))
  turns_fit (if_tag negated) e s v at h k = tested_fit negated (truth v) e k
  turns_fit (for_tag names) e s v at h k = loop_fit (loop_names names s) (items_of names v at) (loop_fits names s v at h)
  turns_fit (with_tag word) e s v at h k = ((more_names (name_shape word.text (value_of s) ∷ []) scope.names (binding word.text (plain v) ∷ []) env.bindings (refl, (h, tt)) fits.0, fits.1), tt)
