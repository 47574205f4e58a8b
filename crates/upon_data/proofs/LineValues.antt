-- The values of lines, as far as they were read.
use Rattle.std.proofs.Common.{◌≡◌, ℕ, List, [], ◌∷◌, ◌++◌, true, false, Option, None, Some, option_map, Bor, refl, sym, ap}
use Rattle.std.proofs.lemmas.Iterator.{YieldsList}
use Rattle.std.specs.Str.Iter.{lines_steps}
use Rattle.upon_types.specs.Val.{Vals, no_vals, val_then}
use Rattle.upon_types.specs.View.{view, vals_view}
use Rattle.upon_types.specs.declared.value.Value.{Value}
use Rattle.upon_data.specs.Lines.{is_blank, line_val, lines_values}

-- values before others
abbrev pub vals_before : Vals → Vals → Vals
vals_before no_vals ws = ws
vals_before (val_then v vs) ws = val_then v (vals_before vs ws)

before_none : (vs : Vals) → vals_before vs no_vals ≡ vs
before_none no_vals = refl
before_none (val_then v vs) = ap (val_then v) (before_none vs)

pub before_first : (o : Option Vals) → o ≡ option_map (vals_before no_vals) o
before_first None = refl
before_first (Some vs) = refl

before_next : (vs : List Value) (v : Value) (ws : Vals) → vals_before (vals_view vs) (val_then (view v) ws) ≡ vals_before (vals_view (vs ++ v ∷ [])) ws
before_next [] v ws = refl
before_next (w ∷ vs) v ws = ap (val_then (view w)) (before_next vs v ws)

all_before_next : (vs : List Value) (v : Value) (o : Option Vals)
    → option_map (vals_before (vals_view vs)) (option_map (val_then (view v)) o) ≡ option_map (vals_before (vals_view (vs ++ v ∷ []))) o
all_before_next vs v None = refl
all_before_next vs v (Some ws) = ap Some (before_next vs v ws)

-- a line that is blank
pub past_blank : (vs : List Value) (line : List ℕ) (more : List (List ℕ)) → is_blank line ≡ true
    → option_map (vals_before (vals_view vs)) (lines_values (line ∷ more)) ≡ option_map (vals_before (vals_view vs)) (lines_values more)
past_blank vs line more blank = rw blank refl

-- a line that has a value
pub past_value : (vs : List Value) (v : Value) (line : List ℕ) (more : List (List ℕ)) → is_blank line ≡ false → line_val line ≡ Some (view v)
    → option_map (vals_before (vals_view vs)) (lines_values (line ∷ more)) ≡ option_map (vals_before (vals_view (vs ++ v ∷ []))) (lines_values more)
past_value vs v line more full is = rw (full, is) (all_before_next vs v (lines_values more))

-- a line that has none
pub at_no_value : (vs : List Value) (line : List ℕ) (more : List (List ℕ)) → is_blank line ≡ false → line_val line ≡ None
    → option_map (vals_before (vals_view vs)) (lines_values (line ∷ more)) ≡ None
at_no_value vs line more full none = rw (full, none) refl

-- no line
pub at_end : (vs : List Value) → option_map (vals_before (vals_view vs)) (lines_values []) ≡ Some (vals_view vs)
at_end vs = ap Some (before_none (vals_view vs))

-- ---- the lines that are left
pub line_next : (s t : _) (x : Bor (List ℕ)) (rest : List (List ℕ)) → YieldsList lines_steps (λ x. x.now) s rest → lines_steps s (Some x) t
    → (more : List (List ℕ)) × (rest ≡ x.now ∷ more) × YieldsList lines_steps (λ x. x.now) t more
line_next s t x [] road step = absurd (road.runs x t step)
line_next s t x (y ∷ more) road step = let goes = road.runs.1 x t step in (more, ap (λ line. line ∷ more) (sym goes.0), record { runs = goes.1 })

pub line_none : (s t : _) (rest : List (List ℕ)) → YieldsList lines_steps (λ x. x.now) s rest → lines_steps s None t → rest ≡ []
line_none s t [] road step = refl
line_none s t (y ∷ more) road step = absurd (road.runs.0 t step)
