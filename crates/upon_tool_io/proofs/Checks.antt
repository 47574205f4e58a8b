-- A check is one on contexts exactly if its words say that there are some.
use Rattle.std.proofs.Common.{arith, ◌≡◌, ◌||◌, ◌==◌, ℕ, List, [], ◌∷◌, Bool, true, false, not, Option, Some, None, is_some, length, codes, refl, subst, Bor, if◌then◌else◌}
use Rattle.std.proofs.lemmas.Bool.Decides.{nat_tests}
use Rattle.upon_tool_io.specs.Asks.{check_on, has_contexts, AsksFor, AsksForCheck, AsksForContexts, AsksForNoContexts}
use Rattle.upon_tool_io.specs.Said.{lent_text, lent_texts, Said}
use Rattle.upon_tool_io.specs.declared.arguments.Call.TheVariants.{Check, Fit}
use Rattle.upon_tool_io.specs.declared.arguments.CheckCall.{CheckCall}
use Rattle.upon_tool_io.specs.declared.arguments.ContextsCall.{ContextsCall}

neither : (a b : Bool) → (a || b) ≡ false → (a ≡ false) × (b ≡ false)
neither false b e = (refl, e)
neither true b e = absurd cc

no-text : (text : Option (Bor (List ℕ))) → is_some text ≡ false → lent_text text ≡ None
no-text None e = refl
no-text (Some t) e = absurd cc

no-texts : (texts : List (Bor (List ℕ))) → not (length texts == 0) ≡ false → lent_texts texts ≡ []
no-texts [] e = refl
no-texts (t ∷ ts) e = absurd (grind (arith, nat_tests))

-- where there are no contexts, the words say that each of them is not there
pub none-asked : (said : Said) (contexts : ContextsCall) → has_contexts contexts ≡ false
    → AsksForContexts said contexts → AsksForNoContexts said
none-asked said contexts e asks =
    let (most, set) = neither _ _ e in
    let (more, set_json) = neither _ _ most in
    let (some, files) = neither _ _ more in
    let (schema, env) = neither _ _ some in
    record {
      schema = subst (λ (t : Option (List ℕ)). said.text (codes "schema") t) (no-text contexts.schema schema) asks.schema;
      env = subst (λ (b : Bool). said.flag (codes "env") b) env asks.data.env;
      files = subst (λ (ts : List (List ℕ)). said.texts (codes "data") ts) (no-texts contexts.data.files.items files) asks.data.files;
      set_json = subst (λ (ts : List (List ℕ)). said.texts (codes "set-json") ts) (no-texts contexts.data.set_json.items set_json) asks.data.set_json;
      set = subst (λ (ts : List (List ℕ)). said.texts (codes "set") ts) (no-texts contexts.data.set.items set) asks.data.set;
    }

-- what is asked for, by whether there are contexts
by-contexts : (said : Said) (check : CheckCall) (contexts : ContextsCall) → said.flag (codes "shape-out") false
    → AsksForCheck said check → AsksForContexts said contexts → (b : Bool) → has_contexts contexts ≡ b
    → AsksFor said (codes "check") (if b then Fit (record { check = check; contexts = contexts }) else Check check)
by-contexts said check contexts shown checks asks true e =
    (refl, shown, record { check = checks; contexts = asks; some = e })
by-contexts said check contexts shown checks asks false e =
    (refl, shown, none-asked said contexts e asks, checks)

-- a check and contexts that are asked for make the call that is asked for
pub check-asked : (said : Said) (check : CheckCall) (contexts : ContextsCall) → said.flag (codes "shape-out") false
    → AsksForCheck said check → AsksForContexts said contexts → AsksFor said (codes "check") (check_on check contexts)
check-asked said check contexts shown checks asks =
    by-contexts said check contexts shown checks asks (has_contexts contexts) refl
