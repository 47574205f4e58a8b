-- The value of an argument's JSON: there is at most one.
use Rattle.std.proofs.Common.{◌≡◌, ◌∙◌, ℕ, List, [], Option, Some, None, Bool, true, false, refl, sym, ap}
use Rattle.std.specs.Prelude.{option_and_then}
use Rattle.upon_types.specs.Val.{Val, none_val, bool_val, int_val, text_val, list_val, map_val, Entries, entry_at, rises}
use Rattle.upon_types.proofs.Bindings.{one_map}
use Rattle.upon_json.specs.Context.{entries_in, text_value, HasEntries, IsJsonContext, IsContextRefusal, IsSetOver, is_context_memory}
use Rattle.upon_json.specs.declared.context.DataFault.{DataFault}
use Rattle.upon_json.specs.declared.context.DataFault.TheVariants.{Refused, NotObject, OutOfMemory}
use Rattle.upon_calls.specs.Arguments.{json_in, HasNoArgumentValue, IsArgumentValue}

one_some : {A : Type 0} (o : Option A) (x y : A) → o ≡ Some x → o ≡ Some y → x ≡ y
one_some o x y is here = let both : Some x ≡ Some y = sym is ∙ here in cc

one_entries : (json : Option (List ℕ)) (es fs : Entries) → HasEntries json es → HasEntries json fs → es ≡ fs
one_entries None es fs is here = is ∙ sym here
one_entries (Some text) es fs is here = one_some (option_and_then entries_in (text_value text)) es fs is here

-- with nothing set over it, it is the map of its entries
set_map : (es : Entries) (v : Val) → IsSetOver [] es v → (new : Entries) × (v ≡ map_val new) × (rises new ≡ true) × ((key : List ℕ) → entry_at key new ≡ entry_at key es)
set_map es none_val set = absurd set
set_map es (bool_val b) set = absurd set
set_map es (int_val n) set = absurd set
set_map es (text_val t) set = absurd set
set_map es (list_val vs) set = absurd set
set_map es (map_val new) set = (new, refl, set.0, set.1)

one_context : (json : Option (List ℕ)) (v w : Val) → IsJsonContext json [] v → IsJsonContext json [] w → v ≡ w
one_context json v w is here =
    let a = set_map is.0 v is.2 in
    let b = set_map here.0 w here.2 in
    a.1
    ∙ ap map_val (one_map a.0 b.0 a.2 b.2 (λ key. a.3 key ∙ ap (entry_at key) (one_entries json is.0 here.0 is.1 here.1) ∙ sym (b.3 key)))
    ∙ sym b.1

pub one_value : (text : List ℕ) (v w : Val) → IsArgumentValue text v → IsArgumentValue text w → v ≡ w
one_value text v w is here = one_context (json_in text) v w is here

-- what is refused has none
refused_context : (json : Option (List ℕ)) (fault : DataFault) → IsContextRefusal json fault → is_context_memory fault ≡ false → (v : Val) → IsJsonContext json [] v → ⊥
refused_context json OutOfMemory said memory v is = absurd cc
refused_context None (Refused refusal) said memory v is = absurd said
refused_context None NotObject said memory v is = absurd said
refused_context (Some text) (Refused refusal) said memory v is =
    let no : None ≡ Some is.0 = sym (ap (option_and_then entries_in) said) ∙ is.1 in absurd cc
refused_context (Some text) NotObject said memory v is =
    let no : None ≡ Some is.0 = sym said.2 ∙ sym (ap (option_and_then entries_in) said.1) ∙ is.1 in absurd cc

pub no_value : (text : List ℕ) (fault : DataFault) → IsContextRefusal (json_in text) fault → is_context_memory fault ≡ false → HasNoArgumentValue text
no_value text fault said memory = refused_context (json_in text) fault said memory
