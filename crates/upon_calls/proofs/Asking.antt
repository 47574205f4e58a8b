-- What options ask for, and why they are refused.
use Rattle.std.proofs.Common.{◌≡◌, ◌∙◌, ◌&&◌, ◌∷◌, [], ℕ, List, Option, Some, None, Bool, true, false, String, Global, string_bytes, codes, sym, ap, subst}
use Rattle.upon_types.specs.Val.{Val, key_of}
use Rattle.upon_types.specs.View.{entries_view}
use Rattle.upon_types.specs.declared.value.Value.{Value}
use Rattle.upon_vm.specs.declared.limits.Limits.{Limits}
use Rattle.upon_calls.specs.Arguments.{HasNoArgumentValue, IsArgumentValue}
use Rattle.upon_calls.specs.Asked.{are_keys, depth_at, escape_at, flag_at, has_keys, is_option_key, is_known, number_at, Asked, Asks, AsksNothing, HasLimits, HasNoLimits, IsAsked, IsUnasked}
use Rattle.upon_calls.specs.Pairs.{delimiters_in}
use Rattle.upon_calls.specs.declared.options.Known.{Known}
use Rattle.upon_calls.specs.declared.options.Known.TheVariants.{Rendering, OnContexts}
use Rattle.upon_calls.proofs.Values.{one_value}

-- ---- keys
pub keys_more : (known : Known) (whole : Bool) (entry : String Global × Value) (items rest : List (String Global × Value)) → items ≡ entry ∷ rest → is_known known (string_bytes entry.0) ≡ true → whole ≡ are_keys known (entries_view items) → whole ≡ are_keys known (entries_view rest)
keys_more known whole entry items rest is key so_far =
    so_far ∙ ap (λ items. are_keys known (entries_view items)) is ∙ ap (λ b. b && are_keys known (entries_view rest)) key

pub no_key : (known : Known) (whole : Bool) (entry : String Global × Value) (items rest : List (String Global × Value)) → items ≡ entry ∷ rest → is_known known (string_bytes entry.0) ≡ false → whole ≡ are_keys known (entries_view items) → whole ≡ false
no_key known whole entry items rest is key so_far =
    so_far ∙ ap (λ items. are_keys known (entries_view items)) is ∙ ap (λ b. b && are_keys known (entries_view rest)) key

pub keys_whole : (known : Known) (whole : Bool) (items : List (String Global × Value)) → items ≡ [] → whole ≡ are_keys known (entries_view items) → whole ≡ true
keys_whole known whole items none so_far = so_far ∙ ap (λ items. are_keys known (entries_view items)) none

-- ---- why they ask for nothing
pub no_keys : (known : Known) (v : Val) → has_keys known v ≡ false → AsksNothing known v
no_keys known v is asked asks = let no : true ≡ false = sym asks.keys ∙ is in absurd cc

pub no_escape : (known : Known) (v : Val) → escape_at v ≡ None → AsksNothing known v
no_escape known v is asked asks = let no : Some asked.escape ≡ None = sym asks.escape ∙ is in absurd cc

pub no_delimiters : (known : Known) (v : Val) → delimiters_in (key_of (codes "syntax") v) ≡ None → AsksNothing known v
no_delimiters known v is asked asks = let no : Some asked.delimiters ≡ None = sym asks.delimiters ∙ is in absurd cc

pub no_depth : (known : Known) (v : Val) → depth_at v ≡ None → AsksNothing known v
no_depth known v is asked asks = let no : Some asked.depth ≡ None = sym asks.depth ∙ is in absurd cc

pub no_functions : (known : Known) (v : Val) → flag_at (codes "functions") v ≡ None → AsksNothing known v
no_functions known v is asked asks = let no : Some asked.functions ≡ None = sym asks.functions ∙ is in absurd cc

pub no_limits : (known : Known) (v : Val) → HasNoLimits v → AsksNothing known v
no_limits known v none asked asks = none asked.limits asks.limits

pub no_steps : (v : Val) → number_at (codes "max_steps") v ≡ None → HasNoLimits v
no_steps v is limits has = let no : Some limits.steps ≡ None = sym has.steps ∙ is in absurd cc

pub no_output : (v : Val) → number_at (codes "max_output") v ≡ None → HasNoLimits v
no_output v is limits has = let no : Some limits.output ≡ None = sym has.output ∙ is in absurd cc

pub no_values : (v : Val) → number_at (codes "max_memory") v ≡ None → HasNoLimits v
no_values v is limits has = let no : Some limits.values ≡ None = sym has.values ∙ is in absurd cc

-- ---- of a text
pub unasked_value : (text : List ℕ) → HasNoArgumentValue text → IsUnasked text
unasked_value text none asked is = none is.0 is.1

pub unasked : (text : List ℕ) (v : Val) → IsArgumentValue text v → AsksNothing Rendering v → IsUnasked text
unasked text v read nothing asked is = nothing asked (subst (λ w. Asks Rendering w asked) (one_value text is.0 v is.1 read) is.2)
