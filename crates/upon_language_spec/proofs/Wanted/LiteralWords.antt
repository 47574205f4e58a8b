-- Where a number, a string or an index may be: the wanted word decides.
use Rattle.std.proofs.Common.{◌≡◌, List, [], ◌∷◌, Bool, true, false, Option, Some, None, refl}
use Rattle.upon_types.specs.declared.types.token.Token.{Token}
use Rattle.upon_types.specs.declared.types.token.Token.TheVariants.{Number, String, Index}
use Rattle.upon_language_spec.specs.Wanted.{Wanted, an_expression, a_colon}
use Rattle.upon_language_spec.specs.LiteralWords.{fits_word}
use Rattle.upon_language_spec.specs.Keys.{Key}
use Rattle.upon_language_spec.specs.Parts.{Part, a_base, after_name, after_member, a_member, a_magnitude, filters, after_filter, more_args, list_start, list_rest, map_start, map_colon, call_start, call_rest, condition, include_name, include_rest, after, lesser, wanted_at}

abbrev IfFits : Bool → Option (List Part) → Type 0
IfFits true o = (next : List Part) × (o ≡ Some next)
IfFits false o = o ≡ None

-- it may be there exactly where the wanted word says so
abbrev pub Decided : Token → Option Wanted → Option (List Part) → Type 0
Decided t None o = o ≡ None
Decided t (Some w) o = IfFits (fits_word t w) o

number_colon : (o : Option Wanted) (a : Option (List Part)) → Decided Number o a → Decided Number (lesser a_colon o) a
number_colon None a h = h
number_colon (Some an_expression) a h = h
number_colon (Some w) a h = h

pub number_decided : (ps : List Part) (k : Key) → Decided Number (wanted_at ps) (after ps Number k)
number_decided [] k = refl
number_decided (a_base ∷ ps) k = (ps, refl)
number_decided (after_name ∷ ps) k = number_decided ps k
number_decided (after_member ∷ ps) k = number_decided ps k
number_decided (a_magnitude ∷ ps) k = (ps, refl)
number_decided (filters ∷ ps) k = number_decided ps k
number_decided (after_filter ∷ ps) k = number_colon (wanted_at ps) (after ps Number k) (number_decided ps k)
number_decided (more_args ∷ ps) k = number_decided ps k
number_decided (list_start ∷ ps) k = (list_rest ∷ ps, refl)
number_decided (call_start ∷ ps) k = (call_rest ∷ ps, refl)
number_decided (condition ∷ ps) k = (filters ∷ ps, refl)
number_decided (p ∷ ps) k = refl

string_colon : (o : Option Wanted) (a : Option (List Part)) → Decided String o a → Decided String (lesser a_colon o) a
string_colon None a h = h
string_colon (Some an_expression) a h = h
string_colon (Some w) a h = h

pub string_decided : (ps : List Part) (k : Key) → Decided String (wanted_at ps) (after ps String k)
string_decided [] k = refl
string_decided (a_base ∷ ps) k = (ps, refl)
string_decided (after_name ∷ ps) k = string_decided ps k
string_decided (after_member ∷ ps) k = string_decided ps k
string_decided (filters ∷ ps) k = string_decided ps k
string_decided (after_filter ∷ ps) k = string_colon (wanted_at ps) (after ps String k) (string_decided ps k)
string_decided (more_args ∷ ps) k = string_decided ps k
string_decided (list_start ∷ ps) k = (list_rest ∷ ps, refl)
string_decided (map_start ∷ ps) k = (map_colon ∷ ps, refl)
string_decided (call_start ∷ ps) k = (call_rest ∷ ps, refl)
string_decided (condition ∷ ps) k = (filters ∷ ps, refl)
string_decided (include_name ∷ ps) k = (include_rest ∷ ps, refl)
string_decided (p ∷ ps) k = refl

index_colon : (o : Option Wanted) (a : Option (List Part)) → Decided Index o a → Decided Index (lesser a_colon o) a
index_colon None a h = h
index_colon (Some an_expression) a h = h
index_colon (Some w) a h = h

pub index_decided : (ps : List Part) (k : Key) → Decided Index (wanted_at ps) (after ps Index k)
index_decided [] k = refl
index_decided (after_name ∷ ps) k = index_decided ps k
index_decided (after_member ∷ ps) k = index_decided ps k
index_decided (a_member ∷ ps) k = (after_member ∷ ps, refl)
index_decided (filters ∷ ps) k = index_decided ps k
index_decided (after_filter ∷ ps) k = index_colon (wanted_at ps) (after ps Index k) (index_decided ps k)
index_decided (more_args ∷ ps) k = index_decided ps k
index_decided (p ∷ ps) k = refl
