-- Where a tag is open a word is wanted, and what a token leaves is open again, unless the token ends the tag.
use Rattle.std.proofs.Common.{◌≡◌, List, [], ◌∷◌, ◌++◌, Bool, true, false, Option, Some, None, nat_lt, if◌then◌else◌, refl, sym, ap, ◌∙◌, subst}
use Rattle.upon_types.specs.declared.types.token.Token.{Token}
use Rattle.upon_types.specs.declared.types.token.Token.TheVariants.{EndExpr, EndBlock, OpenBracket, CloseBracket, OpenBrace, CloseBrace, OpenParen, CloseParen, Dot, QuestionDot, Pipe, Comma, Colon, Plus, Minus, Keyword, Ident, Index, Number, String}
use Rattle.upon_language_spec.specs.InTags.{ends_a_tag}
use Rattle.upon_language_spec.specs.Wanted.{Wanted, rank}
use Rattle.upon_language_spec.specs.Keys.{Key, key_if, key_not, key_in, key_with, key_as, key_true, key_false, no_key}
use Rattle.upon_language_spec.specs.Parts.{Part, a_base, after_name, after_member, a_member, a_magnitude, filters, filter_name, after_filter, more_args, list_start, list_rest, map_start, map_colon, map_rest, call_start, call_rest, close_paren, tag_start, end_expr, end_block, block_word, condition, else_rest, loop_name, loop_rest, loop_value, in_word, as_word, as_name, include_name, include_rest, is_optional, base_key, base_goes, key_goes, condition_key, goes, left_of, after, lesser, wanted_at}
use Rattle.upon_language_spec.specs.OpenParts.{is_nil, is_open}

lesser_some : (w : Wanted) (o : Option Wanted) → (v : Wanted) × (lesser w o ≡ Some v)
lesser_some w None = (w, refl)
lesser_some w (Some v) = (if nat_lt (rank w) (rank v) then w else v, refl)

pub some_wanted : (ps : List Part) → is_open ps ≡ true → (w : Wanted) × (wanted_at ps ≡ Some w)
some_wanted [] h = absurd cc
some_wanted (after_name ∷ ps) h = some_wanted ps h
some_wanted (after_member ∷ ps) h = some_wanted ps h
some_wanted (filters ∷ ps) h = some_wanted ps h
some_wanted (after_filter ∷ ps) h = lesser_some _ (wanted_at ps)
some_wanted (more_args ∷ ps) h = some_wanted ps h
some_wanted (tag_start ∷ ps) h = absurd cc
some_wanted (p ∷ ps) h = (_, refl)

abbrev open_behind : List Part → Option (List Part) → Bool
open_behind ps None = true
open_behind ps (Some first) = is_open (first ++ ps)

abbrev OpenBehind : List Part → Option (List Part) → Type 0
OpenBehind ps took = open_behind ps took ≡ true

nothing : (ps : List Part) → is_nil ps ≡ true → ps ≡ []
nothing [] h = refl
nothing (p ∷ ps) h = absurd cc

key_on : (k : Key) (others ps : List Part) → is_open (others ++ ps) ≡ true → OpenBehind ps (base_key k others)
key_on key_true others ps h = h
key_on key_false others ps h = h
key_on k others ps h = refl

base_on : (t : Token) (k : Key) (others ps : List Part) → is_open (others ++ ps) ≡ true → OpenBehind ps (base_goes t k others)
base_on Keyword k others ps h = key_on k others ps h
base_on Plus k others ps h = h
base_on Minus k others ps h = h
base_on Number k others ps h = h
base_on String k others ps h = h
base_on Ident k others ps h = h
base_on Dot k others ps h = h
base_on QuestionDot k others ps h = h
base_on OpenBracket k others ps h = h
base_on OpenBrace k others ps h = h
base_on OpenParen k others ps h = h
base_on t k others ps h = refl

condition_on : (k : Key) (ps : List Part) → is_open ps ≡ true → OpenBehind ps (condition_key k)
condition_on key_not ps h = h
condition_on k ps h = key_on k (filters ∷ []) ps h

block_on : (k : Key) → OpenBehind [] (key_goes block_word k)
block_on no_key = refl
block_on k = refl

goes_on : (p : Part) (t : Token) (k : Key) (ps : List Part) → is_open (p ∷ ps) ≡ true → ends_a_tag t ≡ false → OpenBehind ps (goes p t k)
goes_on a_base t k ps h e = base_on t k [] ps h
goes_on after_name Dot k ps h e = h
goes_on after_name QuestionDot k ps h e = h
goes_on after_name OpenParen k ps h e = h
goes_on after_member Dot k ps h e = h
goes_on after_member QuestionDot k ps h e = h
goes_on a_member Ident k ps h e = h
goes_on a_member Index k ps h e = h
goes_on a_magnitude Number k ps h e = h
goes_on filters Pipe k ps h e = h
goes_on filter_name Ident k ps h e = h
goes_on after_filter Colon k ps h e = h
goes_on more_args Comma k ps h e = h
goes_on list_start CloseBracket k ps h e = h
goes_on list_start t k ps h e = base_on t k (list_rest ∷ []) ps h
goes_on list_rest CloseBracket k ps h e = h
goes_on list_rest Comma k ps h e = h
goes_on map_start CloseBrace k ps h e = h
goes_on map_start String k ps h e = h
goes_on map_colon Colon k ps h e = h
goes_on map_rest CloseBrace k ps h e = h
goes_on map_rest Comma k ps h e = h
goes_on call_start CloseParen k ps h e = h
goes_on call_start t k ps h e = base_on t k (call_rest ∷ []) ps h
goes_on call_rest CloseParen k ps h e = h
goes_on call_rest Comma k ps h e = h
goes_on close_paren CloseParen k ps h e = h
goes_on tag_start t k ps h e = absurd cc
goes_on end_expr EndExpr k ps h e = absurd cc
goes_on end_block EndBlock k ps h e = absurd cc
goes_on block_word Keyword k ps h e = let F : List Part → Type 0 = λ x. OpenBehind x (key_goes block_word k) in subst F (sym (nothing ps h)) (block_on k)
goes_on condition Keyword k ps h e = condition_on k ps h
goes_on condition t k ps h e = base_on t k (filters ∷ []) ps h
goes_on else_rest EndBlock k ps h e = absurd cc
goes_on else_rest Keyword key_if ps h e = h
goes_on loop_name Ident k ps h e = h
goes_on loop_rest Comma k ps h e = h
goes_on loop_rest Keyword key_in ps h e = h
goes_on loop_value Ident k ps h e = h
goes_on in_word Keyword key_in ps h e = h
goes_on as_word Keyword key_as ps h e = h
goes_on as_name Ident k ps h e = h
goes_on include_name String k ps h e = h
goes_on include_rest EndBlock k ps h e = absurd cc
goes_on include_rest Keyword key_with ps h e = h
goes_on p t k ps h e = refl

optional_open : (p : Part) (ps : List Part) → is_optional p ≡ true → is_open (p ∷ ps) ≡ true → is_open ps ≡ true
optional_open after_name ps o h = h
optional_open after_member ps o h = h
optional_open filters ps o h = h
optional_open after_filter ps o h = h
optional_open more_args ps o h = h
optional_open p ps o h = absurd cc

open_by : (p : Part) (t : Token) (k : Key) (took : Option (List Part)) (optional : Bool) (ps next : List Part) → goes p t k ≡ took → is_optional p ≡ optional → is_open (p ∷ ps) ≡ true → ends_a_tag t ≡ false → left_of took optional ps (after ps t k) ≡ Some next → (is_open ps ≡ true → after ps t k ≡ Some next → is_open next ≡ true) → is_open next ≡ true
open_by p t k (Some first) optional ps next e o h n x others =
    let same : first ++ ps ≡ next = cc in
    let F : Option (List Part) → Type 0 = λ y. OpenBehind ps y in
    ap is_open (sym same) ∙ subst F e (goes_on p t k ps h n)
open_by p t k None true ps next e o h n x others = others (optional_open p ps o h) x
open_by p t k None false ps next e o h n x others = absurd cc

-- what a token leaves is open again
pub open_on : (ps next : List Part) (t : Token) (k : Key) → is_open ps ≡ true → ends_a_tag t ≡ false → after ps t k ≡ Some next → is_open next ≡ true
open_on [] next t k h n x = absurd cc
open_on (p ∷ ps) next t k h n x = open_by p t k (goes p t k) (is_optional p) ps next refl refl h n x (λ o y. open_on ps next t k o n y)

-- ---- a tag's end leaves nothing
abbrev EndBehind : List Part → Option (List Part) → Type 0
EndBehind ps None = Unit {0}
EndBehind ps (Some first) = first ++ ps ≡ []

end_goes : (p : Part) (t : Token) (k : Key) (ps : List Part) → is_open (p ∷ ps) ≡ true → ends_a_tag t ≡ true → EndBehind ps (goes p t k)
end_goes end_expr EndExpr k ps h e = nothing ps h
end_goes p EndExpr k ps h e = tt
end_goes end_block EndBlock k ps h e = nothing ps h
end_goes else_rest EndBlock k ps h e = nothing ps h
end_goes include_rest EndBlock k ps h e = nothing ps h
end_goes p EndBlock k ps h e = tt
end_goes p t k ps h e = absurd cc

end_by : (p : Part) (t : Token) (k : Key) (took : Option (List Part)) (optional : Bool) (ps next : List Part) → goes p t k ≡ took → is_optional p ≡ optional → is_open (p ∷ ps) ≡ true → ends_a_tag t ≡ true → left_of took optional ps (after ps t k) ≡ Some next → (is_open ps ≡ true → after ps t k ≡ Some next → next ≡ []) → next ≡ []
end_by p t k (Some first) optional ps next e o h n x others =
    let same : first ++ ps ≡ next = cc in
    let F : Option (List Part) → Type 0 = λ y. EndBehind ps y in
    sym same ∙ subst F e (end_goes p t k ps h n)
end_by p t k None true ps next e o h n x others = others (optional_open p ps o h) x
end_by p t k None false ps next e o h n x others = absurd cc

pub end_leaves_nothing : (ps next : List Part) (t : Token) (k : Key) → is_open ps ≡ true → ends_a_tag t ≡ true → after ps t k ≡ Some next → next ≡ []
end_leaves_nothing [] next t k h n x = absurd cc
end_leaves_nothing (p ∷ ps) next t k h n x = end_by p t k (goes p t k) (is_optional p) ps next refl refl h n x (λ o y. end_leaves_nothing ps next t k o n y)
