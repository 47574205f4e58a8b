-- Which word is wanted where some parts are to come.
use Rattle.std.proofs.Common.{◌≡◌, ℕ, ◌<◌, nat_lt, List, [], ◌∷◌, ◌++◌, Bool, true, false, not, Option, Some, None, refl, sym, ap, ◌∙◌, subst, if◌then◌else◌, arith}
use Rattle.std.proofs.lemmas.Bool.{ltb-true, ltb-false}
use Rattle.upon_language_spec.specs.Tags.{Symbol, BeginsTag}
use Rattle.upon_language_spec.specs.Wanted.{Wanted, an_expression, a_string, a_name_or_index, an_end_expression, an_end_block, a_close_paren, a_close_bracket, a_close_brace, an_in, an_as, a_block_word, a_name, a_number, a_colon, rank, shows, IsWanted}
use Rattle.upon_language_spec.specs.Keys.{keyword_of}
use Rattle.upon_language_spec.specs.Parts.{Part, a_base, tag_start, is_optional, goes, left_of, after_symbol, Path, own, least_of, wanted_at}
use Rattle.upon_language_spec.proofs.Wanted.LeadingBegins.{IsPlain, ArePlain, begins_tag}
use Rattle.upon_language_spec.proofs.Wanted.TagsLead.{leads_on}

-- what the part itself leaves of the token that shows a word
abbrev takes : Part → Wanted → Option (List Part)
takes p w = goes p (shows w).token (keyword_of (shows w).word)

abbrev is_none : Option (List Part) → Bool
is_none None = true
is_none (Some ps) = false

-- the word that a part wants may begin it, and none of a lesser rank may; where it wants none, none may
abbrev own_passes : Part → Option Wanted → Bool
own_passes p None = true
own_passes p (Some w) = not (is_none (takes p w))

abbrev passes : Part → Wanted → Option Wanted → Bool
passes p v None = is_none (takes p v)
passes p v (Some w) = if nat_lt (rank v) (rank w) then is_none (takes p v) else true

abbrev EachWord : (Wanted → Bool) → Type 0
EachWord f = (f an_expression ≡ true) × (f a_string ≡ true) × (f a_name_or_index ≡ true) × (f an_end_expression ≡ true) × (f an_end_block ≡ true) × (f a_close_paren ≡ true) × (f a_close_bracket ≡ true) × (f a_close_brace ≡ true) × (f an_in ≡ true) × (f an_as ≡ true) × (f a_block_word ≡ true) × (f a_name ≡ true) × (f a_number ≡ true) × (f a_colon ≡ true)

word_of_each : (f : Wanted → Bool) → EachWord f → (w : Wanted) → f w ≡ true
word_of_each f h an_expression = h.0
word_of_each f h a_string = h.1
word_of_each f h a_name_or_index = h.2
word_of_each f h an_end_expression = h.3
word_of_each f h an_end_block = h.4
word_of_each f h a_close_paren = h.5
word_of_each f h a_close_bracket = h.6
word_of_each f h a_close_brace = h.7
word_of_each f h an_in = h.8
word_of_each f h an_as = h.9
word_of_each f h a_block_word = h.10
word_of_each f h a_name = h.11
word_of_each f h a_number = h.12
word_of_each f h a_colon = h.13

own_passed : (p : Part) → own_passes p (own p) ≡ true
own_passed a_base = refl
own_passed p = refl

table : (p : Part) → EachWord (λ v. passes p v (own p))
table a_base = (refl, refl, refl, refl, refl, refl, refl, refl, refl, refl, refl, refl, refl, refl)
table p = (refl, refl, refl, refl, refl, refl, refl, refl, refl, refl, refl, refl, refl, refl)

passed : (p : Part) (v : Wanted) → passes p v (own p) ≡ true
passed p v = word_of_each (λ w. passes p w (own p)) (table p) v

-- what is known of the word that is wanted
abbrev Told : Option Wanted → List Part → Type 0
Told None ps = (v : Wanted) → after_symbol ps (shows v) ≡ None
Told (Some w) ps = ((next : List Part) × (after_symbol ps (shows w) ≡ Some next)) × ((v : Wanted) → rank v < rank w → after_symbol ps (shows v) ≡ None)

no_part : (o : Option (List Part)) → is_none o ≡ true → o ≡ None
no_part None h = refl
no_part (Some ps) h = absurd cc

some_part : (o : Option (List Part)) → not (is_none o) ≡ true → (ps : List Part) × (o ≡ Some ps)
some_part None h = absurd cc
some_part (Some ps) h = (ps, refl)

-- no word where the part wants none, and no lesser one
refused : (p : Part) (v : Wanted) → own p ≡ None → takes p v ≡ None
refused p v e = no_part (takes p v) (let F : Option Wanted → Type 0 = λ o. passes p v o ≡ true in subst F e (passed p v))

less_by : (m n : ℕ) (b c : Bool) → nat_lt m n ≡ c → m < n → (if c then b else true) ≡ true → b ≡ true
less_by m n b true e l h = h
less_by m n b false e l h = let x = ltb-false m n e in absurd (omega (arith, x, l))

less : (m n : ℕ) (b : Bool) → m < n → (if nat_lt m n then b else true) ≡ true → b ≡ true
less m n b l h = less_by m n b (nat_lt m n) refl l h

lesser_refused : (p : Part) (v w : Wanted) → own p ≡ Some w → rank v < rank w → takes p v ≡ None
lesser_refused p v w e l = no_part (takes p v) (less (rank v) (rank w) (is_none (takes p v)) l (let F : Option Wanted → Type 0 = λ o. passes p v o ≡ true in subst F e (passed p v)))

own_taken : (p : Part) (w : Wanted) → own p ≡ Some w → (next : List Part) × (takes p w ≡ Some next)
own_taken p w e = some_part (takes p w) (let F : Option Wanted → Type 0 = λ o. own_passes p o ≡ true in subst F e (own_passed p))

none_by : (o : Option (List Part)) (optional : Bool) (ps : List Part) (others : Option (List Part)) → o ≡ None → (optional ≡ true → others ≡ None) → left_of o optional ps others ≡ None
none_by None true ps others e f = f refl
none_by None false ps others e f = refl
none_by (Some first) optional ps others e f = absurd cc

some_by : (o : Option (List Part)) (optional : Bool) (ps first : List Part) (others : Option (List Part)) → o ≡ Some first → (next : List Part) × (left_of o optional ps others ≡ Some next)
some_by None optional ps first others e = absurd cc
some_by (Some x) optional ps first others e = (x ++ ps, refl)

some_either : (o : Option (List Part)) (optional : Bool) (ps next : List Part) (others : Option (List Part)) → optional ≡ true → others ≡ Some next → (to : List Part) × (left_of o optional ps others ≡ Some to)
some_either (Some x) optional ps next others o e = (x ++ ps, refl)
some_either None true ps next others o e = (next, e)
some_either None false ps next others o e = absurd cc

module _ (p : Part) (ps : List Part) where
  none_behind : (v : Wanted) → takes p v ≡ None → (is_optional p ≡ true → after_symbol ps (shows v) ≡ None) → after_symbol (p ∷ ps) (shows v) ≡ None
  none_behind v e f = none_by (takes p v) (is_optional p) ps (after_symbol ps (shows v)) e f

  two : (w u : Wanted) (b : Bool) → nat_lt (rank w) (rank u) ≡ b → own p ≡ Some w → is_optional p ≡ true → Told (Some u) ps → Told (Some (if b then w else u)) (p ∷ ps)
  two w u true l e o t =
      let own_one = own_taken p w e in (
        some_by (takes p w) (is_optional p) ps own_one.0 (after_symbol ps (shows w)) own_one.1,
        λ v h. none_behind v (lesser_refused p v w e h) (λ k. t.1 v (let x = ltb-true (rank w) (rank u) l in omega (arith, x, h))),
      )
  two w u false l e o t = (
    some_either (takes p u) (is_optional p) ps t.0.0 (after_symbol ps (shows u)) o t.0.1,
    λ v h. none_behind v (lesser_refused p v w e (let x = ltb-false (rank w) (rank u) l in omega (arith, x, h))) (λ k. t.1 v h),
  )

  told_by : (optional : Bool) (o u : Option Wanted) → is_optional p ≡ optional → own p ≡ o → Told u ps → Told (least_of optional o u) (p ∷ ps)
  told_by false None u n e t = λ v. none_behind v (refused p v e) (λ k. absurd cc)
  told_by false (Some w) u n e t = let own_one = own_taken p w e in
      (some_by (takes p w) (is_optional p) ps own_one.0 (after_symbol ps (shows w)) own_one.1, λ v h. none_behind v (lesser_refused p v w e h) (λ k. absurd cc))
  told_by true None None n e t = λ v. none_behind v (refused p v e) (λ k. t v)
  told_by true None (Some u) n e t = (some_either (takes p u) (is_optional p) ps t.0.0 (after_symbol ps (shows u)) n t.0.1, λ v h. none_behind v (refused p v e) (λ k. t.1 v h))
  told_by true (Some w) None n e t = let own_one = own_taken p w e in
      (some_by (takes p w) (is_optional p) ps own_one.0 (after_symbol ps (shows w)) own_one.1, λ v h. none_behind v (lesser_refused p v w e h) (λ k. t v))
  told_by true (Some w) (Some u) n e t = two w u (nat_lt (rank w) (rank u)) refl e n t

told : (ps : List Part) → Told (wanted_at ps) ps
told [] = λ v. refl
told (p ∷ ps) = told_by p ps (is_optional p) (own p) (wanted_at ps) refl refl (told ps)

-- ---- rows
pub path_one : (row : List Symbol) (a b c : List Part) (x : Symbol) → Path a row b → after_symbol b x ≡ Some c → Path a (row ++ x ∷ []) c
path_one [] a b c x e h = (c, ap (λ y. after_symbol y x) e ∙ h, refl)
path_one (y ∷ row) a b c x (next, taken, path) h = (next, taken, path_one row next b c x path h)

path_next : (row : List Symbol) (a b c : List Part) (x : Symbol) → Path a row b → Path a (row ++ x ∷ []) c → after_symbol b x ≡ Some c
path_next [] a b c x e (next, taken, f) = ap (λ y. after_symbol y x) (sym e) ∙ taken ∙ ap Some f
path_next (y ∷ row) a b c x (next, taken, path) (other, taken_too, long) =
    let same : other ≡ next = cc in
    path_next row next b c x path (subst (λ z. Path z (row ++ x ∷ []) c) same long)

plain_one : (row : List Symbol) (x : Symbol) → ArePlain row → IsPlain x → ArePlain (row ++ x ∷ [])
plain_one [] x plain h = (h, tt)
plain_one (y ∷ row) x plain h = (plain.0, plain_one row x plain.1 h)

shows_plain : (w : Wanted) → IsPlain (shows w)
shows_plain an_expression = refl
shows_plain a_string = refl
shows_plain a_name_or_index = refl
shows_plain an_end_expression = refl
shows_plain an_end_block = refl
shows_plain a_close_paren = refl
shows_plain a_close_bracket = refl
shows_plain a_close_brace = refl
shows_plain an_in = refl
shows_plain an_as = refl
shows_plain a_block_word = refl
shows_plain a_name = refl
shows_plain a_number = refl
shows_plain a_colon = refl

-- a token that may be there begins a tag with the row, and no other token does
pub may_follow : (row : List Symbol) (ps next : List Part) (x : Symbol) → ArePlain row → IsPlain x → Path (tag_start ∷ []) row ps → after_symbol ps x ≡ Some next → BeginsTag (row ++ x ∷ [])
may_follow row ps next x plain h path e = begins_tag (row ++ x ∷ []) next (plain_one row x plain h) (path_one row (tag_start ∷ []) ps next x path e)

pub may_not_follow : (row : List Symbol) (ps : List Part) (x : Symbol) → Path (tag_start ∷ []) row ps → after_symbol ps x ≡ None → BeginsTag (row ++ x ∷ []) → ⊥
may_not_follow row ps x path e b =
    let (to, long) = leads_on (row ++ x ∷ []) b in
    let f = path_next row (tag_start ∷ []) ps to x path long in
    cc

-- a row that leads to some parts wants their word
wants_told : (row : List Symbol) (ps : List Part) (w : Wanted) → ArePlain row → Path (tag_start ∷ []) row ps → Told (Some w) ps → IsWanted row w
wants_told row ps w plain path t = record {
  may_follow = may_follow row ps t.0.0 (shows w) plain (shows_plain w) path t.0.1;
  least = λ v l b. may_not_follow row ps (shows v) path (t.1 v l) b;
}

pub wants : (row : List Symbol) (ps : List Part) (w : Wanted) → ArePlain row → Path (tag_start ∷ []) row ps → wanted_at ps ≡ Some w → IsWanted row w
wants row ps w plain path e = wants_told row ps w plain path (let F : Option Wanted → Type 0 = λ o. Told o ps in subst F e (told ps))
