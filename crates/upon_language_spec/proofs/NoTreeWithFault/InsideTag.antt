-- The tokens inside a tag and at its ends: which kinds may be there, and how each is read.
use Rattle.std.proofs.Common.{◌≡◌, inl, inr, ℕ, List, [], ◌∷◌, ◌++◌, Bool, true, false, ◌&&◌, refl, sym, ap, ◌∙◌, arith, append_assoc, if◌then◌else◌}
use Rattle.upon_types.specs.declared.types.token.Token.{Token}
use Rattle.upon_types.specs.declared.types.token.Token.TheVariants.{Raw, BeginExpr, EndExpr, BeginBlock, EndBlock, BeginComment, EndComment}
use Rattle.upon_language_spec.specs.Search.{DelimiterText}
use Rattle.upon_language_spec.specs.Raw.{IsRaw}
use Rattle.upon_language_spec.proofs.OneCut.Raw.{raw_is_no_delimiter}
use Rattle.upon_language_spec.specs.Delimiters.{Sort, expression, block, comment, end_token}
use Rattle.upon_language_spec.specs.Inside.{Extent, in_path_after}
use Rattle.upon_language_spec.specs.Cut.{Lexeme, Mode, outside, in_tag, mode_after}
use Rattle.upon_language_spec.specs.Shown.{shown_lexeme, shown_lexemes, begin_trims, is_end}
use Rattle.upon_language_spec.specs.Tokens.{is_space, begins_comment, is_raw, without_spaces, without_comments, comment_from, after_comment_end, significant}
use Rattle.upon_language_spec.specs.Reading.{opens_tag, from_begin}
use Rattle.upon_language_spec.specs.InTags.{is_inside, EachInside}

pub each_more : (ls : List Lexeme) (l : Lexeme) → EachInside ls → is_inside l.token ≡ true → EachInside (ls ++ l ∷ [])
each_more [] l each h = (h, tt)
each_more (k ∷ ks) l each h = (each.0, each_more ks l each.1 h)

-- facts on kinds of tokens
pub extent_is_inside : (s : List ℕ) (t : Token) (m n : ℕ) → Extent s t m n → is_inside t ≡ true
extent_is_inside s Raw m n h = absurd h
extent_is_inside s BeginExpr m n h = absurd h
extent_is_inside s EndExpr m n h = absurd h
extent_is_inside s BeginBlock m n h = absurd h
extent_is_inside s EndBlock m n h = absurd h
extent_is_inside s BeginComment m n h = absurd h
extent_is_inside s EndComment m n h = absurd h
extent_is_inside s t m n h = refl

pub inside_is_no_begin : (t : Token) → is_inside t ≡ true → opens_tag t ≡ false
inside_is_no_begin BeginExpr h = absurd cc
inside_is_no_begin BeginBlock h = absurd cc
inside_is_no_begin BeginComment h = absurd cc
inside_is_no_begin t h = refl

pub inside_is_no_comment : (t : Token) → is_inside t ≡ true → begins_comment t ≡ false
inside_is_no_comment BeginComment h = absurd cc
inside_is_no_comment t h = refl

pub inside_is_no_raw : (t : Token) → is_inside t ≡ true → is_raw t ≡ false
inside_is_no_raw Raw h = absurd cc
inside_is_no_raw t h = refl

pub inside_stays : (sort : Sort) (path : Bool) (t : Token) → is_inside t ≡ true → mode_after (in_tag sort path) t ≡ in_tag sort (in_path_after path t)
inside_stays sort path BeginExpr h = absurd cc
inside_stays sort path EndExpr h = absurd cc
inside_stays sort path BeginBlock h = absurd cc
inside_stays sort path EndBlock h = absurd cc
inside_stays sort path BeginComment h = absurd cc
inside_stays sort path EndComment h = absurd cc
inside_stays sort path t h = refl

pub end_leaves : (mode : Mode) (sort : Sort) → mode_after mode (end_token sort) ≡ outside
end_leaves mode expression = refl
end_leaves mode block = refl
end_leaves mode comment = refl

pub end_is_no_begin : (sort : Sort) → opens_tag (end_token sort) ≡ false
end_is_no_begin expression = refl
end_is_no_begin block = refl
end_is_no_begin comment = refl

pub end_is_no_comment : (sort : Sort) → begins_comment (end_token sort) ≡ false
end_is_no_comment expression = refl
end_is_no_comment block = refl
end_is_no_comment comment = refl

pub end_is_no_space : (sort : Sort) → is_space (end_token sort) ≡ false
end_is_no_space expression = refl
end_is_no_space block = refl
end_is_no_space comment = refl

-- the shown token is of the same kind, and the same but where it is raw
pub shown_token : (s : List ℕ) (e b : Bool) (t : Token) (l : Lexeme) → (shown_lexeme s e b t l).token ≡ l.token
shown_token s e b Raw l = refl
shown_token s e b t l = refl

pub shown_same : (s : List ℕ) (e b : Bool) (t : Token) (l : Lexeme) → is_raw t ≡ false → shown_lexeme s e b t l ≡ l
shown_same s e b Raw l h = absurd cc
shown_same s e b t l h = refl

-- steps of the reading
pub begin_step : (acc : List Lexeme) (l : Lexeme) (ls : List Lexeme) → opens_tag l.token ≡ true → from_begin acc (l ∷ ls) ≡ from_begin (l ∷ []) ls
begin_step acc l ls h = ap (λ (b : Bool). if b then from_begin (l ∷ []) ls else from_begin (acc ++ l ∷ []) ls) h

pub other_step : (acc : List Lexeme) (l : Lexeme) (ls : List Lexeme) → opens_tag l.token ≡ false → from_begin acc (l ∷ ls) ≡ from_begin (acc ++ l ∷ []) ls
other_step acc l ls h = ap (λ (b : Bool). if b then from_begin (l ∷ []) ls else from_begin (acc ++ l ∷ []) ls) h

pub no_space_step : (l : Lexeme) (ls : List Lexeme) → is_space l.token ≡ false → without_spaces (l ∷ ls) ≡ l ∷ without_spaces ls
no_space_step l ls h = ap (λ (b : Bool). if b then without_spaces ls else (l ∷ without_spaces ls)) h

pub space_step : (l : Lexeme) (ls : List Lexeme) → is_space l.token ≡ true → without_spaces (l ∷ ls) ≡ without_spaces ls
space_step l ls h = ap (λ (b : Bool). if b then without_spaces ls else (l ∷ without_spaces ls)) h

pub no_comment_step : (l : Lexeme) (ls : List Lexeme) → begins_comment l.token ≡ false → without_comments (l ∷ ls) ≡ l ∷ without_comments ls
no_comment_step l ls h = ap (λ (b : Bool). if b then comment_from l ls else (l ∷ without_comments ls)) h

pub comment_step : (l : Lexeme) (ls : List Lexeme) → begins_comment l.token ≡ true → without_comments (l ∷ ls) ≡ comment_from l ls
comment_step l ls h = ap (λ (b : Bool). if b then comment_from l ls else (l ∷ without_comments ls)) h

pub raw_step : (begin l : Lexeme) (ls : List Lexeme) → is_raw l.token ≡ true → comment_from begin (l ∷ ls) ≡ after_comment_end ls
raw_step begin l ls h = ap (λ (b : Bool). if b then after_comment_end ls else (begin ∷ l ∷ without_comments ls)) h

pub no_raw_step : (begin l : Lexeme) (ls : List Lexeme) → is_raw l.token ≡ false → comment_from begin (l ∷ ls) ≡ begin ∷ l ∷ without_comments ls
no_raw_step begin l ls h = ap (λ (b : Bool). if b then after_comment_end ls else (begin ∷ l ∷ without_comments ls)) h

pub kept : (l : Lexeme) (ls : List Lexeme) → is_space l.token ≡ false → begins_comment l.token ≡ false → significant (l ∷ ls) ≡ l ∷ significant ls
kept l ls h k = ap without_comments (no_space_step l ls h) ∙ no_comment_step l (without_spaces ls) k

-- what is read from the end of an empty comment on
abbrev pub significant_behind : List ℕ → Bool → Lexeme → List Lexeme → List Lexeme
significant_behind s later l more = shown_lexeme s later (begin_trims more) l.token l ∷ significant (shown_lexemes s (is_end l.token && l.hyphen) more)

pub at_empty_comment : (s : List ℕ) (later : Bool) (begin l : Lexeme) (more : List Lexeme) → l.token ≡ EndComment → comment_from begin (without_spaces (shown_lexemes s later (l ∷ more))) ≡ begin ∷ significant_behind s later l more
at_empty_comment s later begin l more t =
    let x = shown_lexeme s later (begin_trims more) l.token l in
    let u : x.token ≡ EndComment = shown_token s later (begin_trims more) l.token l ∙ t in
    ap (comment_from begin) (no_space_step x (shown_lexemes s (is_end l.token && l.hyphen) more) (ap is_space u)) ∙ no_raw_step begin x (without_spaces (shown_lexemes s (is_end l.token && l.hyphen) more)) (ap is_raw u)

if_append : (b : Bool) (l : Lexeme) (x y : List Lexeme) → (if b then x else (l ∷ x)) ++ y ≡ (if b then (x ++ y) else (l ∷ (x ++ y)))
if_append true l x y = refl
if_append false l x y = refl

pub spaces_append : (x y : List Lexeme) → without_spaces (x ++ y) ≡ without_spaces x ++ without_spaces y
spaces_append [] y = refl
spaces_append (l ∷ x) y = ap (λ (z : List Lexeme). if is_space l.token then z else (l ∷ z)) (spaces_append x y) ∙ sym (if_append (is_space l.token) l (without_spaces x) (without_spaces y))

-- a token that is no comment's begin is read where it is no whitespace
pub one_read : (b : Bool) (l : Lexeme) (ls : List Lexeme) → is_space l.token ≡ b → begins_comment l.token ≡ false → significant (l ∷ ls) ≡ without_spaces (l ∷ []) ++ significant ls
one_read true l ls h k = ap without_comments (space_step l ls h) ∙ sym (ap (λ (z : List Lexeme). z ++ significant ls) (space_step l [] h))
one_read false l ls h k = kept l ls h k ∙ sym (ap (λ (z : List Lexeme). z ++ significant ls) (no_space_step l [] h))

pub one_pushed : (ks : List Lexeme) (l : Lexeme) (ls : List Lexeme) → begins_comment l.token ≡ false → without_spaces ks ++ significant (l ∷ ls) ≡ without_spaces (ks ++ l ∷ []) ++ significant ls
one_pushed ks l ls k =
    ap (λ (z : List Lexeme). without_spaces ks ++ z) (one_read (is_space l.token) l ls refl k) ∙ sym (append_assoc (without_spaces ks) (without_spaces (l ∷ [])) (significant ls))
    ∙ ap (λ (z : List Lexeme). z ++ significant ls) (sym (spaces_append ks (l ∷ [])))

pub raw_then_raw : (delimiters : List DelimiterText) (s : List ℕ) (m n k : ℕ) → IsRaw delimiters s m n → IsRaw delimiters s n k → ⊥
raw_then_raw delimiters s m n k a b = elim a.ends [
  | inl e ↦ omega (arith, e, b.some, b.within)
  | inr d ↦ raw_is_no_delimiter delimiters s d.0 n k d.1 b d.2
]
