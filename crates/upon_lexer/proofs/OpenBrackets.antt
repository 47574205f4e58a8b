-- The open brackets in the code's list: the last is the innermost, and a token opens or closes at that end.
use Rattle.std.proofs.Common.{◌≡◌, List, [], ◌∷◌, ◌++◌, length, true, Option, Some, None, refl, sym, ap, ◌∙◌, arith, ◌-◌, option_map}
use Rattle.std.specs.List.{slice_get}
use Rattle.std.specs.Option.{option_to_list}
use Rattle.std.proofs.lemmas.List.{append-nil}
use Rattle.upon_language_spec.specs.Cut.{Lexeme}
use Rattle.upon_language_spec.specs.Faults.{is_close}
use Rattle.upon_language_spec.specs.Reading.{brackets_after}
use Rattle.upon_lexer.specs.Brackets.{open_token, close_token, bracket_lexeme, open_from, brackets_of, innermost}
use Rattle.upon_lexer.specs.declared.compile.brackets.OpenBracket.{OpenBracket}
use Rattle.upon_lexer.specs.declared.compile.brackets.Shape.{Shape}
use Rattle.upon_lexer.specs.declared.compile.brackets.Shape.TheVariants.{Bracket, Brace, Paren}

opened_more : (stack : List Lexeme) (bs cs : List OpenBracket) → open_from stack (bs ++ cs) ≡ open_from (open_from stack bs) cs
opened_more stack [] cs = refl
opened_more stack (b ∷ bs) cs = opened_more (bracket_lexeme b ∷ stack) bs cs

last_opened : (stack : List Lexeme) (b : OpenBracket) (bs : List OpenBracket) → option_map bracket_lexeme (slice_get (b ∷ bs) (length bs)) ≡ innermost (open_from stack (b ∷ bs))
last_opened stack b [] = refl
last_opened stack b (c ∷ cs) = last_opened (bracket_lexeme b ∷ stack) c cs

-- the innermost bracket is the last of the list
pub innermost_last : (bs : List OpenBracket) → option_map bracket_lexeme (slice_get bs (length bs - 1)) ≡ innermost (brackets_of bs)
innermost_last [] = refl
innermost_last (b ∷ bs) = let same : length (b ∷ bs) - 1 ≡ length bs = omega arith in ap (λ k. option_map bracket_lexeme (slice_get (b ∷ bs) k)) same ∙ last_opened [] b bs

after_open : (shape : Shape) (stack : List Lexeme) (l : Lexeme) → brackets_after stack (open_token shape) l ≡ l ∷ stack
after_open Bracket stack l = refl
after_open Brace stack l = refl
after_open Paren stack l = refl

after_close : (shape : Shape) (o : Lexeme) (stack : List Lexeme) (l : Lexeme) → brackets_after (o ∷ stack) (close_token shape) l ≡ stack
after_close Bracket o stack l = refl
after_close Brace o stack l = refl
after_close Paren o stack l = refl

after_close_none : (shape : Shape) (l : Lexeme) → brackets_after [] (close_token shape) l ≡ []
after_close_none Bracket l = refl
after_close_none Brace l = refl
after_close_none Paren l = refl

-- a bracket more
pub opens : (bs : List OpenBracket) (b : OpenBracket) → brackets_of (bs ++ b ∷ []) ≡ brackets_after (brackets_of bs) (open_token b.shape) (bracket_lexeme b)
opens bs b = opened_more [] bs (b ∷ []) ∙ sym (after_open b.shape (brackets_of bs) (bracket_lexeme b))

-- the innermost taken away, where there is one
pub closes : (bs rest : List OpenBracket) (last : Option OpenBracket) (shape : Shape) (l : Lexeme) → bs ≡ rest ++ option_to_list last → (last ≡ None → rest ≡ []) → brackets_of rest ≡ brackets_after (brackets_of bs) (close_token shape) l
closes bs rest None shape l e none =
    let empty : rest ≡ [] = none refl in
    let all : bs ≡ [] = e ∙ append-nil rest ∙ empty in
    ap brackets_of empty ∙ sym (after_close_none shape l) ∙ ap (λ x. brackets_after (brackets_of x) (close_token shape) l) (sym all)
closes bs rest (Some b) shape l e none =
    sym (after_close shape (bracket_lexeme b) (brackets_of rest) l)
    ∙ ap (λ x. brackets_after x (close_token shape) l) (sym (opened_more [] rest (b ∷ [])))
    ∙ ap (λ x. brackets_after (brackets_of x) (close_token shape) l) (sym e)

-- where there is an innermost bracket, it is first
pub innermost_first : (ls : List Lexeme) (l : Lexeme) → Some l ≡ innermost ls → (others : List Lexeme) × (ls ≡ l ∷ others)
innermost_first [] l e = absurd (cc)
innermost_first (k ∷ ks) l e = let same : k ≡ l = cc in (ks, ap (λ x. x ∷ ks) same)

pub is_closing : (shape : Shape) → is_close (close_token shape) ≡ true
is_closing Bracket = refl
is_closing Brace = refl
is_closing Paren = refl
