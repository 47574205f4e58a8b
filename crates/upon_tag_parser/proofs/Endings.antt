-- What is next after an expression, where it does not go on with it: only what the parts after it take.
use Rattle.std.proofs.Common.{◌≡◌, ℕ, List, [], ◌∷◌, ◌++◌, true, None, refl, sym, ap, subst, ◌∙◌, codes}
use Rattle.upon_types.specs.declared.types.token.Token.{Token}
use Rattle.upon_types.specs.declared.types.token.Token.TheVariants.{EndExpr, EndBlock, Dot, QuestionDot, OpenBracket, OpenBrace, OpenParen, Pipe, Colon, Comma, Keyword, Plus, Minus, Number, String, Ident}
use Rattle.upon_language_spec.specs.Cut.{Lexeme}
use Rattle.upon_language_spec.specs.Tags.{symbol_of, word_of}
use Rattle.upon_types.specs.Span.{slice}
use Rattle.upon_language_spec.specs.Tokens.{GoesWord}
use Rattle.upon_language_spec.specs.Keys.{Key, key_not, key_true, key_false, keyword_of, key_word}
use Rattle.upon_language_spec.specs.Wanted.{a_colon, an_end_expression, an_end_block}
use Rattle.upon_language_spec.specs.Parts.{Part, filters, after_filter, more_args, condition, end_expr, end_block, base_key, base_goes, after, lesser, wanted_at}
use Rattle.upon_language_spec.specs.PartTails.{No, Tail, no_tail, member_tail, name_tail, tail_parts, Quiet}
use Rattle.upon_language_spec.specs.InTags.{is_inside}
use Rattle.upon_language_spec.specs.OpenParts.{Ending, base_ending, name_ending, args_ending, ending_parts}
use Rattle.upon_language_spec.proofs.Wanted.ExpressionsLead.{ending_left, condition_takes}
use Rattle.upon_tag_parser.specs.TagParsing.{Refuses, QuietEnding, NoBase, NoWord, StartsBase}
use Rattle.upon_tag_parser.specs.WholeTags.{IsEnding}
use Rattle.upon_language_spec.proofs.Wanted.LeadingBegins.{is_key}
use Rattle.upon_tag_parser.proofs.Stuck.{is_not}
use Rattle.upon_tag_parser.proofs.BaseStarts.{tail_quiet, tail_wants, key_spells}

-- ---- after an expression
no_colon : (ps : List Part) (t : Token) (k : Key) → (t ≡ Colon → ⊥) → after (after_filter ∷ ps) t k ≡ after ps t k
no_colon ps Colon k a = absurd (a refl)
no_colon ps t k a = refl

no_comma : (ps : List Part) (t : Token) (k : Key) → (t ≡ Comma → ⊥) → after (more_args ∷ ps) t k ≡ after ps t k
no_comma ps Comma k a = absurd (a refl)
no_comma ps t k a = refl

no_pipe : (ps : List Part) (t : Token) (k : Key) → (t ≡ Pipe → ⊥) → after (filters ∷ ps) t k ≡ after ps t k
no_pipe ps Pipe k a = absurd (a refl)
no_pipe ps t k a = refl

args_quiet : (tail : Tail) (ps : List Part) (l : Lexeme) (ls : List Lexeme) (k : Key) → Quiet tail (l ∷ ls) → No Comma (l ∷ ls) → after ((tail_parts tail ++ more_args ∷ []) ++ ps) l.token k ≡ after ps l.token k
args_quiet no_tail ps l ls k q c = no_comma ps l.token k (is_not Comma l ls c)
args_quiet member_tail ps l ls k q c = tail_quiet member_tail (more_args ∷ ps) l ls k q ∙ no_comma ps l.token k (is_not Comma l ls c)
args_quiet name_tail ps l ls k q c = tail_quiet name_tail (more_args ∷ ps) l ls k q ∙ no_comma ps l.token k (is_not Comma l ls c)

pub ending_quiet : (ending : Ending) (ps : List Part) (l : Lexeme) (ls : List Lexeme) (k : Key) → QuietEnding ending (l ∷ ls) → after (ending_parts ending ++ ps) l.token k ≡ after ps l.token k
ending_quiet (base_ending tail) ps l ls k q = tail_quiet tail ps l ls k q
ending_quiet name_ending ps l ls k q = no_colon ps l.token k (is_not Colon l ls q)
ending_quiet (args_ending tail) ps l ls k q = args_quiet tail ps l ls k q.0 q.1

-- what the parts after it refuse is refused
pub ending_refuses : (s : List ℕ) (ending : Ending) (ps : List Part) (ts : List Lexeme) → QuietEnding ending ts → Refuses s ps ts → Refuses s (ending_parts ending ++ ps) ts
ending_refuses s ending ps [] q h = λ k. (ending_left ending ps EndExpr k refl ∙ (h k).0, ending_left ending ps EndBlock k refl ∙ (h k).1)
ending_refuses s ending ps (l ∷ ls) q h = ending_quiet ending ps l ls (keyword_of (symbol_of s l).word) q ∙ h

-- what the parts after it want is wanted, where that comes before a colon
pub ending_wants : (ending : Ending) (ps : List Part) → lesser a_colon (wanted_at ps) ≡ wanted_at ps → wanted_at (ending_parts ending ++ ps) ≡ wanted_at ps
ending_wants (base_ending tail) ps h = tail_wants tail ps
ending_wants name_ending ps h = h
ending_wants (args_ending no_tail) ps h = refl
ending_wants (args_ending member_tail) ps h = refl
ending_wants (args_ending name_tail) ps h = refl

-- only what the parts after the expression take may be next
pub expression_quiet : (ending : Ending) (ps : List Part) (l : Lexeme) (ls : List Lexeme) (k : Key) → QuietEnding ending (l ∷ ls) → No Pipe (l ∷ ls) → after (ending_parts ending ++ filters ∷ ps) l.token k ≡ after ps l.token k
expression_quiet ending ps l ls k q p = ending_quiet ending (filters ∷ ps) l ls k q ∙ no_pipe ps l.token k (is_not Pipe l ls p)

-- where no end of a tag may be after the expression, none may be there
pub expression_no_end : (ending : Ending) (ps : List Part) (k : Key) → (after ps EndExpr k ≡ None) × (after ps EndBlock k ≡ None) → (after (ending_parts ending ++ filters ∷ ps) EndExpr k ≡ None) × (after (ending_parts ending ++ filters ∷ ps) EndBlock k ≡ None)
expression_no_end ending ps k h = (ending_left ending (filters ∷ ps) EndExpr k refl ∙ h.0, ending_left ending (filters ∷ ps) EndBlock k refl ∙ h.1)

-- what the parts after the expression refuse is refused
pub expression_refuses : (s : List ℕ) (ending : Ending) (ps : List Part) (ts : List Lexeme) → QuietEnding ending ts → No Pipe ts → Refuses s ps ts → Refuses s (ending_parts ending ++ filters ∷ ps) ts
expression_refuses s ending ps [] q p h = λ k. expression_no_end ending ps k (h k)
expression_refuses s ending ps (l ∷ ls) q p h = expression_quiet ending ps l ls (keyword_of (symbol_of s l).word) q p ∙ h

-- ---- the end of a tag
no_other_end : (t : Token) (k : Key) → is_inside t ≡ true → (after (end_expr ∷ []) t k ≡ None) × (after (end_block ∷ []) t k ≡ None)
no_other_end EndExpr k h = absurd cc
no_other_end EndBlock k h = absurd cc
no_other_end t k h = (refl, refl)

pub expression_ends : (s : List ℕ) (ending : Ending) (rest : List Lexeme) → QuietEnding ending rest → No Pipe rest → IsEnding s (ending_parts ending ++ filters ∷ end_expr ∷ []) EndExpr an_end_expression rest
expression_ends s ending rest q p = record {
  ends = λ k. ending_left ending (filters ∷ end_expr ∷ []) EndExpr k refl;
  wants = ending_wants ending (filters ∷ end_expr ∷ []) refl;
  refuses = λ l ls e inside. expression_quiet ending (end_expr ∷ []) l ls (keyword_of (symbol_of s l).word) (subst (λ x. QuietEnding ending x) e q) (subst (λ x. No Pipe x) e p) ∙ (no_other_end l.token (keyword_of (symbol_of s l).word) inside).0;
}

pub expression_ends_block : (s : List ℕ) (ending : Ending) (rest : List Lexeme) → QuietEnding ending rest → No Pipe rest → IsEnding s (ending_parts ending ++ filters ∷ end_block ∷ []) EndBlock an_end_block rest
expression_ends_block s ending rest q p = record {
  ends = λ k. ending_left ending (filters ∷ end_block ∷ []) EndBlock k refl;
  wants = ending_wants ending (filters ∷ end_block ∷ []) refl;
  refuses = λ l ls e inside. expression_quiet ending (end_block ∷ []) l ls (keyword_of (symbol_of s l).word) (subst (λ x. QuietEnding ending x) e q) (subst (λ x. No Pipe x) e p) ∙ (no_other_end l.token (keyword_of (symbol_of s l).word) inside).1;
}

pub block_ends : (s : List ℕ) (rest : List Lexeme) → IsEnding s (end_block ∷ []) EndBlock an_end_block rest
block_ends s rest = record { ends = λ k. refl; wants = refl; refuses = λ l ls e inside. (no_other_end l.token (keyword_of (symbol_of s l).word) inside).1 }

-- ---- where a condition may begin
condition_word : (ps : List Part) (k : Key) → base_key k [] ≡ None → (k ≡ key_not → ⊥) → after (condition ∷ ps) Keyword k ≡ None
condition_word ps key_true h n = absurd cc
condition_word ps key_false h n = absurd cc
condition_word ps key_not h n = absurd (n refl)
condition_word ps k h n = refl

condition_refuses : (ps : List Part) (t : Token) (k : Key) → base_goes t k [] ≡ None → (t ≡ Keyword → k ≡ key_not → ⊥) → after (condition ∷ ps) t k ≡ None
condition_refuses ps Keyword k h n = condition_word ps k h (n refl)
condition_refuses ps Plus k h n = absurd cc
condition_refuses ps Minus k h n = absurd cc
condition_refuses ps Number k h n = absurd cc
condition_refuses ps String k h n = absurd cc
condition_refuses ps Ident k h n = absurd cc
condition_refuses ps Dot k h n = absurd cc
condition_refuses ps QuestionDot k h n = absurd cc
condition_refuses ps OpenBracket k h n = absurd cc
condition_refuses ps OpenBrace k h n = absurd cc
condition_refuses ps OpenParen k h n = absurd cc
condition_refuses ps t k h n = refl

-- a keyword that is next, by what it spells
pub goes_key : (s : List ℕ) (k : Key) (l : Lexeme) (ls : List Lexeme) → l.token ≡ Keyword → keyword_of (symbol_of s l).word ≡ k → is_key k ≡ true → GoesWord s (key_word k) l.span (l ∷ ls) ls
goes_key s k l ls t e h =
    let is : k ≡ keyword_of (slice s l.span) = sym (ap (λ x. keyword_of (word_of s x l.span)) (sym t) ∙ e) in
    (record { lexeme = l; is = refl; of_token = t; at = refl }, sym (key_spells k (slice s l.span) is h))

pub condition_starts : (s : List ℕ) (ps : List Part) (ts : List Lexeme) → NoWord s (codes "not") ts → StartsBase s (condition ∷ ps) (filters ∷ ps) ts
condition_starts s ps ts none = record { takes = condition_takes ps; wants = refl; refuses = by ts none }
  where
    by : (ts : List Lexeme) → NoWord s (codes "not") ts → NoBase s ts → Refuses s (condition ∷ ps) ts
    by [] none h = λ k. (refl, refl)
    by (l ∷ ls) none h = condition_refuses ps l.token (keyword_of (symbol_of s l).word) h (λ t e. none l.span ls (goes_key s key_not l ls t e refl))
