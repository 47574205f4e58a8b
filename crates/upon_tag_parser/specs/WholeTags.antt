-- What the parser answers for the tokens between a tag's begin and its end.
use Rattle.std.specs.Prelude.{◌≡◌, ℕ, List, [], ◌∷◌, ◌++◌, Bool, true, Some, None, codes}
use Rattle.upon_types.specs.declared.types.token.Token.{Token}
use Rattle.upon_types.specs.declared.types.token.Token.TheVariants.{BeginExpr, EndExpr, BeginBlock, EndBlock, Keyword}
use Rattle.upon_types.specs.declared.types.token.Token.TheVariants.{Pipe}
use Rattle.upon_types.specs.Expression.{Expression}
use Rattle.upon_types.specs.Tree.{inline_expr}
use Rattle.upon_language_spec.specs.Cut.{Lexeme}
use Rattle.upon_types.specs.BlockKinds.{opened_kind, end_word}
use Rattle.upon_types.specs.BlockKinds.{block_word as block_word_of}
use Rattle.upon_types.specs.Path.{LoopVars}
use Rattle.upon_language_spec.specs.Tokens.{from_to, GoesKeyword, GoesText}
use Rattle.upon_language_spec.specs.Grammar.{IsStatement, IsCondition, AreLoopVars, IsHead, AreGlobals}
use Rattle.upon_language_spec.specs.Keys.{Key, key_in}
use Rattle.upon_language_spec.specs.Tags.{symbol_of}
use Rattle.upon_language_spec.specs.Wanted.{Wanted, an_end_block, an_in}
use Rattle.upon_language_spec.specs.Parts.{Part, a_base, filters, block_word, condition, loop_name, after, after_symbol}
use Rattle.upon_language_spec.specs.Parts.{wanted_at}
use Rattle.upon_language_spec.specs.PartTails.{No}
use Rattle.upon_language_spec.specs.PartLeads.{Leads}
use Rattle.upon_language_spec.specs.InTags.{is_inside}
use Rattle.upon_language_spec.specs.OpenParts.{Ending, ending_parts}
use Rattle.upon_lexer.specs.declared.literal.Lexed.{Lexed}
use Rattle.upon_tag_parser.specs.declared.compile.parse.want.Want.{Want}
use Rattle.upon_tag_parser.specs.TagParsing.{Refuses, QuietEnding, NoWord}
use Rattle.upon_tag_parser.specs.BlockTags.{BlockTag, opening_tag, else_if_tag, else_tag, end_tag, include_tag, IsBlockTag, tag_code, Keeps}
use Rattle.upon_machine_spec.specs.Code.{emission_code, expression_code}
use Rattle.upon_compiler.specs.declared.types.program.Instr.{Instr as CodeInstr}
use Rattle.upon_compiler.specs.Program.{program_view}
use Rattle.upon_tag_parser.specs.declared.compile.parse.tag.Tag.{Tag}
use Rattle.upon_tag_parser.specs.Brackets.{Place}

-- the tokens lead to where the tag's end may be, and this word, that of the end, is wanted
pub record LeadsToEnd (s : List ℕ) (from : List Part) (ts : List Lexeme) (end : Token) (word : Wanted) : Type 0 where
  pub to : List Part
  pub leads : Leads s from ts to []
  pub ends : (k : Key) → after to end k ≡ Some []
  pub wants : wanted_at to ≡ Some word

-- between a begin of expression and an end of expression, the tokens are this inline tag
abbrev pub IsInlineTag : List ℕ → Expression → List Lexeme → Type 0
IsInlineTag s e ts = (begin end : Lexeme) (more : List Lexeme) → begin.token ≡ BeginExpr → end.token ≡ EndExpr
    → IsStatement s (inline_expr e (from_to begin.span end.span)) (begin ∷ (ts ++ end ∷ more)) more

-- between a begin of block and an end of block, the tokens are this tag
abbrev pub IsTagInside : List ℕ → BlockTag → List Lexeme → Type 0
IsTagInside s tag ts = (begin end : Lexeme) (more : List Lexeme) → begin.token ≡ BeginBlock → end.token ≡ EndBlock
    → IsBlockTag s tag (begin ∷ (ts ++ end ∷ more)) more

-- from the keyword of a tag on, up to where its end may be
abbrev pub IsTagBody : List ℕ → BlockTag → List Lexeme → List Lexeme → Type 0
IsTagBody s (opening_tag opening e) before rest = (mid : List Lexeme)
    × GoesKeyword s (block_word_of (opened_kind opening)) before mid × IsHead s opening e mid rest
IsTagBody s (else_if_tag negated e) before rest = (start mid : List Lexeme) × GoesKeyword s (codes "else") before start
    × GoesKeyword s (codes "if") start mid × IsCondition s negated e mid rest
IsTagBody s else_tag before rest = GoesKeyword s (codes "else") before rest
IsTagBody s (end_tag kind) before rest = GoesKeyword s (end_word kind) before rest
IsTagBody s (include_tag name globals) before rest = (start mid : List Lexeme)
    × GoesKeyword s (codes "include") before start × GoesText s name start mid × AreGlobals s globals mid rest

-- at these parts the tag's end may be, its word is wanted, and no other token that is next may be there
pub record IsEnding (s : List ℕ) (parts : List Part) (end : Token) (word : Wanted) (rest : List Lexeme) : Type 0 where
  pub ends : (k : Key) → after parts end k ≡ Some []
  pub wants : wanted_at parts ≡ Some word
  pub refuses : (l : Lexeme) (ls : List Lexeme) → rest ≡ l ∷ ls → is_inside l.token ≡ true
      → after_symbol parts (symbol_of s l) ≡ None

-- a tag was read up to where its end may be
pub record ReadsTag (s : List ℕ) (tag : BlockTag) (ts rest : List Lexeme) : Type 0 where
  pub reads : IsTagBody s tag ts rest
  pub to : List Part
  pub leads : Leads s (block_word ∷ []) ts to rest
  pub ending : IsEnding s to EndBlock an_end_block rest

-- a tag, of which the code keeps this, was read up to where its end may be, and its instructions were appended
pub record TagRead (s : List ℕ) (tag : Tag) (from to : Place) : Type 0 where
  pub tree : BlockTag
  pub reads : ReadsTag s tree from.tokens to.tokens
  pub keeps : Keeps tag tree
  pub code : to.code ≡ from.code ++ tag_code tree

-- a tag without an expression, of which the code keeps this, was read up to where its end may be
pub record ClosingRead (s : List ℕ) (tag : Tag) (ts rest : List Lexeme) : Type 0 where
  pub tree : BlockTag
  pub reads : ReadsTag s tree ts rest
  pub keeps : Keeps tag tree
  pub code : tag_code tree ≡ []

-- Between a begin of block and an end of block, the tokens are a tag of which the code keeps this, and its instructions
-- are appended.
pub record HoldsTag (s : List ℕ) (tag : Tag) (tokens : List Lexeme) (old new : List CodeInstr) : Type 0 where
  pub tree : BlockTag
  pub inside : IsTagInside s tree tokens
  pub keeps : Keeps tag tree
  pub code : program_view new ≡ program_view old ++ tag_code tree

-- Between a begin of expression and an end of expression, the tokens are an inline tag, and the instructions that show
-- it are appended.
pub record HoldsInline (s : List ℕ) (tokens : List Lexeme) (old new : List CodeInstr) : Type 0 where
  pub tree : Expression
  pub inside : IsInlineTag s tree tokens
  pub code : program_view new ≡ program_view old ++ emission_code tree

-- a condition was read, and what is next does not go on with it
pub record ReadsCondition (s : List ℕ) (negated : Bool) (e : Expression) (ts rest : List Lexeme) : Type 0 where
  pub reads : IsCondition s negated e ts rest
  pub ending : Ending
  pub leads : (parts : List Part) → Leads s (condition ∷ parts) ts (ending_parts ending ++ filters ∷ parts) rest
  pub quiet : QuietEnding ending rest
  pub no_more : No Pipe rest

-- a condition was read, with which what is next does not go on, and its instructions were appended
pub record ConditionRead (s : List ℕ) (negated : Bool) (from to : Place) : Type 0 where
  pub tree : Expression
  pub reads : ReadsCondition s negated tree from.tokens to.tokens
  pub code : to.code ≡ from.code ++ expression_code tree

-- the variables of a loop were read, and then the word `in` is wanted
pub record ReadsLoopVars (s : List ℕ) (names : LoopVars) (ts rest : List Lexeme) : Type 0 where
  pub reads : AreLoopVars s names ts rest
  pub last : Part
  pub leads : (parts : List Part) → Leads s (loop_name ∷ parts) ts (last ∷ parts) rest
  pub takes_in : (parts : List Part) → after (last ∷ parts) Keyword key_in ≡ Some (a_base ∷ filters ∷ parts)
  pub wants_in : (parts : List Part) → wanted_at (last ∷ parts) ≡ Some an_in
  pub refuses : (parts : List Part) → NoWord s (codes "in") rest → Refuses s (last ∷ parts) rest

-- a token is left, where the tag's end is wanted
pub record IsTooLong (wanted : Want) (tokens : List Lexed) (want : Want) (left : List Lexed) : Type 0 where
  pub some : tokens ≡ [] → ⊥
  pub same : left ≡ tokens
  pub wants : want ≡ wanted

-- no keyword comes first that begins a block, goes on with one, or includes a template
abbrev pub NoOpeningWord : List ℕ → List Lexeme → Type 0
NoOpeningWord s ts = NoWord s (codes "if") ts × NoWord s (codes "else") ts × NoWord s (codes "for") ts
    × NoWord s (codes "with") ts × NoWord s (codes "include") ts
