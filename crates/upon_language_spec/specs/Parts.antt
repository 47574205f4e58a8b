-- What may be next in a tag: the parts that are still to come, the nearest first.
use Rattle.std.specs.Prelude.{◌≡◌, List, [], ◌∷◌, ◌++◌, Bool, true, false, Option, Some, None, nat_lt, if◌then◌else◌}
use Rattle.upon_types.specs.declared.types.token.Token.{Token}
use Rattle.upon_types.specs.declared.types.token.Token.TheVariants.{BeginExpr, EndExpr, BeginBlock, EndBlock, OpenBracket, CloseBracket, OpenBrace, CloseBrace, OpenParen, CloseParen, Dot, QuestionDot, Pipe, Comma, Colon, Plus, Minus, Keyword, Ident, Index, Number, String}
use Rattle.upon_language_spec.specs.Tags.{Symbol}
use Rattle.upon_language_spec.specs.Wanted.{Wanted, an_expression, a_string, a_name_or_index, an_end_expression, an_end_block, a_close_paren, a_close_bracket, a_close_brace, an_in, an_as, a_block_word, a_name, a_number, a_colon, rank}
use Rattle.upon_language_spec.specs.Keys.{Key, key_if, key_not, key_else, key_endif, key_for, key_in, key_endfor, key_with, key_as, key_endwith, key_include, key_true, key_false, keyword_of}

-- a part of a tag that is still to come
pub data Part : Type 0 where
  -- a Base, and what may go on with it after a bare name and after a later member
  a_base : Part
  after_name : Part
  after_member : Part
  -- after `.` and `?.`, and after a sign
  a_member : Part
  a_magnitude : Part
  -- further filters, a filter's name, its arguments, and more of them
  filters : Part
  filter_name : Part
  after_filter : Part
  more_args : Part
  -- a list's item or its end, and what is after an item; so of maps and calls
  list_start : Part
  list_rest : Part
  map_start : Part
  map_colon : Part
  map_rest : Part
  call_start : Part
  call_rest : Part
  close_paren : Part
  -- tags
  tag_start : Part
  end_expr : Part
  end_block : Part
  block_word : Part
  condition : Part
  else_rest : Part
  loop_name : Part
  loop_rest : Part
  loop_value : Part
  in_word : Part
  as_word : Part
  as_name : Part
  include_name : Part
  include_rest : Part

-- the parts that may be left out
abbrev pub is_optional : Part → Bool
is_optional after_name = true
is_optional after_member = true
is_optional filters = true
is_optional after_filter = true
is_optional more_args = true
is_optional part = false

-- what a keyword that begins a Base leaves
abbrev pub base_key : Key → List Part → Option (List Part)
base_key key_true others = Some others
base_key key_false others = Some others
base_key k others = None

-- what a token that begins a Base leaves, in front of what comes after the Base
abbrev pub base_goes : Token → Key → List Part → Option (List Part)
base_goes Keyword k others = base_key k others
base_goes Plus k others = Some (a_magnitude ∷ others)
base_goes Minus k others = Some (a_magnitude ∷ others)
base_goes Number k others = Some others
base_goes String k others = Some others
base_goes Ident k others = Some (after_name ∷ others)
base_goes Dot k others = Some (a_member ∷ others)
base_goes QuestionDot k others = Some (a_member ∷ others)
base_goes OpenBracket k others = Some (list_start ∷ others)
base_goes OpenBrace k others = Some (map_start ∷ others)
base_goes OpenParen k others = Some (a_base ∷ filters ∷ close_paren ∷ others)
base_goes t k others = None

-- what a keyword leaves of the part, where it may be first in it
abbrev pub key_goes : Part → Key → Option (List Part)
key_goes block_word key_if = Some (condition ∷ end_block ∷ [])
key_goes block_word key_else = Some (else_rest ∷ [])
key_goes block_word key_endif = Some (end_block ∷ [])
key_goes block_word key_for = Some (loop_name ∷ end_block ∷ [])
key_goes block_word key_endfor = Some (end_block ∷ [])
key_goes block_word key_with = Some (a_base ∷ filters ∷ as_word ∷ end_block ∷ [])
key_goes block_word key_endwith = Some (end_block ∷ [])
key_goes block_word key_include = Some (include_name ∷ [])
key_goes else_rest key_if = Some (condition ∷ end_block ∷ [])
key_goes in_word key_in = Some (a_base ∷ filters ∷ [])
key_goes loop_rest key_in = Some (a_base ∷ filters ∷ [])
key_goes as_word key_as = Some (as_name ∷ [])
key_goes include_rest key_with = Some (a_base ∷ filters ∷ end_block ∷ [])
key_goes part k = None

-- a condition may begin with `not`
abbrev pub condition_key : Key → Option (List Part)
condition_key key_not = Some (a_base ∷ filters ∷ [])
condition_key k = base_key k (filters ∷ [])

-- what the token leaves of the part, where it may be first in it
abbrev pub goes : Part → Token → Key → Option (List Part)
goes a_base t k = base_goes t k []
goes after_name t k = elim t [
  | Dot ↦ Some (a_member ∷ [])
  | QuestionDot ↦ Some (a_member ∷ [])
  | OpenParen ↦ Some (call_start ∷ [])
  | _ ↦ None
]
goes after_member t k = elim t [ Dot ↦ Some (a_member ∷ []) | QuestionDot ↦ Some (a_member ∷ []) | _ ↦ None ]
goes a_member t k = elim t [ Ident ↦ Some (after_member ∷ []) | Index ↦ Some (after_member ∷ []) | _ ↦ None ]
goes a_magnitude t k = elim t [ Number ↦ Some [] | _ ↦ None ]
goes filters t k = elim t [ Pipe ↦ Some (filter_name ∷ filters ∷ []) | _ ↦ None ]
goes filter_name t k = elim t [ Ident ↦ Some (after_filter ∷ []) | _ ↦ None ]
goes after_filter t k = elim t [ Colon ↦ Some (a_base ∷ more_args ∷ []) | _ ↦ None ]
goes more_args t k = elim t [ Comma ↦ Some (a_base ∷ more_args ∷ []) | _ ↦ None ]
goes list_start t k = elim t [ CloseBracket ↦ Some [] | u ↦ base_goes u k (list_rest ∷ []) ]
goes list_rest t k = elim t [ CloseBracket ↦ Some [] | Comma ↦ Some (list_start ∷ []) | _ ↦ None ]
goes map_start t k = elim t [ CloseBrace ↦ Some [] | String ↦ Some (map_colon ∷ []) | _ ↦ None ]
goes map_colon t k = elim t [ Colon ↦ Some (a_base ∷ map_rest ∷ []) | _ ↦ None ]
goes map_rest t k = elim t [ CloseBrace ↦ Some [] | Comma ↦ Some (map_start ∷ []) | _ ↦ None ]
goes call_start t k = elim t [ CloseParen ↦ Some [] | u ↦ base_goes u k (call_rest ∷ []) ]
goes call_rest t k = elim t [ CloseParen ↦ Some [] | Comma ↦ Some (a_base ∷ call_rest ∷ []) | _ ↦ None ]
goes close_paren t k = elim t [ CloseParen ↦ Some [] | _ ↦ None ]
goes tag_start t k = elim t [
  | BeginExpr ↦ Some (a_base ∷ filters ∷ end_expr ∷ [])
  | BeginBlock ↦ Some (block_word ∷ [])
  | _ ↦ None
]
goes end_expr t k = elim t [ EndExpr ↦ Some [] | _ ↦ None ]
goes end_block t k = elim t [ EndBlock ↦ Some [] | _ ↦ None ]
goes block_word t k = elim t [ Keyword ↦ key_goes block_word k | _ ↦ None ]
goes condition t k = elim t [ Keyword ↦ condition_key k | u ↦ base_goes u k (filters ∷ []) ]
goes else_rest t k = elim t [ EndBlock ↦ Some [] | Keyword ↦ key_goes else_rest k | _ ↦ None ]
goes loop_name t k = elim t [ Ident ↦ Some (loop_rest ∷ []) | _ ↦ None ]
goes loop_rest t k = elim t [ Comma ↦ Some (loop_value ∷ []) | Keyword ↦ key_goes loop_rest k | _ ↦ None ]
goes loop_value t k = elim t [ Ident ↦ Some (in_word ∷ []) | _ ↦ None ]
goes in_word t k = elim t [ Keyword ↦ key_goes in_word k | _ ↦ None ]
goes as_word t k = elim t [ Keyword ↦ key_goes as_word k | _ ↦ None ]
goes as_name t k = elim t [ Ident ↦ Some [] | _ ↦ None ]
goes include_name t k = elim t [ String ↦ Some (include_rest ∷ []) | _ ↦ None ]
goes include_rest t k = elim t [ EndBlock ↦ Some [] | Keyword ↦ key_goes include_rest k | _ ↦ None ]

-- what is left where the first part took the token, or is left out
abbrev pub left_of : Option (List Part) → Bool → List Part → Option (List Part) → Option (List Part)
left_of (Some first) optional others later = Some (first ++ others)
left_of None true others later = later
left_of None false others later = None

-- what is to come after the token, where it may be
abbrev pub after : List Part → Token → Key → Option (List Part)
after [] t k = None
after (part ∷ parts) t k = left_of (goes part t k) (is_optional part) parts (after parts t k)

-- what is to come after a symbol, where it may be
abbrev pub after_symbol : List Part → Symbol → Option (List Part)
after_symbol parts x = after parts x.token (keyword_of x.word)

-- the symbols lead from these parts to those: each may be where it does
abbrev pub Path : List Part → List Symbol → List Part → Type 0
Path parts [] to = parts ≡ to
Path parts (x ∷ symbols) to = (next : List Part) × (after_symbol parts x ≡ Some next) × Path next symbols to

-- the word that the part wants; an optional one wants a word only after a filter's name
abbrev pub own : Part → Option Wanted
own a_base = Some an_expression
own after_name = None
own after_member = None
own a_member = Some a_name_or_index
own a_magnitude = Some a_number
own filters = None
own filter_name = Some a_name
own after_filter = Some a_colon
own more_args = None
own list_start = Some an_expression
own list_rest = Some a_close_bracket
own map_start = Some a_string
own map_colon = Some a_colon
own map_rest = Some a_close_brace
own call_start = Some an_expression
own call_rest = Some a_close_paren
own close_paren = Some a_close_paren
own tag_start = None
own end_expr = Some an_end_expression
own end_block = Some an_end_block
own block_word = Some a_block_word
own condition = Some an_expression
own else_rest = Some an_end_block
own loop_name = Some a_name
own loop_rest = Some an_in
own loop_value = Some a_name
own in_word = Some an_in
own as_word = Some an_as
own as_name = Some a_name
own include_name = Some a_string
own include_rest = Some an_end_block

-- the lesser of two words, in the order of the wanted words
abbrev pub lesser : Wanted → Option Wanted → Option Wanted
lesser w None = Some w
lesser w (Some v) = Some (if nat_lt (rank w) (rank v) then w else v)

-- the least of a part's own word and of those after it, which count if the part may be left out
abbrev pub least_of : Bool → Option Wanted → Option Wanted → Option Wanted
least_of false w others = w
least_of true None others = others
least_of true (Some w) others = lesser w others

-- the word that is wanted where these parts are to come: of those that may be there the least
abbrev pub wanted_at : List Part → Option Wanted
wanted_at [] = None
wanted_at (part ∷ parts) = least_of (is_optional part) (own part) (wanted_at parts)
