-- What one tag does to the open blocks: it leaves them, opens one, goes on with the innermost, or closes it.
use Rattle.std.proofs.Common.{◌≡◌, ℕ, List, [], ◌∷◌, ◌++◌, Bool, true, false, Option, Some, None, option_map, refl, sym, ap, ◌∙◌, subst, codes, if◌then◌else◌}
use Rattle.upon_types.specs.declared.types.Span.{Span}
use Rattle.upon_types.specs.declared.types.token.Token.{Token}
use Rattle.upon_types.specs.declared.types.token.Token.TheVariants.{BeginExpr, EndExpr, BeginBlock, EndBlock, Keyword, String}
use Rattle.upon_types.specs.Span.{slice}
use Rattle.upon_types.specs.Path.{Ident}
use Rattle.upon_types.specs.Expression.{Expression}
use Rattle.upon_types.specs.BlockKinds.{Block, if_block, Opening, opened_kind, block_word, end_word, may_have_else, kind_with}
use Rattle.upon_types.specs.Tree.{inline_expr, include}
use Rattle.upon_language_spec.specs.Cut.{Lexeme}
use Rattle.upon_language_spec.specs.Tokens.{Goes, GoesBy, GoesKeyword, from_to}
use Rattle.upon_language_spec.specs.Expressions.{IsExpression}
use Rattle.upon_language_spec.specs.Grammar.{BeginsBlock, IsWordTag, IsElseIfTag, IsOpeningTag, IsStatement}
use Rattle.upon_language_spec.specs.Reading.{brackets_after}
use Rattle.upon_language_spec.proofs.BlockKinds.{ends_itself, begun_by, begins_no_end, ended_by, ends_no_begin, block_is_no_else, end_is_no_else}
use Rattle.upon_language_spec.proofs.NoTreeWithFault.Fine.{TokenFine, Fine, Passes}
use Rattle.upon_language_spec.proofs.NoTreeWithFault.TagShapes.{passes_condition, passes_context, passes_head}
use Rattle.upon_language_spec.specs.Blocks.{OpenBlock, Closer, else_if, plain_else, end_of, else_by, closer_by, takes, end_from, open_block, open_or, by_word, after_closer, by_closer, blocks_from}
use Rattle.upon_language_spec.specs.ClosingTags.{is_word, blocks_past, Closing, TokenTaken, AllTaken}

abbrev pub begins_block : Token → Bool
begins_block BeginBlock = true
begins_block t = false

-- what is read up to the rest leads from these open blocks to those, and takes each closing tag
abbrev pub Walks : List ℕ → List OpenBlock → List Lexeme → List OpenBlock → List Lexeme → Type 0
Walks s a ts b rest = (blocks_from s a ts ≡ blocks_from s b rest) × (AllTaken s b rest → AllTaken s a ts)

plain_stepped : (s : List ℕ) (a : List OpenBlock) (t : Token) (span : Span) (ls : List Lexeme) → begins_block t ≡ false → blocks_past s a t span ls ≡ a
plain_stepped s a BeginBlock span ls h = absurd cc
plain_stepped s a t span ls h = refl

plain_taken : (s : List ℕ) (a : List OpenBlock) (t : Token) (ls : List Lexeme) → begins_block t ≡ false → TokenTaken s a t ls
plain_taken s a BeginBlock ls h = absurd cc
plain_taken s a t ls h = tt

fine_begins_no_block : (s : List ℕ) (stack : List Lexeme) (before : Option Lexeme) (t : Token) (l : Lexeme) → TokenFine s stack before t l → begins_block t ≡ false
fine_begins_no_block s stack before BeginBlock l h = absurd h
fine_begins_no_block s stack before t l h = refl

-- the keywords of a kind, as closing tags
pub end_closer : (s : List ℕ) (kind : Block) (ls : List Lexeme) → closer_by s (end_word kind) ls ≡ Some (end_of kind)
end_closer s kind ls = ap (λ x. if x then Some (else_by s ls) else option_map end_of (kind_with end_word (end_word kind))) (end_is_no_else kind) ∙ ap (option_map end_of) (ended_by kind)

pub block_closes_none : (s : List ℕ) (kind : Block) (ls : List Lexeme) → closer_by s (block_word kind) ls ≡ None
block_closes_none s kind ls = ap (λ x. if x then Some (else_by s ls) else option_map end_of (kind_with end_word (block_word kind))) (block_is_no_else kind) ∙ ap (option_map end_of) (ends_no_begin kind)

pub end_closes : (s : List ℕ) (kind : Block) (begin : Span) (ls : List Lexeme) (a : List OpenBlock) → by_word s begin (end_word kind) ls a ≡ after_closer (end_of kind) a
end_closes s kind begin ls a =
    ap (λ x. open_or x begin ls a (by_closer (closer_by s (end_word kind) ls) a)) (begins_no_end kind) ∙ ap (λ x. by_closer x a) (end_closer s kind ls)

pub block_opens : (s : List ℕ) (kind : Block) (begin : Span) (ls : List Lexeme) (a : List OpenBlock) → by_word s begin (block_word kind) ls a ≡ open_block kind begin ls a
block_opens s kind begin ls a = ap (λ x. open_or x begin ls a (by_closer (closer_by s (block_word kind) ls) a)) (begun_by kind)

module _ (s : List ℕ) where
  pub walks_then : (a b c : List OpenBlock) (ts us rest : List Lexeme) → Walks s a ts b us → Walks s b us c rest → Walks s a ts c rest
  walks_then a b c ts us rest x y = (x.0 ∙ y.0, λ h. x.1 (y.1 h))

  pub walks_nothing : (a : List OpenBlock) (ts rest : List Lexeme) → ts ≡ rest → Walks s a ts a rest
  walks_nothing a ts rest e = (ap (blocks_from s a) e, λ h. let F : List Lexeme → Type 0 = λ x. AllTaken s a x in subst F (sym e) h)

  pub from_same : (a b : List OpenBlock) (ts us rest : List Lexeme) → ts ≡ us → Walks s a us b rest → Walks s a ts b rest
  from_same a b ts us rest e h = walks_then a a b ts us rest (walks_nothing a ts us e) h

  pub walks_plain : (a : List OpenBlock) (l : Lexeme) (ls : List Lexeme) → begins_block l.token ≡ false → Walks s a (l ∷ ls) a ls
  walks_plain a l ls h =
      let e = plain_stepped s a l.token l.span ls h in
      (ap (λ (x : List OpenBlock). blocks_from s x ls) e, λ k. (plain_taken s a l.token ls h, let F : List OpenBlock → Type 0 = λ x. AllTaken s x ls in subst F (sym e) k))

  pub walks_one : (t : Token) (span : Span) (a : List OpenBlock) (ts rest : List Lexeme) → begins_block t ≡ false → Goes t span ts rest → Walks s a ts a rest
  walks_one t span a ts rest h g = from_same a a ts (g.lexeme ∷ rest) rest g.is (walks_plain a g.lexeme rest (ap begins_block g.of_token ∙ h))

  walks_fine : (a : List OpenBlock) (stack stack' : List Lexeme) (before before' : Option Lexeme) (mid rest : List Lexeme) → Fine s stack before mid stack' before' → Walks s a (mid ++ rest) a rest
  walks_fine a stack stack' before before' [] rest h = walks_nothing a rest rest refl
  walks_fine a stack stack' before before' (l ∷ ls) rest h =
      walks_then a a a (l ∷ (ls ++ rest)) (ls ++ rest) rest (walks_plain a l (ls ++ rest) (fine_begins_no_block s stack before l.token l h.0))
      (walks_fine a (brackets_after stack l.token l) stack' (Some l) before' ls rest h.1)

  walks_passes : (a : List OpenBlock) (ts rest : List Lexeme) → Passes s ts rest → Walks s a ts a rest
  walks_passes a ts rest p =
      let q = p [] in
      let f = q.2 None refl in
      from_same a a ts (q.0 ++ rest) rest q.1 (walks_fine a [] [] None f.0 q.0 rest f.2)

  walks_word : (word : List ℕ) (a : List OpenBlock) (ts rest : List Lexeme) → GoesKeyword s word ts rest → Walks s a ts a rest
  walks_word word a ts rest g = walks_one Keyword g.0 a ts rest refl g.1.0

  -- a begin of block and its keyword, at an offset
  walks_begin_at : (a : List OpenBlock) (l k : Lexeme) (word : List ℕ) (ls : List Lexeme) → l.token ≡ BeginBlock → k.token ≡ Keyword → slice s k.span ≡ word → Closing a (closer_by s word ls) → Walks s a (l ∷ k ∷ ls) (by_word s l.span word ls a) ls
  walks_begin_at a l k word ls t u e c =
      let F : List ℕ → Type 0 = λ x. Closing a (closer_by s x ls) in
      let G : Token → Type 0 = λ x. TokenTaken s a x (k ∷ ls) in
      let taken : TokenTaken s a l.token (k ∷ ls) = subst G (sym t) (ap is_word u, subst F (sym e) c) in
      let b = by_word s l.span word ls a in
      let same : blocks_past s a l.token l.span (k ∷ ls) ≡ b = ap (λ (x : Token). blocks_past s a x l.span (k ∷ ls)) t ∙ ap (λ (x : List ℕ). by_word s l.span x ls a) e in
      let word_walks = walks_plain b k ls (ap begins_block u) in
      let H : List OpenBlock → Type 0 = λ x. AllTaken s x (k ∷ ls) in
      (ap (λ (x : List OpenBlock). blocks_from s x (k ∷ ls)) same ∙ word_walks.0, λ h. (taken, subst H (sym same) (word_walks.1 h)))

  pub walks_begin : (a b : List OpenBlock) (word : List ℕ) (ts rest : List Lexeme) (g : BeginsBlock s word ts rest) → Closing a (closer_by s word rest) → by_word s g.1.1.lexeme.span word rest a ≡ b → Walks s a ts b rest
  walks_begin a b word ts rest g c e =
      let l = g.1.1.lexeme in
      let k = g.2.1.0.lexeme in
      let at = walks_begin_at a l k word rest g.1.1.of_token g.2.1.0.of_token (ap (slice s) g.2.1.0.at ∙ g.2.1.1) c in
      let F : List OpenBlock → Type 0 = λ x. Walks s a (l ∷ k ∷ rest) x rest in
      from_same a b ts (l ∷ k ∷ rest) rest (g.1.1.is ∙ ap (λ (x : List Lexeme). l ∷ x) g.2.1.0.is) (subst F e at)

  walks_by : (t : Token) (a : List OpenBlock) (ts rest : List Lexeme) → begins_block t ≡ false → GoesBy t ts rest → Walks s a ts a rest
  walks_by t a ts rest h g = walks_one t g.0 a ts rest h g.1

  abbrev pub opening : Block → Bool → Span → OpenBlock
  opening kind has_else span = record { kind = kind; has_else = has_else; span = span }

  abbrev new_open : Block → Span → List Lexeme → OpenBlock
  new_open kind begin ls = record { kind = kind; has_else = false; span = from_to begin (end_from begin ls) }

  -- a closing tag of a keyword alone
  walks_close : (a b : List OpenBlock) (word : List ℕ) (ts rest : List Lexeme) → IsWordTag s word ts rest → ((mid : List Lexeme) → GoesBy EndBlock mid rest → Closing a (closer_by s word mid)) → ((begin : Span) (mid : List Lexeme) → GoesBy EndBlock mid rest → by_word s begin word mid a ≡ b) → Walks s a ts b rest
  walks_close a b word ts rest g c e = walks_then a b b ts g.0 rest (walks_begin a b word ts g.0 g.1 (c g.0 g.2) (e g.1.1.1.lexeme.span g.0 g.2)) (walks_by EndBlock b g.0 rest refl g.2)

  -- the last tag of a block
  pub walks_end : (kind : Block) (a : List OpenBlock) (has_else : Bool) (span : Span) (ts rest : List Lexeme) → IsWordTag s (end_word kind) ts rest → Walks s (opening kind has_else span ∷ a) ts a rest
  walks_end kind a has_else span ts rest g = walks_close (opening kind has_else span ∷ a) a (end_word kind) ts rest g
      (λ mid h. let F : Option Closer → Type 0 = λ x. Closing (opening kind has_else span ∷ a) x in subst F (sym (end_closer s kind mid)) (ends_itself kind))
      (λ begin mid h. end_closes s kind begin mid (opening kind has_else span ∷ a))

  abbrev else_token : Token → Closer
  else_token t = elim t [ Keyword ↦ else_if | _ ↦ plain_else ]

  pub else_at : (t : Token) (span : Span) (ts rest : List Lexeme) → Goes t span ts rest → else_by s ts ≡ else_token t
  else_at t span ts rest g = ap (else_by s) g.is ∙ ap else_token g.of_token

  -- the `else` of a block that may have one
  pub walks_plain_else : (kind : Block) (a : List OpenBlock) (span : Span) (ts rest : List Lexeme) → may_have_else kind ≡ true → IsWordTag s (codes "else") ts rest → Walks s (opening kind false span ∷ a) ts (opening kind true span ∷ a) rest
  walks_plain_else kind a span ts rest takes_it g = walks_close (opening kind false span ∷ a) (opening kind true span ∷ a) (codes "else") ts rest g
      (λ mid h. ap (takes (opening kind false span ∷ a)) (else_at EndBlock h.0 mid rest h.1) ∙ takes_it)
      (λ begin mid h. ap (λ (x : Closer). by_closer (Some x) (opening kind false span ∷ a)) (else_at EndBlock h.0 mid rest h.1))

-- with what is known of expressions: none of their tokens begins a block
module _ (s : List ℕ) (passes : (e : Expression) (ts rest : List Lexeme) → IsExpression s e ts rest → Passes s ts rest) where
  -- what opens a block leaves it open
  abbrev Opens : Block → List OpenBlock → List Lexeme → List Lexeme → Type 0
  Opens kind a ts rest = (span : Span) × Walks s a ts (record { kind = kind; has_else = false; span = span } ∷ a) rest

  pub walks_opening : (tag : Opening) (e : Expression) (a : List OpenBlock) (ts rest : List Lexeme) → IsOpeningTag s tag e ts rest → Opens (opened_kind tag) a ts rest
  walks_opening tag e a ts rest g =
      let kind = opened_kind tag in
      let begin = g.2.1.1.lexeme.span in
      let o : OpenBlock = record { kind = kind; has_else = false; span = from_to begin (end_from begin g.0) } in
      let F : Option Closer → Type 0 = λ x. Closing a x in (
        o.span,
        walks_then s a (o ∷ a) (o ∷ a) ts g.0 rest (walks_begin s a (o ∷ a) (block_word kind) ts g.0 g.2 (subst F (sym (block_closes_none s kind g.0)) tt) (block_opens s kind begin g.0 a))
            (walks_then s (o ∷ a) (o ∷ a) (o ∷ a) g.0 g.1 rest (walks_passes s (o ∷ a) g.0 g.1 (passes_head s tag e g.0 g.1 g.3)) (walks_by s EndBlock (o ∷ a) g.1 rest refl g.4)),
      )

  pub walks_else_if : (negated : Bool) (e : Expression) (span : Span) (a : List OpenBlock) (ts rest : List Lexeme) → IsElseIfTag s negated e ts rest → Walks s (opening s if_block false span ∷ a) ts (opening s if_block false span ∷ a) rest
  walks_else_if negated e span a ts rest g =
      let b = opening s if_block false span ∷ a in
      let is : else_by s g.0 ≡ else_if = else_at s Keyword g.4.0 g.0 g.1 g.4.1.0 in
      walks_then s b b b ts g.0 rest (walks_begin s b b (codes "else") ts g.0 g.3 (ap (takes b) is) (ap (λ (x : Closer). by_closer (Some x) b) is))
      (walks_then s b b b g.0 g.1 rest (walks_word s (codes "if") b g.0 g.1 g.4)
      (walks_then s b b b g.1 g.2 rest (walks_passes s b g.1 g.2 (passes_condition s negated e g.1 g.2 g.5)) (walks_by s EndBlock b g.2 rest refl g.6)))

  pub walks_include : (name : Ident) (context : Option Expression) (a : List OpenBlock) (ts rest : List Lexeme) → IsStatement s (include name context) ts rest → Walks s a ts a rest
  walks_include name context a ts rest g =
      walks_then s a a a ts g.0 rest (walks_begin s a a (codes "include") ts g.0 g.3 tt refl)
      (walks_then s a a a g.0 g.1 rest (walks_one s String name.span a g.0 g.1 refl g.4.0)
      (walks_then s a a a g.1 g.2 rest (walks_passes s a g.1 g.2 (passes_context s context g.1 g.2 g.5)) (walks_by s EndBlock a g.2 rest refl g.6)))

  pub walks_inline : (e : Expression) (span : Span) (a : List OpenBlock) (ts rest : List Lexeme) → IsStatement s (inline_expr e span) ts rest → Walks s a ts a rest
  walks_inline e span a ts rest g =
      walks_then s a a a ts g.2 rest (walks_one s BeginExpr g.0 a ts g.2 refl g.4)
      (walks_then s a a a g.2 g.3 rest (walks_passes s a g.2 g.3 (passes e g.2 g.3 g.5)) (walks_one s EndExpr g.1 a g.3 rest refl g.6))
