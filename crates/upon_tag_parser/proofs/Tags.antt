-- The tags of blocks: what each reads, where its end may be, and where it is stuck.
use Rattle.std.proofs.Common.{◌≡◌, ℕ, List, [], ◌∷◌, ◌++◌, Bool, true, false, Some, None, refl, sym, ap, ◌∙◌, subst, codes}
use Rattle.upon_types.specs.declared.types.Span.{Span}
use Rattle.upon_types.specs.declared.types.token.Token.{Token}
use Rattle.upon_types.specs.declared.types.token.Token.TheVariants.{BeginBlock, EndBlock, Keyword, Comma, Ident as Identifier, String}
use Rattle.upon_types.specs.BlockKinds.{Block, if_block, for_block, with_block, if_tag, for_tag, with_tag, opened_kind, end_word, kind_with}
use Rattle.upon_types.specs.BlockKinds.{block_word as block_word_of}
use Rattle.upon_types.specs.Path.{Ident, LoopVars, item, key_value}
use Rattle.upon_types.specs.Span.{slice}
use Rattle.upon_types.specs.Expression.{Expression}
use Rattle.upon_language_spec.specs.Cut.{Lexeme}
use Rattle.upon_language_spec.specs.Tokens.{Goes, GoesBy, GoesKeyword, GoesName, GoesText, from_to}
use Rattle.upon_language_spec.specs.Expressions.{IsExpression}
use Rattle.upon_language_spec.specs.Grammar.{IsWordTag}
use Rattle.upon_language_spec.specs.Tags.{symbol_of}
use Rattle.upon_language_spec.specs.Keys.{Key, key_if, key_else, key_endif, key_for, key_in, key_endfor, key_with, key_as, key_endwith, key_include, keyword_of}
use Rattle.upon_language_spec.specs.Wanted.{Wanted, an_end_block, an_as}
use Rattle.upon_language_spec.specs.Parts.{Part, a_base, filters, end_block, block_word, condition, else_rest, loop_name, loop_rest, loop_value, in_word, as_word, as_name, include_name, include_rest, after}
use Rattle.upon_language_spec.specs.PartTails.{No}
use Rattle.upon_language_spec.specs.PartLeads.{Leads}
use Rattle.upon_language_spec.specs.InTags.{is_inside}
use Rattle.upon_language_spec.proofs.BlockKinds.{ended_by}
use Rattle.upon_language_spec.proofs.Totality.ExpressionMore.{expression_more}
use Rattle.upon_language_spec.proofs.Totality.TagMore.{keyword_more, condition_more, head_more, context_more, text_more}
use Rattle.upon_language_spec.specs.OpenParts.{ending_parts}
use Rattle.upon_language_spec.proofs.Wanted.ExpressionsLead.{ending_left, base_takes, condition_takes, leads_then, leads_token, leads_key}
use Rattle.upon_tag_parser.specs.BlockTags.{BlockTag, opening_tag, else_if_tag, else_tag, end_tag, include_tag, IsBlockTag}
use Rattle.upon_tag_parser.specs.TagParsing.{Refuses, StuckAt, IsStuck, NoWord, ReadsExpression}
use Rattle.upon_tag_parser.specs.WholeTags.{LeadsToEnd, IsInlineTag, IsTagInside, IsTagBody, IsEnding, ReadsTag, ReadsCondition, ReadsLoopVars, IsTooLong, NoOpeningWord}
use Rattle.upon_lexer.specs.declared.literal.Lexed.{Lexed}
use Rattle.upon_tag_parser.specs.declared.compile.parse.want.Want.{Want}
use Rattle.upon_tag_parser.specs.TagTokens.{lexemes_of, AreTagTokens}
use Rattle.upon_tag_parser.specs.Wants.{wanted_of}
use Rattle.upon_tag_parser.proofs.TagTokens.{first_inside}
use Rattle.upon_tag_parser.proofs.Stuck.{is_not, stuck_here, stuck_then}
use Rattle.upon_tag_parser.proofs.Endings.{ending_wants, expression_refuses, expression_ends_block, block_ends, goes_key}

-- ---- a whole tag: its body, with its begin and its end
module _ (s : List ℕ) (ts : List Lexeme) (begin end : Lexeme) (more : List Lexeme) (opens : begin.token ≡ BeginBlock) (closes : end.token ≡ EndBlock) where
  abbrev pub rest : List Lexeme
  rest = end ∷ more

  ended : GoesBy EndBlock rest more
  ended = (end.span, record { lexeme = end; is = refl; of_token = closes; at = refl })

  begun : GoesBy BeginBlock (begin ∷ (ts ++ rest)) (ts ++ rest)
  begun = (begin.span, record { lexeme = begin; is = refl; of_token = opens; at = refl })

  word_whole : (word : List ℕ) → GoesKeyword s word ts [] → IsWordTag s word (begin ∷ (ts ++ rest)) more
  word_whole word g = (rest, (ts ++ rest, begun, keyword_more s rest word ts [] g), ended)

  pub whole_tag : (tag : BlockTag) → IsTagBody s tag ts [] → IsBlockTag s tag (begin ∷ (ts ++ rest)) more
  whole_tag (opening_tag opening e) (mid, word, head) = (mid ++ rest, rest, (ts ++ rest, begun, keyword_more s rest (block_word_of (opened_kind opening)) ts mid word), head_more s rest opening e mid [] head, ended)
  whole_tag (else_if_tag negated e) (start, mid, word, second, cond) = (start ++ rest, mid ++ rest, rest, (ts ++ rest, begun, keyword_more s rest (codes "else") ts start word), keyword_more s rest (codes "if") start mid second, condition_more s rest negated e mid [] cond, ended)
  whole_tag else_tag g = word_whole (codes "else") g
  whole_tag (end_tag kind) g = word_whole (end_word kind) g
  whole_tag (include_tag name globals) (start, mid, word, text, given) = (start ++ rest, mid ++ rest, rest, (ts ++ rest, begun, keyword_more s rest (codes "include") ts start word), text_more s rest name start mid text, context_more s rest globals mid [] given, ended)

pub tag_inside : (s : List ℕ) (tag : BlockTag) (ts : List Lexeme) → IsTagBody s tag ts [] → IsTagInside s tag ts
tag_inside s tag ts h begin end more opens closes = whole_tag s ts begin end more opens closes tag h

pub inline_inside : (s : List ℕ) (e : Expression) (ts : List Lexeme) → IsExpression s e ts [] → IsInlineTag s e ts
inline_inside s e ts h begin end more opens closes = (
  begin.span,
  end.span,
  ts ++ end ∷ more,
  end ∷ more,
  record { lexeme = begin; is = refl; of_token = opens; at = refl },
  expression_more s (end ∷ more) e ts [] h,
  record { lexeme = end; is = refl; of_token = closes; at = refl },
  refl,
)

-- ---- where the end may be
pub ends_here : (s : List ℕ) (from to : List Part) (ts rest : List Lexeme) (end : Token) (word : Wanted) → Leads s from ts to rest → IsEnding s to end word rest → rest ≡ [] → LeadsToEnd s from ts end word
ends_here s from to ts rest end word leads ending e = record { to = to; leads = subst (λ x. Leads s from ts to x) e leads; ends = ending.ends; wants = ending.wants }

-- where another token is next, it may not be there
pub too_long : (s : List ℕ) (from to : List Part) (ts rest : List Lexeme) (end : Token) (word : Wanted) → Leads s from ts to rest → IsEnding s to end word rest → (rest ≡ [] → ⊥) → ((l : Lexeme) (ls : List Lexeme) → rest ≡ l ∷ ls → is_inside l.token ≡ true) → StuckAt s from ts rest word
too_long s from to ts rest end word leads ending some inside = stuck_then s from to ts rest rest word leads (stuck_here s to rest word (by rest some inside ending.refuses) ending.wants)
  where
    by : (xs : List Lexeme) → (xs ≡ [] → ⊥) → ((l : Lexeme) (ls : List Lexeme) → xs ≡ l ∷ ls → is_inside l.token ≡ true) → ((l : Lexeme) (ls : List Lexeme) → xs ≡ l ∷ ls → is_inside l.token ≡ true → after to l.token (keyword_of (symbol_of s l).word) ≡ None) → Refuses s to xs
    by [] some inside refuses = absurd (some refl)
    by (l ∷ ls) some inside refuses = refuses l ls refl (inside l ls refl)

no_tokens : (tokens : List Lexed) → (tokens ≡ [] → ⊥) → lexemes_of tokens ≡ [] → ⊥
no_tokens [] some e = some refl
no_tokens (x ∷ xs) some e = absurd cc

pub too_long_stuck : (s : List ℕ) (from to : List Part) (tokens rest : List Lexed) (end : Token) (wanted w : Want) (left : List Lexed) → Leads s from (lexemes_of tokens) to (lexemes_of rest) → IsEnding s to end (wanted_of wanted) (lexemes_of rest) → AreTagTokens s rest → IsTooLong wanted rest w left → IsStuck s from tokens w left
too_long_stuck s from to tokens rest end wanted w left leads ending known x =
    let h = too_long s from to (lexemes_of tokens) (lexemes_of rest) end (wanted_of wanted) leads ending (no_tokens rest x.some) (first_inside s rest known) in
    subst (λ (y : List Lexed). StuckAt s from (lexemes_of tokens) (lexemes_of y) (wanted_of w)) (sym x.same) (subst (λ y. StuckAt s from (lexemes_of tokens) (lexemes_of rest) (wanted_of y)) (sym x.wants) h)

-- ---- conditions
pub condition_reads : (s : List ℕ) (e : Expression) (ts rest : List Lexeme) → ReadsExpression s e ts rest → ReadsCondition s false e ts rest
condition_reads s e ts rest h = record { reads = h.part.reads; ending = h.part.ending; leads = λ ps. h.part.leads (condition ∷ ps) ps (condition_takes ps); quiet = h.part.quiet; no_more = h.no_more }

pub not_reads : (s : List ℕ) (e : Expression) (ts mid rest : List Lexeme) → GoesKeyword s (codes "not") ts mid → ReadsExpression s e mid rest → ReadsCondition s true e ts rest
not_reads s e ts mid rest (span, g) h = record {
  reads = (mid, (span, g), h.part.reads);
  ending = h.part.ending;
  leads = λ ps. leads_then s (leads_key s (codes "not") g refl) (h.part.leads (a_base ∷ filters ∷ ps) ps (base_takes (filters ∷ ps)));
  quiet = h.part.quiet;
  no_more = h.no_more;
}

-- ---- the tags, one by one
pub if_reads : (s : List ℕ) (negated : Bool) (e : Expression) (ts mid rest : List Lexeme) → GoesKeyword s (codes "if") ts mid → ReadsCondition s negated e mid rest → ReadsTag s (opening_tag (if_tag negated) e) ts rest
if_reads s negated e ts mid rest (span, g) h = record {
  reads = (mid, (span, g), h.reads);
  to = ending_parts h.ending ++ filters ∷ end_block ∷ [];
  leads = leads_then s (leads_key s (codes "if") g refl) (h.leads (end_block ∷ []));
  ending = expression_ends_block s h.ending rest h.quiet h.no_more;
}

pub else_if_reads : (s : List ℕ) (negated : Bool) (e : Expression) (ts start mid rest : List Lexeme) → GoesKeyword s (codes "else") ts start → GoesKeyword s (codes "if") start mid → ReadsCondition s negated e mid rest → ReadsTag s (else_if_tag negated e) ts rest
else_if_reads s negated e ts start mid rest (span, g) (second, k) h = record {
  reads = (start, mid, (span, g), (second, k), h.reads);
  to = ending_parts h.ending ++ filters ∷ end_block ∷ [];
  leads = leads_then s (leads_key s (codes "else") g refl) (leads_then s (leads_key s (codes "if") k refl) (h.leads (end_block ∷ [])));
  ending = expression_ends_block s h.ending rest h.quiet h.no_more;
}

no_if : (t : Token) (k : Key) → is_inside t ≡ true → (t ≡ Keyword → k ≡ key_if → ⊥) → after (else_rest ∷ []) t k ≡ None
no_if EndBlock k h n = absurd cc
no_if Keyword key_if h n = absurd (n refl refl)
no_if Keyword k h n = refl
no_if t k h n = refl

pub else_reads : (s : List ℕ) (ts rest : List Lexeme) → GoesKeyword s (codes "else") ts rest → NoWord s (codes "if") rest → ReadsTag s else_tag ts rest
else_reads s ts rest (span, g) none = record {
  reads = (span, g);
  to = else_rest ∷ [];
  leads = leads_key s (codes "else") g refl;
  ending = record { ends = λ k. refl; wants = refl; refuses = λ l ls e inside. no_if l.token (keyword_of (symbol_of s l).word) inside (λ t k. subst (λ x. NoWord s (codes "if") x) e none l.span ls (goes_key s key_if l ls t k refl)) };
}

no_with : (t : Token) (k : Key) → is_inside t ≡ true → (t ≡ Keyword → k ≡ key_with → ⊥) → after (include_rest ∷ []) t k ≡ None
no_with EndBlock k h n = absurd cc
no_with Keyword key_with h n = absurd (n refl refl)
no_with Keyword k h n = refl
no_with t k h n = refl

pub include_reads : (s : List ℕ) (name : Ident) (ts start rest : List Lexeme) → GoesKeyword s (codes "include") ts start → GoesText s name start rest → NoWord s (codes "with") rest → ReadsTag s (include_tag name None) ts rest
include_reads s name ts start rest (span, g) text none = record {
  reads = (start, rest, (span, g), text, refl);
  to = include_rest ∷ [];
  leads = leads_then s (leads_key s (codes "include") g refl) (leads_token s (name.span, text.0) (λ k. refl));
  ending = record { ends = λ k. refl; wants = refl; refuses = λ l ls e inside. no_with l.token (keyword_of (symbol_of s l).word) inside (λ t k. subst (λ x. NoWord s (codes "with") x) e none l.span ls (goes_key s key_with l ls t k refl)) };
}

pub include_with_reads : (s : List ℕ) (name : Ident) (globals : Expression) (ts start mid last rest : List Lexeme) → GoesKeyword s (codes "include") ts start → GoesText s name start mid → GoesKeyword s (codes "with") mid last → ReadsExpression s globals last rest → ReadsTag s (include_tag name (Some globals)) ts rest
include_with_reads s name globals ts start mid last rest (span, g) text (second, k) h = record {
  reads = (start, mid, (span, g), text, (last, (second, k), h.part.reads));
  to = ending_parts h.part.ending ++ filters ∷ end_block ∷ [];
  leads = leads_then s (leads_key s (codes "include") g refl) (leads_then s (leads_token s (name.span, text.0) (λ k. refl)) (leads_then s (leads_key s (codes "with") k refl) (h.part.leads (a_base ∷ filters ∷ end_block ∷ []) (end_block ∷ []) (base_takes (filters ∷ end_block ∷ [])))));
  ending = expression_ends_block s h.part.ending rest h.part.quiet h.no_more;
}

end_leads : (kind : Block) → after (block_word ∷ []) Keyword (keyword_of (end_word kind)) ≡ Some (end_block ∷ [])
end_leads if_block = refl
end_leads for_block = refl
end_leads with_block = refl

pub word_reads : (s : List ℕ) (word : List ℕ) (ts rest : List Lexeme) → GoesKeyword s word ts rest → after (block_word ∷ []) Keyword (keyword_of word) ≡ Some (end_block ∷ []) → Leads s (block_word ∷ []) ts (end_block ∷ []) rest × IsEnding s (end_block ∷ []) EndBlock an_end_block rest
word_reads s word ts rest (span, g) h = (leads_key s word g h, block_ends s rest)

pub end_reads : (s : List ℕ) (kind : Block) (ts rest : List Lexeme) → GoesKeyword s (end_word kind) ts rest → ReadsTag s (end_tag kind) ts rest
end_reads s kind ts rest g = let x = word_reads s (end_word kind) ts rest g (end_leads kind) in record { reads = g; to = end_block ∷ []; leads = x.0; ending = x.1 }

pub for_reads : (s : List ℕ) (names : LoopVars) (e : Expression) (ts start mid last rest : List Lexeme) → GoesKeyword s (codes "for") ts start → ReadsLoopVars s names start mid → GoesKeyword s (codes "in") mid last → ReadsExpression s e last rest → ReadsTag s (opening_tag (for_tag names) e) ts rest
for_reads s names e ts start mid last rest (span, g) vars (second, k) h = record {
  reads = (start, (span, g), (mid, last, vars.reads, (second, k), h.part.reads));
  to = ending_parts h.part.ending ++ filters ∷ end_block ∷ [];
  leads = leads_then s (leads_key s (codes "for") g refl) (leads_then s (vars.leads (end_block ∷ [])) (leads_then s (leads_key s (codes "in") k (vars.takes_in (end_block ∷ []))) (h.part.leads (a_base ∷ filters ∷ end_block ∷ []) (end_block ∷ []) (base_takes (filters ∷ end_block ∷ [])))));
  ending = expression_ends_block s h.part.ending rest h.part.quiet h.no_more;
}

pub as_leads : (s : List ℕ) (e : Expression) (start mid last : List Lexeme) → ReadsExpression s e start mid → GoesKeyword s (codes "as") mid last → Leads s (a_base ∷ filters ∷ as_word ∷ end_block ∷ []) start (as_name ∷ end_block ∷ []) last
as_leads s e start mid last h (second, k) = leads_then s (h.part.leads (a_base ∷ filters ∷ as_word ∷ end_block ∷ []) (as_word ∷ end_block ∷ []) (base_takes (filters ∷ as_word ∷ end_block ∷ [])))
    (leads_key s (codes "as") k (ending_left h.part.ending (filters ∷ as_word ∷ end_block ∷ []) Keyword key_as refl))

pub with_reads : (s : List ℕ) (e : Expression) (name : Ident) (ts start mid last rest : List Lexeme) → GoesKeyword s (codes "with") ts start → ReadsExpression s e start mid → GoesKeyword s (codes "as") mid last → GoesName s name last rest → ReadsTag s (opening_tag (with_tag name) e) ts rest
with_reads s e name ts start mid last rest (span, g) h k named = record {
  reads = (start, (span, g), (mid, last, h.part.reads, k, named));
  to = end_block ∷ [];
  leads = leads_then s (leads_key s (codes "with") g refl) (leads_then s (as_leads s e start mid last h k) (leads_token s (name.span, named.0) (λ k. refl)));
  ending = block_ends s rest;
}

-- ---- loop variables
no_in : (ps : List Part) (t : Token) (k : Key) → (t ≡ Keyword → k ≡ key_in → ⊥) → after (in_word ∷ ps) t k ≡ None
no_in ps Keyword key_in n = absurd (n refl refl)
no_in ps Keyword k n = refl
no_in ps t k n = refl

no_in_rest : (ps : List Part) (t : Token) (k : Key) → (t ≡ Comma → ⊥) → (t ≡ Keyword → k ≡ key_in → ⊥) → after (loop_rest ∷ ps) t k ≡ None
no_in_rest ps Comma k c n = absurd (c refl)
no_in_rest ps Keyword key_in c n = absurd (n refl refl)
no_in_rest ps Keyword k c n = refl
no_in_rest ps t k c n = refl

in_refused : (s : List ℕ) (ps : List Part) (ts : List Lexeme) → NoWord s (codes "in") ts → Refuses s (in_word ∷ ps) ts
in_refused s ps [] none = λ k. (refl, refl)
in_refused s ps (l ∷ ls) none = no_in ps l.token (keyword_of (symbol_of s l).word) (λ t k. none l.span ls (goes_key s key_in l ls t k refl))

in_rest_refused : (s : List ℕ) (ps : List Part) (ts : List Lexeme) → No Comma ts → NoWord s (codes "in") ts → Refuses s (loop_rest ∷ ps) ts
in_rest_refused s ps [] c none = λ k. (refl, refl)
in_rest_refused s ps (l ∷ ls) c none = no_in_rest ps l.token (keyword_of (symbol_of s l).word) (is_not Comma l ls c) (λ t k. none l.span ls (goes_key s key_in l ls t k refl))

pub item_reads : (s : List ℕ) (name : Ident) (ts rest : List Lexeme) → GoesName s name ts rest → No Comma rest → ReadsLoopVars s (item name) ts rest
item_reads s name ts rest g c = record {
  reads = g;
  last = loop_rest;
  leads = λ ps. leads_token s (name.span, g.0) (λ k. refl);
  takes_in = λ ps. refl;
  wants_in = λ ps. refl;
  refuses = λ ps none. in_rest_refused s ps rest c none;
}

pub key_value_reads : (s : List ℕ) (key value : Ident) (span : Span) (ts mid last rest : List Lexeme) → GoesName s key ts mid → GoesBy Comma mid last → GoesName s value last rest → span ≡ from_to key.span value.span → ReadsLoopVars s (key_value key value span) ts rest
key_value_reads s key value span ts mid last rest g c h e = record {
  reads = (mid, last, g, c, h, e);
  last = in_word;
  leads = λ ps. leads_then s (leads_token s (key.span, g.0) (λ k. refl)) (leads_then s (leads_token s {a = loop_rest ∷ ps} c (λ k. refl)) (leads_token s {a = loop_value ∷ ps} (value.span, h.0) (λ k. refl)));
  takes_in = λ ps. refl;
  wants_in = λ ps. refl;
  refuses = λ ps none. in_refused s ps rest none;
}

-- ---- where a tag is stuck
no_name : (ps : List Part) (t : Token) (k : Key) → (t ≡ Identifier → ⊥) → (after (loop_name ∷ ps) t k ≡ None) × (after (loop_value ∷ ps) t k ≡ None) × (after (as_name ∷ ps) t k ≡ None)
no_name ps Identifier k n = absurd (n refl)
no_name ps t k n = (refl, refl, refl)

pub loop_name_refused : (s : List ℕ) (ps : List Part) (ts : List Lexeme) → No Identifier ts → Refuses s (loop_name ∷ ps) ts
loop_name_refused s ps [] none = λ k. (refl, refl)
loop_name_refused s ps (l ∷ ls) none = (no_name ps l.token (keyword_of (symbol_of s l).word) (is_not Identifier l ls none)).0

pub loop_value_refused : (s : List ℕ) (ps : List Part) (ts : List Lexeme) → No Identifier ts → Refuses s (loop_value ∷ ps) ts
loop_value_refused s ps [] none = λ k. (refl, refl)
loop_value_refused s ps (l ∷ ls) none = (no_name ps l.token (keyword_of (symbol_of s l).word) (is_not Identifier l ls none)).1

pub as_name_refused : (s : List ℕ) (ps : List Part) (ts : List Lexeme) → No Identifier ts → Refuses s (as_name ∷ ps) ts
as_name_refused s ps [] none = λ k. (refl, refl)
as_name_refused s ps (l ∷ ls) none = (no_name ps l.token (keyword_of (symbol_of s l).word) (is_not Identifier l ls none)).2

no_text : (t : Token) (k : Key) → (t ≡ String → ⊥) → after (include_name ∷ []) t k ≡ None
no_text String k n = absurd (n refl)
no_text t k n = refl

pub include_name_refused : (s : List ℕ) (ts : List Lexeme) → No String ts → Refuses s (include_name ∷ []) ts
include_name_refused s [] none = λ k. (refl, refl)
include_name_refused s (l ∷ ls) none = no_text l.token (keyword_of (symbol_of s l).word) (is_not String l ls none)

no_as : (ps : List Part) (t : Token) (k : Key) → (t ≡ Keyword → k ≡ key_as → ⊥) → after (as_word ∷ ps) t k ≡ None
no_as ps Keyword key_as n = absurd (n refl refl)
no_as ps Keyword k n = refl
no_as ps t k n = refl

as_refused : (s : List ℕ) (ps : List Part) (ts : List Lexeme) → NoWord s (codes "as") ts → Refuses s (as_word ∷ ps) ts
as_refused s ps [] none = λ k. (refl, refl)
as_refused s ps (l ∷ ls) none = no_as ps l.token (keyword_of (symbol_of s l).word) (λ t k. none l.span ls (goes_key s key_as l ls t k refl))

pub as_stuck : (s : List ℕ) (e : Expression) (ts rest : List Lexeme) → ReadsExpression s e ts rest → NoWord s (codes "as") rest → StuckAt s (a_base ∷ filters ∷ as_word ∷ end_block ∷ []) ts rest an_as
as_stuck s e ts rest h none =
    let to = ending_parts h.part.ending ++ filters ∷ as_word ∷ end_block ∷ [] in
    stuck_then s (a_base ∷ filters ∷ as_word ∷ end_block ∷ []) to ts rest rest an_as (h.part.leads (a_base ∷ filters ∷ as_word ∷ end_block ∷ []) (as_word ∷ end_block ∷ []) (base_takes (filters ∷ as_word ∷ end_block ∷ [])))
    (stuck_here s to rest an_as (expression_refuses s h.part.ending (as_word ∷ end_block ∷ []) rest h.part.quiet h.no_more (as_refused s (end_block ∷ []) rest none)) (ending_wants h.part.ending (filters ∷ as_word ∷ end_block ∷ []) refl))

no_block_word : (k : Key) → (k ≡ key_if → ⊥) → (k ≡ key_else → ⊥) → (k ≡ key_for → ⊥) → (k ≡ key_with → ⊥) → (k ≡ key_include → ⊥) → (k ≡ key_endif → ⊥) → (k ≡ key_endfor → ⊥) → (k ≡ key_endwith → ⊥) → after (block_word ∷ []) Keyword k ≡ None
no_block_word key_if a b c d e f g h = absurd (a refl)
no_block_word key_else a b c d e f g h = absurd (b refl)
no_block_word key_for a b c d e f g h = absurd (c refl)
no_block_word key_with a b c d e f g h = absurd (d refl)
no_block_word key_include a b c d e f g h = absurd (e refl)
no_block_word key_endif a b c d e f g h = absurd (f refl)
no_block_word key_endfor a b c d e f g h = absurd (g refl)
no_block_word key_endwith a b c d e f g h = absurd (h refl)
no_block_word k a b c d e f g h = refl

no_word_token : (t : Token) (k : Key) → (t ≡ Keyword → after (block_word ∷ []) Keyword k ≡ None) → after (block_word ∷ []) t k ≡ None
no_word_token Keyword k h = h refl
no_word_token t k h = refl

pub block_word_refused : (s : List ℕ) (ts : List Lexeme) → NoOpeningWord s ts → ((kind : Block) → NoWord s (end_word kind) ts) → Refuses s (block_word ∷ []) ts
block_word_refused s [] a f = λ k. (refl, refl)
block_word_refused s (l ∷ ls) (a, b, c, d, e) f = no_word_token l.token (keyword_of (symbol_of s l).word) (λ t. no_block_word (keyword_of (symbol_of s l).word)
    (λ k. a l.span ls (goes_key s key_if l ls t k refl)) (λ k. b l.span ls (goes_key s key_else l ls t k refl)) (λ k. c l.span ls (goes_key s key_for l ls t k refl))
    (λ k. d l.span ls (goes_key s key_with l ls t k refl)) (λ k. e l.span ls (goes_key s key_include l ls t k refl)) (λ k. f if_block l.span ls (goes_key s key_endif l ls t k refl))
    (λ k. f for_block l.span ls (goes_key s key_endfor l ls t k refl)) (λ k. f with_block l.span ls (goes_key s key_endwith l ls t k refl)))

-- where the keyword that is next ends no kind of block, none has it as its last
pub ends_no_block : (s : List ℕ) (ts rest : List Lexeme) (span : Span) → Goes Keyword span ts rest → kind_with end_word (slice s span) ≡ None → (kind : Block) → NoWord s (end_word kind) ts
ends_no_block s ts rest span g none kind at more h =
    let same : g.lexeme ∷ rest ≡ h.0.lexeme ∷ more = sym g.is ∙ h.0.is in
    let first : g.lexeme ≡ h.0.lexeme = cc in
    let word : slice s span ≡ end_word kind = ap (slice s) (sym g.at ∙ ap (λ (l : Lexeme). l.span) first ∙ h.0.at) ∙ h.1 in
    let found : Some kind ≡ None = sym (ended_by kind) ∙ ap (kind_with end_word) (sym word) ∙ none in
    absurd cc
