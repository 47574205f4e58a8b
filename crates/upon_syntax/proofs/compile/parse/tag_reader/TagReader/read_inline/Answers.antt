use Rattle.std.proofs.Common.{ℕ, List, [], ◌∷◌, None, false, refl, sym, ◌∙◌, subst}
use Rattle.upon_types.specs.declared.types.token.Token.TheVariants.{EndExpr}
use Rattle.upon_types.specs.declared.error.Error.{Error}
use Rattle.upon_language_spec.specs.Cut.{Lexeme}
use Rattle.upon_language_spec.specs.Delimiters.{expression}
use Rattle.upon_language_spec.specs.Parts.{Part, a_base, filters, end_expr}
use Rattle.upon_language_spec.specs.Wanted.{an_end_expression}
use Rattle.upon_language_spec.specs.InTags.{last_or}
use Rattle.upon_lexer.specs.Lexers.{lexer_text, lexer_delimiters, lexer_state}
use Rattle.upon_lexer.specs.declared.literal.Lexed.{Lexed}
use Rattle.upon_tag_parser.specs.declared.compile.parse.want.Want.TheVariants as want
use Rattle.upon_tag_parser.specs.TagTokens.{lexemes_of, EachTagToken}
use Rattle.upon_tag_parser.specs.TagParsing.{OnStuck, IsStuck}
use Rattle.upon_syntax.specs.TagEnds.{ReadsUpTo}
use Rattle.upon_syntax.specs.TagFaults.{GoesNoFurther}
use Rattle.upon_syntax.specs.declared.compile.parse.tag_reader.TagReader.{TagReader}
use Rattle.upon_syntax.specs.Pieces.{InlineLeads}
use Rattle.upon_syntax.specs.TagReading.{AfterBegin, KeepsTokens, IsSyntaxError}
use Rattle.upon_tag_parser.specs.WholeTags.{LeadsToEnd, HoldsInline}
use Rattle.upon_syntax.proofs.NextTokens.{handed_on}
use Rattle.upon_syntax.proofs.WholeTags.{mode_is, tag_read, end_is, failure_lies, failure_stops, end_stops, leads_all, after_end}
use Rattle.upon_syntax.proofs.compile.parse.tag_reader.TagReader.read_inline.Goals as goal

abbrev from : List Part
from = a_base ∷ filters ∷ end_expr ∷ []

pub refuse_failure-requires-clause-failure : goal.refuse_failure-requires-clause-failure
refuse_failure-requires-clause-failure c =
    let s = c.args.self.now.source.now in
    let tokens = c.read_tokens.new.tokens.items in
    let Stuck : List ℕ → List Lexed → Type 0 = λ x ks. OnStuck c.in-Err.failure (IsStuck x from ks) in
    let stuck : Stuck s tokens = subst (λ ks. Stuck s ks) c.deref.ensures.value (subst (λ x. Stuck x c.deref.result.now) c.parser.ensures c.in-Err.ensures.stuck) in
    failure_lies s from tokens c.in-Err.failure c.in_ok-ended.ensures.tokens stuck

pub returns-in-Err-clause-fault : goal.returns-in-Err-clause-fault
returns-in-Err-clause-fault c = λ ls a.
    let lexer = c.args.lexer.now in
    let s = lexer_text lexer in
    let tokens = c.read_tokens.new.tokens.items in
    let ended = c.in_ok-ended.ended in
    let after = lexer_state c.read_tokens.new.lexer in
    let Each : List ℕ → Type 0 = λ x. EachTagToken x None (lexemes_of tokens) in
    let Reads : List ℕ → Type 0 = λ x. ReadsUpTo (lexer_delimiters lexer) x expression ls (lexemes_of tokens) (last_or None (lexemes_of tokens)) after ended in
    let reads = subst Reads c.requires.same (c.in_ok-ended.ensures.ends.inner expression false ls a.read (mode_is lexer expression c.args.begin ls a)) in
    let tag = tag_read lexer expression c.args.begin ls a from (lexemes_of tokens) after ended refl (λ hyphen. refl) refl (subst Each c.requires.same c.in_ok-ended.ensures.tokens) reads in
    let Stuck : List ℕ → List Lexed → Type 0 = λ x ks. OnStuck c.in-Err.failure (IsStuck x from ks) in
    let stuck : Stuck s tokens = subst (λ ks. Stuck s ks) c.deref.ensures.value (subst (λ x. Stuck x c.deref.result.now) (c.parser.ensures ∙ c.requires.same) c.in-Err.ensures.stuck) in
    let stops = failure_stops (lexer_delimiters lexer) s expression ls from tokens after ended c.in-Err.failure tag stuck in
    let Stops : List ℕ → Type 0 = λ x. OnStuck c.in-Err.failure (λ want left. GoesNoFurther (lexer_delimiters lexer) x want left ended) in
    let Fault : List ℕ → Type 0 = λ x. IsSyntaxError (lexer_delimiters lexer) x c.refuse_failure.result in
    subst Fault c.requires.same (c.refuse_failure.ensures (lexer_delimiters lexer) (subst Stops (sym c.requires.same) stops))

pub returns-in_err-end-in-Ok-clause-fault : goal.returns-in_err-end-in-Ok-clause-fault
returns-in_err-end-in-Ok-clause-fault c =
    let e = c.in_err-end-in-Ok.field-0.0 in
    let lexer = c.args.lexer.now in
    let s = lexer_text lexer in
    let tokens = c.read_tokens.new.tokens.items in
    let ended = c.in_ok-ended.ended in
    let after = lexer_state c.read_tokens.new.lexer in
    let same = c.parser.ensures ∙ c.requires.same in
    let To : List ℕ → List Lexed → Type 0 = λ x ks. LeadsToEnd x from (lexemes_of ks) EndExpr an_end_expression in
    let to : To s tokens = subst (λ ks. To s ks) c.deref.ensures.value (subst (λ x. To x c.deref.result.now) same c.in-Ok.ensures.leads) in
    let Each : List ℕ → Type 0 = λ x. EachTagToken x None (lexemes_of tokens) in
    let Fault : List ℕ → Type 0 = λ x. IsSyntaxError (lexer_delimiters lexer) x e in
    let P : Error → Type 0 = λ x. (ls : List Lexeme) → AfterBegin lexer expression c.args.begin ls → IsSyntaxError (lexer_delimiters lexer) s x in
    let Goes : List ℕ → Type 0 = λ x. GoesNoFurther (lexer_delimiters lexer) x want.EndExpr [] ended in
    let fault : P e = λ ls a.
    let Reads : List ℕ → Type 0 = λ x. ReadsUpTo (lexer_delimiters lexer) x expression ls (lexemes_of tokens) (last_or None (lexemes_of tokens)) after ended in
    let reads = subst Reads c.requires.same (c.in_ok-ended.ensures.ends.inner expression false ls a.read (mode_is lexer expression c.args.begin ls a)) in
    let tag = tag_read lexer expression c.args.begin ls a from (lexemes_of tokens) after ended refl (λ hyphen. refl) refl (subst Each c.requires.same c.in_ok-ended.ensures.tokens) reads in
    subst Fault c.requires.same (c.in_err-end-in-Ok.ensures.fault (lexer_delimiters lexer) (λ none. subst Goes (sym c.requires.same) (end_stops (lexer_delimiters lexer) s expression ls from (lexemes_of tokens) after ended want.EndExpr EndExpr tag to none))) in
    handed_on P e c.from_residual-in_err-end-in-Ok.result c.from_residual-in_err-end-in-Ok.ensures.1 fault

pub returns-in_ok-end-in-Ok-clause-tag : goal.returns-in_ok-end-in-Ok-clause-tag
returns-in_ok-end-in-Ok-clause-tag c = λ ls a.
    let lexer = c.args.lexer.now in
    let s = lexer_text lexer in
    let tokens = c.read_tokens.new.tokens.items in
    let ended = c.in_ok-ended.ended in
    let after = lexer_state c.read_tokens.new.lexer in
    let Each : List ℕ → Type 0 = λ x. EachTagToken x None (lexemes_of tokens) in
    let Reads : List ℕ → Type 0 = λ x. ReadsUpTo (lexer_delimiters lexer) x expression ls (lexemes_of tokens) (last_or None (lexemes_of tokens)) after ended in
    let reads = subst Reads c.requires.same (c.in_ok-ended.ensures.ends.inner expression false ls a.read (mode_is lexer expression c.args.begin ls a)) in
    let tag = tag_read lexer expression c.args.begin ls a from (lexemes_of tokens) after ended refl (λ hyphen. refl) refl (subst Each c.requires.same c.in_ok-ended.ensures.tokens) reads in
    let same = c.parser.ensures ∙ c.requires.same in
    let To : List ℕ → List Lexed → Type 0 = λ x ks. LeadsToEnd x from (lexemes_of ks) EndExpr an_end_expression in
    let to : To s tokens = subst (λ ks. To s ks) c.deref.ensures.value (subst (λ x. To x c.deref.result.now) same c.in-Ok.ensures.leads) in
    let old = c.args.code.now.items in
    let new = c.parse_inline_tag.new.code.items in
    let Is : List ℕ → List Lexed → Type 0 = λ x ks. HoldsInline x (lexemes_of ks) old new in
    let is : Is s tokens = subst (λ ks. Is s ks) c.deref.ensures.value (subst (λ x. Is x c.deref.result.now) same c.in-Ok.ensures.tag) in
    let (l, ends, at) = c.in_ok-end-in-Ok.ensures.end in
    let n = c.in_ok-end-in-Ok.end in
    let reader : TagReader = record { alloc = c.args.self.now.alloc; source = c.args.self.now.source; tokens = c.read_tokens.new.tokens } in
    let kept : KeepsTokens s reader (λ ts. HoldsInline s ts old new) (InlineLeads s) (lexemes_of tokens) = record { holds = is; leads = to; same = refl; each = subst Each c.requires.same c.in_ok-ended.ensures.tokens } in
    after_end lexer c.read_tokens.new.lexer expression ls from to.to (lexemes_of tokens) ended l n (KeepsTokens s reader (λ ts. HoldsInline s ts old new) (InlineLeads s)) c.in_ok-ended.ensures.keeps.text c.in_ok-ended.ensures.keeps.delimiters tag (leads_all s from (lexemes_of tokens) EndExpr an_end_expression to) to.ends (end_is ended l ends) at kept
