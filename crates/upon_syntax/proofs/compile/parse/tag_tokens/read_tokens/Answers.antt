use Rattle.std.proofs.Common.{◌≡◌, ℕ, List, [], ◌∷◌, ◌++◌, length, Option, None, refl, sym, ap, ◌∙◌, subst, arith}
use Rattle.std.proofs.lemmas.List.{map-append, append-nil}
use Rattle.upon_language_spec.specs.Cut.{Lexeme}
use Rattle.upon_language_spec.specs.Lexing.{LexerState, HasRead}
use Rattle.upon_language_spec.specs.InTags.{last_or}
use Rattle.upon_lexer.specs.Lexers.{lexer_text, lexer_delimiters, lexer_state}
use Rattle.upon_language_spec.specs.Search.{DelimiterText}
use Rattle.upon_lexer.specs.declared.literal.Lexed.{Lexed}
use Rattle.upon_lexer.specs.Literals.{lexeme_of, before_of}
use Rattle.upon_tag_parser.specs.TagTokens.{lexemes_of, IsTagToken, EachTagToken}
use Rattle.upon_syntax.specs.TagEnds.{ReadsTokens, ReadsUpTo}
use Rattle.upon_syntax.proofs.TagTokenSteps.{each_token_more, last_token, reads_start, reads_more, reads_up_to}
use Rattle.upon_syntax.proofs.compile.parse.tag_tokens.read_tokens.Goals as goal

pub tokens-init : goal.tokens-init
tokens-init c =
    let none : lexemes_of c.clear.new.self.items ≡ [] = ap lexemes_of c.clear.ensures.items in
    let F : List Lexeme → Type 0 = λ x. EachTagToken c.args.source.now None x in
    let left = lexer_state c.args.lexer.now in
    let Inner : List Lexeme → Type 0 = λ x. ReadsTokens (lexer_delimiters c.args.lexer.now) c.args.source.now left left x in
    record {
      text = refl;
      delimiters = refl;
      each = subst F (sym none) tt;
      last = ap (last_or None) none;
      sign = tt;
      inner = subst Inner (sym none) (λ sort path ls read mode. reads_start (lexer_delimiters c.args.lexer.now) c.args.source.now sort path ls left read mode);
    }

-- one token more that was pushed
joined : (before : List Lexed) (found : Lexed) (after : List Lexed) → after ≡ before ++ found ∷ [] → lexemes_of after ≡ lexemes_of before ++ lexeme_of found ∷ []
joined before found after e = ap lexemes_of e ∙ map-append lexeme_of before (found ∷ [])

pub tokens-preserved-in-Some : goal.tokens-preserved-in-Some
tokens-preserved-in-Some c =
    let delimiters = lexer_delimiters c.args.lexer.now in
    let s = c.args.source.now in
    let inv = c.tokens.invariant in
    let before = lexemes_of c.tokens.tokens.items in
    let found = lexeme_of c.in-Some.found in
    let left = lexer_state c.tokens.lexer in
    let after = lexer_state c.plain_token.new.lexer in
    let joins = joined c.tokens.tokens.items c.in-Some.found c.push.new.self.items c.in_ok-push.ensures.items in
    let here = c.in-Some.ensures.found (last_or None before) in
    let keeps = c.in-Some.ensures.keeps in
    let more = subst (λ d. ReadsTokens d s left after (found ∷ [])) inv.delimiters here.inner in
    record {
      text = keeps.text ∙ inv.text;
      delimiters = keeps.delimiters ∙ inv.delimiters;
      each = subst (λ x. EachTagToken s None x) (sym joins) (each_token_more s None before found inv.each here.token);
      last = ap (last_or None) joins ∙ last_token None before found;
      sign = here.sign;
      inner = subst (λ x. ReadsTokens delimiters s (lexer_state c.args.lexer.now) after x) (sym joins) (reads_more delimiters s (lexer_state c.args.lexer.now) left after before (found ∷ []) inv.inner more);
    }

pub tokens-smaller-in-Some : goal.tokens-smaller-in-Some
tokens-smaller-in-Some c =
    let lexer = c.plain_token.new.lexer in
    let same : length (lexer_text lexer) ≡ length (lexer_text c.tokens.lexer) = ap (λ (s : List ℕ). length s) c.in-Some.ensures.keeps.text in
    let further = (c.in-Some.ensures.found None).further in
    omega (arith, same, further, lexer.boundary.0)

-- the tokens so far, after whitespace too
after_blanks : (delimiters d : List DelimiterText) (s : List ℕ) (start left after : LexerState) (before : List Lexeme) → d ≡ delimiters → ReadsTokens delimiters s start left before → ReadsTokens d s left after [] → ReadsTokens delimiters s start after before
after_blanks delimiters d s start left after before same so_far blanks =
    let more = subst (λ x. ReadsTokens x s left after []) same blanks in
    subst (λ x. ReadsTokens delimiters s start after x) (append-nil before) (reads_more delimiters s start left after before [] so_far more)

pub tokens-preserved : goal.tokens-preserved
tokens-preserved c =
    let delimiters = lexer_delimiters c.args.lexer.now in
    let s = c.args.source.now in
    let inv = c.tokens.invariant in
    let before = lexemes_of c.tokens.tokens.items in
    let found = lexeme_of c.in-Ok.found in
    let left = lexer_state c.plain_token.new.lexer in
    let after = lexer_state c.read_token.new.lexer in
    let blanks = after_blanks delimiters (lexer_delimiters c.tokens.lexer) s (lexer_state c.args.lexer.now) (lexer_state c.tokens.lexer) (lexer_state c.plain_token.new.lexer) (lexemes_of c.tokens.tokens.items) inv.delimiters inv.inner c.in_default.ensures.blanks in
    let joins = joined c.tokens.tokens.items c.in-Ok.found c.push-in-Ok.new.self.items c.in_ok-push-in-Ok.ensures.items in
    let same = c.in_default.ensures.keeps.delimiters ∙ inv.delimiters in
    let here = c.in-Ok.ensures.found in
    let keeps = c.in-Ok.ensures.keeps in
    let more = subst (λ d. ReadsTokens d s left after (found ∷ [])) same here.inner in
    record {
      text = keeps.text ∙ c.in_default.ensures.keeps.text ∙ inv.text;
      delimiters = keeps.delimiters ∙ same;
      each = subst (λ x. EachTagToken s None x) (sym joins) (each_token_more s None before found inv.each (subst (λ o. IsTagToken s o found) (sym inv.last) here.token));
      last = ap (last_or None) joins ∙ last_token None before found;
      sign = here.sign;
      inner = subst (λ x. ReadsTokens delimiters s (lexer_state c.args.lexer.now) after x) (sym joins) (reads_more delimiters s (lexer_state c.args.lexer.now) left after before (found ∷ []) blanks more);
    }

pub returns-in-Err-clause-ends : goal.returns-in-Err-clause-ends
returns-in-Err-clause-ends c =
    let s = c.args.source.now in
    let inv = c.tokens.invariant in
    let delimiters = lexer_delimiters c.args.lexer.now in
    let blanks = after_blanks delimiters (lexer_delimiters c.tokens.lexer) s (lexer_state c.args.lexer.now) (lexer_state c.tokens.lexer) (lexer_state c.plain_token.new.lexer) (lexemes_of c.tokens.tokens.items) inv.delimiters inv.inner c.in_default.ensures.blanks in
    let left = c.plain_token.new.lexer in
    let after = lexer_state c.read_token.new.lexer in
    let same = c.in_default.ensures.keeps.delimiters ∙ inv.delimiters in
    let text = c.in_default.ensures.keeps.text ∙ inv.text in
    record {
      inner = λ sort path ls read mode.
          let on = blanks sort path ls (subst (λ x. HasRead delimiters x (lexer_state c.args.lexer.now) ls) (sym c.requires.same) read) mode in
          let Read : List DelimiterText → List ℕ → Type 0 = λ d x. HasRead d x (lexer_state left) (ls ++ on.inner) in
          let has_read : Read (lexer_delimiters left) (lexer_text left) = subst (λ d. Read d (lexer_text left)) (sym same) (subst (λ x. Read delimiters x) (c.requires.same ∙ sym text) on.read) in
          let Ends : List DelimiterText → Option Lexeme → Type 0 = λ d o. ReadsUpTo d s sort (ls ++ on.inner) [] o after c.in-Err.ended in
          let last = last_or None (lexemes_of c.tokens.tokens.items) in
          let ends : Ends delimiters last = subst (λ o. Ends delimiters o) (sym inv.last) (subst (λ d. Ends d (before_of c.tokens.before)) same (c.in-Err.ensures.ends.inner sort on.path (ls ++ on.inner) has_read on.mode)) in
          reads_up_to delimiters s sort ls (lexer_state left) after (lexemes_of c.tokens.tokens.items) last c.in-Err.ended on ends;
      lies = c.in-Err.ensures.ends.lies;
    }
