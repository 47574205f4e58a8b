-- Arguments, one after the other, and calls.
use Rattle.std.proofs.Common.{◌≡◌, ℕ, suc, List, [], ◌∷◌, ◌++◌, None, refl, sym, ap, ◌∙◌, subst, append_assoc, append-nil}
use Rattle.upon_types.specs.declared.types.Span.{Span}
use Rattle.upon_types.specs.declared.types.token.Token.{Token}
use Rattle.upon_types.specs.declared.types.token.Token.TheVariants.{Comma, CloseParen, OpenBracket, OpenBrace, OpenParen, Dot, QuestionDot, Keyword, Plus, Minus, Number, String, Ident as Identifier}
use Rattle.upon_types.specs.Path.{Ident}
use Rattle.upon_types.specs.Expression.{Base, Bases, no_bases, base_then, base_span, call, no_arguments, arguments}
use Rattle.upon_machine_spec.specs.Instr.{Instr}
use Rattle.upon_machine_spec.specs.Code.{base_code, bases_code, count_bases}
use Rattle.upon_language_spec.specs.Cut.{Lexeme}
use Rattle.upon_language_spec.specs.Tokens.{Goes, GoesBy, GoesName, from_to}
use Rattle.upon_language_spec.specs.Expressions.{IsBase, IsArgs, last_end}
use Rattle.upon_language_spec.specs.Keys.{Key, key_true, key_false, keyword_of}
use Rattle.upon_language_spec.specs.Tags.{symbol_of}
use Rattle.upon_language_spec.specs.Parts.{Part, a_base, after_name, call_start, call_rest, base_key, base_goes, after}
use Rattle.upon_language_spec.specs.PartTails.{No, Tail, Quiet, tail_parts, no_tail, TakesBase}
use Rattle.upon_language_spec.specs.PartLeads.{Leads}
use Rattle.upon_language_spec.proofs.Wanted.ExpressionsLead.{leads_then, leads_nowhere, leads_token, by_tail, call_takes, base_takes}
use Rattle.upon_lexer.specs.declared.literal.Lexed.{Lexed}
use Rattle.upon_tag_parser.specs.declared.compile.parse.want.Want.{Want}
use Rattle.upon_tag_parser.specs.declared.compile.parse.want.Want.TheVariants.{CloseParen as WantCloseParen}
use Rattle.upon_tag_parser.specs.TagTokens.{lexemes_of}
use Rattle.upon_tag_parser.specs.Wants.{wanted_of}
use Rattle.upon_tag_parser.specs.TagParsing.{Refuses, NoBase, StuckAt, IsRefused, StartsBase, ReadsBase, TakesComma}
use Rattle.upon_tag_parser.specs.PartReadings.{bases_before, ArgsTo}
use Rattle.upon_tag_parser.proofs.Stuck.{is_not, stuck_then, refused_here}
use Rattle.upon_tag_parser.proofs.BaseStarts.{tail_refuses, tail_wants, base_starts}
use Rattle.upon_tag_parser.proofs.Lists.{before_push}

-- arguments were read, and what is next does not go on with them
pub record ReadsArgs (s : List ℕ) (bases : Bases) (ts rest : List Lexeme) : Type 0 where
  pub reads : IsArgs s bases ts rest
  pub tail : Tail
  pub leads : (from parts : List Part) → TakesBase from parts → TakesComma parts
      → Leads s from ts (tail_parts tail ++ parts) rest
  pub quiet : Quiet tail rest
  pub no_more : No Comma rest

-- the end, the number and the instructions of one argument more
pub last_end-push : (bs : List Base) (b : Base) (n : ℕ) → last_end n (bases_before (bs ++ b ∷ []) no_bases) ≡ (base_span b).n
last_end-push [] b n = refl
last_end-push (first ∷ bs) b n = last_end-push bs b (base_span first).n

pub count_bases-push : (bs : List Base) (b : Base) → count_bases (bases_before (bs ++ b ∷ []) no_bases) ≡ suc (count_bases (bases_before bs no_bases))
count_bases-push [] b = refl
count_bases-push (first ∷ bs) b = ap suc (count_bases-push bs b)

pub bases_code-push : (bs : List Base) (b : Base) → bases_code (bases_before (bs ++ b ∷ []) no_bases) ≡ bases_code (bases_before bs no_bases) ++ base_code b
bases_code-push [] b = append-nil (base_code b)
bases_code-push (first ∷ bs) b =
    ap (λ (c : List Instr). base_code first ++ c) (bases_code-push bs b)
    ∙ sym (append_assoc (base_code first) (bases_code (bases_before bs no_bases)) (base_code b))

module _ (s : List ℕ) where
  pub args_start : (ts : List Lexeme) → ArgsTo s [] ts ts
  args_start ts = record {
    body = λ more rest h. h;
    starts = λ from parts comma starts. record { to = from; leads = leads_nowhere s from ts ts refl; starts = starts };
    takes = λ from parts comma takes. record { to = from; leads = leads_nowhere s from ts ts refl; takes = takes };
  }

  after_comma : (b : Base) (bs : Bases) (now mid next rest : List Lexeme) (comma : Span) → IsBase s b now mid → Goes Comma comma mid next → IsArgs s bs next rest → IsArgs s (base_then b bs) now rest
  after_comma b no_bases now mid next rest comma g c h = absurd h
  after_comma b (base_then a bs) now mid next rest comma g c (last, h, more) = (mid, g, (next, last, (comma, c), h, more))

  -- one argument more, and a comma
  pub args_comma : (values : List Base) (value : Base) (all now mid next : List Lexeme) (comma : Span) → ArgsTo s values all now → ReadsBase s value now mid → Goes Comma comma mid next → ArgsTo s (values ++ value ∷ []) all next
  args_comma values value all now mid next comma x g c = record {
    body = λ others rest h.
        let F : Bases → Type 0 = λ b. IsArgs s b all rest in
        subst F (sym (before_push values value others)) (x.body (base_then value others) rest (after_comma value others now mid next rest comma g.reads c h));
    starts = λ from parts takes starts.
        let at = x.starts from parts takes starts in
        record { to = a_base ∷ parts; leads = leads_then s (leads_then s at.leads (g.leads at.to parts at.starts.takes)) (by_tail s g.tail parts (comma, c) refl takes); starts = base_starts s parts next };
    takes = λ from parts takes begins.
        let at = x.takes from parts takes begins in
        record { to = a_base ∷ parts; leads = leads_then s (leads_then s at.leads (g.leads at.to parts at.takes)) (by_tail s g.tail parts (comma, c) refl takes); takes = base_takes parts };
  }

  -- the last argument
  pub args_last : (values : List Base) (value : Base) (all now mid : List Lexeme) → ArgsTo s values all now → ReadsBase s value now mid → No Comma mid → ReadsArgs s (bases_before (values ++ value ∷ []) no_bases) all mid
  args_last values value all now mid x g none = record {
    reads =
        let F : Bases → Type 0 = λ b. IsArgs s b all mid in
        subst F (sym (before_push values value no_bases)) (x.body (base_then value no_bases) mid (mid, g.reads, refl));
    tail = g.tail;
    leads = λ from parts takes comma. let at = x.takes from parts comma takes in leads_then s at.leads (g.leads at.to parts at.takes);
    quiet = g.quiet;
    no_more = none;
  }

-- ---- calls
rest_refuses : (ps : List Part) (t : Token) (k : Key) → (t ≡ Comma → ⊥) → (t ≡ CloseParen → ⊥) → after (call_rest ∷ ps) t k ≡ None
rest_refuses ps Comma k a b = absurd (a refl)
rest_refuses ps CloseParen k a b = absurd (b refl)
rest_refuses ps t k a b = refl

word_refused : (ps : List Part) (k : Key) → base_key k [] ≡ None → after (call_start ∷ ps) Keyword k ≡ None
word_refused ps key_true h = absurd cc
word_refused ps key_false h = absurd cc
word_refused ps k h = refl

call_refuses : (ps : List Part) (t : Token) (k : Key) → (t ≡ CloseParen → ⊥) → base_goes t k [] ≡ None → after (call_start ∷ ps) t k ≡ None
call_refuses ps CloseParen k a b = absurd (a refl)
call_refuses ps Keyword k a b = word_refused ps k b
call_refuses ps Plus k a b = absurd cc
call_refuses ps Minus k a b = absurd cc
call_refuses ps Number k a b = absurd cc
call_refuses ps String k a b = absurd cc
call_refuses ps Identifier k a b = absurd cc
call_refuses ps Dot k a b = absurd cc
call_refuses ps QuestionDot k a b = absurd cc
call_refuses ps OpenBracket k a b = absurd cc
call_refuses ps OpenBrace k a b = absurd cc
call_refuses ps OpenParen k a b = absurd cc
call_refuses ps t k a b = refl

pub rest_takes : (ps : List Part) → TakesComma (call_rest ∷ ps)
rest_takes ps k = refl

module _ (s : List ℕ) where
  call_refused : (ps : List Part) (ts : List Lexeme) → No CloseParen ts → NoBase s ts → Refuses s (call_start ∷ ps) ts
  call_refused ps [] a b = λ k. (refl, refl)
  call_refused ps (l ∷ ls) a b = call_refuses ps l.token (keyword_of (symbol_of s l).word) (is_not CloseParen l ls a) b

  pub call_starts : (ps : List Part) (ts : List Lexeme) → No CloseParen ts → StartsBase s (call_start ∷ ps) (call_rest ∷ ps) ts
  call_starts ps ts a = record { takes = call_takes ps; wants = refl; refuses = call_refused ps ts a }

  rest_refused : (ps : List Part) (ts : List Lexeme) → No Comma ts → No CloseParen ts → Refuses s (call_rest ∷ ps) ts
  rest_refused ps [] a b = λ k. (refl, refl)
  rest_refused ps (l ∷ ls) a b = rest_refuses ps l.token (keyword_of (symbol_of s l).word) (is_not Comma l ls a) (is_not CloseParen l ls b)

  -- a call with no arguments
  pub empty_call_reads : (name : Ident) (span : Span) (before mid now rest : List Lexeme) (closing : Span) → Goes CloseParen closing now rest → span ≡ from_to name.span closing → GoesName s name before mid → GoesBy OpenParen mid now → ReadsBase s (call name no_arguments span) before rest
  empty_call_reads name span before mid now rest closing c e g opener = record {
    reads = (mid, now, g, sym (ap (λ x. x.m) e), opener, (closing, c, sym (ap (λ x. x.n) e)));
    tail = no_tail;
    leads = λ from ps takes. leads_then s (leads_token s (name.span, g.0) (λ k. takes Identifier k))
        (leads_then s (leads_token s {a = after_name ∷ ps} opener (λ k. refl)) (leads_token s {a = call_start ∷ ps} (closing, c) (λ k. refl)));
    quiet = tt;
  }

  -- a call with arguments
  pub call_reads : (name : Ident) (bases : Bases) (place span : Span) (before mid now last rest : List Lexeme) (closing : Span) → ReadsArgs s bases now last → Goes CloseParen closing last rest → place ≡ record { m = name.span.m; n = last_end 0 bases } → span ≡ from_to name.span closing → GoesName s name before mid → GoesBy OpenParen mid now → ReadsBase s (call name (arguments bases place) span) before rest
  call_reads name bases place span before mid now last rest closing x c p e g opener = record {
    reads = (mid, now, g, sym (ap (λ y. y.m) e), opener, (last, x.reads, p ∙ ap (λ y. record { m = y.m; n = last_end 0 bases }) (sym e), (closing, c, sym (ap (λ y. y.n) e))));
    tail = no_tail;
    leads = λ from ps takes. leads_then s (leads_token s (name.span, g.0) (λ k. takes Identifier k))
        (leads_then s (leads_token s {a = after_name ∷ ps} opener (λ k. refl))
        (leads_then s (x.leads (call_start ∷ ps) (call_rest ∷ ps) (call_takes ps) (rest_takes ps)) (by_tail s x.tail (call_rest ∷ ps) (closing, c) refl (λ k. refl))));
    quiet = tt;
  }

  -- after the arguments
  pub call_stuck : (bases : Bases) (ts : List Lexeme) (tokens left : List Lexed) (want : Want) → ReadsArgs s bases ts (lexemes_of tokens) → IsRefused CloseParen WantCloseParen tokens want left → (ps : List Part) → StuckAt s (call_start ∷ ps) ts (lexemes_of left) (wanted_of want)
  call_stuck bases ts tokens left want x r ps =
      let parts = tail_parts x.tail ++ call_rest ∷ ps in
      stuck_then s (call_start ∷ ps) parts ts (lexemes_of tokens) (lexemes_of left) (wanted_of want) (x.leads (call_start ∷ ps) (call_rest ∷ ps) (call_takes ps) (rest_takes ps))
      (refused_here s parts CloseParen WantCloseParen tokens want left r (tail_refuses s x.tail (call_rest ∷ ps) (lexemes_of tokens) x.quiet (rest_refused ps (lexemes_of tokens) x.no_more r.none)) (tail_wants x.tail (call_rest ∷ ps)))
