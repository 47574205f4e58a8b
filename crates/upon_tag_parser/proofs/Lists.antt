-- The items of a list, one after the other.
use Rattle.std.proofs.Common.{◌≡◌, inl, inr, ℕ, List, [], ◌∷◌, ◌++◌, None, refl, sym, ap, ◌∙◌, subst, append_assoc}
use Rattle.upon_types.specs.declared.types.Span.{Span}
use Rattle.upon_types.specs.declared.types.token.Token.{Token}
use Rattle.upon_types.specs.declared.types.token.Token.TheVariants.{Comma, CloseBracket, OpenBracket, OpenBrace, OpenParen, Dot, QuestionDot, Keyword, Plus, Minus, Number, String, Ident}
use Rattle.upon_types.specs.Expression.{Base, Bases, no_bases, base_then, list}
use Rattle.upon_machine_spec.specs.Instr.{Instr, expr_list_push}
use Rattle.upon_machine_spec.specs.Code.{base_code, list_code}
use Rattle.upon_language_spec.specs.Cut.{Lexeme}
use Rattle.upon_language_spec.specs.Tokens.{Goes, from_to}
use Rattle.upon_language_spec.specs.Expressions.{IsBase, IsListBody, IsListTail}
use Rattle.upon_language_spec.specs.Keys.{Key, key_true, key_false, keyword_of}
use Rattle.upon_language_spec.specs.Tags.{symbol_of}
use Rattle.upon_language_spec.specs.Parts.{Part, list_start, list_rest, base_key, base_goes, after}
use Rattle.upon_language_spec.specs.PartTails.{No, tail_parts, no_tail}
use Rattle.upon_language_spec.specs.PartLeads.{Leads}
use Rattle.upon_language_spec.proofs.Wanted.ExpressionsLead.{leads_then, leads_nowhere, leads_token, by_tail, list_takes}
use Rattle.upon_lexer.specs.declared.literal.Lexed.{Lexed}
use Rattle.upon_tag_parser.specs.declared.compile.parse.want.Want.{Want}
use Rattle.upon_tag_parser.specs.declared.compile.parse.want.Want.TheVariants.{CloseBracket as WantCloseBracket}
use Rattle.upon_tag_parser.specs.TagTokens.{lexemes_of}
use Rattle.upon_tag_parser.specs.Wants.{wanted_of}
use Rattle.upon_tag_parser.specs.TagParsing.{Refuses, NoBase, StuckAt, IsRefused, StartsBase, ReadsBase}
use Rattle.upon_tag_parser.specs.PartReadings.{bases_before, ItemsTo}
use Rattle.upon_tag_parser.proofs.Stuck.{is_not, stuck_then, refused_here}
use Rattle.upon_tag_parser.proofs.BaseStarts.{tail_refuses, tail_wants}

pub before_push : (bs : List Base) (b : Base) (more : Bases) → bases_before (bs ++ b ∷ []) more ≡ bases_before bs (base_then b more)
before_push [] b more = refl
before_push (a ∷ bs) b more = ap (base_then a) (before_push bs b more)

-- the instructions of one item more
pub list_code-push : (bs : List Base) (b : Base) → list_code (bases_before (bs ++ b ∷ []) no_bases) ≡ list_code (bases_before bs no_bases) ++ (base_code b ++ expr_list_push ∷ [])
list_code-push [] b = refl
list_code-push (a ∷ bs) b =
    let rest = list_code (bases_before bs no_bases) in
    let last = base_code b ++ expr_list_push ∷ [] in
    ap (λ (c : List Instr). base_code a ++ (expr_list_push ∷ c)) (list_code-push bs b)
    ∙ sym (append_assoc (base_code a) (expr_list_push ∷ rest) last)

module _ (s : List ℕ) where
  pub items_start : (ts : List Lexeme) → ItemsTo s [] ts ts
  items_start ts = record { body = λ more span rest h. h; leads = λ ps. leads_nowhere s (list_start ∷ ps) ts ts refl }

  -- a list, from its body
  list_reads : (bases : Bases) (before all rest : List Lexeme) (opening closing : Span) → Goes OpenBracket opening before all → IsListBody s bases (from_to opening closing) all rest → ((ps : List Part) → Leads s (list_start ∷ ps) all ps rest) → ReadsBase s (list bases (from_to opening closing)) before rest
  list_reads bases before all rest opening closing g body leads = record {
    reads = (all, (opening, g, refl), body);
    tail = no_tail;
    leads = λ from ps takes. leads_then s (leads_token s (opening, g) (λ k. takes OpenBracket k)) (leads ps);
    quiet = tt;
  }

  -- the closing bracket after no further item
  pub list_closed : (items : List Base) (before all now rest : List Lexeme) (opening closing : Span) → ItemsTo s items all now → Goes CloseBracket closing now rest → Goes OpenBracket opening before all → ReadsBase s (list (bases_before items no_bases) (from_to opening closing)) before rest
  list_closed items before all now rest opening closing x c g =
      list_reads (bases_before items no_bases) before all rest opening closing g (x.body no_bases (from_to opening closing) rest (closing, c, refl)) (λ ps. leads_then s (x.leads ps) (leads_token s {a = list_start ∷ ps} (closing, c) (λ k. refl)))

  -- an item, and then the tail of the list
  item_tail : (items : List Base) (item : Base) (all now mid : List Lexeme) → ItemsTo s items all now → IsBase s item now mid → (others : Bases) (span : Span) (rest : List Lexeme) → IsListTail s others span mid rest → IsListBody s (bases_before (items ++ item ∷ []) others) span all rest
  item_tail items item all now mid x g others span rest tail =
      let F : Bases → Type 0 = λ b. IsListBody s b span all rest in
      subst F (sym (before_push items item others)) (x.body (base_then item others) span rest (mid, g, tail))

  after_comma : (span : Span) (bs : Bases) (mid now rest : List Lexeme) (comma : Span) → Goes Comma comma mid now → IsListBody s bs span now rest → IsListTail s bs span mid rest
  after_comma span no_bases mid now rest comma g h = inr (now, (comma, g), h)
  after_comma span (base_then b bs) mid now rest comma g (next, h, more) = (now, next, (comma, g), h, more)

  -- an item leads to what comes after a list's items
  item_leads : (items : List Base) (b : Base) (all now mid : List Lexeme) (x : ItemsTo s items all now) (g : ReadsBase s b now mid) (ps : List Part) → Leads s (list_start ∷ ps) all (tail_parts g.tail ++ list_rest ∷ ps) mid
  item_leads items b all now mid x g ps = leads_then s (x.leads ps) (g.leads (list_start ∷ ps) (list_rest ∷ ps) (list_takes ps))

  -- one item more, and a comma
  pub items_comma : (items : List Base) (item : Base) (all now mid next : List Lexeme) (comma : Span) → ItemsTo s items all now → ReadsBase s item now mid → Goes Comma comma mid next → ItemsTo s (items ++ item ∷ []) all next
  items_comma items item all now mid next comma x g c = record {
    body = λ others span rest h. item_tail items item all now mid x g.reads others span rest (after_comma span others mid next rest comma c h);
    leads = λ ps. leads_then s (item_leads items item all now mid x g ps) (by_tail s g.tail (list_rest ∷ ps) (comma, c) refl (λ k. refl));
  }

  -- one item more, and the closing bracket
  pub list_last : (items : List Base) (item : Base) (before all now mid rest : List Lexeme) (opening closing : Span) → ItemsTo s items all now → ReadsBase s item now mid → Goes CloseBracket closing mid rest → Goes OpenBracket opening before all → ReadsBase s (list (bases_before (items ++ item ∷ []) no_bases) (from_to opening closing)) before rest
  list_last items item before all now mid rest opening closing x g c o =
      let body = item_tail items item all now mid x g.reads no_bases (from_to opening closing) rest (inl (closing, c, refl)) in
      list_reads (bases_before (items ++ item ∷ []) no_bases) before all rest opening closing o body (λ ps. leads_then s (item_leads items item all now mid x g ps) (by_tail s g.tail (list_rest ∷ ps) (closing, c) refl (λ k. refl)))

-- ---- where the tokens go no further
word_refused : (ps : List Part) (k : Key) → base_key k [] ≡ None → after (list_start ∷ ps) Keyword k ≡ None
word_refused ps key_true h = absurd cc
word_refused ps key_false h = absurd cc
word_refused ps k h = refl

list_refuses : (ps : List Part) (t : Token) (k : Key) → (t ≡ CloseBracket → ⊥) → base_goes t k [] ≡ None → after (list_start ∷ ps) t k ≡ None
list_refuses ps CloseBracket k a b = absurd (a refl)
list_refuses ps Keyword k a b = word_refused ps k b
list_refuses ps Plus k a b = absurd cc
list_refuses ps Minus k a b = absurd cc
list_refuses ps Number k a b = absurd cc
list_refuses ps String k a b = absurd cc
list_refuses ps Ident k a b = absurd cc
list_refuses ps Dot k a b = absurd cc
list_refuses ps QuestionDot k a b = absurd cc
list_refuses ps OpenBracket k a b = absurd cc
list_refuses ps OpenBrace k a b = absurd cc
list_refuses ps OpenParen k a b = absurd cc
list_refuses ps t k a b = refl

rest_refuses : (ps : List Part) (t : Token) (k : Key) → (t ≡ Comma → ⊥) → (t ≡ CloseBracket → ⊥) → after (list_rest ∷ ps) t k ≡ None
rest_refuses ps Comma k a b = absurd (a refl)
rest_refuses ps CloseBracket k a b = absurd (b refl)
rest_refuses ps t k a b = refl

module _ (s : List ℕ) where
  list_refused : (ps : List Part) (ts : List Lexeme) → No CloseBracket ts → NoBase s ts → Refuses s (list_start ∷ ps) ts
  list_refused ps [] a b = λ k. (refl, refl)
  list_refused ps (l ∷ ls) a b = list_refuses ps l.token (keyword_of (symbol_of s l).word) (is_not CloseBracket l ls a) b

  pub list_starts : (ps : List Part) (ts : List Lexeme) → No CloseBracket ts → StartsBase s (list_start ∷ ps) (list_rest ∷ ps) ts
  list_starts ps ts a = record { takes = list_takes ps; wants = refl; refuses = list_refused ps ts a }

  rest_refused : (ps : List Part) (ts : List Lexeme) → No Comma ts → No CloseBracket ts → Refuses s (list_rest ∷ ps) ts
  rest_refused ps [] a b = λ k. (refl, refl)
  rest_refused ps (l ∷ ls) a b = rest_refuses ps l.token (keyword_of (symbol_of s l).word) (is_not Comma l ls a) (is_not CloseBracket l ls b)

  -- after an item
  pub list_stuck : (items : List Base) (b : Base) (all now : List Lexeme) (tokens left : List Lexed) (want : Want) → ItemsTo s items all now → ReadsBase s b now (lexemes_of tokens) → No Comma (lexemes_of tokens) → IsRefused CloseBracket WantCloseBracket tokens want left → (ps : List Part) → StuckAt s (list_start ∷ ps) all (lexemes_of left) (wanted_of want)
  list_stuck items b all now tokens left want x g a r ps =
      let parts = tail_parts g.tail ++ list_rest ∷ ps in
      stuck_then s (list_start ∷ ps) parts all (lexemes_of tokens) (lexemes_of left) (wanted_of want) (item_leads s items b all now (lexemes_of tokens) x g ps)
      (refused_here s parts CloseBracket WantCloseBracket tokens want left r (tail_refuses s g.tail (list_rest ∷ ps) (lexemes_of tokens) g.quiet (rest_refused ps (lexemes_of tokens) a r.none)) (tail_wants g.tail (list_rest ∷ ps)))
