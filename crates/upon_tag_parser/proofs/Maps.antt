-- The entries of a map, one after the other.
use Rattle.std.proofs.Common.{◌≡◌, inl, inr, ℕ, List, [], ◌∷◌, ◌++◌, None, refl, sym, ap, ◌∙◌, subst, append_assoc}
use Rattle.upon_types.specs.declared.types.Span.{Span}
use Rattle.upon_types.specs.declared.types.token.Token.{Token}
use Rattle.upon_types.specs.declared.types.token.Token.TheVariants.{Comma, Colon, CloseBrace, OpenBrace, String}
use Rattle.upon_types.specs.Path.{Ident}
use Rattle.upon_types.specs.Expression.{Base, Items, no_items, item_then, mapping}
use Rattle.upon_machine_spec.specs.Instr.{Instr, expr_map_insert}
use Rattle.upon_machine_spec.specs.Code.{base_code, map_code}
use Rattle.upon_language_spec.specs.Cut.{Lexeme}
use Rattle.upon_language_spec.specs.Tokens.{Goes, GoesBy, GoesText, from_to}
use Rattle.upon_language_spec.specs.Expressions.{IsMapBody, IsMapTail}
use Rattle.upon_language_spec.specs.Keys.{Key, keyword_of}
use Rattle.upon_language_spec.specs.Tags.{symbol_of}
use Rattle.upon_language_spec.specs.Parts.{Part, a_base, map_start, map_colon, map_rest, after}
use Rattle.upon_language_spec.specs.PartTails.{No, tail_parts, no_tail}
use Rattle.upon_language_spec.specs.PartLeads.{Leads}
use Rattle.upon_language_spec.proofs.Wanted.ExpressionsLead.{leads_then, leads_nowhere, leads_token, by_tail, base_takes}
use Rattle.upon_lexer.specs.declared.literal.Lexed.{Lexed}
use Rattle.upon_tag_parser.specs.declared.compile.parse.want.Want.{Want}
use Rattle.upon_tag_parser.specs.declared.compile.parse.want.Want.TheVariants.{CloseBrace as WantCloseBrace, Text as WantText, Colon as WantColon}
use Rattle.upon_tag_parser.specs.TagTokens.{lexemes_of}
use Rattle.upon_tag_parser.specs.Wants.{wanted_of}
use Rattle.upon_tag_parser.specs.TagParsing.{Refuses, StuckAt, IsRefused, ReadsBase}
use Rattle.upon_tag_parser.specs.PartReadings.{entries_before, EntriesTo}
use Rattle.upon_tag_parser.proofs.Stuck.{is_not, stuck_then, refused_here}
use Rattle.upon_tag_parser.proofs.BaseStarts.{tail_refuses, tail_wants}

-- a key and its value were read, and what is next does not go on with the value
pub record ReadsItem (s : List ℕ) (key : Ident) (value : Base) (ts rest : List Lexeme) : Type 0 where
  pub colon : List Lexeme
  pub start : List Lexeme
  pub reads_key : GoesText s key ts colon
  pub reads_colon : GoesBy Colon colon start
  pub reads_value : ReadsBase s value start rest

before_push : (entries : List (Ident × Base)) (entry : Ident × Base) (more : Items) → entries_before (entries ++ entry ∷ []) more ≡ entries_before entries (item_then entry.0 entry.1 more)
before_push [] entry more = refl
before_push (first ∷ entries) entry more = ap (item_then first.0 first.1) (before_push entries entry more)

-- the instructions of one entry more
pub map_code-push : (entries : List (Ident × Base)) (key : Ident) (b : Base) → map_code (entries_before (entries ++ (key, b) ∷ []) no_items) ≡ map_code (entries_before entries no_items) ++ (base_code b ++ expr_map_insert key ∷ [])
map_code-push [] key b = refl
map_code-push (first ∷ entries) key b =
    let rest = map_code (entries_before entries no_items) in
    let last = base_code b ++ expr_map_insert key ∷ [] in
    ap (λ (c : List Instr). base_code first.1 ++ (expr_map_insert first.0 ∷ c)) (map_code-push entries key b)
    ∙ sym (append_assoc (base_code first.1) (expr_map_insert first.0 ∷ rest) last)

module _ (s : List ℕ) where
  pub entries_start : (ts : List Lexeme) → EntriesTo s [] ts ts
  entries_start ts = record { body = λ more span rest h. h; leads = λ ps. leads_nowhere s (map_start ∷ ps) ts ts refl }

  -- a map, from its body
  map_reads : (items : Items) (before all rest : List Lexeme) (opening closing : Span) → Goes OpenBrace opening before all → IsMapBody s items (from_to opening closing) all rest → ((ps : List Part) → Leads s (map_start ∷ ps) all ps rest) → ReadsBase s (mapping items (from_to opening closing)) before rest
  map_reads items before all rest opening closing g body leads = record {
    reads = (all, (opening, g, refl), body);
    tail = no_tail;
    leads = λ from ps takes. leads_then s (leads_token s (opening, g) (λ k. takes OpenBrace k)) (leads ps);
    quiet = tt;
  }

  -- the closing brace after no further entry
  pub map_closed : (entries : List (Ident × Base)) (before all now rest : List Lexeme) (opening closing : Span) → EntriesTo s entries all now → Goes CloseBrace closing now rest → Goes OpenBrace opening before all → ReadsBase s (mapping (entries_before entries no_items) (from_to opening closing)) before rest
  map_closed entries before all now rest opening closing x c g =
      map_reads (entries_before entries no_items) before all rest opening closing g (x.body no_items (from_to opening closing) rest (closing, c, refl)) (λ ps. leads_then s (x.leads ps) (leads_token s {a = map_start ∷ ps} (closing, c) (λ k. refl)))

  -- an entry, and then the tail of the map
  entry_tail : (entries : List (Ident × Base)) (key : Ident) (b : Base) (all now mid : List Lexeme) → EntriesTo s entries all now → ReadsItem s key b now mid → (others : Items) (span : Span) (rest : List Lexeme) → IsMapTail s others span mid rest → IsMapBody s (entries_before (entries ++ (key, b) ∷ []) others) span all rest
  entry_tail entries key b all now mid x g others span rest tail =
      let F : Items → Type 0 = λ i. IsMapBody s i span all rest in
      subst F (sym (before_push entries (key, b) others)) (x.body (item_then key b others) span rest (g.colon, g.start, g.reads_key, g.reads_colon, (mid, g.reads_value.reads, tail)))

  after_comma : (span : Span) (items : Items) (mid now rest : List Lexeme) (comma : Span) → Goes Comma comma mid now → IsMapBody s items span now rest → IsMapTail s items span mid rest
  after_comma span no_items mid now rest comma g h = inr (now, (comma, g), h)
  after_comma span (item_then key b items) mid now rest comma g (start, next, named, colon, others) = (now, start, next, (comma, g), named, colon, others)

  -- a key and its colon lead to the value
  pub key_leads : (key : Ident) (ts us vs : List Lexeme) → GoesText s key ts us → GoesBy Colon us vs → (ps : List Part) → Leads s (map_start ∷ ps) ts (a_base ∷ map_rest ∷ ps) vs
  key_leads key ts us vs g c ps = leads_then s (leads_token s {a = map_start ∷ ps} (key.span, g.0) (λ k. refl)) (leads_token s {a = map_colon ∷ ps} c (λ k. refl))

  -- an entry leads to what comes after a value
  entry_leads : (entries : List (Ident × Base)) (key : Ident) (b : Base) (all now mid : List Lexeme) (x : EntriesTo s entries all now) (g : ReadsItem s key b now mid) (ps : List Part) → Leads s (map_start ∷ ps) all (tail_parts g.reads_value.tail ++ map_rest ∷ ps) mid
  entry_leads entries key b all now mid x g ps =
      leads_then s (x.leads ps) (leads_then s (key_leads key now g.colon g.start g.reads_key g.reads_colon ps) (g.reads_value.leads (a_base ∷ map_rest ∷ ps) (map_rest ∷ ps) (base_takes (map_rest ∷ ps))))

  -- one entry more, and a comma
  pub entries_comma : (entries : List (Ident × Base)) (key : Ident) (b : Base) (all now mid next : List Lexeme) (comma : Span) → EntriesTo s entries all now → ReadsItem s key b now mid → Goes Comma comma mid next → EntriesTo s (entries ++ (key, b) ∷ []) all next
  entries_comma entries key b all now mid next comma x g c = record {
    body = λ others span rest h. entry_tail entries key b all now mid x g others span rest (after_comma span others mid next rest comma c h);
    leads = λ ps. leads_then s (entry_leads entries key b all now mid x g ps) (by_tail s g.reads_value.tail (map_rest ∷ ps) (comma, c) refl (λ k. refl));
  }

  -- one entry more, and the closing brace
  pub map_last : (entries : List (Ident × Base)) (key : Ident) (b : Base) (before all now mid rest : List Lexeme) (opening closing : Span) → EntriesTo s entries all now → ReadsItem s key b now mid → Goes CloseBrace closing mid rest → Goes OpenBrace opening before all → ReadsBase s (mapping (entries_before (entries ++ (key, b) ∷ []) no_items) (from_to opening closing)) before rest
  map_last entries key b before all now mid rest opening closing x g c o =
      let body = entry_tail entries key b all now mid x g no_items (from_to opening closing) rest (inl (closing, c, refl)) in
      map_reads (entries_before (entries ++ (key, b) ∷ []) no_items) before all rest opening closing o body (λ ps. leads_then s (entry_leads entries key b all now mid x g ps) (by_tail s g.reads_value.tail (map_rest ∷ ps) (closing, c) refl (λ k. refl)))

-- ---- where the tokens go no further
start_refuses : (ps : List Part) (t : Token) (k : Key) → (t ≡ CloseBrace → ⊥) → (t ≡ String → ⊥) → after (map_start ∷ ps) t k ≡ None
start_refuses ps CloseBrace k a b = absurd (a refl)
start_refuses ps String k a b = absurd (b refl)
start_refuses ps t k a b = refl

colon_refuses : (ps : List Part) (t : Token) (k : Key) → (t ≡ Colon → ⊥) → after (map_colon ∷ ps) t k ≡ None
colon_refuses ps Colon k a = absurd (a refl)
colon_refuses ps t k a = refl

rest_refuses : (ps : List Part) (t : Token) (k : Key) → (t ≡ Comma → ⊥) → (t ≡ CloseBrace → ⊥) → after (map_rest ∷ ps) t k ≡ None
rest_refuses ps Comma k a b = absurd (a refl)
rest_refuses ps CloseBrace k a b = absurd (b refl)
rest_refuses ps t k a b = refl

module _ (s : List ℕ) where
  start_refused : (ps : List Part) (ts : List Lexeme) → No CloseBrace ts → No String ts → Refuses s (map_start ∷ ps) ts
  start_refused ps [] a b = λ k. (refl, refl)
  start_refused ps (l ∷ ls) a b = start_refuses ps l.token (keyword_of (symbol_of s l).word) (is_not CloseBrace l ls a) (is_not String l ls b)

  colon_refused : (ps : List Part) (ts : List Lexeme) → No Colon ts → Refuses s (map_colon ∷ ps) ts
  colon_refused ps [] a = λ k. (refl, refl)
  colon_refused ps (l ∷ ls) a = colon_refuses ps l.token (keyword_of (symbol_of s l).word) (is_not Colon l ls a)

  rest_refused : (ps : List Part) (ts : List Lexeme) → No Comma ts → No CloseBrace ts → Refuses s (map_rest ∷ ps) ts
  rest_refused ps [] a b = λ k. (refl, refl)
  rest_refused ps (l ∷ ls) a b = rest_refuses ps l.token (keyword_of (symbol_of s l).word) (is_not Comma l ls a) (is_not CloseBrace l ls b)

  -- no key
  pub key_stuck : (tokens left : List Lexed) (want : Want) → No CloseBrace (lexemes_of tokens) → IsRefused String WantText tokens want left → (ps : List Part) → StuckAt s (map_start ∷ ps) (lexemes_of tokens) (lexemes_of left) (wanted_of want)
  key_stuck tokens left want a r ps = refused_here s (map_start ∷ ps) String WantText tokens want left r (start_refused ps (lexemes_of tokens) a r.none) refl

  -- no colon after a key
  pub colon_stuck : (key : Ident) (ts : List Lexeme) (tokens left : List Lexed) (want : Want) → GoesText s key ts (lexemes_of tokens) → IsRefused Colon WantColon tokens want left → (ps : List Part) → StuckAt s (map_start ∷ ps) ts (lexemes_of left) (wanted_of want)
  colon_stuck key ts tokens left want g r ps =
      stuck_then s (map_start ∷ ps) (map_colon ∷ ps) ts (lexemes_of tokens) (lexemes_of left) (wanted_of want) (leads_token s (key.span, g.0) (λ k. refl))
      (refused_here s (map_colon ∷ ps) Colon WantColon tokens want left r (colon_refused ps (lexemes_of tokens) r.none) refl)

  -- after an entry
  pub map_stuck : (entries : List (Ident × Base)) (key : Ident) (b : Base) (all now : List Lexeme) (tokens left : List Lexed) (want : Want) → EntriesTo s entries all now → ReadsItem s key b now (lexemes_of tokens) → No Comma (lexemes_of tokens) → IsRefused CloseBrace WantCloseBrace tokens want left → (ps : List Part) → StuckAt s (map_start ∷ ps) all (lexemes_of left) (wanted_of want)
  map_stuck entries key b all now tokens left want x g a r ps =
      let parts = tail_parts g.reads_value.tail ++ map_rest ∷ ps in
      stuck_then s (map_start ∷ ps) parts all (lexemes_of tokens) (lexemes_of left) (wanted_of want) (entry_leads s entries key b all now (lexemes_of tokens) x g ps)
      (refused_here s parts CloseBrace WantCloseBrace tokens want left r (tail_refuses s g.reads_value.tail (map_rest ∷ ps) (lexemes_of tokens) g.reads_value.quiet (rest_refused ps (lexemes_of tokens) a r.none)) (tail_wants g.reads_value.tail (map_rest ∷ ps)))
