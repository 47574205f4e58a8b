-- What is open, one in the other: where a Base may start in it, and one more of it.
use Rattle.std.proofs.Common.{◌≡◌, ℕ, List, [], ◌∷◌, ◌++◌, Bool, true, false, Option, Some, None, refl, sym, subst}
use Rattle.upon_types.specs.declared.types.Span.{Span}
use Rattle.upon_types.specs.declared.types.token.Token.TheVariants.{OpenBracket, OpenBrace, OpenParen, Ident as Identifier}
use Rattle.upon_types.specs.AstPath.{ident_of, string_of}
use Rattle.upon_language_spec.specs.Cut.{Lexeme}
use Rattle.upon_language_spec.specs.Parts.{Part, a_base, filters, more_args, list_start, list_rest, map_rest, after_name, call_start, call_rest, close_paren}
use Rattle.upon_language_spec.specs.PartLeads.{Leads}
use Rattle.upon_language_spec.proofs.Wanted.ExpressionsLead.{leads_then, leads_nowhere, leads_token}
use Rattle.upon_lexer.specs.declared.literal.Lexed.{Lexed}
use Rattle.upon_tag_parser.specs.declared.compile.parse.want.Want.{Want}
use Rattle.upon_tag_parser.specs.declared.compile.parse.brackets.Beginning.{Beginning}
use Rattle.upon_tag_parser.specs.declared.compile.parse.brackets.Applied.{Applied}
use Rattle.upon_tag_parser.specs.declared.compile.parse.brackets.Receiver.{Receiver}
use Rattle.upon_tag_parser.specs.declared.compile.parse.brackets.Open.{Open}
use Rattle.upon_tag_parser.specs.declared.compile.parse.brackets.Open.TheVariants as opened
use Rattle.upon_tag_parser.specs.TagTokens.{lexemes_of}
use Rattle.upon_tag_parser.specs.Wants.{wanted_of}
use Rattle.upon_tag_parser.specs.TagParsing.{StartsBase}
use Rattle.upon_tag_parser.specs.Brackets.{Place, PartStart, EntryTo, CallTo, FilterTo, IsOpen, AreOpen, awaited, is_whole, StuckFrom}
use Rattle.upon_tag_parser.proofs.Stuck.{stuck_then}
use Rattle.upon_tag_parser.proofs.BaseStarts.{base_starts}
use Rattle.upon_tag_parser.proofs.Lists.{list_starts}
use Rattle.upon_tag_parser.proofs.Maps.{key_leads}
use Rattle.upon_tag_parser.proofs.Calls.{call_starts, rest_takes}
use Rattle.upon_tag_parser.proofs.Filters.{inside, bar_leads, colon_leads, more_takes}

-- the tokens lead to where a Base may start, after which something is to come
pub record Started (s : List ℕ) (a : List Part) (all now : List Lexeme) : Type 0 where
  pub to : List Part
  pub others : List Part
  pub leads : Leads s a all to now
  pub starts : StartsBase s to others now

-- the tokens lead to where an expression may start, after which its filters and then something else are to come
pub record PartStarted (s : List ℕ) (a : List Part) (all now : List Lexeme) : Type 0 where
  pub to : List Part
  pub others : List Part
  pub leads : Leads s a all to now
  pub starts : StartsBase s to (filters ∷ others) now

module _ (s : List ℕ) where
  -- ---- where a Base may start in what is open
  pub part_started : (whole : Bool) (opening : Option Span) (from start : Place) → PartStart whole opening from start → (a ps : List Part) → StartsBase s a (awaited whole ps) from.tokens → PartStarted s a from.tokens start.tokens
  part_started whole None from start (is, tokens, code) a ps starts =
      let F : Bool → Type 0 = λ w. StartsBase s a (awaited w ps) from.tokens in
      let G : List Lexeme → Type 0 = λ ts. StartsBase s a (filters ∷ ps) ts in
      record { to = a; others = ps; leads = leads_nowhere s a from.tokens start.tokens (sym tokens); starts = subst G (sym tokens) (subst F is starts) }
  part_started whole (Some opening) from start (opens, code) a ps starts =
      let others = awaited whole ps in
      record { to = inside s others; others = close_paren ∷ others; leads = leads_token s (opening, opens) (λ k. starts.takes OpenParen k); starts = base_starts s (filters ∷ close_paren ∷ others) start.tokens }

  list_started : (start : Beginning) (from to : Place) → IsOpen s false (opened.List start) from to → (a ps : List Part) → StartsBase s a ps from.tokens → Started s a from.tokens to.tokens
  list_started start from to (h, none) a ps starts = record {
    to = list_start ∷ ps;
    others = list_rest ∷ ps;
    leads = leads_then s (leads_token s (start.opening, h.opens) (λ k. starts.takes OpenBracket k)) (h.reads.leads ps);
    starts = list_starts s ps to.tokens none;
  }

  entry_started : (start : Beginning) (key : _) (from to : Place) → EntryTo s start key from to → (a ps : List Part) → StartsBase s a ps from.tokens → Started s a from.tokens to.tokens
  entry_started start key from to h a ps starts = record {
    to = a_base ∷ map_rest ∷ ps;
    others = map_rest ∷ ps;
    leads = leads_then s (leads_token s (start.opening, h.before.opens) (λ k. starts.takes OpenBrace k))
        (leads_then s (h.before.reads.leads ps) (key_leads s key h.mid.tokens h.colon to.tokens h.reads_key h.reads_colon ps));
    starts = base_starts s (map_rest ∷ ps) to.tokens;
  }

  -- a call's name and parenthesis lead to its arguments
  pub call_leads : (call : Applied) (from to : Place) (h : CallTo s call from to) (a ps : List Part) → StartsBase s a ps from.tokens → Leads s a from.tokens (call_start ∷ ps) h.inside
  call_leads call from to h a ps starts = leads_then s (leads_token s ((ident_of call.name).span, h.named.0) (λ k. starts.takes Identifier k)) (leads_token s {a = after_name ∷ ps} h.opens (λ k. refl))

  call_started : (call : Applied) (from to : Place) → CallTo s call from to → (a ps : List Part) → StartsBase s a ps from.tokens → Started s a from.tokens to.tokens
  call_started call from to h a ps starts =
      let at = h.reads.starts (call_start ∷ ps) (call_rest ∷ ps) (rest_takes ps) (call_starts s ps h.inside h.not_closed) in
      record { to = at.to; others = call_rest ∷ ps; leads = leads_then s (call_leads call from to h a ps starts) at.leads; starts = at.starts }

  filter_started : (whole : Bool) (receiver : Receiver) (filter : Applied) (from to : Place) → FilterTo s whole receiver filter from to → (a ps : List Part) → StartsBase s a (awaited whole ps) from.tokens → Started s a from.tokens to.tokens
  filter_started whole receiver filter from to h a ps starts =
      let begun = part_started whole receiver.opening from h.start h.begins a ps starts in
      let others = filters ∷ begun.others in
      let at = h.reads.starts (a_base ∷ more_args ∷ others) (more_args ∷ others) (more_takes others) (base_starts s (more_args ∷ others) h.inside) in
      record {
        to = at.to;
        others = more_args ∷ others;
        leads = leads_then s begun.leads (leads_then s (bar_leads s h.part.tree h.start.tokens h.mid.tokens h.name h.part.reads h.bar begun.to begun.others begun.starts.takes)
            (leads_then s (colon_leads s (ident_of filter.name) h.name h.colon h.inside h.named h.opens begun.others) at.leads));
        starts = at.starts;
      }

  part_is_started : (a : List Part) (all now : List Lexeme) → PartStarted s a all now → Started s a all now
  part_is_started a all now h = record { to = h.to; others = filters ∷ h.others; leads = h.leads; starts = h.starts }

  pub open_started : (whole : Bool) (top : Open) (from to : Place) → IsOpen s whole top from to → (a ps : List Part) → StartsBase s a (awaited whole ps) from.tokens → Started s a from.tokens to.tokens
  open_started whole (opened.List start) from to h a ps starts = list_started start from to h a (awaited whole ps) starts
  open_started whole (opened.Map start key) from to h a ps starts = entry_started start (string_of key) from to h a (awaited whole ps) starts
  open_started whole (opened.Call call) from to h a ps starts = call_started call from to h a (awaited whole ps) starts
  open_started whole (opened.Paren opening) from to h a ps starts = part_is_started a from.tokens to.tokens (part_started whole (Some opening) from to h a ps starts)
  open_started whole (opened.Filter receiver filter) from to h a ps starts = filter_started whole receiver filter from to h a ps starts

  -- ---- all that is open
  -- where the tokens are stuck in what is open, they are stuck
  pub around_stuck : (whole : Bool) (stack : List Open) (from to : Place) (want : Want) (left : List Lexed) → AreOpen s whole stack from to → StuckFrom s (is_whole whole stack) to.tokens want left → StuckFrom s whole from.tokens want left
  around_stuck whole [] from to want left e h = let F : Place → Type 0 = λ p. StuckFrom s whole p.tokens want left in subst F (sym e) h
  around_stuck whole (first ∷ others) from to want left (mid, here, more) h = λ a ps starts.
      let at = open_started whole first from mid here a ps starts in
      stuck_then s a at.to from.tokens mid.tokens (lexemes_of left) (wanted_of want) at.leads (around_stuck false others mid to want left more h at.to at.others at.starts)

  -- one more is open
  pub around_push : (whole : Bool) (stack : List Open) (top : Open) (from mid to : Place) → AreOpen s whole stack from mid → IsOpen s (is_whole whole stack) top mid to → AreOpen s whole (stack ++ top ∷ []) from to
  around_push whole [] top from mid to e h = let F : Place → Type 0 = λ p. IsOpen s whole top p to in (to, subst F (sym e) h, refl)
  around_push whole (first ∷ others) top from mid to (next, here, more) h = (next, here, around_push false others top next mid to more h)

  -- the last one that is open
  pub record Innermost (whole : Bool) (stack : List Open) (top : Open) (from to : Place) : Type 0 where
    pub mid : Place
    pub around : AreOpen s whole stack from mid
    pub here : IsOpen s (is_whole whole stack) top mid to

  pub around_pop : (whole : Bool) (stack : List Open) (top : Open) (from to : Place) → AreOpen s whole (stack ++ top ∷ []) from to → Innermost whole stack top from to
  around_pop whole [] top from to (mid, here, e) = let F : Place → Type 0 = λ p. IsOpen s whole top from p in record { mid = from; around = refl; here = subst F e here }
  around_pop whole (first ∷ others) top from to (next, here, more) =
      let h = around_pop false others top next to more in
      record { mid = h.mid; around = (next, here, h.around); here = h.here }

-- after something that is open, the whole expression does not start
never_whole : (stack : List Open) → is_whole false stack ≡ true → ⊥
never_whole [] e = absurd cc
never_whole (first ∷ others) e = never_whole others e

pub whole_alone : (stack : List Open) → is_whole true stack ≡ true → stack ≡ []
whole_alone [] e = refl
whole_alone (first ∷ others) e = absurd (never_whole others e)
