-- A Base from its first token: where it is read, and where the tokens go no further.
use Rattle.std.proofs.Common.{◌≡◌, inl, inr, ℕ, List, ◌∷◌, true, false, refl, sym, ap, ◌∙◌, subst, codes}
use Rattle.upon_types.specs.declared.types.Span.{Span}
use Rattle.upon_types.specs.declared.types.token.Token.TheVariants.{Ident, OpenBrace, Keyword, Plus, Minus, Number, String}
use Rattle.upon_types.specs.declared.types.ast.path.AccessOp.{AccessOp}
use Rattle.upon_types.specs.declared.types.ast.path.Ident.{Ident as AstIdent}
use Rattle.upon_types.specs.Span.{slice}
use Rattle.upon_types.specs.AstPath.{ident_of}
use Rattle.upon_types.specs.Val.{Val, none_val, bool_val, int_val, text_val, list_val, map_val}
use Rattle.upon_types.specs.Expression.{literal}
use Rattle.upon_language_spec.specs.Cut.{Lexeme}
use Rattle.upon_language_spec.specs.Tokens.{Goes, GoesName}
use Rattle.upon_language_spec.specs.Expressions.{op_token, IsLiteral}
use Rattle.upon_language_spec.specs.Keys.{key_true, key_false}
use Rattle.upon_language_spec.specs.Wanted.{Wanted}
use Rattle.upon_language_spec.specs.Parts.{Part, a_member, a_magnitude, after_name, map_start}
use Rattle.upon_language_spec.specs.PartTails.{no_tail, TakesBase}
use Rattle.upon_language_spec.specs.PartLeads.{Leads}
use Rattle.upon_language_spec.proofs.Wanted.ExpressionsLead.{leads_then, leads_token, leads_key, op_takes}
use Rattle.upon_tag_parser.specs.TagParsing.{StuckAt, StartsBase, ReadsBase}
use Rattle.upon_tag_parser.proofs.Stuck.{stuck_then}

module _ (s : List ℕ) where
  -- the tokens are stuck, wherever a Base may start
  abbrev pub BaseStuck : List Lexeme → List Lexeme → Wanted → Type 0
  BaseStuck ts rest w = (from ps : List Part) → StartsBase s from ps ts → StuckAt s from ts rest w

  pub name_stuck : (ts us rest : List Lexeme) (w : Wanted) (span : Span) → Goes Ident span ts us → ((ps : List Part) → StuckAt s (after_name ∷ ps) us rest w) → BaseStuck ts rest w
  name_stuck ts us rest w span g h from ps starts = stuck_then s from (after_name ∷ ps) ts us rest w (leads_token s (span, g) (λ k. starts.takes Ident k)) (h ps)

  pub member_stuck : (ts us rest : List Lexeme) (w : Wanted) (op : AccessOp) (at : Span) → Goes (op_token op) at ts us → ((ps : List Part) → StuckAt s (a_member ∷ ps) us rest w) → BaseStuck ts rest w
  member_stuck ts us rest w op at g h from ps starts = stuck_then s from (a_member ∷ ps) ts us rest w (leads_token s (at, g) (op_takes from ps starts.takes op)) (h ps)

  pub map_start_stuck : (ts us rest : List Lexeme) (w : Wanted) (opening : Span) → Goes OpenBrace opening ts us → ((ps : List Part) → StuckAt s (map_start ∷ ps) us rest w) → BaseStuck ts rest w
  map_start_stuck ts us rest w opening g h from ps starts = stuck_then s from (map_start ∷ ps) ts us rest w (leads_token s (opening, g) (λ k. starts.takes OpenBrace k)) (h ps)

  -- a name at a span
  pub name_goes : (name : AstIdent) (span : Span) (ts us : List Lexeme) → (ident_of name).text ≡ slice s span → name.span ≡ span → Goes Ident span ts us → GoesName s (ident_of name) ts us
  name_goes name span ts us text e g =
      let F : Span → Type 0 = λ x. Goes Ident x ts us in
      (subst F (sym e) g, text ∙ ap (slice s) (sym e))

  literal_leads : (v : Val) (span : Span) (ts us : List Lexeme) → IsLiteral s v span ts us → (from ps : List Part) → TakesBase from ps → Leads s from ts ps us
  literal_leads (bool_val true) span ts us g from ps takes = leads_key s (codes "true") g (takes Keyword key_true)
  literal_leads (bool_val false) span ts us g from ps takes = leads_key s (codes "false") g (takes Keyword key_false)
  literal_leads (int_val z) span ts us (inl g) from ps takes = leads_token s (span, g.0) (λ k. takes Number k)
  literal_leads (int_val z) span ts us (inr (true, sign, number, mid, g, n, e, i)) from ps takes = leads_then s (leads_token s (sign, g) (λ k. takes Minus k)) (leads_token s {a = a_magnitude ∷ ps} (number, n) (λ k. refl))
  literal_leads (int_val z) span ts us (inr (false, sign, number, mid, g, n, e, i)) from ps takes = leads_then s (leads_token s (sign, g) (λ k. takes Plus k)) (leads_token s {a = a_magnitude ∷ ps} (number, n) (λ k. refl))
  literal_leads (text_val t) span ts us g from ps takes = leads_token s (span, g.0) (λ k. takes String k)
  literal_leads none_val span ts us g from ps takes = absurd g
  literal_leads (list_val vs) span ts us g from ps takes = absurd g
  literal_leads (map_val es) span ts us g from ps takes = absurd g

  pub literal_reads : (v : Val) (span : Span) (ts us : List Lexeme) → IsLiteral s v span ts us → ReadsBase s (literal v span) ts us
  literal_reads v span ts us g = record { reads = g; tail = no_tail; leads = literal_leads v span ts us g; quiet = tt }

pub span_is : (span : Span) (m n : ℕ) → span.m ≡ m → span.n ≡ n → span ≡ record { m = m; n = n }
span_is span m n e h = λ i. record { m = e i; n = h i }
