-- Where the tokens of a tag are stuck: at the first of them, or after what leads on; and errors that are handed on.
use Rattle.std.proofs.Common.{◌≡◌, ℕ, List, [], ◌∷◌, ◌++◌, Bool, true, false, Some, None, refl, sym, ap, subst, ◌∙◌, Result, Ok, Err, IfOk}
use Rattle.upon_types.specs.declared.types.token.Token.{Token}
use Rattle.upon_types.specs.declared.types.token.Token.TheVariants.{Ident, Index, Number, Minus, Plus}
use Rattle.upon_language_spec.specs.Cut.{Lexeme}
use Rattle.upon_language_spec.specs.Wanted.{Wanted}
use Rattle.upon_language_spec.specs.Keys.{Key}
use Rattle.upon_language_spec.specs.Parts.{Part, a_member, a_magnitude, after_member, after_name, after, wanted_at}
use Rattle.upon_language_spec.specs.PartTails.{No, TakesBase, TakesOp}
use Rattle.upon_language_spec.specs.PartLeads.{Leads}
use Rattle.upon_language_spec.proofs.Wanted.ExpressionsLead.{leads_then, leads_nowhere, leads_token, step_leads, steps_leads}
use Rattle.upon_lexer.specs.declared.literal.Lexed.{Lexed}
use Rattle.upon_tag_parser.specs.declared.compile.parse.path.Failure.{Failure}
use Rattle.upon_tag_parser.specs.declared.compile.parse.path.Failure.TheVariants.{Memory, Stuck}
use Rattle.upon_tag_parser.specs.declared.compile.parse.want.Want.{Want}
use Rattle.upon_tag_parser.specs.declared.compile.parse.want.Want.TheVariants as want
use Rattle.upon_tag_parser.specs.TagTokens.{lexemes_of}
use Rattle.upon_tag_parser.specs.Wants.{wanted_of}
use Rattle.upon_lexer.specs.Literals.{lexeme_of}
use Rattle.upon_language_spec.specs.Expressions.{op_token, sign_token, IsMember, AreMembers}
use Rattle.upon_language_spec.specs.Tokens.{Goes}
use Rattle.upon_types.specs.Path.{Member}
use Rattle.upon_types.specs.declared.types.Span.{Span}
use Rattle.upon_types.specs.declared.types.ast.path.AccessOp.{AccessOp}
use Rattle.upon_types.specs.declared.types.ast.path.AccessOp.TheVariants.{Direct, Optional}
use Rattle.upon_tag_parser.specs.TagParsing.{Refuses, StuckAt, OnStuck, IfStuck, IsStuck, IsRefused, IsSign}

-- an error that is handed on says of the caller what it said of the callee
pub stuck_map : (e : Failure) (P Q : Want → List Lexed → Type 0) → ((w : Want) (left : List Lexed) → P w left → Q w left) → OnStuck e P → OnStuck e Q
stuck_map Memory P Q f h = tt
stuck_map (Stuck w left) P Q f h = f w left.now h

pub handed_on : {B : Type 0} (r : Result B Failure) (e : Failure) (P Q : Want → List Lexed → Type 0) → (x : Failure) × (r ≡ Err x) × (x ≡ e) → ((w : Want) (left : List Lexed) → P w left → Q w left) → OnStuck e P → IfStuck r Q
handed_on {B = B} r e P Q i f h =
    let F : Result B Failure → Type 0 = λ x. IfStuck x Q in
    subst F (sym (i.1 ∙ ap (λ x. Err x) i.2)) (stuck_map e P Q f h)

-- the first token may not be there
pub stuck_here : (s : List ℕ) (from : List Part) (ts : List Lexeme) (word : Wanted) → Refuses s from ts → wanted_at from ≡ Some word → StuckAt s from ts ts word
stuck_here s from ts word refuses wants = record { to = from; leads = leads_nowhere s from ts ts refl; refuses = refuses; wants = wants }

-- where what leads on is stuck, all of it is
pub stuck_then : (s : List ℕ) (a b : List Part) (ts us vs : List Lexeme) (word : Wanted) → Leads s a ts b us → StuckAt s b us vs word → StuckAt s a ts vs word
stuck_then s a b ts us vs word x h = record { to = h.to; leads = leads_then s x h.leads; refuses = h.refuses; wants = h.wants }

-- what was refused is stuck here
pub refused_here : (s : List ℕ) (from : List Part) (token : Token) (wanted : Want) (tokens : List Lexed) (w : Want) (left : List Lexed) → IsRefused token wanted tokens w left → Refuses s from (lexemes_of tokens) → wanted_at from ≡ Some (wanted_of wanted) → IsStuck s from tokens w left
refused_here s from token wanted tokens w left r refuses wants =
    let F : List Lexed → Type 0 = λ x. StuckAt s from (lexemes_of tokens) (lexemes_of x) (wanted_of w) in
    subst F (sym r.same) (stuck_here s from (lexemes_of tokens) (wanted_of w) refuses (wants ∙ ap (λ x. Some (wanted_of x)) (sym r.wants)))

-- the token of no kind that comes first is another one
pub is_not : (t : Token) (l : Lexeme) (ls : List Lexeme) → No t (l ∷ ls) → l.token ≡ t → ⊥
is_not t l ls none e = none l.span ls (record { lexeme = l; is = refl; of_token = e; at = refl })

-- ---- a name or an index
no_member : (parts : List Part) (t : Token) (k : Key) → (t ≡ Ident → ⊥) → (t ≡ Index → ⊥) → after (a_member ∷ parts) t k ≡ None
no_member parts Ident k a b = absurd (a refl)
no_member parts Index k a b = absurd (b refl)
no_member parts t k a b = refl

member_refused : (s : List ℕ) (parts : List Part) (ts : List Lexeme) → No Ident ts → No Index ts → Refuses s (a_member ∷ parts) ts
member_refused s parts [] a b = λ k. (refl, refl)
member_refused s parts (l ∷ ls) a b = no_member parts l.token _ (is_not Ident l ls a) (is_not Index l ls b)

pub access_stuck : (s : List ℕ) (parts : List Part) (tokens : List Lexed) (w : Want) (left : List Lexed) → No Ident (lexemes_of tokens) → IsRefused Index want.NameOrIndex tokens w left → IsStuck s (a_member ∷ parts) tokens w left
access_stuck s parts tokens w left none r = refused_here s (a_member ∷ parts) Index want.NameOrIndex tokens w left r (member_refused s parts (lexemes_of tokens) none r.none) refl

-- ---- a number after a sign
no_magnitude : (parts : List Part) (t : Token) (k : Key) → (t ≡ Number → ⊥) → after (a_magnitude ∷ parts) t k ≡ None
no_magnitude parts Number k a = absurd (a refl)
no_magnitude parts t k a = refl

magnitude_refused : (s : List ℕ) (parts : List Part) (ts : List Lexeme) → No Number ts → Refuses s (a_magnitude ∷ parts) ts
magnitude_refused s parts [] a = λ k. (refl, refl)
magnitude_refused s parts (l ∷ ls) a = no_magnitude parts l.token _ (is_not Number l ls a)

pub magnitude_stuck : (s : List ℕ) (parts : List Part) (tokens : List Lexed) (w : Want) (left : List Lexed) → IsRefused Number want.Number tokens w left → IsStuck s (a_magnitude ∷ parts) tokens w left
magnitude_stuck s parts tokens w left r = refused_here s (a_magnitude ∷ parts) Number want.Number tokens w left r (magnitude_refused s parts (lexemes_of tokens) r.none) refl

-- a sign is next, where a Base may begin: it leads to a number
sign_takes : (from parts : List Part) → TakesBase from parts → (minus : Bool) (k : Key) → after from (sign_token minus) k ≡ Some (a_magnitude ∷ parts)
sign_takes from parts takes true k = takes Minus k
sign_takes from parts takes false k = takes Plus k

pub signed_stuck : (s : List ℕ) (from parts : List Part) (sign : Lexed) (tokens rest : List Lexed) (w : Want) (left : List Lexed) → TakesBase from parts → IsSign sign.token → tokens ≡ sign ∷ rest → IsRefused Number want.Number rest w left → IsStuck s from tokens w left
signed_stuck s from parts sign tokens rest w left takes (minus, is) e r =
    stuck_then s from (a_magnitude ∷ parts) (lexemes_of tokens) (lexemes_of rest) (lexemes_of left) (wanted_of w)
    (leads_token s (sign.span, record { lexeme = lexeme_of sign; is = ap lexemes_of e; of_token = is; at = refl }) (sign_takes from parts takes minus))
    (magnitude_stuck s parts rest w left r)

-- ---- paths
pub member_op : (parts : List Part) → TakesOp (after_member ∷ parts) parts
member_op parts Direct k = refl
member_op parts Optional k = refl

pub name_op : (parts : List Part) → TakesOp (after_name ∷ parts) parts
name_op parts Direct k = refl
name_op parts Optional k = refl

-- after members and an operator a name or an index is wanted
op_leads : (s : List ℕ) (from parts : List Part) → TakesOp from parts → (members : List Member) (op : AccessOp) (at : Span) (ts us vs : List Lexeme) → AreMembers s members ts us → Goes (op_token op) at us vs → Leads s from ts (a_member ∷ parts) vs
op_leads s from parts takes [] op at ts us vs e g = leads_then s (leads_nowhere s from ts us e) (leads_token s (at, g) (takes op))
op_leads s from parts takes (member ∷ members) op at ts us vs (mid, read, more) g = leads_then s (step_leads s parts member ts mid read (takes member.op)) (leads_then s (steps_leads s parts members mid us more) (leads_token s (at, g) (member_op parts op)))

-- a member that is stuck after its operator, after members that were read
pub member_stuck : (s : List ℕ) (members : List Member) (op : AccessOp) (at : Span) (ts us vs left : List Lexeme) (word : Wanted) → AreMembers s members ts us → Goes (op_token op) at us vs → ((parts : List Part) → StuckAt s (a_member ∷ parts) vs left word) → (from parts : List Part) → TakesOp from parts → StuckAt s from ts left word
member_stuck s members op at ts us vs left word read g h from parts takes = stuck_then s from (a_member ∷ parts) ts vs left word (op_leads s from parts takes members op at ts us vs read g) (h parts)

-- one member more
pub members_more : (s : List ℕ) (members : List Member) (member : Member) (ts us vs : List Lexeme) → AreMembers s members ts us → IsMember s member us vs → AreMembers s (members ++ member ∷ []) ts vs
members_more s [] member ts us vs e h = (vs, subst (λ x. IsMember s member x vs) (sym e) h, refl)
members_more s (first ∷ members) member ts us vs (mid, g, more) h = (mid, g, members_more s members member mid us vs more h)

-- what is said of a result, where it is handed on as it is
pub ok_map : {A : Type 0} {E : Type 0} (r : Result A E) (P Q : A → Type 0) → ((a : A) → P a → Q a) → IfOk r P → IfOk r Q
ok_map (Ok a) P Q f h = f a h
ok_map (Err e) P Q f h = tt

pub stuck_same : {A : Type 0} (r : Result A Failure) (P Q : Want → List Lexed → Type 0) → ((w : Want) (left : List Lexed) → P w left → Q w left) → IfStuck r P → IfStuck r Q
stuck_same (Ok a) P Q f h = tt
stuck_same (Err e) P Q f h = stuck_map e P Q f h
