-- An expression that has a shape comes to a value of it.
use Rattle.std.proofs.Common.{◌≡◌, ℕ, List, [], ◌∷◌, Bool, true, false, Option, Some, None, option_map, option_and_then, refl, sym, subst, bytes_eq, if◌then◌else◌}
use Rattle.upon_types.specs.Answers.{Answer, gives, wrong_number, wrong_argument, declines, Callable, formatter, function, Function}
use Rattle.upon_types.specs.declared.types.Span.{Span}
use Rattle.upon_types.specs.Expression.{Expression, base, filtered, Base, var, literal, list, mapping, paren, call, Bases, no_bases, base_then, Items, no_items, item_then, Arguments, no_arguments, arguments}
use Rattle.upon_types.specs.Path.{Ident, path_span}
use Rattle.upon_types.specs.Val.{Val, none_val, bool_val, int_val, text_val, list_val, map_val, Entries, no_entries, entry_at, rises}
use Rattle.upon_types.specs.View.{vals_of}
use Rattle.upon_lookup.specs.Environment.{Environment}
use Rattle.upon_lookup.specs.Finding.{Finding, found, at_fault, Reply, reply, on_found}
use Rattle.upon_lookup.specs.Lookup.{lookup}
use Rattle.upon_meaning_spec.specs.Engine.{Calls}
use Rattle.upon_meaning_spec.specs.Entries.{with_entry}
use Rattle.upon_meaning_spec.specs.Evaluation.{Operand, values_of, answer_value, call_value, with_span, append_operand, as_list, as_map, application, evaluate, evaluate_base, evaluate_bases, evaluate_items, evaluate_arguments}
use Rattle.upon_meaning_spec.proofs.RisingEntries.{rises_more, entry_more}
use Rattle.upon_shape_spec.specs.Declared.{DeclaredCallable, gives_by, formats, Declared, GivesOf, KeepsGiving, CallableKeeps, KeepsDeclared, Signature, KeepsSignatures, given_by}
use Rattle.upon_shape_spec.specs.ExpressionShapes.{literal_shape, join_onto, join_all, shape_then, value_given, call_shape, expression_shape, base_shape, bases_shapes, items_keys, arguments_shapes}
use Rattle.upon_shape_spec.specs.Fits.{EachValue, Fits, KeyFits, AllFit}
use Rattle.upon_shape_spec.specs.Found.{Finds, FindsShape, ComesTo}
use Rattle.upon_shape_spec.specs.Join.{join_shapes}
use Rattle.upon_shape_spec.specs.Scope.{Scope, ScopeFits, path_shape}
use Rattle.upon_shape_spec.specs.Shape.{Shape, never, Keys, key_then, list_of, map_of, no_others, keys_without}
use Rattle.upon_shape_spec.specs.Wider.{all_wider}
use Rattle.upon_shape_spec.proofs.Joins.{first_fits, second_fits, entry_here}
use Rattle.upon_shape_spec.proofs.PathsFit.{path_finds}
use Rattle.upon_shape_spec.proofs.Tests.{beside}
use Rattle.upon_shape_spec.proofs.Widths.{all_wider_fit}

-- if there are shapes, each comes to a value of its own
abbrev pub AllCome : Option (List Shape) → Finding (List Operand) → Type 0
AllCome None x = Unit {0}
AllCome (Some shapes) x = Finds (λ os. AllFit shapes (values_of os)) x

-- entries that rise, and fit keys
abbrev EntriesFit : Keys → Entries → Type 0
EntriesFit ks es = (rises es ≡ true) × ((key : List ℕ) → KeyFits key ks (entry_at key es))

abbrev ItemsCome : Option Keys → Finding Entries → Type 0
ItemsCome None x = Unit {0}
ItemsCome (Some ks) x = Finds (EntriesFit ks) x

-- ---- literals
literal_fits : (v : Val) → Fits (literal_shape v) v
literal_fits none_val = refl
literal_fits (bool_val b) = refl
literal_fits (int_val n) = refl
literal_fits (text_val bytes) = refl
literal_fits (list_val vs) = tt
literal_fits (map_val es) = tt

-- what fits a shape fits it with others joined to it, and so does what fits one of those
onto_fits : (joined : Shape) (shapes : List Shape) (v : Val) → Fits joined v → Fits (join_onto joined shapes) v
onto_fits joined [] v h = h
onto_fits joined (s ∷ ss) v h = onto_fits (join_shapes joined s) ss v (first_fits joined s v h)

items_joined : (joined : Shape) (shapes : List Shape) (os : List Operand) → AllFit shapes (values_of os) → EachValue (Fits (join_onto joined shapes)) (vals_of (values_of os))
items_joined joined [] [] h = tt
items_joined joined [] (o ∷ os) h = absurd h
items_joined joined (s ∷ ss) [] h = absurd h
items_joined joined (s ∷ ss) (o ∷ os) h = (onto_fits (join_shapes joined s) ss o.value (second_fits joined s o.value h.0), items_joined (join_shapes joined s) ss os h.1)

more_entries : (ks : Keys) (es : Entries) (key : List ℕ) (s : Shape) (v : Val) → EntriesFit ks es → Fits s v → EntriesFit (key_then key true s (keys_without key ks)) (with_entry key v es)
more_entries ks es key s v h k =
    let left = keys_without key ks in (
      rises_more key v es h.0,
      λ other. subst (λ (o : Option Val). KeyFits other (key_then key true s left) o) (sym (entry_more key other v es)) (entry_here (bytes_eq other key) s v (entry_at other es) (KeyFits other left) k (λ no. beside other key ks (entry_at other es) no (h.1 other))),
    )

-- ---- what functions give
pub answer_finds : (name : Ident) (whole : Span) (os : List Operand) (s : Option Shape) (a : Answer) → GivesOf s a → FindsShape s (answer_value name whole os a)
answer_finds name whole os None a h = tt
answer_finds name whole os (Some s) (gives v) h = h
answer_finds name whole os (Some s) (wrong_number n) h = absurd h
answer_finds name whole os (Some s) (wrong_argument i misfit) h = absurd h
answer_finds name whole os (Some s) (declines text) h = absurd h

if_given : (b : Bool) (s : Shape) (o : Option Shape) (a : Answer) → (b ≡ true → GivesOf (Some s) a) → GivesOf o a → GivesOf (if b then Some s else o) a
if_given true s o a h k = h refl
if_given false s o a h k = k

-- signatures that are kept
pub signatures_kept : (f : Function) (signatures : List Signature) → KeepsSignatures f signatures → KeepsGiving f (given_by signatures)
signatures_kept f [] keeps shapes values h = tt
signatures_kept f (signature ∷ signatures) keeps shapes values h =
    if_given (all_wider signature.takes shapes) signature.gives (given_by signatures shapes) (f values) (λ takes. keeps.0 values (all_wider_fit signature.takes shapes values takes h)) (signatures_kept f signatures keeps.1 shapes values h)

called_finds : (name : Ident) (whole : Span) (os : List Operand) (shapes : List Shape) (d : Option DeclaredCallable) (c : Option Callable) → CallableKeeps d c → AllFit shapes (values_of os) → FindsShape (value_given d shapes) (call_value name whole os c)
called_finds name whole os shapes None c keeps h = tt
called_finds name whole os shapes (Some d) None keeps h = absurd keeps
called_finds name whole os shapes (Some (gives_by given)) (Some (function f)) keeps h = answer_finds name whole os (given shapes) (f (values_of os)) (keeps shapes (values_of os) h)
called_finds name whole os shapes (Some (gives_by given)) (Some (formatter f)) keeps h = absurd keeps
called_finds name whole os shapes (Some (formats s)) (Some (function f)) keeps h = absurd keeps
called_finds name whole os shapes (Some (formats s)) (Some (formatter f)) keeps h = tt

-- ---- one and then another
found_then : {A B V : Type 0} (P : A → Type 0) (Q : B → Type 0) (x : Finding A) (q : V) (go : A → V → Reply V (Finding B)) → Finds P x → ((a : A) → P a → Finds Q (go a q).answer) → Finds Q (on_found x q go).answer
found_then P Q (found a) q go h k = k a h
found_then P Q (at_fault f) q go h k = absurd h

module _ {V : Type 0} where
  placed_finds : (o : Option Shape) (r : Reply V (Finding Val)) (at : Span) → FindsShape o r.answer → ComesTo o (with_span r at).answer
  placed_finds None r at h = tt
  placed_finds (Some s) r at h = found_then (Fits s) (λ (o : Operand). Fits s o.value) r.answer r.next _ h (λ v x. x)

  pub then_come : (s : Option Shape) (ss : Option (List Shape)) (r : Reply V (Finding Operand)) (others : V → Reply V (Finding (List Operand))) → ComesTo s r.answer → ((q : V) → AllCome ss (others q).answer) → AllCome (shape_then s ss) (append_operand r others).answer
  then_come None ss r others h k = tt
  then_come (Some s) None r others h k = tt
  then_come (Some s) (Some ss) r others h k =
      found_then (λ (o : Operand). Fits s o.value) (λ (os : List Operand). AllFit (s ∷ ss) (values_of os)) r.answer r.next _ h
      (λ o x. let y = others r.next in found_then (λ (os : List Operand). AllFit ss (values_of os)) (λ (os : List Operand). AllFit (s ∷ ss) (values_of os)) y.answer y.next _ (k r.next) (λ os z. (x, z)))

  list_comes : (ss : Option (List Shape)) (r : Reply V (Finding (List Operand))) (at : Span) → AllCome ss r.answer → ComesTo (option_map (λ shapes. list_of (join_all shapes)) ss) (as_list r at).answer
  list_comes None r at h = tt
  list_comes (Some ss) r at h = found_then (λ (os : List Operand). AllFit ss (values_of os)) (λ (o : Operand). Fits (list_of (join_all ss)) o.value) r.answer r.next _ h (λ os x. items_joined never ss os x)

  map_comes : (ks : Option Keys) (r : Reply V (Finding Entries)) (at : Span) → ItemsCome ks r.answer → ComesTo (option_map map_of ks) (as_map r at).answer
  map_comes None r at h = tt
  map_comes (Some ks) r at h = found_then (EntriesFit ks) (λ (o : Operand). Fits (map_of ks) o.value) r.answer r.next _ h (λ es x. x)

  item_comes : (s : Option Shape) (r : Reply V (Finding Operand)) (keys : Shape → Option Keys) (go : Operand → V → Reply V (Finding Entries)) → ComesTo s r.answer → ((s : Shape) (o : Operand) (q : V) → Fits s o.value → ItemsCome (keys s) (go o q).answer) → ItemsCome (option_and_then keys s) (on_found r.answer r.next go).answer
  item_comes None r keys go h k = tt
  item_comes (Some s) r keys go h k = item_found (keys s) r.answer h (k s)
    where
      item_found : (ks : Option Keys) (x : Finding Operand) → Finds (λ (o : Operand). Fits s o.value) x → ((o : Operand) (q : V) → Fits s o.value → ItemsCome ks (go o q).answer) → ItemsCome ks (on_found x r.next go).answer
      item_found None x h k = tt
      item_found (Some ks) (found o) h k = k o r.next h
      item_found (Some ks) (at_fault f) h k = absurd h

module _ {V : Type 0} (calls : Calls V) (declared : Declared) (keeps : KeepsDeclared declared calls.callables calls.default_formatter) where
  applied_comes : (name : Ident) (whole : Span) (ss : Option (List Shape)) (r : Reply V (Finding (List Operand))) → AllCome ss r.answer → ComesTo (call_shape (declared.callables name.text) ss) (application calls name whole r).answer
  applied_comes name whole None r h = tt
  applied_comes name whole (Some ss) r h = given_comes (value_given (declared.callables name.text) ss) r.answer h (λ os x. called_finds name whole os ss (declared.callables name.text) (calls.callables name.text) (keeps.each name.text) x)
    where
      given_comes : (o : Option Shape) (x : Finding (List Operand)) → Finds (λ (os : List Operand). AllFit ss (values_of os)) x → ((os : List Operand) → AllFit ss (values_of os) → FindsShape o (call_value name whole os (calls.callables name.text))) → ComesTo o (on_found x r.next (λ os q. with_span (reply (call_value name whole os (calls.callables name.text)) q) whole)).answer
      given_comes None x h k = tt
      given_comes (Some s) (found os) h k = placed_finds (Some s) (reply (call_value name whole os (calls.callables name.text)) r.next) whole (k os h)
      given_comes (Some s) (at_fault f) h k = absurd h

  module _ (scope : Scope) (env : Environment) (fits : ScopeFits scope env) where
    mutual
      pub expression_comes : (e : Expression) (q : V) → ComesTo (expression_shape declared scope e) (evaluate calls e env q).answer
      expression_comes (base b) q = base_comes b q
      expression_comes (filtered receiver name args span) q =
          applied_comes name span (shape_then (expression_shape declared scope receiver) (arguments_shapes declared scope args)) (append_operand (evaluate calls receiver env q) (evaluate_arguments calls args env))
          (then_come (expression_shape declared scope receiver) (arguments_shapes declared scope args) (evaluate calls receiver env q) (evaluate_arguments calls args env) (expression_comes receiver q) (λ q'. arguments_come args q'))

      pub base_comes : (b : Base) (q : V) → ComesTo (base_shape declared scope b) (evaluate_base calls b env q).answer
      base_comes (var first rest) q = placed_finds (path_shape scope first rest) (lookup calls.ask env first rest q) (path_span first rest) (path_finds calls.ask scope env first rest q fits)
      base_comes (literal v span) q = literal_fits v
      base_comes (list bases span) q = list_comes (bases_shapes declared scope bases) (evaluate_bases calls bases env q) span (bases_come bases q)
      base_comes (mapping items span) q = map_comes (items_keys declared scope items no_others) (evaluate_items calls items no_entries env q) span (items_come items no_others no_entries q (refl, λ key. tt))
      base_comes (paren e span) q = expression_comes e q
      base_comes (call name args span) q = applied_comes name span (arguments_shapes declared scope args) (evaluate_arguments calls args env q) (arguments_come args q)

      bases_come : (bs : Bases) (q : V) → AllCome (bases_shapes declared scope bs) (evaluate_bases calls bs env q).answer
      bases_come no_bases q = tt
      bases_come (base_then b bs) q = then_come (base_shape declared scope b) (bases_shapes declared scope bs) (evaluate_base calls b env q) (evaluate_bases calls bs env) (base_comes b q) (λ q'. bases_come bs q')

      items_come : (items : Items) (ks : Keys) (es : Entries) (q : V) → EntriesFit ks es → ItemsCome (items_keys declared scope items ks) (evaluate_items calls items es env q).answer
      items_come no_items ks es q h = h
      items_come (item_then key b items) ks es q h =
          item_comes (base_shape declared scope b) (evaluate_base calls b env q) (λ s. items_keys declared scope items (key_then key.text true s (keys_without key.text ks))) (λ o q'. evaluate_items calls items (with_entry key.text o.value es) env q') (base_comes b q)
          (λ s o q' x. items_come items (key_then key.text true s (keys_without key.text ks)) (with_entry key.text o.value es) q' (more_entries ks es key.text s o.value h x))

      pub arguments_come : (args : Arguments) (q : V) → AllCome (arguments_shapes declared scope args) (evaluate_arguments calls args env q).answer
      arguments_come no_arguments q = tt
      arguments_come (arguments bases span) q = bases_come bases q
