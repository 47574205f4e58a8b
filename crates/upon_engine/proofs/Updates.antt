-- What an engine holds after a change of one of its maps, and what a new one holds.
use Rattle.std.proofs.Common.{◌≡◌, ℕ, List, Option, String, BTreeMap, Bool, option_map, string_bytes, string_cmp, nat_cmp, cond, true, false, Some, None, Result, Ok, Err, IsErrAnd, refl, ap, subst, ◌∙◌}
use mathlib.Core.Path.{fun_ext}
use Rattle.std.specs.Cmp.Lexicographic.{slice_cmp}
use Rattle.std.specs.Map.{lookup, update}
use Rattle.std.specs.Str.{bytes_eq}
use Rattle.std.specs.BTreeMap.{get_by_text, is_at, IsEmpty, IsUnchanged, UpdatesBy}
use Rattle.std.specs.declared.alloc.Global.{Global}
use Rattle.std.specs.declared.dyn_box.DynBox.{DynBox}
use Rattle.std.proofs.lemmas.Map.Text.{btree_map_updates_text}
use Rattle.upon_types.specs.Answers.{Formatter, Function}
use Rattle.upon_language_spec.specs.DefaultDelimiters.{default_delimiters}
use Rattle.upon_language_spec.specs.Search.{DelimiterText}
use Rattle.upon_delimiters.specs.Searcher.{searcher_delimiters}
use Rattle.upon_engine.specs.Callables.{callable_of}
use Rattle.upon_engine.specs.Changes.{empty_engine, unless_refused, with_syntax}
use Rattle.upon_engine.specs.Texts.{Stored, Texts, stored_template, texts_of}
use Rattle.upon_engine.specs.declared.engine.Callable.{Callable as Boxes}
use Rattle.upon_engine.specs.declared.engine.Engine.{Engine as Held}
use Rattle.upon_engine.specs.declared.template.Template.{Template as HeldTemplate}

-- what is shown of one of two
shown_of : {X Z : Type 0} (shows : X → Z) (here : Bool) (w o : Option X) → option_map shows (cond here w o) ≡ cond here (option_map shows w) (option_map shows o)
shown_of shows true w o = refl
shown_of shows false w o = refl

-- a write at the key bs, which is name, is an update of what the names show
pub shown : {X Y Z : Type 0} (shows : X → Z) (bs name : List ℕ) (m n : BTreeMap (String Y) X) (w : Option X)
    → bs ≡ name → UpdatesBy string_cmp (λ k. slice_cmp nat_cmp bs (string_bytes k)) m n w
    → (λ k. option_map shows (get_by_text n k)) ≡ update bytes_eq (λ k. option_map shows (get_by_text m k)) name (option_map shows w)
shown shows bs name m n w same updates =
    fun_ext (λ k. ap (option_map shows) (btree_map_updates_text bs m n w updates k) ∙ shown_of shows (bytes_eq bs k) w (get_by_text m k))
    ∙ ap (λ b. update bytes_eq (λ k. option_map shows (get_by_text m k)) b (option_map shows w)) same

-- and is there under the name
pub written : {X Y Z : Type 0} (shows : X → Z) (bs name : List ℕ) (m n : BTreeMap (String Y) X) (w : Option X)
    → bs ≡ name → UpdatesBy string_cmp (λ k. slice_cmp nat_cmp bs (string_bytes k)) m n w → option_map shows (get_by_text n name) ≡ option_map shows w
written shows bs name m n w same updates = ap (option_map shows) (subst (λ x. get_by_text n x ≡ w) same updates.1)

-- what the names show goes by the entries alone
abbrev pub shows_entries : {X Y Z : Type 0} (shows : X → Z) → List (String Y × X) → List ℕ → Option Z
shows_entries shows es name = option_map shows (lookup (is_at (λ k. slice_cmp nat_cmp name (string_bytes k))) es)

-- what a key showed, in two steps
pub in_two : {X A B : Type 0} (f : A → B) (g : X → A) (o : Option X) → option_map (λ x. f (g x)) o ≡ option_map f (option_map g o)
in_two f g None = refl
in_two f g (Some x) = refl

-- what was there at the key bs, which is name
pub shown_before : {X Y A B : Type 0} (f : A → B) (g : X → A) (bs name : List ℕ) (m : BTreeMap (String Y) X) (old : Option X)
    → bs ≡ name → old ≡ get_by_text m bs → option_map (λ x. f (g x)) old ≡ option_map f (option_map g (get_by_text m name))
shown_before f g bs name m old same is = in_two f g old ∙ ap (λ o. option_map f (option_map g o)) (is ∙ ap (get_by_text m) same)

-- a call that was refused leaves what was there
pub refused_stays : {A E : Type 0} (Q : E → Type 0) (r : Result A E) (change : Texts → Texts) (e : Texts) → IsErrAnd r Q → e ≡ unless_refused r change e
refused_stays Q (Ok answer) change e is = absurd is
refused_stays Q (Err error) change e is = refl

module _ {X Y : Type 0} {P : X → Type 0} {Q : Y → Type 0} (formats : DynBox X Global P → Formatter) (answers : DynBox Y Global Q → Function) (e : Held X Y P Q) where
  -- a new engine
  pub holds_nothing : IsEmpty e.templates → IsEmpty e.callables → e.default_formatter ≡ None → e.depth ≡ 64 → searcher_delimiters e.searcher ≡ default_delimiters
      → texts_of formats answers e ≡ empty_engine
  holds_nothing templates callables formatter depth syntax = λ i. record {
    texts = shows_entries stored_template (templates i);
    callables = shows_entries (callable_of formats answers) (callables i);
    default_formatter = option_map formats (formatter i);
    depth = depth i;
    syntax = syntax i;
  }

  -- after a write to the templates, and after one that was refused
  pub templates_after : (m : BTreeMap (String Global) HeldTemplate) (bs name : List ℕ) (w : Option HeldTemplate) (s : Option Stored)
      → bs ≡ name → UpdatesBy string_cmp (λ k. slice_cmp nat_cmp bs (string_bytes k)) e.templates m w → option_map stored_template w ≡ s
      → texts_of formats answers (record e { templates = m }) ≡ record (texts_of formats answers e) { texts = update bytes_eq (texts_of formats answers e).texts name s }
  templates_after m bs name w s same updates is =
      ap (λ texts. record (texts_of formats answers e) { texts = texts })
      (shown stored_template bs name e.templates m w same updates ∙ ap (update bytes_eq (texts_of formats answers e).texts name) is)

  pub templates_kept : (m : BTreeMap (String Global) HeldTemplate) → IsUnchanged e.templates m → texts_of formats answers (record e { templates = m }) ≡ texts_of formats answers e
  templates_kept m same = ap (λ entries. record (texts_of formats answers e) { texts = shows_entries stored_template entries }) same

  -- after a write to the callables, and after one that was refused
  pub callables_after : (m : BTreeMap (String Global) (Boxes X Y P Q)) (bs name : List ℕ) (w : Option (Boxes X Y P Q))
      → bs ≡ name → UpdatesBy string_cmp (λ k. slice_cmp nat_cmp bs (string_bytes k)) e.callables m w
      → texts_of formats answers (record e { callables = m }) ≡ record (texts_of formats answers e) { callables = update bytes_eq (texts_of formats answers e).callables name (option_map (callable_of formats answers) w) }
  callables_after m bs name w same updates =
      ap (λ callables. record (texts_of formats answers e) { callables = callables }) (shown (callable_of formats answers) bs name e.callables m w same updates)

  pub callables_kept : (m : BTreeMap (String Global) (Boxes X Y P Q)) → IsUnchanged e.callables m → texts_of formats answers (record e { callables = m }) ≡ texts_of formats answers e
  callables_kept m same = ap (λ entries. record (texts_of formats answers e) { callables = shows_entries (callable_of formats answers) entries }) same

  -- with other delimiters
  pub syntax_set : (d : List DelimiterText) → searcher_delimiters e.searcher ≡ d → texts_of formats answers e ≡ with_syntax d (texts_of formats answers e)
  syntax_set d is = ap (λ d. with_syntax d (texts_of formats answers e)) is
