-- What an expression comes to stays the same where the paths in it are found alike.
use Rattle.std.proofs.Common.{◌≡◌, inl, inr, refl}
use Rattle.upon_types.specs.Expression.{Expression, base, filtered, Base, var, literal, list, mapping, paren, call, Bases, no_bases, base_then, Items, no_items, item_then, Arguments, no_arguments, arguments}
use Rattle.upon_types.specs.Path.{path_span}
use Rattle.upon_types.specs.Val.{Entries, no_entries}
use Rattle.upon_lookup.specs.Environment.{Environment}
use Rattle.upon_lookup.specs.Finding.{with_found}
use Rattle.upon_meaning_spec.specs.Emission.{emit, emit_base, emit_call, emit_value}
use Rattle.upon_lookup.specs.Source.{Source}
use Rattle.upon_meaning_spec.specs.ValueSource.{with_source}
use Rattle.upon_meaning_spec.specs.Engine.{Calls}
use Rattle.upon_meaning_spec.specs.Entries.{with_entry}
use Rattle.upon_meaning_spec.specs.Evaluation.{append_operand, with_span, as_list, as_map, application, evaluate, evaluate_base, evaluate_bases, evaluate_items, evaluate_arguments}
use Rattle.upon_meaning_spec.specs.Needs.{Start, ExpressionBegins, BaseBegins, BasesBegin, ItemsBegin, ArgumentsBegin}
use Rattle.upon_meaning_spec.proofs.WhatIsNeeded.FoundAlike.{FoundAlike, Within, begun}

module _ {V : Type 0} (calls : Calls V) (ask' : Source V) (starts : Start → Type 0) (env env' : Environment) (alike : FoundAlike calls.ask ask' starts env env') where
  mutual
    pub same_value : (e : Expression) → Within (λ start. ExpressionBegins start e) starts → (q : V) → evaluate calls e env q ≡ evaluate (with_source ask' calls) e env' q
    same_value (base b) h q = same_base b h q
    same_value (filtered receiver name args span) h q =
        λ i. application calls name span (append_operand (same_value receiver (λ n r. h n (inl r)) q i) (λ q'. same_arguments args (λ n r. h n (inr r)) q' i))

    same_base : (b : Base) → Within (λ start. BaseBegins start b) starts → (q : V) → evaluate_base calls b env q ≡ evaluate_base (with_source ask' calls) b env' q
    same_base (var first rest) h q = λ i. with_span (alike first rest q (begun starts first.access h) i) (path_span first rest)
    same_base (literal v span) h q = refl
    same_base (list bases span) h q = λ i. as_list (same_bases bases h q i) span
    same_base (mapping items span) h q = λ i. as_map (same_items items no_entries h q i) span
    same_base (paren e span) h q = same_value e h q
    same_base (call name args span) h q = λ i. application calls name span (same_arguments args h q i)

    same_bases : (bs : Bases) → Within (λ start. BasesBegin start bs) starts → (q : V) → evaluate_bases calls bs env q ≡ evaluate_bases (with_source ask' calls) bs env' q
    same_bases no_bases h q = refl
    same_bases (base_then b bs) h q = λ i. append_operand (same_base b (λ n r. h n (inl r)) q i) (λ q'. same_bases bs (λ n r. h n (inr r)) q' i)

    same_items : (items : Items) (es : Entries) → Within (λ start. ItemsBegin start items) starts → (q : V) → evaluate_items calls items es env q ≡ evaluate_items (with_source ask' calls) items es env' q
    same_items no_items es h q = refl
    same_items (item_then key b items) es h q =
        λ i. with_found (same_base b (λ n r. h n (inl r)) q i) (λ o q'. same_items items (with_entry key.text o.value es) (λ n r. h n (inr r)) q' i)

    same_arguments : (args : Arguments) → Within (λ start. ArgumentsBegin start args) starts → (q : V) → evaluate_arguments calls args env q ≡ evaluate_arguments (with_source ask' calls) args env' q
    same_arguments no_arguments h q = refl
    same_arguments (arguments bases span) h q = same_bases bases h q

  mutual
    pub same_text : (e : Expression) → Within (λ start. ExpressionBegins start e) starts → (q : V) → emit calls e env q ≡ emit (with_source ask' calls) e env' q
    same_text (base b) h q = same_base_text b h q
    same_text (filtered receiver name args span) h q =
        λ i. emit_call calls name span (append_operand (same_value receiver (λ n r. h n (inl r)) q i) (λ q'. same_arguments args (λ n r. h n (inr r)) q' i))

    same_base_text : (b : Base) → Within (λ start. BaseBegins start b) starts → (q : V) → emit_base calls b env q ≡ emit_base (with_source ask' calls) b env' q
    same_base_text (paren e span) h q = same_text e h q
    same_base_text (call name args span) h q = λ i. emit_call calls name span (same_arguments args h q i)
    same_base_text (var first rest) h q = λ i. emit_value calls (same_base (var first rest) h q i)
    same_base_text (literal v span) h q = λ i. emit_value calls (same_base (literal v span) h q i)
    same_base_text (list bases span) h q = λ i. emit_value calls (same_base (list bases span) h q i)
    same_base_text (mapping items span) h q = λ i. emit_value calls (same_base (mapping items span) h q i)
