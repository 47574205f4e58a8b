-- Tokens that nothing goes on with after them are one expression at most.
use Rattle.std.proofs.Common.{◌≡◌, ℕ, List}
use Rattle.upon_types.specs.Expression.{Expression, base, filtered, Base, var, literal, list, mapping, paren, call, Bases, no_bases, base_then, Items, no_items, item_then, Arguments, no_arguments, arguments}
use Rattle.upon_language_spec.specs.Cut.{Lexeme}
use Rattle.upon_language_spec.specs.Expressions.{IsExpression}
use Rattle.upon_language_spec.proofs.OneTree.Claims.{BehindExpression, OneBase, OneListBody, OneListTail, OneMapBody, OneMapTail, OneArgs, OneMoreArgs, OneCallBody, OneFilterArgs, OneExpression}
use Rattle.upon_language_spec.proofs.OneTree.List.{one_list, one_list_end, one_list_body, one_list_tail_end, one_list_tail}
use Rattle.upon_language_spec.proofs.OneTree.Mapping.{one_mapping, one_map_end, one_map_body, one_map_tail_end, one_map_tail}
use Rattle.upon_language_spec.proofs.OneTree.Arguments.{no_args, one_args, one_args_end, one_more_args, one_call_end, one_call_body, one_filter_end, one_filter_args}
use Rattle.upon_language_spec.proofs.OneTree.Filter.{one_base_alone, one_filtered, one_whole}
use Rattle.upon_language_spec.proofs.OneTree.Base.{one_var, one_constant, one_paren, one_call}

module _ (s : List ℕ) where
  mutual
    pub one_base : (b : Base) → OneBase s b
    one_base (var first steps) = one_var s first steps
    one_base (literal v span) = one_constant s v span
    one_base (list bases span) = one_list s bases span (list_body bases)
    one_base (mapping items span) = one_mapping s items span (map_body items)
    one_base (paren e span) = one_paren s e span (prefix e)
    one_base (call name args span) = one_call s name args span (call_body args)

    list_body : (bs : Bases) → OneListBody s bs
    list_body no_bases = one_list_end s
    list_body (base_then b bs) = one_list_body s b bs (one_base b) (list_tail bs)

    list_tail : (bs : Bases) → OneListTail s bs
    list_tail no_bases = one_list_tail_end s
    list_tail (base_then b bs) = one_list_tail s b bs (one_base b) (list_tail bs)

    map_body : (items : Items) → OneMapBody s items
    map_body no_items = one_map_end s
    map_body (item_then key b items) = one_map_body s key b items (one_base b) (map_tail items)

    map_tail : (items : Items) → OneMapTail s items
    map_tail no_items = one_map_tail_end s
    map_tail (item_then key b items) = one_map_tail s key b items (one_base b) (map_tail items)

    args_list : (bs : Bases) → OneArgs s bs
    args_list no_bases = no_args s
    args_list (base_then b bs) = one_args s b bs (one_base b) (more_args bs)

    more_args : (bs : Bases) → OneMoreArgs s bs
    more_args no_bases = one_args_end s
    more_args (base_then b bs) = one_more_args s b bs (one_base b) (more_args bs)

    call_body : (args : Arguments) → OneCallBody s args
    call_body no_arguments = one_call_end s
    call_body (arguments bases span) = one_call_body s bases span (args_list bases)

    filter_args : (args : Arguments) → OneFilterArgs s args
    filter_args no_arguments = one_filter_end s
    filter_args (arguments bases span) = one_filter_args s bases span (args_list bases)

    prefix : (e : Expression) → OneExpression s e
    prefix (base b) = one_base_alone s b (one_base b)
    prefix (filtered e name args span) = one_filtered s e name args span (prefix e) (filter_args args)

  pub one_expression : (e f : Expression) (ts us r x : List Lexeme) → ts ≡ us → IsExpression s e ts r → BehindExpression r → IsExpression s f us x → BehindExpression x → (e ≡ f) × (r ≡ x)
  one_expression e f ts us r x = one_whole s e f ts us r x (prefix e)
