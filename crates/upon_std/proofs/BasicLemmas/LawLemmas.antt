-- Laws of orders, of truth values and of decimals without places.
use Rattle.std.proofs.Common.{◌≡◌, ℕ, ℤ, pos, negsuc, suc, ◌/◌, ◌^◌, List, [], ◌∷◌, ◌++◌, Bool, true, false, Some, option_map, Ordering, Less, Equal, Greater, refl, ap, ◌∙◌, arith}
use Rattle.std.specs.Prelude.{not}
use Rattle.std.proofs.lemmas.Cmp.{int_cmp_total, nat_list_cmp_total}
use Rattle.std.proofs.lemmas.Int.{ints}
use Rattle.std.proofs.lemmas.List.{append-nil}
use Rattle.std.specs.Fmt.{decimal, sign_text, signed_decimal}
use Rattle.std.specs.Int.{is_negative}
use Rattle.std.specs.Ordering.{ordering_reverse}
use Rattle.upon_types.specs.Val.{int_val, text_val}
use Rattle.upon_std.specs.Basic.Decimal.{decimal_text}
use Rattle.upon_std.specs.Basic.Order.{order_of, relation_holds}
use Rattle.upon_std.specs.declared.basic.order.Relation.TheVariants as relation

pub integers_turned : (y z : ℤ) → order_of (int_val z) (int_val y) ≡ option_map ordering_reverse (order_of (int_val y) (int_val z))
integers_turned y z = ap Some (int_cmp_total.antisymm z y)

pub texts_turned : (s t : List ℕ) → order_of (text_val t) (text_val s) ≡ option_map ordering_reverse (order_of (text_val s) (text_val t))
texts_turned s t = ap Some (nat_list_cmp_total.antisymm t s)

pub less_turned : (o : Ordering) → relation_holds relation.Less (ordering_reverse o) ≡ relation_holds relation.Greater o
less_turned Less = refl
less_turned Equal = refl
less_turned Greater = refl

pub at_most_turned : (o : Ordering) → relation_holds relation.LessOrEqual (ordering_reverse o) ≡ relation_holds relation.GreaterOrEqual o
at_most_turned Less = refl
at_most_turned Equal = refl
at_most_turned Greater = refl

pub not-not : (b : Bool) → not (not b) ≡ b
not-not true = refl
not-not false = refl

whole_alone : (n : ℕ) → decimal (n / 10 ^ 0) ++ [] ≡ decimal n
whole_alone n = append-nil _ ∙ ap decimal (omega arith)

not_negative : (n : ℕ) → is_negative (pos n) ≡ false
not_negative n = grind (arith, ints)

pub decimal_text-zero : (z : ℤ) → decimal_text z 0 ≡ signed_decimal z
decimal_text-zero (pos n) = ap (λ b. (sign_text b ++ decimal (n / 10 ^ 0)) ++ []) (not_negative n) ∙ whole_alone n
decimal_text-zero (negsuc n) = ap (λ x. 45 ∷ x) (whole_alone (suc n))
