-- What trees are made of, and trees, are equal in one way at most.
use Rattle.std.specs.Prelude.{◌≡◌, ℕ, List, Option}
use Rattle.std.proofs.Props.{props}
use Rattle.std.proofs.Math.Bool.{Bool-set}
use Rattle.std.proofs.Math.IntN.{ℤ_set}
use Rattle.std.proofs.Math.Nat.{ℕ_set}
use Rattle.upon_types.specs.Expression.{Expression, Expression-set}
use Rattle.upon_types.specs.Path.{Ident, Access, Access-set, Member, LoopVars, LoopVars-set}
use Rattle.upon_types.specs.BlockKinds.{Opening, Opening-set}
use Rattle.upon_types.specs.Tree.{Statements, Statements-set}
use Rattle.upon_types.specs.Val.{Val, Val-set}
use Rattle.upon_types.specs.declared.types.Span.{Span}
use Rattle.upon_types.specs.declared.types.ast.path.AccessOp.{AccessOp}

pub Span-set : (a b : Span) (p q : a ≡ b) → p ≡ q
Span-set = hlevel props

pub bytes_set : (a b : List ℕ) (p q : a ≡ b) → p ≡ q
bytes_set = hlevel (props, ℕ_set)

pub Val-one_path : (a b : Val) (p q : a ≡ b) → p ≡ q
Val-one_path = Val-set Bool-set ℤ_set bytes_set

-- each is equal in one way at most
pub Ident-set : (a b : Ident) (p q : a ≡ b) → p ≡ q
Ident-set = hlevel (props, bytes_set, Span-set)

pub AccessOp-set : (a b : AccessOp) (p q : a ≡ b) → p ≡ q
AccessOp-set = hlevel props

pub Access-one_path : (a b : Access) (p q : a ≡ b) → p ≡ q
Access-one_path = Access-set ℕ_set Span-set Ident-set

pub Member-set : (a b : Member) (p q : a ≡ b) → p ≡ q
Member-set = hlevel (props, AccessOp-set, Access-one_path, Span-set)

pub Members-set : (a b : List Member) (p q : a ≡ b) → p ≡ q
Members-set = hlevel (props, Member-set)

pub LoopVars-one_path : (a b : LoopVars) (p q : a ≡ b) → p ≡ q
LoopVars-one_path = LoopVars-set Ident-set Span-set

-- expressions are equal in one way at most
pub Expression-one_path : (a b : Expression) (p q : a ≡ b) → p ≡ q
Expression-one_path = Expression-set Ident-set Span-set Member-set Members-set Val-one_path

Opening-one_path : (a b : Opening) (p q : a ≡ b) → p ≡ q
Opening-one_path = Opening-set Bool-set LoopVars-one_path Ident-set

-- trees are equal in one way at most
Maybe-set : (a b : Option Expression) (p q : a ≡ b) → p ≡ q
Maybe-set = hlevel (props, Expression-one_path)

pub Statements-one_path : (a b : Statements) (p q : a ≡ b) → p ≡ q
Statements-one_path = Statements-set Span-set Expression-one_path Ident-set Maybe-set Opening-one_path
