-- Cited by public clauses: whether two terms, or two pieces of code, are the same.
use Rattle.std.specs.Prelude.{◌==◌, Bool, true, false, ◌&&◌}
use Rattle.std.specs.Ordering.{int_eq}
use Rattle.sm_syntax.specs.declared.tree.Cmp.TheVariants as cmp
use Rattle.sm_syntax.specs.declared.tree.Sort.{Sort}
use Rattle.sm_syntax.specs.declared.tree.Sort.TheVariants.{Num, Arr}
use Rattle.sm_syntax.specs.claim.Syntax as syntax
use Rattle.sm_syntax.specs.claim.Syntax.{Expression, Condition, Code}
use Rattle.sm_syntax.specs.declared.tree.Cmp.{Cmp}
use Rattle.sm_syntax.specs.claim.ConflictFree.{Copy, O, A, B, M}
use Rattle.sm_syntax.specs.text.Parts.{by_copy}
use Rattle.sm_term.specs.Terms.{Tree, Lit, Start, Havoc, Slot, Cell, Read, Write, Neg, Add, Sub, Mul, Fun, Arguments, Over, Given}

-- whether two copies are the same
abbrev pub is_copy : Copy → Copy → Bool
is_copy O d = by_copy true false false false d
is_copy A d = by_copy false true false false d
is_copy B d = by_copy false false true false d
is_copy M d = by_copy false false false true d

-- whether two sorts are the same
abbrev pub same_sort : Sort → Sort → Bool
same_sort Num Num = true
same_sort Num Arr = false
same_sort Arr Num = false
same_sort Arr Arr = true

-- whether two comparisons are the same
abbrev pub same_comparison : Cmp → Cmp → Bool
same_comparison cmp.Eq cmp.Eq = true
same_comparison cmp.Ne cmp.Ne = true
same_comparison cmp.Lt cmp.Lt = true
same_comparison cmp.Le cmp.Le = true
same_comparison cmp.Gt cmp.Gt = true
same_comparison cmp.Ge cmp.Ge = true
same_comparison op other = false

-- whether two expressions are the same
abbrev pub same_expression : Expression → Expression → Bool
same_expression (syntax.Lit y) (syntax.Lit z) = int_eq y z
same_expression (syntax.Var x) (syntax.Var y) = x == y
same_expression (syntax.Read a i) (syntax.Read b j) = (a == b) && same_expression i j
same_expression (syntax.Neg d) (syntax.Neg e) = same_expression d e
same_expression (syntax.Plus c d) (syntax.Plus e f) = same_expression c e && same_expression d f
same_expression (syntax.Minus c d) (syntax.Minus e f) = same_expression c e && same_expression d f
same_expression (syntax.Times c d) (syntax.Times e f) = same_expression c e && same_expression d f
same_expression d e = false

-- whether two conditions are the same
abbrev pub same_condition : Condition → Condition → Bool
same_condition syntax.Yes syntax.Yes = true
same_condition syntax.No syntax.No = true
same_condition (syntax.Compare op c d) (syntax.Compare other e f) =
    same_comparison op other && (same_expression c e && same_expression d f)
same_condition (syntax.Not b) (syntax.Not c) = same_condition b c
same_condition (syntax.And b c) (syntax.And d e) = same_condition b d && same_condition c e
same_condition (syntax.Or b c) (syntax.Or d e) = same_condition b d && same_condition c e
same_condition b c = false

-- whether two pieces of code are the same
abbrev pub same_code : Code → Code → Bool
same_code syntax.End syntax.End = true
same_code (syntax.Skip k) (syntax.Skip l) = same_code k l
same_code (syntax.Assign x d k) (syntax.Assign y e l) =
    (x == y) && (same_expression d e && same_code k l)
same_code (syntax.Write a i d k) (syntax.Write b j e l) =
    (a == b) && (same_expression i j && (same_expression d e && same_code k l))
same_code (syntax.If b c d k) (syntax.If e f g l) =
    same_condition b e && (same_code c f && (same_code d g && same_code k l))
same_code (syntax.While b c k) (syntax.While d e l) =
    same_condition b d && (same_code c e && same_code k l)
same_code (syntax.Hole h k) (syntax.Hole i l) = (h == i) && same_code k l
same_code c d = false

abbrev mutual
  -- whether two terms are the same
  pub same_tree : Tree → Tree → Bool
  same_tree (Lit y) (Lit z) = int_eq y z
  same_tree (Start x) (Start y) = x == y
  same_tree (Havoc j c x) (Havoc k d y) = (j == k) && (is_copy c d && (x == y))
  same_tree (Slot c x) (Slot d y) = is_copy c d && (x == y)
  same_tree Cell Cell = true
  same_tree (Read a i) (Read b j) = same_tree a b && same_tree i j
  same_tree (Write a i d) (Write b j e) = same_tree a b && (same_tree i j && same_tree d e)
  same_tree (Neg t) (Neg u) = same_tree t u
  same_tree (Add r s) (Add t u) = same_tree r t && same_tree s u
  same_tree (Sub r s) (Sub t u) = same_tree r t && same_tree s u
  same_tree (Mul r s) (Mul t u) = same_tree r t && same_tree s u
  same_tree (Fun c x ts) (Fun d y us) =
      same_code c d && ((x == y) && same_arguments ts us)
  same_tree t u = false

  -- whether names with their terms are the same
  pub same_arguments : Arguments → Arguments → Bool
  same_arguments Over Over = true
  same_arguments (Given x t ts) (Given y u us) =
      (x == y) && (same_tree t u && same_arguments ts us)
  same_arguments ts us = false
