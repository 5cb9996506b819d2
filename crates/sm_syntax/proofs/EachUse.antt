-- What holds of each name of code holds of each name in its list, and the other way round.
use Rattle.sm_syntax.proofs.Imports.{ℕ, List, [], ◌∷◌, ◌++◌, AllByRecursion, Expression, Lit, Var, Read, Neg, Plus, Minus, Times, Condition, Yes, No, Compare, Not, And, Or, Code, End, Skip, Assign, Write, If, While, Hole, IsAsDeclared, names_in, names_tested, names_used, EachName, EachTested, EachUsed}
use Rattle.sm_syntax.specs.Laws.{WellSortedIsAll}
use Rattle.sm_syntax.specs.text.Sorts.{Sort}

module _ (P : ℕ → Sort → Type 0) where
  -- the fact holds of each name in a list
  abbrev pub Listed : List (ℕ × Sort) → Type 0
  Listed = AllByRecursion (λ (u : ℕ × Sort). P u.0 u.1)

  join : (us vs : List (ℕ × Sort)) → Listed us → Listed vs → Listed (us ++ vs)
  join [] vs first second = second
  join (u ∷ us) vs first second = (first.0, join us vs first.1 second)

  left : (us vs : List (ℕ × Sort)) → Listed (us ++ vs) → Listed us
  left [] vs all = tt
  left (u ∷ us) vs all = (all.0, left us vs all.1)

  right : (us vs : List (ℕ × Sort)) → Listed (us ++ vs) → Listed vs
  right [] vs all = all
  right (u ∷ us) vs all = right us vs all.1

  in_list : (e : Expression) → EachName P e → Listed (names_in e)
  in_list (Lit z) each = tt
  in_list (Var x) each = (each, tt)
  in_list (Read a i) each = (each.0, in_list i each.1)
  in_list (Neg e) each = in_list e each
  in_list (Plus d e) each = join (names_in d) (names_in e) (in_list d each.0) (in_list e each.1)
  in_list (Minus d e) each = join (names_in d) (names_in e) (in_list d each.0) (in_list e each.1)
  in_list (Times d e) each = join (names_in d) (names_in e) (in_list d each.0) (in_list e each.1)

  from_list : (e : Expression) → Listed (names_in e) → EachName P e
  from_list (Lit z) all = tt
  from_list (Var x) all = all.0
  from_list (Read a i) all = (all.0, from_list i all.1)
  from_list (Neg e) all = from_list e all
  from_list (Plus d e) all = (from_list d (left (names_in d) (names_in e) all), from_list e (right (names_in d) (names_in e) all))
  from_list (Minus d e) all = (from_list d (left (names_in d) (names_in e) all), from_list e (right (names_in d) (names_in e) all))
  from_list (Times d e) all = (from_list d (left (names_in d) (names_in e) all), from_list e (right (names_in d) (names_in e) all))

  tested_in_list : (b : Condition) → EachTested P b → Listed (names_tested b)
  tested_in_list Yes each = tt
  tested_in_list No each = tt
  tested_in_list (Compare op d e) each = join (names_in d) (names_in e) (in_list d each.0) (in_list e each.1)
  tested_in_list (Not b) each = tested_in_list b each
  tested_in_list (And b c) each = join (names_tested b) (names_tested c) (tested_in_list b each.0) (tested_in_list c each.1)
  tested_in_list (Or b c) each = join (names_tested b) (names_tested c) (tested_in_list b each.0) (tested_in_list c each.1)

  tested_from_list : (b : Condition) → Listed (names_tested b) → EachTested P b
  tested_from_list Yes all = tt
  tested_from_list No all = tt
  tested_from_list (Compare op d e) all = (from_list d (left (names_in d) (names_in e) all), from_list e (right (names_in d) (names_in e) all))
  tested_from_list (Not b) all = tested_from_list b all
  tested_from_list (And b c) all =
      (tested_from_list b (left (names_tested b) (names_tested c) all), tested_from_list c (right (names_tested b) (names_tested c) all))
  tested_from_list (Or b c) all =
      (tested_from_list b (left (names_tested b) (names_tested c) all), tested_from_list c (right (names_tested b) (names_tested c) all))

  used_in_list : (c : Code) → EachUsed P c → Listed (names_used c)
  used_in_list End each = tt
  used_in_list (Skip k) each = used_in_list k each
  used_in_list (Assign x e k) each = (each.0, join (names_in e) (names_used k) (in_list e each.1) (used_in_list k each.2))
  used_in_list (Write a i e k) each =
      (each.0, join (names_in i ++ names_in e) (names_used k) (join (names_in i) (names_in e) (in_list i each.1) (in_list e each.2)) (used_in_list k each.3))
  used_in_list (If b c d k) each =
      let first = join (names_tested b) (names_used c) (tested_in_list b each.0) (used_in_list c each.1) in
      let both = join (names_tested b ++ names_used c) (names_used d) first (used_in_list d each.2) in
      join (names_tested b ++ names_used c ++ names_used d) (names_used k) both (used_in_list k each.3)
  used_in_list (While b c k) each =
      let first = join (names_tested b) (names_used c) (tested_in_list b each.0) (used_in_list c each.1) in
      join (names_tested b ++ names_used c) (names_used k) first (used_in_list k each.2)
  used_in_list (Hole h k) each = used_in_list k each

  used_from_list : (c : Code) → Listed (names_used c) → EachUsed P c
  used_from_list End all = tt
  used_from_list (Skip k) all = used_from_list k all
  used_from_list (Assign x e k) all =
      (all.0, from_list e (left (names_in e) (names_used k) all.1), used_from_list k (right (names_in e) (names_used k) all.1))
  used_from_list (Write a i e k) all =
      let both = left (names_in i ++ names_in e) (names_used k) all.1 in (
        all.0,
        from_list i (left (names_in i) (names_in e) both),
        from_list e (right (names_in i) (names_in e) both),
        used_from_list k (right (names_in i ++ names_in e) (names_used k) all.1),
      )
  used_from_list (If b c d k) all =
      let three = left (names_tested b ++ names_used c ++ names_used d) (names_used k) all in
      let two = left (names_tested b ++ names_used c) (names_used d) three in (
        tested_from_list b (left (names_tested b) (names_used c) two),
        used_from_list c (right (names_tested b) (names_used c) two),
        used_from_list d (right (names_tested b ++ names_used c) (names_used d) three),
        used_from_list k (right (names_tested b ++ names_used c ++ names_used d) (names_used k) all),
      )
  used_from_list (While b c k) all =
      let two = left (names_tested b ++ names_used c) (names_used k) all in (
        tested_from_list b (left (names_tested b) (names_used c) two),
        used_from_list c (right (names_tested b) (names_used c) two),
        used_from_list k (right (names_tested b ++ names_used c) (names_used k) all),
      )
  used_from_list (Hole h k) all = used_from_list k all

pub well_sorted_is_all : WellSortedIsAll
well_sorted_is_all sorts c = (used_in_list (IsAsDeclared sorts) c, used_from_list (IsAsDeclared sorts) c)
