-- The test of terms, as linear forms ask for it.
use Rattle.sm_theory.proofs.Imports.{refl, IsSound, IsReflexive, same_tree, same_tree_is}

-- terms that pass as the same are equal
pub tree_sound : IsSound same_tree
tree_sound t u = (same_tree_is t u).0

-- a term passes as the same as itself
pub tree_reflexive : IsReflexive same_tree
tree_reflexive t = (same_tree_is t t).1 refl
