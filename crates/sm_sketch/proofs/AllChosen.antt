-- The choice of all templates, site by site.
use Rattle.sm_sketch.proofs.Imports.{◌≡◌, suc, List, [], ◌∷◌, length, refl, ap, Global, Rc, Sorts, Assertion, Formula, Tree, Formulas, forms_in}

module _ (sorts : Sorts) (trees : List Tree) where
  -- formulas stand for as many assertions
  pub forms_length : (fs : List Formula) → length (forms_in sorts trees fs) ≡ length fs
  forms_length [] = refl
  forms_length (f ∷ fs) = ap suc (forms_length fs)

  -- the templates of a site, over the trees of a table
  abbrev pub listed_at : Rc Formulas Global → List Assertion
  listed_at fs = forms_in sorts trees fs.value.list.items
