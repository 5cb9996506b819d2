-- Private: owners of nodes and templates of sites that are put behind others.
use Rattle.std.specs.Prelude.{◌≡◌, ℕ, ◌+◌, Option, List, [], ◌∷◌, ◌++◌, length, map}
use Rattle.sm_expand.specs.declared.plan.Simple.{Simple}
use Rattle.sm_sketch.specs.Choices.{Choice, all_chosen}
use Rattle.sm_sketch.specs.Sketches.{Sketch, sites_of}
use Rattle.sm_houdini.specs.declared.sites.Sites.{Sites}
use Rattle.sm_houdini.specs.Marks.{rows}
use Rattle.sm_houdini.specs.Owners.{owners}

-- the owners of the nodes of sketches that go on to one target
abbrev pub owners_from : Option ℕ → ℕ → List Sketch → List (Option ℕ)
owners_from target s [] = []
owners_from target s (p ∷ ps) =
    owners target s p ++ owners_from target (s + length (sites_of p)) ps

-- all templates of their sites
abbrev pub chosen_from : List Sketch → Choice
chosen_from [] = []
chosen_from (p ∷ ps) = all_chosen (sites_of p) ++ chosen_from ps

-- a target for each simple node
abbrev pub targets : Option ℕ → List Simple → List (Option ℕ)
targets target ss = map (λ (s : Simple). target) ss

-- those of a sketch are put behind others
pub record Puts (old new : Sites) (target : Option ℕ) (p : Sketch) : Type 0 where
  pub nodes : new.owners.items ≡ old.owners.items ++ owners target (length old.full.sites.items) p
  pub choice : rows new.full.sites.items ≡ rows old.full.sites.items ++ all_chosen (sites_of p)

-- the owners and templates of sketches are put behind others
pub record PutsAll (old new : Sites) (target : Option ℕ) (ps : List Sketch) : Type 0 where
  pub nodes :
      new.owners.items ≡ old.owners.items ++ owners_from target (length old.full.sites.items) ps
  pub choice : rows new.full.sites.items ≡ rows old.full.sites.items ++ chosen_from ps
