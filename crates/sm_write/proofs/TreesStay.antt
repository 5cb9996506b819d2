-- Certificates stay while a table widens.
use Rattle.sm_write.proofs.Imports.{◌≡◌, List, [], ◌∷◌, length, map, refl, TableValue, trees_in, ExtendsTable, certificate_in, lines_of, CertTree, AreTreesWithin}
use Rattle.sm_write.proofs.CertificatesStay.{certificate_stays, lines_wider}

module _ (v w : TableValue) (wider : ExtendsTable v w) where
  pub trees_stay : (cs : List CertTree) → AreTreesWithin (length (trees_in v)) cs →
      map (certificate_in (trees_in w)) cs ≡ map (certificate_in (trees_in v)) cs
  trees_stay [] h = refl
  trees_stay (c ∷ cs) h = λ i. certificate_stays v w wider c h.0 i ∷ trees_stay cs h.1 i

  pub trees_wider : (cs : List CertTree) → AreTreesWithin (length (trees_in v)) cs → AreTreesWithin (length (trees_in w)) cs
  trees_wider [] h = tt
  trees_wider (c ∷ cs) h = (lines_wider v w wider (lines_of c) h.0, trees_wider cs h.1)
