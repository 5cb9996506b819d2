-- What the first seeds draw.
use Rattle.sm_gen.proofs.Imports.{◌≡◌, ◌∷◌, [], refl, A, B, drawn, edits, edit_count}
use Rattle.sm_gen.specs.declared.drawing.Editor.TheVariants.{VariantA, VariantB}
use Rattle.sm_gen.specs.Drawing.{drawn_after}

drawn_first : drawn 1 1 ≡ 1103527590
unfolding drawn_after
drawn_first = refl

drawn_second : drawn 1 2 ≡ 377401575
unfolding drawn_after
drawn_second = refl

drawn_third : drawn 1 3 ≡ 662824084
unfolding drawn_after
drawn_third = refl

drawn_fourth : drawn 1 4 ≡ 1147902781
unfolding drawn_after
drawn_fourth = refl

drawn_fifth : drawn 1 5 ≡ 2035015474
unfolding drawn_after
drawn_fifth = refl

drawn_sixth : drawn 1 6 ≡ 368800899
unfolding drawn_after
drawn_sixth = refl

-- the first three holes: A adds 91 and 85, and B adds 75
first_edits : edits 1 3 ≡
    record { hole = 1; added = 91; editor = VariantA }
    ∷ record { hole = 2; added = 85; editor = VariantA }
    ∷ record { hole = 3; added = 75; editor = VariantB }
    ∷ []
unfolding drawn_after
first_edits = refl

first_counts : (edit_count A (edits 1 1) ≡ 1) × (edit_count B (edits 1 1) ≡ 0)
unfolding drawn_after
first_counts = (refl, refl)

third_counts : (edit_count A (edits 1 3) ≡ 2) × (edit_count B (edits 1 3) ≡ 1)
unfolding drawn_after
third_counts = (refl, refl)
