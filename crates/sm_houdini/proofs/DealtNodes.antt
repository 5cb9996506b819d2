-- Each node comes at its place.
use Rattle.sm_houdini.proofs.Imports.{◌≡◌, ℕ, ◌<◌, arith, nat_tests, dealt, placed}

pub placed_inside : (count node : ℕ) → node < count → placed count node < count
placed_inside count node h = grind (arith, nat_tests)

pub dealt_placed : (count node : ℕ) → node < count → dealt count (placed count node) ≡ node
dealt_placed count node h = grind (arith, nat_tests)
