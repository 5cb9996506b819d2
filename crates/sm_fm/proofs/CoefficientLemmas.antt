-- The coefficient of an atom among ascending parts.
use Rattle.sm_fm.proofs.Imports.{[], coefficient}
