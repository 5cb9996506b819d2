use Rattle.sm_explain.proofs.PlacesSound.{place_one}
use Rattle.sm_explain.proofs.laws.place_is_one.Goals as goal

pub returns : goal.returns
returns c = place_one
