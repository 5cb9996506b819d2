-- The limits, as numbers.
use Rattle.sm_text.proofs.Sound.Loops.{chain_limit-is, group_limit-is, list_limit-is}

-- what the limits are
pub ruleset limits = (chain_limit-is, group_limit-is, list_limit-is)
