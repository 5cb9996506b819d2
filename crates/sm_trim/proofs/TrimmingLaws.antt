-- The laws of trimming.
use Rattle.sm_trim.proofs.Imports.{refl, length, trimmed, TrimmedCloses, TrimmedIsUsed, UsedStays, TrimmedTwice}
use Rattle.sm_trim.proofs.TrimmedCloses.{trimmed_closes}
use Rattle.sm_trim.proofs.TrimmedUsed.{trimmed_is_used}
use Rattle.sm_trim.proofs.UsedStays.{used_stays}

-- what is closed stays so
pub closes_trimmed : TrimmedCloses
closes_trimmed sorts facts c closes = trimmed_closes sorts facts (length facts) c refl closes

-- each line is used
pub used_trimmed : TrimmedIsUsed
used_trimmed at c = trimmed_is_used at c

-- what is used stays
pub used_is_trimmed : UsedStays
used_is_trimmed at c used = used_stays at c used

-- so twice is once
pub trimmed_twice : TrimmedTwice
trimmed_twice at c = used_stays at (trimmed at c) (trimmed_is_used at c)
