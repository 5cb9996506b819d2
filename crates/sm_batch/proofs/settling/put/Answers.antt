use Rattle.std.proofs.Common.{inl, inr, refl}
use Rattle.sm_batch.proofs.LookupLemmas.{none_not_some}
use Rattle.sm_batch.proofs.settling.put.Goals as goal

pub returns-in-Some-clause-entries : goal.returns-in-Some-clause-entries
returns-in-Some-clause-entries c = elim c.put_entry.ensures.entries [
  | inl e ↦ inl (c.in-Some.kept, c.in-Some.is, e)
  | inr e ↦ inr (e.0, λ _. e.1)
]

pub returns-in-None-clause-entries : goal.returns-in-None-clause-entries
returns-in-None-clause-entries c = inr (refl, λ some. none_not_some _ c.in-None.is some)
