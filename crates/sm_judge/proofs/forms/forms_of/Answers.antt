use Rattle.sm_judge.proofs.forms.forms_of.Goals as goal

pub returns : goal.returns
returns g c = c.forms_by_labels.ensures (g.S.Sees.equal c.args.sees.now) (g.S.Sees.apart c.args.sees.now) c.requires.labels
