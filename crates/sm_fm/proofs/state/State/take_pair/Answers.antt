-- The pair is the first of those that were left.
use Rattle.sm_fm.proofs.Imports.{length, refl, ap, subst, All, All-head, All-tail, left_of, IsPairOf}
use Rattle.sm_fm.proofs.state.State.take_pair.Goals as goal

pub returns-clause-sound : goal.returns-clause-sound
returns-clause-sound c =
    let s = c.args.self.now in
    let P = IsPairOf s.forms.items (length s.atoms.list.items) s.atom in
    record {
      later = c.requires.sound.later;
      firsts = c.requires.sound.firsts;
      known = c.requires.sound.known;
      pairs = All-tail P c.take.result c.take.new.self (subst (All P) c.take.ensures c.requires.sound.pairs);
    }

pub returns-clause-takes : goal.returns-clause-takes
returns-clause-takes c =
    let s = c.args.self.now in
    let P = IsPairOf s.forms.items (length s.atoms.list.items) s.atom in
    record {
      atoms_are = refl;
      forms_are = refl;
      pair = All-head P c.take.result c.take.new.self (subst (All P) c.take.ensures c.requires.sound.pairs);
      happens = ap (left_of s.forms.items s.atom s.more) c.take.ensures;
    }
