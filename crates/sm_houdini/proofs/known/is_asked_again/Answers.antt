use Rattle.sm_houdini.proofs.Imports.{List, sym, ap, ◌∙◌, trees_in, sorts_in, Formula, all_numbered}
use Rattle.std.proofs.Common.{slice_get}
use Rattle.sm_houdini.proofs.KnownLemmas.{asked_again}
use Rattle.sm_houdini.proofs.known.is_asked_again.Goals as goal

pub returns : goal.returns
returns c = λ v reach before is.
    record {
      each = asked_again (sorts_in v) (trees_in v) reach c.args.due.now c.args.before.now c.args.marks.now
          (sym (ap all_numbered c.deref.ensures.value) ∙ c.are_same.ensures c.if-not-are_same.false ∙ ap all_numbered c.deref-2.ensures.value)
          (λ closes all k g e.
          c.are_among.ensures closes
          (λ j h marked at.
          all j h marked (sym (ap (λ (fs : List Formula). slice_get (all_numbered fs) j) c.deref-4.ensures.value) ∙ at))
          is k g (ap (λ (fs : List Formula). slice_get (all_numbered fs) k) c.deref-3.ensures.value ∙ e))
          before;
    }
