-- Classes that begin with others, where facts go behind.
use Rattle.sm_solve.proofs.Imports.{◌≡◌, List, [], refl, sym, subst, append-nil, Formula, TableValue, trees_in, TermId, IsLedBy, IsLonger, ClassesValue, classes_by}
use Rattle.sm_solve.proofs.NodeLemmas.{given_first}

-- nothing leads to all
pub led_nothing : (table : TableValue) (ids : List TermId) (fs : List Formula) →
    IsLedBy (record { table = table; terms = []; given = [] }) (classes_by table ids fs)
led_nothing table ids fs = record {
  table = record { sorts = refl; codes = refl; trees = ([], sym (append-nil (trees_in table))) };
  terms = (ids, refl);
  given = λ n g is. absurd cc;
}

-- classes lead to themselves
pub led_alone : (v : ClassesValue) → IsLedBy v v
led_alone v = record {
  table = record { sorts = refl; codes = refl; trees = ([], sym (append-nil (trees_in v.table))) };
  terms = ([], sym (append-nil v.terms));
  given = λ n g is. (n, is);
}

pub led_same : (v : ClassesValue) (table : TableValue) (ids : List TermId) (fs gs : List Formula) → gs ≡ fs →
    IsLedBy v (classes_by table ids fs) → IsLedBy v (classes_by table ids gs)
led_same v table ids fs gs same led = subst (λ (hs : List Formula). IsLedBy v (classes_by table ids hs)) (sym same) led

-- more facts lead to more classes
pub led_longer : (v : ClassesValue) (table : TableValue) (ids : List TermId) (fs gs : List Formula) → IsLonger fs gs →
    IsLedBy v (classes_by table ids fs) → IsLedBy v (classes_by table ids gs)
led_longer v table ids fs gs longer led =
    subst (λ (hs : List Formula). IsLedBy v (classes_by table ids hs)) (sym longer.1) (record {
      table = led.table;
      terms = led.terms;
      given = λ n g is. let one = led.given n g is in given_first 0 fs longer.0 one.0 g one.1;
    })
