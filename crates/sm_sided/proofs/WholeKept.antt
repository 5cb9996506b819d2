-- The whole plan keeps no formula, and its certificates name no term.
use Rattle.sm_sided.proofs.Imports.{◌≡◌, ℕ, zero, suc, Bool, true, false, if◌then◌else◌, List, ◌++◌, ap, sym, ◌∙◌, subst, AllByRecursion, append-nil, append_assoc, Code, Copy, O, A, B, M, Certificate, Node, nodes_of, is_over, own_statements, certificates_of, whole_certificates, NamesNoTerm, summary_before, whole_plan, KeepsNone}
use Rattle.sm_plan.specs.Nodes as node
use Rattle.sm_plan.specs.Plans.{Plan, At, Over, More}
use Rattle.sm_sided.specs.WholeCertificates.{Change, OfA, OfB, OfBoth}

-- a summary keeps none
summary_keeps : (program : Copy → Code) (c : Copy) (p : Plan) → AllByRecursion KeepsNone (nodes_of p) →
    AllByRecursion KeepsNone (nodes_of (summary_before program c p))
summary_keeps program c p none = of (is_over (program c))
  where
    of : (b : Bool) →
        AllByRecursion KeepsNone (nodes_of (if b then p else At (node.Abs c (own_statements (program c))) (More p Over)))
    of true = none
    of false = (tt, subst (AllByRecursion KeepsNone) (sym (append-nil (nodes_of p))) none)

-- the whole plan keeps no formula
pub whole_keeps : (program : Copy → Code) → AllByRecursion KeepsNone (nodes_of (whole_plan program))
whole_keeps program =
    summary_keeps program O (summary_before program A (summary_before program B (summary_before program M (At node.Ends Over))))
    (summary_keeps program A (summary_before program B (summary_before program M (At node.Ends Over)))
    (summary_keeps program B (summary_before program M (At node.Ends Over))
    (summary_keeps program M (At node.Ends Over) (tt, tt))))

-- three certificates that name no term, before others
names_none : (change : Change) (n : ℕ) (cs : List Certificate) → AllByRecursion NamesNoTerm cs →
    AllByRecursion NamesNoTerm (certificates_of change n ++ cs)
names_none OfA n cs none = ((tt, tt), ((tt, tt), ((tt, (tt, tt)), none)))
names_none OfB n cs none = ((tt, tt), ((tt, tt), ((tt, (tt, (tt, tt))), none)))
names_none OfBoth n cs none = ((tt, tt), ((tt, tt), ((tt, (tt, (tt, tt))), none)))

-- those of all outputs
pub whole_names_none : (change : Change) (n outputs : ℕ) → AllByRecursion NamesNoTerm (whole_certificates change n outputs)
whole_names_none change n zero = tt
whole_names_none change n (suc outputs) =
    names_none change n (whole_certificates change n outputs) (whole_names_none change n outputs)

-- those of one output more
pub one_output_more : (change : Change) (n outputs : ℕ) →
    whole_certificates change n outputs ++ certificates_of change n ≡ whole_certificates change n (suc outputs)
one_output_more change n zero = sym (append-nil (certificates_of change n))
one_output_more change n (suc outputs) =
    append_assoc (certificates_of change n) (whole_certificates change n outputs) (certificates_of change n)
    ∙ ap (λ (cs : List Certificate). certificates_of change n ++ cs) (one_output_more change n outputs)
