-- Where there is no solution, the splinters are tried.
use Rattle.sm_exact.proofs.Imports.{None, subst, Done, Awaits, told}
use Rattle.sm_exact.proofs.deciding.go_back_to.Goals as goal

pub returns-in-Dark : goal.returns-in-Dark
returns-in-Dark c = λ depth whole waits.
    c.in_ok-bound-in-Dark.ensures c.args.steps depth whole
    (subst (λ f. Awaits c.args.steps c.args.frames.now.items (told c.args.steps depth f (Done c.args.count None)) whole) c.in-Dark.is waits)

pub returns : goal.returns
returns c = λ depth whole waits.
    c.in_ok-splinter-in-Splinters.ensures depth whole
    (subst (λ f. Awaits c.args.steps c.args.frames.now.items (told c.args.steps depth f (Done c.args.count None)) whole) c.in-Splinters.is
    waits)
