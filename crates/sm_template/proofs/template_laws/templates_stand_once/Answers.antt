-- The laws, each by its lemma.
use Rattle.sm_template.proofs.template_laws.templates_stand_once.Goals as goal
use Rattle.sm_template.proofs.TemplatesOnce.{block_once, loop_once, depend_on_two}

pub returns : goal.returns
returns c = record { blocks = block_once; loops = loop_once; depend = depend_on_two }
