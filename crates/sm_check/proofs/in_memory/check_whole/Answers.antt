use Rattle.sm_check.proofs.in_memory.check_whole.Goals as goal

pub returns : goal.returns
returns c = λ s start. c.check_lines.ensures s (c.new-lines.ensures.stands s start)
