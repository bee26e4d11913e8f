use Rattle.cilvm_c.proofs.running.act_by_number.Goals as goal

pub returns : goal.returns
returns c = (c.act_by_code.result, c.number_of.ensures, c.act_by_code.ensures)
