use Rattle.arachne_exec.proofs.laws.boards_come_by_steps.Goals as goal

pub returns : goal.returns
returns c = λ shards b h. h.came
