use Rattle.arachne_exec.proofs.laws.sleepers_are_told.Goals as goal

pub returns : goal.returns
returns c = λ shards b h worker low. h.sleep.ended worker low
