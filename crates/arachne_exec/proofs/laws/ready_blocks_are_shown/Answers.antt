use Rattle.arachne_exec.proofs.laws.ready_blocks_are_shown.Goals as goal

pub returns : goal.returns
returns c = λ shards b h block inside some_ready. h.shows.shown block inside some_ready
